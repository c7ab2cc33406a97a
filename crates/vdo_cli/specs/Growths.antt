-- How the growing of an image ends.
use Rattle.command_text.specs.Formats.{grown_text}
use Rattle.grow_image.specs.Growth.{IsGrowing}
use Rattle.grow_image.specs.declared.fault.GrowFault.{GrowFault}
use Rattle.grow_image.specs.declared.fault.GrowFault.TheVariants.{Image, Smaller, Layout, Mapped}
use Rattle.grow_image.specs.declared.forms.Grown.{Grown}
use Rattle.vdo_words.specs.declared.commands.GrowOptions.{GrowOptions}
use Rattle.vdo_cli.specs.declared.fault.Fault.{Fault}
use Rattle.vdo_cli.specs.declared.fault.Fault.TheVariants as fault
use Rattle.vdo_cli.specs.Inspections.{told_as}
use Rattle.vdo_cli.specs.Outsides.{Outcome, Outside, Setting, Tells}
use Rattle.vdo_cli.specs.Results.{EndsBy, TellsResult}

-- why an image didn't grow, as the fault of a run: faults of the image and of the layout are told as elsewhere
abbrev pub grow_told_as : GrowFault → Fault
grow_told_as (Image why) = told_as why
grow_told_as (Layout why) = fault.Layout why
grow_told_as (Smaller field) = fault.Grow (Smaller field)
grow_told_as (Mapped at) = fault.Grow (Mapped at)

-- the image has grown, and the line was put, or a part of it and the sink failed; or it hasn't, for a cause, and the fault's line
-- was put
abbrev pub EndsGrowth : Setting → GrowOptions → Outside → Outside → Outcome → Type 0
EndsGrowth s options before after outcome =
    EndsBy (IsGrowing s.device options.logical options.slabs)
    (TellsResult s.sink_tells (λ (found : Grown). Tells s.sink_tells (grown_text found)) grow_told_as) before after outcome
