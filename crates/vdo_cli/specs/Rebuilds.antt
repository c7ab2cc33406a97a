-- How a forced rebuild of an image ends.
use Rattle.command_text.specs.Rebuilt.{rebuilt_text}
use Rattle.force_rebuild.specs.ForcedRebuild.{IsForcing}
use Rattle.force_rebuild.specs.declared.forms.Forced.{Forced}
use Rattle.vdo_cli.specs.Inspections.{told_as}
use Rattle.vdo_cli.specs.Outsides.{Outcome, Outside, Setting, Tells}
use Rattle.vdo_cli.specs.Results.{EndsBy, TellsResult}

-- the image was rebuilt, and the line was put, or a part of it and the sink failed; or the image was refused, or the last call
-- failed, and the fault's line was put
abbrev pub EndsRebuild : Setting → Outside → Outside → Outcome → Type 0
EndsRebuild s before after outcome =
    EndsBy (IsForcing s.device) (TellsResult s.sink_tells (λ (found : Forced). Tells s.sink_tells (rebuilt_text found)) told_as) before after outcome
