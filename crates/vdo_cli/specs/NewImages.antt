-- How the making of an image ends.
use Rattle.std.specs.Prelude.{◌≡◌, Bool, IsTrue, Option, Some, None, Ok}
use Rattle.blk_base.specs.declared.geometry.Geometry.{Geometry}
use Rattle.disk_model.specs.Seen.{Seen, Stays}
use Rattle.image_format.specs.Formats.{FormatFails, LeavesEmpty, StopsAreRight}
use Rattle.image_format.specs.declared.fault.FormatFault.TheVariants as format
use Rattle.image_layout.specs.PossibleSizes.{plan_of}
use Rattle.command_text.specs.Formats.{formatted_text}
use Rattle.vdo_cli.specs.declared.fault.Fault.{Fault}
use Rattle.vdo_cli.specs.declared.fault.Fault.TheVariants as fault
use Rattle.vdo_cli.specs.Outsides.{Outcome, Outside, Refuses, Setting, Tells, no_report}

-- an image of these sizes was made, and its line was put
pub record IsMade (s : Setting) (g : Geometry) (before after : Outside) (outcome : Outcome) : Type 0 where
  pub planned : plan_of g before.device.size ≡ Ok tt
  pub image : IsTrue s.device.tells → LeavesEmpty g before.device after.device
  pub report_is : outcome.report ≡ no_report
  pub line : Tells s.sink_tells (formatted_text g) outcome.status outcome.fault before.sink after.sink

-- why none was made: the sizes can't be had, and then no call was made; or a call failed
abbrev pub MakingFails : Bool → Geometry → Seen → Seen → Fault → Type 0
MakingFails tells g before after (fault.Layout why) = FormatFails tells g before after (format.Layout why)
MakingFails tells g before after fault.Device = FormatFails tells g before after format.Device
MakingFails tells g before after other = ⊥

-- no image was made, or not to its end, and the fault's line was put
pub record IsNotMade (s : Setting) (g : Geometry) (before after : Outside) (outcome : Outcome) (why : Fault) : Type 0 where
  pub cause : MakingFails s.device.tells g before.device after.device why
  pub refuses : Refuses s.sink_tells why outcome.status outcome.report before.sink after.sink

-- one of the two, by the fault
abbrev pub IsMadeOrNot : Option Fault → Setting → Geometry → Outside → Outside → Outcome → Type 0
IsMadeOrNot None s g before after outcome = IsMade s g before after outcome
IsMadeOrNot (Some fault.Sink) s g before after outcome = IsMade s g before after outcome
IsMadeOrNot (Some why) s g before after outcome = IsNotMade s g before after outcome why

-- Either way, a stop at any moment leaves what the old image said, or no image, or an empty one; and the script isn't looked
-- at.
pub record MakesImage (s : Setting) (g : Geometry) (before after : Outside) (outcome : Outcome) : Type 0 where
  pub ends : IsMadeOrNot outcome.fault s g before after outcome
  pub stays : Stays before.device after.device
  pub stops : IsTrue s.device.tells → StopsAreRight g before.device after.device
  pub source : after.source ≡ before.source
