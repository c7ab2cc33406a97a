-- What a recovery finds where one was made before.
use Rattle.std.specs.Prelude.{◌≡◌, Bool, Result, Ok, Err}
use Rattle.disk_model.specs.Log.{Blocks}
use Rattle.disk_model.specs.Seen.{Seen}
use Rattle.disk_model.specs.Trust.{Trust}
use Rattle.disk_model.specs.Since.{IsUntouched}
use Rattle.image_format.specs.Formats.{LastFailed}
use Rattle.image_model.specs.Sound.{IsSound}
use Rattle.image_model.specs.declared.fault.ImageFault.{ImageFault}
use Rattle.image_model.specs.declared.fault.ImageFault.TheVariants.{Device}
use Rattle.rebuild.specs.Openings.{IsCleanImage}
use Rattle.rebuild.specs.Recoveries.{IsTold}
use Rattle.rebuild.specs.declared.forms.Recovered.{Recovered}
use Rattle.rebuild.specs.declared.forms.Recovered.TheVariants.{Clean}

-- nothing is pending on the device, and its one image is sound and closed
abbrev pub HasClosedImage : Trust → Seen → Type 0
HasClosedImage trust now = (image : Blocks) × IsTold trust now image × IsSound image × IsCleanImage image

-- what is answered: that the image is closed, and nothing was written; or the last call failed
abbrev pub FindsClosed : Bool → Seen → Seen → Result Recovered ImageFault → Type 0
FindsClosed tells before now (Ok recovered) = (recovered ≡ Clean) × IsUntouched tells before now
FindsClosed tells before now (Err why) = (why ≡ Device) × LastFailed tells before now
