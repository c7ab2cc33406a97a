-- Worked devices, sources, sinks and faults of the rows beside this file.
use Rattle.std.proofs.Common.{ℕ, List, [], ◌∷◌, length, Option, Some, None}
use Rattle.disk_model.specs.declared.call.Call.{Call}
use Rattle.disk_model.specs.Log.{Blocks}
use Rattle.disk_model.specs.Seen.{Seen}
use Rattle.disk_model.specs.Streams.{SourceSeen}
use Rattle.disk_model.proofs.StreamExample.{sink}
use Rattle.image_layout.specs.declared.fault.SuperFault.TheVariants.{NotAnImage}
use Rattle.image_model.specs.declared.fault.ImageFault.TheVariants as image
use Rattle.vdo_cli.specs.declared.fault.Fault.{Fault}
use Rattle.vdo_cli.specs.declared.fault.Fault.TheVariants as fault
use Rattle.vdo_cli.specs.Outsides.{Outside, outside}
use Rattle.vdo_cli.specs.Texts.{fault_status}

-- a device with these opening blocks, after these calls, with these counts
abbrev pub device : Blocks → List Call → ℕ → ℕ → Seen
device opening log faults unkept = record { opening = opening; size = length opening; log = log; faults = faults; unkept = unkept }

-- a source with these bytes left, and a sink with these bytes, that failed so often
abbrev pub source : List ℕ → ℕ → SourceSeen
source left faults = record { left = left; faults = faults }

-- a device without blocks, a source with one byte left, and a sink that holds these bytes
abbrev pub bare : List Call → List ℕ → List ℕ → ℕ → Outside
bare log left held faults = outside (device [] log 0 0) (source left 0) (sink held faults)

abbrev pub begins : Outside
begins = bare [] (7 ∷ []) [] 0

abbrev pub no_image : Fault
no_image = fault.Image (image.Super NotAnImage)

-- a fault has its own status
abbrev pub status_in : Option Fault → ℕ
status_in (Some why) = fault_status why
status_in None = 0

-- the first byte of a line
abbrev pub first_of : List ℕ → ℕ
first_of [] = 0
first_of (byte ∷ bytes) = byte
