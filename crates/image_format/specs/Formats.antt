-- What is promised of making an empty image on a device.
use Rattle.std.specs.Prelude.{ℕ, ◌≡◌, ◌⊎◌, ◌≤◌, ◌<◌, Bool, IsTrue, false, List, ◌++◌, length, Ok, Err}
use Rattle.blk_base.specs.Regions.{IsDataBlock, needed_blocks}
use Rattle.blk_base.specs.Sectors.{sector}
use Rattle.blk_base.specs.declared.geometry.Geometry.{Geometry}
use Rattle.disk_model.specs.declared.call.Call.{Call}
use Rattle.disk_model.specs.declared.call.Call.TheVariants.{Read, Write, Flush}
use Rattle.disk_model.specs.Causes.{Rose}
use Rattle.disk_model.specs.Images.{IsImage, HasOneImage}
use Rattle.disk_model.specs.Log.{Blocks, block_at}
use Rattle.disk_model.specs.Seen.{Seen}
use Rattle.disk_model.specs.Since.{SinceThen}
use Rattle.disk_model.specs.LogSteps.{FailedInLog}
use Rattle.image_layout.specs.Opened.{super_of_image}
use Rattle.image_layout.specs.PossibleSizes.{plan_of}
use Rattle.image_layout.specs.declared.fault.SuperFault.TheVariants.{NotAnImage}
use Rattle.image_model.specs.Empty.{IsEmpty, IsUnused}
use Rattle.image_format.specs.declared.fault.FormatFault.{FormatFault}
use Rattle.image_format.specs.declared.fault.FormatFault.TheVariants.{Layout, Device}

-- After a stop.

-- the blocks that were there before, but for what stands behind the superblock's fields, sectors 1 to 7 of block 0
pub record IsOld (old image : Blocks) : Type 0 where
  pub size : length image ≡ length old
  pub head : sector 0 (block_at image 0) ≡ sector 0 (block_at old 0)
  pub others : (b : ℕ) → 1 ≤ b → b < length old → block_at image b ≡ block_at old b

-- the blocks that no part of the image but its data has are what they were
abbrev pub IsDataKept : Geometry → Blocks → Blocks → Type 0
IsDataKept g old image = (b : ℕ) → b < length old → IsDataBlock g b ⊎ (needed_blocks g ≤ b) → block_at image b ≡ block_at old b

-- an image that a stop may leave: as it was before, or no image at all, or a sound one to which nothing was written
pub record MayStand (g : Geometry) (old image : Blocks) : Type 0 where
  pub data_kept : IsDataKept g old image
  pub stands : IsOld old image ⊎ (super_of_image image ≡ Err NotAnImage) ⊎ IsUnused image

-- at each moment since, and whatever a stop right then leaves
abbrev pub AreStopsRight : Geometry → Blocks → Blocks → List Call → List Call → Type 0
AreStopsRight g old opening first calls =
    (newer older : List Call) (image : Blocks) → calls ≡ newer ++ older → IsImage opening (older ++ first) image → MayStand g old image

-- of a device on which nothing was pending
abbrev pub StopsAreRight : Geometry → Seen → Seen → Type 0
StopsAreRight g before now =
    SinceThen (λ calls. (old : Blocks) → HasOneImage before.opening before.log old → AreStopsRight g old before.opening before.log calls) before.log now.log

-- Afterwards.

-- the device has one image, which is empty and sound, with the data blocks that were there
pub record IsMade (g : Geometry) (old : Blocks) (now : Seen) : Type 0 where
  pub image : Blocks
  pub stands : HasOneImage now.opening now.log image
  pub empty : IsEmpty g image
  pub unused : IsUnused image
  pub data_kept : IsDataKept g old image

-- nothing is pending after it, where nothing was before
abbrev pub LeavesEmpty : Geometry → Seen → Seen → Type 0
LeavesEmpty g before now = (old : Blocks) → HasOneImage before.opening before.log old → IsMade g old now

-- Why there is none.

-- a call that failed
abbrev pub IsFailed : Call → Type 0
IsFailed (Read _ _ ok) = ok ≡ false
IsFailed (Write _ _ ok) = ok ≡ false
IsFailed (Flush ok) = ok ≡ false

-- the last call of a device since failed: it stands in the log, or found no memory for it
pub record LastFailed (tells : Bool) (before now : Seen) : Type 0 where
  pub rose : Rose before.faults now.faults
  pub logged : IsTrue tells → (call : Call) × (done : List Call) × IsFailed call
      × FailedInLog (done ++ before.log) now.log call (Rose before.unkept now.unkept)

-- the sizes can't be had, and no call was made; or a call failed
abbrev pub FormatFails : Bool → Geometry → Seen → Seen → FormatFault → Type 0
FormatFails tells g before now (Layout fault) = (plan_of g before.size ≡ Err fault) × (now ≡ before)
FormatFails tells g before now Device = (plan_of g before.size ≡ Ok tt) × LastFailed tells before now
