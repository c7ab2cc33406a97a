-- What is promised of the recovery of an image.
use Rattle.std.specs.Prelude.{ℕ, ◌≡◌, ◌⊎◌, IsTrue, true, false, List, length, Result, Ok, Err, IfOk, IfErr}
use Rattle.audit.specs.Reports.{HasNoFault}
use Rattle.blk_base.specs.declared.geometry.Super.{Super as Superblock}
use Rattle.blk_base.specs.declared.journal_entry.CommittedEntry.{CommittedEntry}
use Rattle.disk_model.specs.Log.{Blocks}
use Rattle.disk_model.specs.Seen.{Later, Seen, Stays}
use Rattle.disk_model.specs.Trust.{Trust}
use Rattle.disk_model.specs.Since.{IsUntouched}
use Rattle.image_format.specs.Formats.{LastFailed}
use Rattle.image_layout.specs.Opened.{super_of_image}
use Rattle.image_model.specs.Faults.{IsImageFault}
use Rattle.image_model.specs.Looked.{HasOneImageButIndex}
use Rattle.image_model.specs.Sound.{IsSound, Opens, image_of}
use Rattle.image_model.specs.declared.fault.ImageFault.{ImageFault}
use Rattle.image_model.specs.declared.fault.ImageFault.TheVariants.{Super, Window, Page, Counter, SharedPage, Counts, Device, Unclean, Memory}
use Rattle.image_opening.specs.Heads.{HeadFails, IsHeadRead}
use Rattle.recovery_laws.specs.Kept.{IsRecovered, image_in}
use Rattle.recovery_laws.specs.Recoverable.{IsClosedStill, IsRecoverable, recoverable_image}
use Rattle.rebuild.specs.Acts.{Grows}
use Rattle.rebuild.specs.Outcomes.{HasEntries, IsKeptSince, IsStillSince, UncleanFails, WritesNothing}
use Rattle.rebuild.specs.declared.forms.Recovered.{Recovered}
use Rattle.rebuild.specs.declared.forms.Recovered.TheVariants.{Clean, Entries}

-- Of any device.

-- what it answers: block 0 was read, and its superblock says that the last session was closed, and then nothing was
-- written; or that it wasn't, and then the journal was read, whose window has so many entries
abbrev pub Answers : Trust → Seen → Seen → Recovered → Type 0
Answers trust before now Clean = (head : Superblock) × IsHeadRead trust before now head × (head.clean ≡ true) × IsUntouched trust.tells before now
Answers trust before now (Entries count) =
    (head : Superblock) × (middle : Seen) × IsHeadRead trust before middle head × (head.clean ≡ false) × HasEntries trust head middle now count

-- why there is none: block 0 is no superblock, or wasn't read; or the last session wasn't closed, and then as above
abbrev pub RecoverFails : Trust → Seen → Seen → ImageFault → Type 0
RecoverFails trust before now why =
    HeadFails trust before now why
    ⊎ ((head : Superblock) × (middle : Seen) × IsHeadRead trust before middle head × (head.clean ≡ false) × UncleanFails trust head middle now why)

-- Of an honest device on which nothing is pending but in the index: by its one image.

-- what it answers: of an image that wasn't closed it has none of the faults
abbrev pub IsAnswer : Blocks → Recovered → Type 0
IsAnswer blocks Clean = (head : Superblock) × (super_of_image blocks ≡ Ok head) × (head.clean ≡ true)
IsAnswer blocks (Entries count) =
    (head : Superblock) × (last : ℕ) × (window : List CommittedEntry) × Opens blocks head last window × (head.clean ≡ false) × (count ≡ length window)
    × HasNoFault (image_of head blocks window)

-- the image has this superblock, which says that the last session wasn't closed
abbrev pub IsUnclean : Blocks → Type 0
IsUnclean blocks = (head : Superblock) × (super_of_image blocks ≡ Ok head) × (head.clean ≡ false)

-- why there is none: the image has this fault, the first of its faults; the last call failed, or want of memory
abbrev pub IsRefusal : Blocks → Seen → Seen → ImageFault → Type 0
IsRefusal blocks before now (Super fault) = IsImageFault blocks (Super fault)
IsRefusal blocks before now (Window sequence) = IsUnclean blocks × IsImageFault blocks (Window sequence)
IsRefusal blocks before now (Page at fault) = IsUnclean blocks × IsImageFault blocks (Page at fault)
IsRefusal blocks before now (Counter at point) = IsUnclean blocks × IsImageFault blocks (Counter at point)
IsRefusal blocks before now (SharedPage at) = IsUnclean blocks × IsImageFault blocks (SharedPage at)
IsRefusal blocks before now Device = LastFailed true before now
IsRefusal blocks before now Memory = IsUnclean blocks
IsRefusal blocks before now (Counts at stored mapped) = ⊥
IsRefusal blocks before now Unclean = ⊥

-- what an honest device is answered: what its image says, or its first fault
abbrev pub IsResult : Blocks → Seen → Seen → Result Recovered ImageFault → Type 0
IsResult blocks before now (Ok recovered) = IsAnswer blocks recovered
IsResult blocks before now (Err why) = IsRefusal blocks before now why

-- Each way it ends: where the image is sound, whatever a stop leaves at each moment since is sound and says the same.
abbrev pub AreStopsSound : Blocks → Seen → Seen → Type 0
AreStopsSound blocks before now = (sound : IsSound blocks) → IsKeptSince blocks sound before now

-- After recovery nothing is pending but in the index, and the image is sound and closed, and says the same.
abbrev pub LeavesClosed : Blocks → Seen → Recovered → Type 0
LeavesClosed blocks now Clean = Unit {0}
LeavesClosed blocks now (Entries count) =
    (sound : IsSound blocks) → (image : Blocks) × HasOneImageButIndex now.opening now.log image × IsRecovered (image_in blocks sound) sound.last image

-- Each way it ends: where the image can be recovered, sound or not, whatever a stop leaves at each moment since can be too,
-- and says the same.
abbrev pub AreStopsRecoverable : Blocks → Seen → Seen → Type 0
AreStopsRecoverable blocks before now = (is : IsRecoverable blocks) → IsStillSince blocks is before now

-- After recovery nothing is pending but in the index, and the image is closed, and says the same: so a wrong count is as wrong
-- as it was.
abbrev pub LeavesTheSame : Blocks → Seen → Recovered → Type 0
LeavesTheSame blocks now Clean = Unit {0}
LeavesTheSame blocks now (Entries count) =
    (is : IsRecoverable blocks) → (image : Blocks) × HasOneImageButIndex now.opening now.log image × IsClosedStill (recoverable_image blocks is) is.last image

-- the one image, the index aside, of a device that tells and is honest
pub record IsTold (trust : Trust) (seen : Seen) (blocks : Blocks) : Type 0 where
  pub told : IsTrue trust.tells
  pub fair : IsTrue trust.honest
  pub one : HasOneImageButIndex seen.opening seen.log blocks

-- what a recovery promises of any device, and of an honest one
pub record IsRecovery (trust : Trust) (before now : Seen) (result : Result Recovered ImageFault) : Type 0 where
  -- of any device
  pub stays : Stays before now
  pub later : Later before now
  pub grows : Grows trust.tells before now
  pub answers : IfOk result (Answers trust before now)
  pub fails : IfErr result (RecoverFails trust before now)
  pub nothing : IfErr result (WritesNothing trust.tells before now)
  -- of an honest one, by its one image
  pub says : (blocks : Blocks) → IsTold trust before blocks → IsResult blocks before now result
  pub stops : (blocks : Blocks) → IsTold trust before blocks → AreStopsSound blocks before now
  pub closed : IfOk result (λ recovered. (blocks : Blocks) → IsTold trust before blocks → LeavesClosed blocks now recovered)
  pub stands : (blocks : Blocks) → IsTold trust before blocks → AreStopsRecoverable blocks before now
  pub left : IfOk result (λ recovered. (blocks : Blocks) → IsTold trust before blocks → LeavesTheSame blocks now recovered)
