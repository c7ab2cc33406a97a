-- What is promised of a forced rebuild.
use Rattle.std.specs.Prelude.{ℕ, ◌≡◌, ◌⊎◌, ◌+◌, ◌≤◌, ◌<◌, ◌^◌, false, true, List, Result, Ok, Err, IfOk, IfErr}
use Rattle.blk_base.specs.declared.geometry.Geometry.{Geometry}
use Rattle.blk_base.specs.declared.geometry.Super.{Super as Superblock}
use Rattle.blk_base.specs.declared.journal_entry.CommittedEntry.{CommittedEntry}
use Rattle.disk_model.specs.Log.{Blocks}
use Rattle.disk_model.specs.Seen.{Later, Seen, Stays}
use Rattle.disk_model.specs.Trust.{Trust}
use Rattle.disk_model.specs.Since.{IsUntouched}
use Rattle.image_format.specs.Formats.{LastFailed}
use Rattle.image_layout.specs.Opened.{super_of_image}
use Rattle.image_layout.specs.Values.{journal_of}
use Rattle.image_layout.specs.declared.fault.Field.TheVariants.{Start}
use Rattle.image_layout.specs.declared.fault.SuperFault.TheVariants.{BadField}
use Rattle.image_model.specs.Faults.{IsPageFault, IsShareFault}
use Rattle.image_model.specs.Looked.{HasOneImageButIndex}
use Rattle.image_model.specs.Maps.{Image, ArePagesGood}
use Rattle.image_model.specs.Sound.{IsSound, image_of}
use Rattle.image_model.specs.Windows.{IsFaulty, IsLast, IsWindow}
use Rattle.image_model.specs.declared.fault.ImageFault.{ImageFault}
use Rattle.image_model.specs.declared.fault.ImageFault.TheVariants.{Super, Window, Page, Counter, SharedPage, Counts, Device, Unclean, Memory}
use Rattle.image_opening.specs.Heads.{HeadFails, IsHeadRead}
use Rattle.journal_window.specs.Reads.{IsWindowRead, Fails}
use Rattle.journal_window.specs.States.{WindowState}
use Rattle.rebuild.specs.Acts.{Grows}
use Rattle.rebuild.specs.Openings.{IsCleanImage}
use Rattle.rebuild.specs.Outcomes.{WritesNothing}
use Rattle.rebuild.specs.Recoveries.{IsTold}
use Rattle.replay_map.specs.Replayed.{IsFound, MapFails}
use Rattle.force_rebuild.specs.Starts.{IsStart, image_at}
use Rattle.force_rebuild.specs.Counted.{IsCountedTo, IsUncountable}
use Rattle.force_rebuild.specs.Kept.{IsRebuilt}
use Rattle.force_rebuild.specs.Outcomes.{Ends, IsKeptSince}
use Rattle.force_rebuild.specs.Rebuildable.{IsRebuildable, rebuildable_image}
use Rattle.force_rebuild.specs.declared.forms.Forced.{Forced}

-- Of any device.

-- the superblock of an image whose last session wasn't closed: as such each is looked at, so that its sequences are too
abbrev pub unclosed : Superblock → Superblock
unclosed head = record { geometry = head.geometry; clean = false; start = head.start }

-- The journal was read, and then the pages, and each image with this window that has what was read is counted to this. This
-- is that moment, or a later one of the same device.
pub record HasCounted (trust : Trust) (head : Superblock) (before now : Seen) (forced : Forced) : Type 0 where
  pub middle : Seen
  pub behind : Seen
  pub window : WindowState
  pub read : IsWindowRead trust before middle head window
  pub counted : IsFound trust head.geometry window.entries middle behind (λ image. IsCountedTo image forced)
  pub stays : Stays behind now
  pub later : Later behind now
  pub grows : Grows trust.tells behind now

-- why there are no counts behind a window: the first page that can't be read; or else the least block that has both a page
-- and the data of an address; or else the least one that is mapped too often; a read that failed, or want of memory
abbrev pub CountingFails : Trust → Geometry → List CommittedEntry → Seen → Seen → ImageFault → Type 0
CountingFails trust g window before now (Counts at stored mapped) = IsFound trust g window before now (λ image. IsUncountable image at stored mapped)
CountingFails trust g window before now other = MapFails trust g window before now other

-- Why an image isn't rebuilt whose superblock was read: its journal has no window; or it was read, and then as above; or the
-- last call failed.
abbrev pub UnclosedFails : Trust → Superblock → Seen → Seen → ImageFault → Type 0
UnclosedFails trust head before now why =
    Fails trust before now head why
    ⊎ ((middle : Seen) × (window : WindowState) × IsWindowRead trust before middle head window × CountingFails trust head.geometry window.entries middle now why)
    ⊎ ((why ≡ Device) × LastFailed trust.tells before now)

-- what it answers, and why there is none: block 0 was read, and its image is looked at as one that wasn't closed
abbrev pub Answers : Trust → Seen → Seen → Forced → Type 0
Answers trust before now forced =
    (head : Superblock) × (middle : Seen) × IsHeadRead trust before middle head × HasCounted trust (unclosed head) middle now forced

abbrev pub ForceFails : Trust → Seen → Seen → ImageFault → Type 0
ForceFails trust before now why =
    HeadFails trust before now why
    ⊎ ((head : Superblock) × (middle : Seen) × IsHeadRead trust before middle head × UnclosedFails trust (unclosed head) middle now why)

-- Of an honest device on which nothing is pending but in the index: by its one image.

-- the image has a superblock and a window, with this last sequence, behind which there are more
pub record HasWindow (blocks : Blocks) (image : Image) : Type 0 where
  pub head : Superblock
  pub last : ℕ
  pub accepted : super_of_image blocks ≡ Ok head
  pub sequences : last + 2 < 2 ^ 54
  pub is_window : IsWindow head.geometry head.start (journal_of head.geometry blocks) last image.window
  pub is_image : image ≡ image_of head blocks image.window

-- the journal is at its end, whether the last session was closed or not: the rebuilt image would need a sequence past it
pub record IsUsedUp (blocks : Blocks) : Type 0 where
  pub head : Superblock
  pub accepted : super_of_image blocks ≡ Ok head
  pub last : ℕ
  pub is_last : IsLast head.geometry head.start (journal_of head.geometry blocks) last
  pub past : 2 ^ 54 ≤ last + 2

-- a block of its window can't be replayed; the first one
pub record IsWindowFault (blocks : Blocks) (sequence : ℕ) : Type 0 where
  pub head : Superblock
  pub accepted : super_of_image blocks ≡ Ok head
  pub sequences : IsUsedUp blocks → ⊥
  pub faulty : IsFaulty head.geometry head.start (journal_of head.geometry blocks) sequence

-- Why it isn't rebuilt: the first of these, in this order, each over the whole image before the next; the last call failed, or
-- want of memory.
abbrev pub IsRefusal : Blocks → Seen → Seen → ImageFault → Type 0
IsRefusal blocks before now (Super fault) = (super_of_image blocks ≡ Err fault) ⊎ ((fault ≡ BadField Start) × IsUsedUp blocks)
IsRefusal blocks before now (Window sequence) = IsWindowFault blocks sequence
IsRefusal blocks before now (Page at fault) = (image : Image) × HasWindow blocks image × IsPageFault image at fault
IsRefusal blocks before now (SharedPage at) = (image : Image) × HasWindow blocks image × ArePagesGood image × IsShareFault image at
IsRefusal blocks before now (Counts at stored mapped) = (image : Image) × HasWindow blocks image × IsUncountable image at stored mapped
IsRefusal blocks before now Device = LastFailed true before now
IsRefusal blocks before now Memory = Unit {0}
IsRefusal blocks before now (Counter at point) = ⊥
IsRefusal blocks before now Unclean = ⊥

-- what an honest device is answered: how many of its data blocks are mapped, or why its image isn't rebuilt
abbrev pub IsResult : Blocks → Seen → Seen → Result Forced ImageFault → Type 0
IsResult blocks before now (Ok forced) = (image : Image) × HasWindow blocks image × IsCountedTo image forced
IsResult blocks before now (Err why) = IsRefusal blocks before now why

-- an image to rebuild: it can be, and once more behind that
pub record IsToRebuild (blocks : Blocks) : Type 0 where
  pub is : IsRebuildable blocks
  pub more : is.last + 3 < 2 ^ 54

-- Each way it ends: whatever a stop leaves at each moment since can be rebuilt, and maps the same.
abbrev pub AreStopsRebuildable : Blocks → Seen → Seen → Type 0
AreStopsRebuildable blocks before now = (to : IsToRebuild blocks) → IsKeptSince (rebuildable_image blocks to.is) before now

-- Afterwards nothing is pending but in the index, and the image is rebuilt.
abbrev pub LeavesRebuilt : Blocks → Seen → Type 0
LeavesRebuilt blocks now = (to : IsToRebuild blocks) → (image : Blocks) × HasOneImageButIndex now.opening now.log image × IsRebuilt (rebuildable_image blocks to.is) to.is.last image

-- what a forced rebuild promises of any device, and of an honest one
pub record IsForcing (trust : Trust) (before now : Seen) (result : Result Forced ImageFault) : Type 0 where
  -- of any device
  pub stays : Stays before now
  pub later : Later before now
  pub grows : Grows trust.tells before now
  pub answers : IfOk result (Answers trust before now)
  pub fails : IfErr result (ForceFails trust before now)
  pub nothing : IfErr result (WritesNothing trust.tells before now)
  -- of an honest one, by its one image
  pub says : (blocks : Blocks) → IsTold trust before blocks → IsResult blocks before now result
  pub stops : (blocks : Blocks) → IsTold trust before blocks → AreStopsRebuildable blocks before now
  pub rebuilt : IfOk result (λ forced. (blocks : Blocks) → IsTold trust before blocks → LeavesRebuilt blocks now)

-- what rebuilding an image answers whose superblock was read, as of one that wasn't closed
pub record ForcesUnclosed (trust : Trust) (head : Superblock) (before now : Seen) (result : Result Forced ImageFault) : Type 0 where
  pub stays : Stays before now
  pub later : Later before now
  pub grows : Grows trust.tells before now
  pub answers : IfOk result (HasCounted trust head before now)
  pub fails : IfErr result (UnclosedFails trust head before now)
  pub nothing : IfErr result (WritesNothing trust.tells before now)
  pub ends : (first : Seen) (blocks : Blocks) (start : IsStart trust first blocks) → IsUntouched trust.tells first before → unclosed start.is.head ≡ head
      → Ends (image_at blocks start) start.is.last first now result

-- nothing is pending on the device but in the index, and its one image is sound and closed, and can be rebuilt
abbrev pub HasRebuiltImage : Trust → Seen → Type 0
HasRebuiltImage trust now = (image : Blocks) × IsTold trust now image × IsSound image × IsCleanImage image × IsRebuildable image
