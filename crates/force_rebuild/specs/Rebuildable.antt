-- Images whose counts can be set from their block map, whatever their counters and their slabs' journals hold.
use Rattle.std.specs.Prelude.{ℕ, ◌≡◌, ◌+◌, ◌<◌, ◌≤◌, ◌^◌, List, Ok}
use Rattle.blk_base.specs.Counters.{limit_of}
use Rattle.blk_base.specs.declared.geometry.Super.{Super}
use Rattle.blk_base.specs.declared.journal_entry.CommittedEntry.{CommittedEntry}
use Rattle.blk_base.specs.declared.layout.DataPlace.{DataPlace}
use Rattle.disk_model.specs.Log.{Blocks}
use Rattle.image_layout.specs.Opened.{super_of_image}
use Rattle.image_layout.specs.Values.{journal_of}
use Rattle.image_model.specs.Counts.{HasMappings, block_of_data}
use Rattle.image_model.specs.Maps.{Image, ArePagesGood}
use Rattle.image_model.specs.Sound.{AreUnshared, IsDataPlace, image_of}
use Rattle.image_model.specs.Windows.{IsWindow}
use Rattle.recovery_laws.specs.Recoverable.{IsJournalOfItsTime}

-- a data block is mapped so often, and a counter can say it
abbrev pub IsCountable : Image → DataPlace → Type 0
IsCountable image place = (count : ℕ) × HasMappings image (block_of_data image.geometry place) count × (count ≤ limit_of image.geometry)

-- each data block is
abbrev pub AreCountable : Image → Type 0
AreCountable image = (place : DataPlace) → IsDataPlace image.geometry place → IsCountable image place

-- The image has a superblock and a window, behind which the next session's first sequence can be written, whether the last
-- session was closed or not; each page can be read, and none has the data of an address; a counter can say each number of
-- mappings; and nothing in the recovery journal is from a later time.
pub record IsRebuildable (blocks : Blocks) : Type 0 where
  pub head : Super
  pub last : ℕ
  pub window : List CommittedEntry
  pub accepted : super_of_image blocks ≡ Ok head
  pub sequences : last + 2 < 2 ^ 54
  pub is_window : IsWindow head.geometry head.start (journal_of head.geometry blocks) last window
  pub pages : ArePagesGood (image_of head blocks window)
  pub unshared : AreUnshared (image_of head blocks window)
  pub countable : AreCountable (image_of head blocks window)
  pub timely : IsJournalOfItsTime head.geometry blocks last

-- it, as it is opened
abbrev pub rebuildable_image : (blocks : Blocks) → IsRebuildable blocks → Image
rebuildable_image blocks is = image_of is.head blocks is.window
