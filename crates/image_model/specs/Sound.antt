-- Sound images: those that this program leaves, whenever it is stopped.
use Rattle.std.specs.Prelude.{ℕ, ◌≡◌, ◌+◌, ◌*◌, ◌<◌, ◌≤◌, ◌^◌, false, IsTrue, List, [], Ok, get_or}
use Rattle.blk_base.specs.Points.{point_of}
use Rattle.blk_base.specs.Regions.{DataBlock, IsPlace, references_of}
use Rattle.blk_base.specs.Sectors.{sector, zero_block}
use Rattle.blk_base.specs.declared.geometry.Geometry.{Geometry}
use Rattle.blk_base.specs.declared.geometry.Super.{Super}
use Rattle.blk_base.specs.declared.journal_entry.CommittedEntry.{CommittedEntry}
use Rattle.blk_base.specs.declared.journal_entry.Entry.{Entry}
use Rattle.blk_base.specs.declared.layout.DataPlace.{DataPlace}
use Rattle.blk_base.specs.declared.place.Pbn.{Pbn}
use Rattle.blk_base.specs.declared.place.Mapping.TheVariants.{At}
use Rattle.blk_base.specs.declared.point.Half.TheVariants.{Increment}
use Rattle.disk_model.specs.Log.{Blocks}
use Rattle.image_layout.specs.Opened.{super_of_image}
use Rattle.image_layout.specs.Values.{journal_of}
use Rattle.journal_codec.specs.Grammar.{IsSector}
use Rattle.slab_codec.specs.declared.forms.SlabEntry.{SlabEntry}
use Rattle.image_model.specs.Windows.{IsWindow}
use Rattle.image_model.specs.Maps.{Image, mapping_of, IsTreePage, ArePagesGood}
use Rattle.image_model.specs.Counts.{HasMappings, Stores, IsKept, IsUpdate, block_of_data, commit_at, commit_of}

-- a place among the data blocks
abbrev pub IsDataPlace : Geometry → DataPlace → Type 0
IsDataPlace g place = IsPlace g (DataBlock place.slab place.offset)

-- the next session's first sequence can be written: recovery steps over one, which a stop may have torn
abbrev pub HasSequences : Super → ℕ → Type 0
HasSequences head last = head.clean ≡ false → last + 2 < 2 ^ 54

-- These blocks can be opened: their superblock is this one, and their window has these entries and this last sequence.
pub record Opens (blocks : Blocks) (head : Super) (last : ℕ) (window : List CommittedEntry) : Type 0 where
  pub accepted : super_of_image blocks ≡ Ok head
  pub sequences : HasSequences head last
  pub is_window : IsWindow head.geometry head.start (journal_of head.geometry blocks) last window

-- each data block has a stored count
abbrev pub AreStored : Image → Type 0
AreStored image = (place : DataPlace) → IsDataPlace image.geometry place → (count : ℕ) × Stores image place (Ok count)

-- no address is mapped to the block of a page
abbrev pub AreUnshared : Image → Type 0
AreUnshared image = (at : Pbn) (address : ℕ) → IsTreePage image at → mapping_of image address ≡ At at → ⊥

-- the stored count of a data block is the number of its mappings
abbrev pub IsTrueOf : Image → DataPlace → Type 0
IsTrueOf image place = (count : ℕ) × Stores image place (Ok count) × HasMappings image (block_of_data image.geometry place) count

abbrev pub AreTrue : Image → Type 0
AreTrue image = (place : DataPlace) → IsDataPlace image.geometry place → IsTrueOf image place

-- Nothing is from a later time: no commit point, no update in a slab's journal and no sector of the recovery journal.
pub record IsOfItsTime (g : Geometry) (blocks : Blocks) (last : ℕ) : Type 0 where
  pub commits : (slab n : ℕ) → slab < g.slabs → n < 8 * references_of g → commit_at g blocks slab n < point_of (last + 1) 0 Increment
  pub updates : (slab : ℕ) (entry : SlabEntry) → slab < g.slabs → IsKept g blocks slab entry → entry.point.0 < point_of (last + 1) 0 Increment
  pub sectors : (slot number sequence head : ℕ) (entries : List Entry) → slot < g.journal → number < 8
      → IsSector g.nonce number (sector number (get_or (journal_of g blocks) slot zero_block)) sequence head entries → sequence ≤ last + 1

-- A session was closed: the next one goes on behind the last sequence, and nothing is left in a journal, not even a block
-- that was torn or has no entries.
pub record IsClosed (image : Image) (start last : ℕ) : Type 0 where
  pub next : start ≡ last + 1
  pub window : image.window ≡ []
  pub updates : (place : DataPlace) (point : ℕ) → IsDataPlace image.geometry place → IsUpdate image place point → point ≤ commit_of image place
  pub sectors : (slot number sequence head : ℕ) (entries : List Entry) → slot < image.geometry.journal → number < 8
      → IsSector image.geometry.nonce number (sector number (get_or (journal_of image.geometry image.blocks) slot zero_block)) sequence head entries → sequence ≤ last

-- an image that was opened
abbrev pub image_of : Super → Blocks → List CommittedEntry → Image
image_of head blocks window = record { geometry = head.geometry; blocks = blocks; window = window }

-- the image can be opened, has no fault, and nothing in it is from a later time
pub record IsSound (blocks : Blocks) : Type 0 where
  pub head : Super
  pub last : ℕ
  pub window : List CommittedEntry
  pub opens : Opens blocks head last window
  pub pages : ArePagesGood (image_of head blocks window)
  pub stored : AreStored (image_of head blocks window)
  pub unshared : AreUnshared (image_of head blocks window)
  pub counts : AreTrue (image_of head blocks window)
  pub timely : IsOfItsTime head.geometry blocks last
  pub closed : IsTrue head.clean → IsClosed (image_of head blocks window) head.start last
