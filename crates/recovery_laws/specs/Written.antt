-- What the blocks of an image have that recovery writes, while it does, and afterwards.
use Rattle.std.specs.Prelude.{ℕ, ◌≡◌, ◌⊎◌, ◌+◌, ◌*◌, ◌%◌, ◌<◌, ◌≤◌, IsTrue, List, length, Ok, Some, None}
use Rattle.blk_base.specs.Counters.{counters_per_sector, sector_of_offset, sectors_per_slab}
use Rattle.blk_base.specs.Regions.{ReferenceBlock, IsPlace, block_of, references_of}
use Rattle.blk_base.specs.Sectors.{sector}
use Rattle.blk_base.specs.declared.layout.DataPlace.{DataPlace}
use Rattle.blk_base.specs.declared.place.PageId.{PageId}
use Rattle.blk_base.specs.declared.place.Pbn.{Pbn}
use Rattle.blk_base.specs.declared.sizes.TheConstants.{PAGE_SLOTS}
use Rattle.byte_fields.specs.Fields.{number_at}
use Rattle.count_updates.specs.Applied.{IsGreatest}
use Rattle.disk_model.specs.Log.{Blocks, block_at}
use Rattle.image_model.specs.Counts.{Stores, commit_at, reference_sector_at}
use Rattle.image_model.specs.Looked.{is_looked_at}
use Rattle.image_model.specs.Maps.{Image, head_of, page_at, put_last, says}
use Rattle.image_model.specs.Sound.{IsDataPlace}
use Rattle.page_codec.specs.Grammar.{HasHead, IsSlot}
use Rattle.replay_counts.specs.Recovered.{IsInSector}

-- Pages.

-- The page says by itself what it says with the window: it begins as it should, and each slot has that mapping.
pub record IsFullPage (image : Image) (page : PageId) (at : Pbn) (bytes : List ℕ) : Type 0 where
  pub headed : HasHead (head_of image page at) bytes
  pub slots : (slot : ℕ) → slot < PAGE_SLOTS → IsSlot (head_of image page at) bytes slot (says image page at slot)

-- The page says so with the window: only the slots into which that puts nothing have their mapping.
pub record IsPartPage (image : Image) (page : PageId) (at : Pbn) (bytes : List ℕ) : Type 0 where
  pub headed : HasHead (head_of image page at) bytes
  pub slots : (slot : ℕ) → slot < PAGE_SLOTS → put_last image.window page slot ≡ None → IsSlot (head_of image page at) bytes slot (says image page at slot)

-- Counters.

-- the counters of a sector that stand behind the slab's end are 0, or what they were
abbrev pub IsRestKept : Image → ℕ → ℕ → List ℕ → Type 0
IsRestKept image slab n bytes =
    (offset : ℕ) → image.geometry.slab_blocks ≤ offset → sector_of_offset image.geometry offset ≡ n
    → (number_at 1 (8 + offset % counters_per_sector image.geometry) bytes ≡ 0)
    ⊎ (number_at 1 (8 + offset % counters_per_sector image.geometry) bytes ≡ number_at 1 (8 + offset % counters_per_sector image.geometry) (reference_sector_at image.geometry image.blocks slab n))

-- a sector of a slab's counters with all updates: its commit point is the greatest one applied to it, and its counters are
-- the stored counts
pub record IsFullSector (image : Image) (slab n : ℕ) (bytes : List ℕ) : Type 0 where
  pub commit : IsGreatest (commit_at image.geometry image.blocks slab n) (IsInSector image slab n) (number_at 8 0 bytes)
  pub counters : (place : DataPlace) → IsDataPlace image.geometry place → place.slab ≡ slab → sector_of_offset image.geometry place.offset ≡ n
      → Stores image place (Ok (number_at 1 (8 + place.offset % counters_per_sector image.geometry) bytes))
  pub rest : IsRestKept image slab n bytes

-- a sector of a slab's counters as it was
abbrev pub IsOldSector : Image → ℕ → ℕ → List ℕ → Type 0
IsOldSector image slab n bytes = bytes ≡ reference_sector_at image.geometry image.blocks slab n

-- The blocks.

-- a page of the image stands at this block
abbrev pub IsPageBlock : Image → ℕ → Type 0
IsPageBlock image b = (page : PageId) × (at : Pbn) × (page_at image page ≡ Some at) × (at.0 ≡ b)

-- a block of counters stands there
abbrev pub IsCountersBlock : Image → ℕ → Type 0
IsCountersBlock image b = (slab : ℕ) × (i : ℕ) × IsPlace image.geometry (ReferenceBlock slab i) × (block_of image.geometry (ReferenceBlock slab i) ≡ b)

-- the blocks but the superblock's, the pages', the counters' and the index's are what they were
abbrev pub AreOthersKept : Image → Blocks → Type 0
AreOthersKept image blocks =
    (b : ℕ) → 1 ≤ b → b < length image.blocks → IsTrue (is_looked_at image.geometry b) → (IsPageBlock image b → ⊥) → (IsCountersBlock image b → ⊥)
    → block_at blocks b ≡ block_at image.blocks b

-- the counters behind the slabs' ends are 0, or what they were
abbrev pub AreRestKept : Image → Blocks → Type 0
AreRestKept image blocks =
    (slab n : ℕ) → slab < image.geometry.slabs → n < 8 * references_of image.geometry → IsRestKept image slab n (reference_sector_at image.geometry blocks slab n)

-- While an image is recovered: its superblock's fields are what they were, each page says the same with the window, and
-- each sector of counters is as it was or has all updates.
pub record AreUnderway (image : Image) (blocks : Blocks) : Type 0 where
  pub size : length blocks ≡ length image.blocks
  pub head : sector 0 (block_at blocks 0) ≡ sector 0 (block_at image.blocks 0)
  pub pages : (page : PageId) (at : Pbn) → page_at image page ≡ Some at → IsPartPage image page at (block_at blocks at.0)
  pub counters : (slab n : ℕ) → slab < image.geometry.slabs → n < 8 * references_of image.geometry
      → IsOldSector image slab n (reference_sector_at image.geometry blocks slab n) ⊎ IsFullSector image slab n (reference_sector_at image.geometry blocks slab n)
  pub others : AreOthersKept image blocks

-- Once all is written but the superblock: each page says the same by itself, and each sector of counters has all updates;
-- those past the slab's end are as they were.
pub record AreFull (image : Image) (blocks : Blocks) : Type 0 where
  pub size : length blocks ≡ length image.blocks
  pub pages : (page : PageId) (at : Pbn) → page_at image page ≡ Some at → IsFullPage image page at (block_at blocks at.0)
  pub counters : (slab n : ℕ) → slab < image.geometry.slabs → n < sectors_per_slab image.geometry
      → IsFullSector image slab n (reference_sector_at image.geometry blocks slab n)
  pub past : (slab n : ℕ) → slab < image.geometry.slabs → sectors_per_slab image.geometry ≤ n → n < 8 * references_of image.geometry
      → IsOldSector image slab n (reference_sector_at image.geometry blocks slab n)
  pub others : AreOthersKept image blocks
