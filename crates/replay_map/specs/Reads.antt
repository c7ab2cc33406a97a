-- The blocks that were read from a device, in any order, and what they show of an image.
use Rattle.std.specs.Prelude.{ℕ, ◌≡◌, ◌⊎◌, ◌<◌, ◌^◌, List, [], ◌∷◌, Some, slice_index_or}
use Rattle.blk_base.specs.Regions.{IsDataBlock, Root, block_of}
use Rattle.blk_base.specs.declared.geometry.Geometry.{Geometry}
use Rattle.blk_base.specs.declared.place.Mapping.{Mapping}
use Rattle.blk_base.specs.declared.place.Mapping.TheVariants.{Unmapped}
use Rattle.blk_base.specs.declared.place.PageId.{PageId}
use Rattle.blk_base.specs.declared.place.Pbn.{Pbn}
use Rattle.blk_base.specs.declared.sizes.TheConstants.{PAGE_SLOTS, TREES}
use Rattle.disk_model.specs.Log.{Blocks, block_at}
use Rattle.disk_model.specs.Seen.{Seen}
use Rattle.disk_model.specs.Trust.{Trust}
use Rattle.disk_model.specs.Since.{WereRead, NextFailed}
use Rattle.image_model.specs.Maps.{Image}
use Rattle.image_model.specs.Windows.{LeadsToData}
use Rattle.replay_map.specs.Changes.{AreNewest, changed}
use Rattle.replay_map.specs.declared.changes.SlotId.{SlotId}

-- a block that was read, and what the read gave
pub record Reading : Type 0 where
  pub at : Pbn
  pub bytes : List ℕ

-- a page of the block map may stand at this block: it is a data block, or that of a root
abbrev pub IsPageBlock : Geometry → Pbn → Type 0
IsPageBlock g at = IsDataBlock g at.0 ⊎ ((tree : ℕ) × (tree < TREES) × (at.0 ≡ block_of g (Root tree)))

-- these blocks of the device, at which pages may stand, were read one after the other, and nothing else was done; the last
-- one stands first
abbrev pub BlocksRead : Trust → Geometry → Seen → Seen → List Reading → Type 0
BlocksRead trust g before now [] = now ≡ before
BlocksRead trust g before now (reading ∷ older) =
    (middle : Seen) × BlocksRead trust g before middle older × WereRead trust reading.at.0 middle now (reading.bytes ∷ []) × (reading.at.0 < middle.size)
    × IsPageBlock g reading.at

-- they were read, and then a read of one more failed
abbrev pub ReadFails : Trust → Geometry → Seen → Seen → Type 0
ReadFails trust g before now =
    (reads : List Reading) × (middle : Seen) × (at : Pbn) × BlocksRead trust g before middle reads × NextFailed trust at.0 middle now [] × IsPageBlock g at

-- an image has these blocks where they were read
abbrev pub Shows : Blocks → List Reading → Type 0
Shows blocks [] = Unit {0}
Shows blocks (reading ∷ older) = (block_at blocks reading.at.0 ≡ reading.bytes) × Shows blocks older

-- an image of these sizes, with the changes of its window, that has what was read
pub record HasReads (g : Geometry) (changes : List (SlotId × Mapping)) (reads : List Reading) (image : Image) : Type 0 where
  pub geometry : image.geometry ≡ g
  pub newest : AreNewest image.window changes
  pub shows : Shows image.blocks reads

-- blocks were read, and this holds of each image that has what was read
abbrev pub IsShown : Trust → Geometry → List (SlotId × Mapping) → Seen → Seen → (Image → Type 0) → Type 0
IsShown trust g changes before now Says =
    (reads : List Reading) × BlocksRead trust g before now reads × ((image : Image) → HasReads g changes reads image → Says image)

-- the changes lead to data blocks alone (levels of pages are below 256)
abbrev pub LeadToData : Geometry → List (SlotId × Mapping) → Type 0
LeadToData g changes = (page : PageId) (slot : ℕ) (mapping : Mapping) → page.level < 2 ^ 8 → changed changes page slot ≡ Some mapping → LeadsToData g mapping

-- each slot of a page leads to a data block, or to none
abbrev pub AreLeading : Geometry → List Mapping → Type 0
AreLeading g mappings = (slot : ℕ) → slot < PAGE_SLOTS → LeadsToData g (slice_index_or mappings slot Unmapped)
