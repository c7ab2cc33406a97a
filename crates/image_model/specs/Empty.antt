-- An empty image: one that was made, and to which nothing was written yet.
use Rattle.std.specs.Prelude.{ℕ, ◌≡◌, ◌-◌, true, List, replicate, Ok}
use Rattle.blk_base.specs.Regions.{Place, Superblock, JournalSlot, Root, IndexBlock, DataBlock, ReferenceBlock, SlabJournalSlot, IsPlace, block_of}
use Rattle.blk_base.specs.Sectors.{zero_block}
use Rattle.blk_base.specs.declared.geometry.Geometry.{Geometry}
use Rattle.blk_base.specs.declared.geometry.Super.{Super}
use Rattle.blk_base.specs.declared.layout.DataPlace.{DataPlace}
use Rattle.blk_base.specs.declared.place.Mapping.TheVariants.{Unmapped}
use Rattle.blk_base.specs.declared.place.Pbn.{Pbn}
use Rattle.blk_base.specs.declared.sizes.TheConstants.{PAGE_SLOTS}
use Rattle.disk_model.specs.Log.{Blocks, block_at}
use Rattle.image_layout.specs.Opened.{super_of_image}
use Rattle.page_codec.specs.PageBytes.{page_bytes}
use Rattle.page_codec.specs.declared.forms.PageHead.{PageHead}
use Rattle.image_model.specs.Counts.{HasMappings, Stores}
use Rattle.image_model.specs.Faults.{IsOpened}
use Rattle.image_model.specs.Maps.{Image, mapping_of}
use Rattle.image_model.specs.Sound.{IsDataPlace, IsSound}

-- What it has on the device.

-- its superblock: closed, and the first session has the sequence 1
abbrev pub empty_super : Geometry → Super
empty_super g = record { geometry = g; clean = true; start = 1 }

-- a tree's root, as the format of pages names it, and its block: each slot is unmapped
abbrev pub root_head : Geometry → ℕ → PageHead
root_head g tree = record {
  geometry = g;
  page = record { tree = tree; level = g.height - 1; index = 0 };
  at = record { 0 = block_of g (Root tree) };
}

abbrev pub empty_root : Geometry → ℕ → List ℕ
empty_root g tree = page_bytes (root_head g tree) (replicate PAGE_SLOTS Unmapped)

-- a place whose block has to be written: each one but the superblock's, which is said by itself, and those of data
abbrev pub IsMade : Place → Type 0
IsMade Superblock = ⊥
IsMade (DataBlock _ _) = ⊥
IsMade (JournalSlot _) = Unit {0}
IsMade (Root _) = Unit {0}
IsMade (IndexBlock _) = Unit {0}
IsMade (ReferenceBlock _ _) = Unit {0}
IsMade (SlabJournalSlot _ _) = Unit {0}

-- what stands there: pages without mappings as roots, and zeros
abbrev pub made_block : Geometry → Place → List ℕ
made_block g (Root tree) = empty_root g tree
made_block g _ = zero_block

-- an empty image of these sizes; its data blocks may have anything
pub record IsEmpty (g : Geometry) (blocks : Blocks) : Type 0 where
  pub accepted : super_of_image blocks ≡ Ok (empty_super g)
  pub made : (place : Place) → IsPlace g place → IsMade place → block_at blocks (block_of g place) ≡ made_block g place

-- What that means.

-- every address is unmapped, every stored count is 0, and so is every number of mappings
pub record HasNothing (image : Image) : Type 0 where
  pub unmapped : (address : ℕ) → mapping_of image address ≡ Unmapped
  pub stored : (place : DataPlace) → IsDataPlace image.geometry place → Stores image place (Ok 0)
  pub mapped : (block : Pbn) → HasMappings image block 0

-- the image is sound, and nothing was written to it
pub record IsUnused (blocks : Blocks) : Type 0 where
  pub sound : IsSound blocks
  pub image : Image
  pub opened : IsOpened blocks image
  pub nothing : HasNothing image
