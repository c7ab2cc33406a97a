-- What a forced rebuild keeps of an image.
use Rattle.std.specs.Prelude.{ℕ, ◌≡◌, ◌<◌, ◌≤◌, ◌++◌, IsTrue, List, length}
use Rattle.blk_base.specs.Regions.{Place, Superblock, JournalSlot, Root, IndexBlock, DataBlock, ReferenceBlock, SlabJournalSlot, IsPlace, block_of}
use Rattle.blk_base.specs.declared.geometry.Geometry.{Geometry}
use Rattle.disk_model.specs.declared.call.Call.{Call}
use Rattle.disk_model.specs.Images.{IsImage}
use Rattle.disk_model.specs.Log.{Blocks, block_at}
use Rattle.image_model.specs.Looked.{is_looked_at}
use Rattle.image_model.specs.Maps.{Image, HaveSameMap, value_of}
use Rattle.image_model.specs.Sound.{IsSound, image_of}
use Rattle.recovery_laws.specs.Kept.{AreIndexMissed, recovered_super}
use Rattle.recovery_laws.specs.Written.{IsPageBlock}
use Rattle.force_rebuild.specs.Rebuildable.{IsRebuildable, rebuildable_image}

-- two images map the same: of the same sizes, each address has the same mapping and value
pub record MapTheSame (old new : Image) : Type 0 where
  pub geometry : new.geometry ≡ old.geometry
  pub map : HaveSameMap old new
  pub values : (address : ℕ) → value_of new address ≡ value_of old address

-- a place of a slab's counters or of its journal
abbrev pub IsSlabPlace : Place → Type 0
IsSlabPlace Superblock = ⊥
IsSlabPlace (JournalSlot _) = ⊥
IsSlabPlace (Root _) = ⊥
IsSlabPlace (IndexBlock _) = ⊥
IsSlabPlace (DataBlock _ _) = ⊥
IsSlabPlace (ReferenceBlock _ _) = Unit {0}
IsSlabPlace (SlabJournalSlot _ _) = Unit {0}

-- one stands at this block
abbrev pub IsSlabBlock : Geometry → ℕ → Type 0
IsSlabBlock g b = (place : Place) × IsPlace g place × IsSlabPlace place × (block_of g place ≡ b)

-- the blocks but the superblock's, the pages', the counters', the slabs' journals' and the index's are what they were
abbrev pub AreOthersKept : Image → Blocks → Type 0
AreOthersKept image blocks =
    (b : ℕ) → 1 ≤ b → b < length image.blocks → IsTrue (is_looked_at image.geometry b) → (IsPageBlock image b → ⊥) → (IsSlabBlock image.geometry b → ⊥)
    → block_at blocks b ≡ block_at image.blocks b

-- These blocks are an image that can be rebuilt and maps the same, with the other blocks as they were.
pub record IsKept (old : Image) (blocks : Blocks) : Type 0 where
  pub rebuildable : IsRebuildable blocks
  pub same : MapTheSame old (rebuildable_image blocks rebuildable)
  pub others : AreOthersKept old blocks

-- Whatever a stop leaves at each moment since the log was the first one, once all these calls were made and before: the
-- same map. The index isn't written.
pub record AreStopsKept (old : Image) (opening : Blocks) (first calls : List Call) : Type 0 where
  pub kept : (newer older : List Call) (now : Blocks) → calls ≡ newer ++ older → IsImage opening (older ++ first) now → IsKept old now
  pub index : AreIndexMissed old.geometry calls

-- The image was rebuilt: it is sound, so that each stored count is the number of mappings; it maps the same and has the
-- other blocks that it had, it is closed, and the next session begins two behind the last sequence. It can be rebuilt again.
pub record IsRebuilt (old : Image) (last : ℕ) (blocks : Blocks) : Type 0 where
  pub sound : IsSound blocks
  pub same : MapTheSame old (image_of sound.head blocks sound.window)
  pub closed : sound.head ≡ recovered_super old.geometry last
  pub kept : IsKept old blocks
