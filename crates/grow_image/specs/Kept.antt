-- What stays of an image that grows.
use Rattle.std.specs.Prelude.{ℕ, ◌≡◌, ◌⊎◌, ◌<◌, ◌≤◌, ◌^◌, ◌↔◌, ◌++◌, true, IsTrue, List, length, Ok}
use Rattle.blk_base.specs.Limits.{IsGeometry}
use Rattle.blk_base.specs.Regions.{IsPlace, Place, block_of, needed_blocks}
use Rattle.blk_base.specs.Sectors.{zero_block}
use Rattle.blk_base.specs.declared.layout.DataPlace.{DataPlace}
use Rattle.blk_base.specs.declared.place.Mapping.TheVariants.{Unmapped}
use Rattle.disk_model.specs.declared.call.Call.{Call}
use Rattle.disk_model.specs.Images.{IsImage}
use Rattle.disk_model.specs.Log.{Blocks, block_at}
use Rattle.image_model.specs.Counts.{Stores}
use Rattle.image_model.specs.Looked.{is_looked_at}
use Rattle.image_model.specs.Maps.{Image, HaveSameMap, mapping_of, value_of}
use Rattle.image_model.specs.Sound.{IsDataPlace, IsSound}
use Rattle.recovery_laws.specs.Kept.{AreIndexMissed, image_in}
use Rattle.grow_image.specs.Sizes.{IsMore, IsNewPlace, grown_sizes, grown_super}

-- no address from the logical size on, below this one, is mapped
abbrev pub AreUnmapped : Image → ℕ → Type 0
AreUnmapped image logical = (address : ℕ) → image.geometry.logical ≤ address → address < logical → mapping_of image address ≡ Unmapped

-- Each address has the mapping and the value that it had, each data block that was there its stored count, and each other one
-- the count 0.
pub record SayAsMuch (old new : Image) : Type 0 where
  pub map : HaveSameMap old new
  pub values : (address : ℕ) → value_of new address ≡ value_of old address
  pub counts : (place : DataPlace) (count : ℕ) → IsDataPlace old.geometry place → Stores new place (Ok count) ↔ Stores old place (Ok count)
  pub empty : (place : DataPlace) → old.geometry.slabs ≤ place.slab → IsDataPlace new.geometry place → Stores new place (Ok 0)

-- the blocks of these sizes but the superblock's and the index's are what they were
abbrev pub AreOldKept : Image → Blocks → Type 0
AreOldKept old blocks =
    (b : ℕ) → 1 ≤ b → b < needed_blocks old.geometry → IsTrue (is_looked_at old.geometry b) → block_at blocks b ≡ block_at old.blocks b

-- the new slabs' counters and journals are zeros
abbrev pub AreNewEmpty : Image → ℕ → ℕ → Blocks → Type 0
AreNewEmpty old logical slabs blocks =
    (place : Place) → IsPlace (grown_sizes old.geometry logical slabs) place → IsNewPlace old.geometry place
    → block_at blocks (block_of (grown_sizes old.geometry logical slabs) place) ≡ zero_block

-- These blocks are a sound image of so many addresses and slabs, which says as much.
pub record IsGrown (base : Blocks) (sound : IsSound base) (logical slabs : ℕ) (blocks : Blocks) : Type 0 where
  pub grown : IsSound blocks
  pub head : grown.head ≡ grown_super sound.head logical slabs
  pub says : SayAsMuch (image_in base sound) (image_in blocks grown)
  pub old_kept : AreOldKept (image_in base sound) blocks

-- An image to grow: its last session was closed, the numbers of its superblock fit, and it has neither more addresses nor more
-- slabs than these, with which it fits the device.
pub record IsToGrow (base : Blocks) (sound : IsSound base) (logical slabs : ℕ) : Type 0 where
  pub clean : sound.head.clean ≡ true
  pub named : sound.head.geometry.nonce < 2 ^ 64
  pub early : (1 ≤ sound.head.start) × (sound.head.start < 2 ^ 54)
  pub more : IsMore sound.head.geometry logical slabs
  pub sizes : IsGeometry (grown_sizes sound.head.geometry logical slabs)
  pub fits : needed_blocks (grown_sizes sound.head.geometry logical slabs) ≤ length base

-- what a stop may leave: the image as it was, or the one with so many addresses and slabs
abbrev pub MayStand : (base : Blocks) → IsSound base → ℕ → ℕ → Blocks → Type 0
MayStand base sound logical slabs blocks =
    IsGrown base sound sound.head.geometry.logical sound.head.geometry.slabs blocks ⊎ IsGrown base sound logical slabs blocks

-- Whatever a stop leaves at each moment since the log was the first one, once all these calls were made and before. The index
-- isn't written.
pub record AreStopsRight (base : Blocks) (sound : IsSound base) (logical slabs : ℕ) (opening : Blocks) (first calls : List Call) : Type 0 where
  pub stands : (newer older : List Call) (now : Blocks) → calls ≡ newer ++ older → IsImage opening (older ++ first) now → MayStand base sound logical slabs now
  pub index : AreIndexMissed sound.head.geometry calls
