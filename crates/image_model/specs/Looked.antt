-- Which blocks of an image are looked at when it is opened, audited or recovered: all but those of the index, on whose
-- contents nothing rests.
use Rattle.std.specs.Prelude.{ℕ, ◌||◌, Bool, true, nat_lt, nat_le, List, Ok, Err}
use Rattle.blk_base.specs.Regions.{first_index_of, first_slab_of}
use Rattle.blk_base.specs.declared.geometry.Geometry.{Geometry}
use Rattle.disk_model.specs.declared.call.Call.{Call}
use Rattle.disk_model.specs.Log.{Blocks}
use Rattle.disk_model.specs.OneImages.{HasOneImageIn}
use Rattle.image_layout.specs.Opened.{super_of_image}

-- a block that isn't one of the index
abbrev pub is_looked_at : Geometry → ℕ → Bool
is_looked_at g b = nat_lt b (first_index_of g) || nat_le (first_slab_of g) b

-- the same of an image, by the sizes that its superblock says; where that is none, each block is
abbrev pub looked_in : Blocks → ℕ → Bool
looked_in image b = elim (super_of_image image) [
  | Ok head ↦ is_looked_at head.geometry b
  | Err fault ↦ true
]

-- Nothing is pending but in the index: whatever of these calls a stop loses, it leaves this image, the index aside.
abbrev pub HasOneImageButIndex : Blocks → List Call → Blocks → Type 0
HasOneImageButIndex opening log image = HasOneImageIn (looked_in image) opening log image
