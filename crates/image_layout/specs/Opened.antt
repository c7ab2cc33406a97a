-- What an image is, once it is opened: its superblock.
use Rattle.std.specs.Prelude.{ℕ, ◌≡◌, ◌<◌, ◌≤◌, ◌^◌, List, [], ◌∷◌, length, Result, Ok, Err}
use Rattle.blk_base.specs.Limits.{IsGeometry}
use Rattle.blk_base.specs.Regions.{needed_blocks}
use Rattle.blk_base.specs.declared.geometry.Super.{Super}
use Rattle.image_layout.specs.declared.fault.SuperFault.{SuperFault}
use Rattle.image_layout.specs.declared.fault.SuperFault.TheVariants.{NotAnImage}
use Rattle.image_layout.specs.Superblock.{super_of}

-- what the superblock of an image says; a device without blocks has none
abbrev pub super_of_image : List (List ℕ) → Result Super SuperFault
super_of_image [] = Err NotAnImage
super_of_image (block ∷ blocks) = super_of block (length (block ∷ blocks))

-- these bytes are this superblock on a device of this size: it is within its limits, and the image has room
pub record IsHead (size : ℕ) (block : List ℕ) (head : Super) : Type 0 where
  pub says : super_of block size ≡ Ok head
  pub sizes : IsGeometry head.geometry
  pub start : (1 ≤ head.start) × (head.start < 2 ^ 54)
  pub room : needed_blocks head.geometry ≤ size
