-- What reading the superblock of a device finds: by the block that the device gave.
use Rattle.std.specs.Prelude.{ℕ, ◌≡◌, ◌⊎◌, ◌<◌, List, [], ◌∷◌, Err}
use Rattle.blk_base.specs.declared.geometry.Super.{Super}
use Rattle.disk_model.specs.Seen.{Seen}
use Rattle.disk_model.specs.Trust.{Trust}
use Rattle.disk_model.specs.Since.{WereRead, NextFailed}
use Rattle.image_layout.specs.Opened.{IsHead}
use Rattle.image_layout.specs.Superblock.{super_of}
use Rattle.image_layout.specs.declared.fault.SuperFault.{SuperFault}
use Rattle.image_layout.specs.declared.fault.SuperFault.TheVariants.{NotAnImage}
use Rattle.image_model.specs.declared.fault.ImageFault.{ImageFault}
use Rattle.image_model.specs.declared.fault.ImageFault.TheVariants.{Super as SuperFaulty, Window, Page, Counter, SharedPage, Counts, Device, Unclean, Memory}

-- block 0 was read, and nothing else was done, and it is this superblock
pub record IsHeadRead (trust : Trust) (before now : Seen) (head : Super) : Type 0 where
  pub block : List ℕ
  pub read : WereRead trust 0 before now (block ∷ [])
  pub is : IsHead before.size block head

-- it was read, and this is why it is none
pub record IsHeadRefused (trust : Trust) (before now : Seen) (fault : SuperFault) : Type 0 where
  pub some : 0 < before.size
  pub block : List ℕ
  pub read : WereRead trust 0 before now (block ∷ [])
  pub refused : super_of block before.size ≡ Err fault

-- the device has no block, and nothing was done
pub record HasNoBlock (before now : Seen) (fault : SuperFault) : Type 0 where
  pub none : before.size ≡ 0
  pub fault_is : fault ≡ NotAnImage
  pub same : now ≡ before

-- why there is no superblock; or the read failed
abbrev pub HeadFails : Trust → Seen → Seen → ImageFault → Type 0
HeadFails trust before now (SuperFaulty fault) = HasNoBlock before now fault ⊎ IsHeadRefused trust before now fault
HeadFails trust before now Device = NextFailed trust 0 before now []
HeadFails trust before now (Window sequence) = ⊥
HeadFails trust before now (Page at fault) = ⊥
HeadFails trust before now (Counter at point) = ⊥
HeadFails trust before now (SharedPage at) = ⊥
HeadFails trust before now (Counts at stored mapped) = ⊥
HeadFails trust before now Unclean = ⊥
HeadFails trust before now Memory = ⊥
