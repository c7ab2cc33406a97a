-- What is wrong with an image that isn't one. The faults are found in the order in which they stand here, each over the
-- whole image before the next.
use Rattle.std.specs.Prelude.{ℕ, ◌≡◌, ◌⊎◌, ◌+◌, ◌<◌, ◌≤◌, ◌^◌, false, IsNone, List, ◌++◌, codes, Ok, Err, Some}
use Rattle.std.specs.Fmt.{decimal}
use Rattle.blk_base.specs.declared.geometry.Super.{Super as Superblock}
use Rattle.blk_base.specs.declared.layout.DataPlace.{DataPlace}
use Rattle.blk_base.specs.declared.place.Mapping.TheVariants.{At}
use Rattle.blk_base.specs.declared.place.PageId.{PageId}
use Rattle.blk_base.specs.declared.place.Pbn.{Pbn}
use Rattle.blk_base.specs.declared.sizes.TheConstants.{PAGE_SLOTS}
use Rattle.disk_model.specs.Log.{Blocks, block_at}
use Rattle.image_layout.specs.Faults.{super_fault_text}
use Rattle.image_layout.specs.Opened.{super_of_image}
use Rattle.image_layout.specs.Values.{journal_of}
use Rattle.image_layout.specs.declared.fault.Field.TheVariants.{Start}
use Rattle.image_layout.specs.declared.fault.SuperFault.{SuperFault}
use Rattle.image_layout.specs.declared.fault.SuperFault.TheVariants.{BadField}
use Rattle.page_codec.specs.Grammar.{IsSlotFault}
use Rattle.page_codec.specs.declared.fault.PageFault.{PageFault}
use Rattle.page_codec.specs.declared.fault.PageFault.TheVariants.{Header, Compressed, OutOfRange}
use Rattle.image_model.specs.declared.fault.ImageFault.{ImageFault}
use Rattle.image_model.specs.declared.fault.ImageFault.TheVariants.{Super, Window, Page, Counter, SharedPage, Counts, Device, Unclean, Memory}
use Rattle.image_model.specs.Counts.{HasMappings, Stores, block_of_data}
use Rattle.image_model.specs.Maps.{Image, ArePagesGood, IsGoodPage, IsReadable, IsTreePage, head_of, mapping_of, page_at, put_last}
use Rattle.image_model.specs.Pages.{IsAhead}
use Rattle.image_model.specs.Sound.{AreStored, AreUnshared, IsDataPlace, IsTrueOf, Opens, image_of}
use Rattle.image_model.specs.Windows.{IsFaulty, IsLast}

-- 1: the superblock is refused; or the journal is at its end, so that recovery would need a sequence past the last one
pub record IsAtEnd (blocks : Blocks) : Type 0 where
  pub head : Superblock
  pub accepted : super_of_image blocks ≡ Ok head
  pub unclean : head.clean ≡ false
  pub last : ℕ
  pub is_last : IsLast head.geometry head.start (journal_of head.geometry blocks) last
  pub past : 2 ^ 54 ≤ last + 2

abbrev pub IsSuperFault : Blocks → SuperFault → Type 0
IsSuperFault blocks fault = (super_of_image blocks ≡ Err fault) ⊎ ((fault ≡ BadField Start) × IsAtEnd blocks)

-- 2: a block of the window can't be replayed; the first one
pub record IsWindowFault (blocks : Blocks) (sequence : ℕ) : Type 0 where
  pub head : Superblock
  pub accepted : super_of_image blocks ≡ Ok head
  pub sequences : IsAtEnd blocks → ⊥
  pub faulty : IsFaulty head.geometry head.start (journal_of head.geometry blocks) sequence

-- 3: a page has this fault: it begins otherwise, or else this is what is wrong with the least slot that can't be read
pub record HasFault (image : Image) (page : PageId) (at : Pbn) (fault : PageFault) : Type 0 where
  pub slot : ℕ
  pub inside : slot < PAGE_SLOTS
  pub before : (i : ℕ) → i < slot → IsReadable image page at i
  pub own : (fault ≡ Header) ⊎ IsNone (put_last image.window page slot)
  pub of_slot : IsSlotFault (head_of image page at) (block_at image.blocks at.0) slot fault

-- the page at this block is the first of a walk that has a fault
pub record IsPageFault (image : Image) (at : Pbn) (fault : PageFault) : Type 0 where
  pub page : PageId
  pub there : page_at image page ≡ Some at
  pub has : HasFault image page at fault
  pub first : (other : PageId) (place : Pbn) → IsAhead other page → page_at image other ≡ Some place → IsGoodPage image other place

-- 4: the count of this data block leaves its range at this point; the least such block
pub record IsCountFault (image : Image) (at : Pbn) (point : ℕ) : Type 0 where
  pub place : DataPlace
  pub inside : IsDataPlace image.geometry place
  pub stands : block_of_data image.geometry place ≡ at
  pub leaves : Stores image place (Err point)
  pub first : (other : DataPlace) → IsDataPlace image.geometry other → (block_of_data image.geometry other).0 < at.0
      → (count : ℕ) × Stores image other (Ok count)

-- 5: an address is mapped to the block of a page; the least such block
pub record IsShareFault (image : Image) (at : Pbn) : Type 0 where
  pub page : IsTreePage image at
  pub address : ℕ
  pub mapped : mapping_of image address ≡ At at
  pub first : (other : Pbn) (mapped_too : ℕ) → other.0 < at.0 → IsTreePage image other → mapping_of image mapped_too ≡ At other → ⊥

-- 6: this data block isn't mapped as often as its stored count says; the least such block
pub record IsCountsFault (image : Image) (at : Pbn) (stored mapped : ℕ) : Type 0 where
  pub place : DataPlace
  pub inside : IsDataPlace image.geometry place
  pub stands : block_of_data image.geometry place ≡ at
  pub stores : Stores image place (Ok stored)
  pub maps : HasMappings image at mapped
  pub differ : stored ≡ mapped → ⊥
  pub first : (other : DataPlace) → IsDataPlace image.geometry other → (block_of_data image.geometry other).0 < at.0 → IsTrueOf image other

-- the image can be opened
pub record IsOpened (blocks : Blocks) (image : Image) : Type 0 where
  pub head : Superblock
  pub last : ℕ
  pub opens : Opens blocks head last image.window
  pub is_image : image ≡ image_of head blocks image.window

-- what is wrong with an image, in the order of the faults; the last three say nothing of it
abbrev pub IsImageFault : Blocks → ImageFault → Type 0
IsImageFault blocks (Super fault) = IsSuperFault blocks fault
IsImageFault blocks (Window sequence) = IsWindowFault blocks sequence
IsImageFault blocks (Page at fault) = (image : Image) × IsOpened blocks image × IsPageFault image at fault
IsImageFault blocks (Counter at point) = (image : Image) × IsOpened blocks image × ArePagesGood image × IsCountFault image at point.0
IsImageFault blocks (SharedPage at) = (image : Image) × IsOpened blocks image × ArePagesGood image × AreStored image × IsShareFault image at
IsImageFault blocks (Counts at stored mapped) =
    (image : Image) × IsOpened blocks image × ArePagesGood image × AreStored image × AreUnshared image × IsCountsFault image at stored mapped
IsImageFault blocks Device = Unit {0}
IsImageFault blocks Unclean = Unit {0}
IsImageFault blocks Memory = Unit {0}

-- The texts.

abbrev pub page_fault_text : PageFault → List ℕ
page_fault_text Header = codes "header"
page_fault_text (Compressed slot) = codes "slot " ++ decimal slot ++ codes " compressed"
page_fault_text (OutOfRange slot) = codes "slot " ++ decimal slot ++ codes " out of range"

abbrev pub image_fault_text : ImageFault → List ℕ
image_fault_text (Super fault) = super_fault_text fault
image_fault_text (Window sequence) = codes "window " ++ decimal sequence
image_fault_text (Page at fault) = codes "page " ++ decimal at.0 ++ codes " " ++ page_fault_text fault
image_fault_text (Counter at point) = codes "counter " ++ decimal at.0
image_fault_text (SharedPage at) = codes "shared page " ++ decimal at.0
image_fault_text (Counts at stored mapped) = codes "block " ++ decimal at.0 ++ codes " stored " ++ decimal stored ++ codes " mapped " ++ decimal mapped
image_fault_text Device = codes "device fault"
image_fault_text Unclean = codes "unclean"
image_fault_text Memory = codes "no memory"
