-- For each definition of what an image shows some cases that it accepts, and some that break one clause alone.
use Rattle.std.proofs.Common.{◌≡◌, ◌+◌, true, [], Err, inl, refl, arith}
use Rattle.disk_model.specs.Memory.{Memory}
use Rattle.disk_model.specs.Seen.{Seen}
use Rattle.disk_model.specs.Trust.{trust_of}
use Rattle.image_model.proofs.CountLaws.{none_in_nothing}
use Rattle.image_model.specs.declared.fault.ImageFault.{ImageFault}
use Rattle.image_model.specs.declared.fault.ImageFault.TheVariants as image
use Rattle.image_layout.specs.declared.fault.SuperFault.TheVariants.{NotAnImage}
use Rattle.page_codec.specs.declared.fault.PageFault.TheVariants.{Header}
use Rattle.blk_base.specs.Pages.{leaf_of}
use Rattle.blk_base.specs.declared.place.Pbn.{Pbn}
use Rattle.rebuild.specs.Recoveries.{IsRecovery}
use Rattle.crash_images.specs.Shows.{IsNoPage, IsPickRefused, PickFails, ShowsNothing, ValueFails, image_fault_of, pick_fault_of}
use Rattle.crash_images.specs.declared.fault.ValueFault.TheVariants.{Device, Page, Memory as NoMemory}
use Rattle.crash_images.specs.declared.maps.ImageMap.{ImageMap}

-- image_fault_of: the same
device_fault : image_fault_of Device ≡ image.Device
device_fault = refl

page_fault : (at : Pbn) → image_fault_of (Page at Header) ≡ image.Page at Header
page_fault at = refl

memory_fault : image_fault_of NoMemory ≡ image.Memory
memory_fault = refl

-- ValueFails: no fault of an image but that of a page
module _ (found : ImageMap) (behind : Seen) where
  without_memory : ValueFails found behind behind image.Memory
  without_memory = tt

  by_a_read : ValueFails found behind (record behind { faults = behind.faults + 1 }) image.Device
  by_a_read = omega arith

  not_without_a_fault : behind.faults ≡ 0 → ValueFails found behind behind image.Device → ⊥
  not_without_a_fault none rose = omega (arith, none, rose)

  not_of_a_page_without_links : (at : Pbn) → found.pages.links.items ≡ [] → ValueFails found behind behind (image.Page at Header) → ⊥
  not_of_a_page_without_links at none fails = none_in_nothing (record { page = leaf_of fails.0; at = at }) (rw none at fails.1)

  never_of_the_superblock : ValueFails found behind behind (image.Super NotAnImage) → ⊥
  never_of_the_superblock fails = fails

-- IsNoPage: any fault but that of a page
no_page : IsNoPage image.Device
no_page = tt

a_page : (at : Pbn) → IsNoPage (image.Page at Header) → ⊥
a_page at none = none

-- ShowsNothing: it wasn't recovered
by_recovery : (before now : Seen) (why : ImageFault) → IsRecovery (trust_of true true) before now (Err why) → ShowsNothing (trust_of true true) before now why
by_recovery before now why is = inl is

-- pick_fault_of: that of a failed call is want of memory
of_a_call : pick_fault_of image.Device ≡ image.Memory
of_a_call = refl

of_an_image : pick_fault_of (image.Super NotAnImage) ≡ image.Super NotAnImage
of_an_image = refl

-- PickFails: never of a failed call; for want of memory at any time; else the picked image is refused
module _ (disk : Memory) where
  lacks_memory : PickFails disk 0 image.Memory
  lacks_memory = tt

  never_of_a_call : PickFails disk 0 image.Device → ⊥
  never_of_a_call fails = fails

  is_refused : IsPickRefused disk 0 (image.Super NotAnImage) → PickFails disk 0 (image.Super NotAnImage)
  is_refused refused = refused
