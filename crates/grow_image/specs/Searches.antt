-- How a search for mapped addresses in leaves goes on, and why it ends without an answer.
use Rattle.std.specs.Prelude.{ℕ, ◌≡◌, ◌<◌, List, Option, Some, None}
use Rattle.blk_base.specs.declared.geometry.Geometry.{Geometry}
use Rattle.blk_base.specs.declared.place.Lba.{Lba}
use Rattle.blk_base.specs.declared.place.Mapping.{Mapping}
use Rattle.blk_base.specs.declared.place.Mapping.TheVariants.{Unmapped}
use Rattle.disk_model.specs.Seen.{Seen}
use Rattle.disk_model.specs.Trust.{Trust}
use Rattle.image_model.specs.declared.fault.ImageFault.{ImageFault}
use Rattle.image_model.specs.declared.fault.ImageFault.TheVariants.{Super, Window, Page, Counter, SharedPage, Counts, Device, Unclean, Memory}
use Rattle.page_codec.specs.Grammar.{IsSlot}
use Rattle.page_codec.specs.declared.forms.PageHead.{PageHead}
use Rattle.replay_map.specs.Reads.{ReadFails}
use Rattle.replay_map.specs.declared.links.Link.{Link}
use Rattle.grow_image.specs.NewAddresses.{HasUnreadable, IsShownBy, IsWithin, address_in}
use Rattle.grow_image.specs.declared.address_range.AddressRange.{AddressRange}

-- The address of a slot of a leaf is there where it is one of these and mapped, in this block.
abbrev pub IsMappedSlot : PageHead → AddressRange → List ℕ → ℕ → Option Lba → Type 0
IsMappedSlot head range block slot None = IsWithin range (address_in head.page slot) → IsSlot head block slot Unmapped
IsMappedSlot head range block slot (Some at) =
    (at.0 ≡ address_in head.page slot) × IsWithin range at.0 × ((mapping : Mapping) × IsSlot head block slot mapping × (mapping ≡ Unmapped → ⊥))

-- none of the first slots of a leaf is, in this block
abbrev pub AreUnmappedBelow : PageHead → AddressRange → List ℕ → ℕ → Type 0
AreUnmappedBelow head range block count = (slot : ℕ) → slot < count → IsWithin range (address_in head.page slot) → IsSlot head block slot Unmapped

-- why there is no answer: a read that failed, or a slot that has this fault in all blocks that have what was read
abbrev pub SearchFails : Trust → Geometry → AddressRange → List Link → Seen → Seen → ImageFault → Type 0
SearchFails trust g range leaves before now (Page at fault) = IsShownBy trust g before now (λ blocks. HasUnreadable g range leaves blocks at fault)
SearchFails trust g range leaves before now Device = ReadFails trust g before now
SearchFails trust g range leaves before now Memory = ⊥
SearchFails trust g range leaves before now (Super fault) = ⊥
SearchFails trust g range leaves before now (Window sequence) = ⊥
SearchFails trust g range leaves before now (Counter at point) = ⊥
SearchFails trust g range leaves before now (SharedPage at) = ⊥
SearchFails trust g range leaves before now (Counts at stored mapped) = ⊥
SearchFails trust g range leaves before now Unclean = ⊥
