-- The values that addresses have on an image whose map was read.
use Rattle.std.specs.Prelude.{ℕ, ◌≡◌, Option, Some, None, List, Contains}
use Rattle.blk_base.specs.Pages.{leaf_of}
use Rattle.blk_base.specs.declared.place.Lba.{Lba}
use Rattle.blk_base.specs.declared.place.PageId.{PageId}
use Rattle.blk_base.specs.declared.place.Pbn.{Pbn}
use Rattle.command_text.specs.declared.crashes.AddressValue.{AddressValue}
use Rattle.disk_model.specs.Causes.{Rose}
use Rattle.disk_model.specs.Seen.{Seen}
use Rattle.image_model.specs.Maps.{Image, value_of}
use Rattle.replay_map.specs.declared.links.Link.{Link}
use Rattle.crash_images.specs.declared.fault.ValueFault.{ValueFault}
use Rattle.crash_images.specs.declared.fault.ValueFault.TheVariants.{Device, Page, Memory}
use Rattle.crash_images.specs.declared.maps.ImageMap.{ImageMap}

-- By the links.

-- a page stands at this block, by one of these links; or none of them is of it
abbrev pub LinkTo : List Link → PageId → Option Pbn → Type 0
LinkTo links page (Some at) = Contains links (record { page = page; at = at })
LinkTo links page None = (other : Link) → Contains links other → other.page ≡ page → ⊥

-- Of an image.

-- an address with its value
abbrev pub value_in : Image → Lba → AddressValue
value_in image at = record { at = at; block = value_of image at.0 }

-- the address of a value
abbrev pub address_of : AddressValue → Lba
address_of value = value.at

-- Why a value wasn't read.

-- no page of the image is damaged
abbrev pub IsNoDamage : ValueFault → Type 0
IsNoDamage Device = Unit {0}
IsNoDamage (Page at fault) = ⊥
IsNoDamage Memory = Unit {0}

-- of one address: the device's count of faults rose; or its leaf is the page at this block
abbrev pub IsRefused : ImageMap → ℕ → Seen → Seen → ValueFault → Type 0
IsRefused map address before now Device = Rose before.faults now.faults
IsRefused map address before now (Page at fault) = LinkTo map.pages.links.items (leaf_of address) (Some at)
IsRefused map address before now Memory = ⊥

-- of these addresses: one of them is refused so, or there was no memory
abbrev pub AreRefused : ImageMap → List Lba → Seen → Seen → ValueFault → Type 0
AreRefused map addresses before now Device = Rose before.faults now.faults
AreRefused map addresses before now (Page at fault) = (address : Lba) × Contains addresses address × LinkTo map.pages.links.items (leaf_of address.0) (Some at)
AreRefused map addresses before now Memory = Unit {0}
