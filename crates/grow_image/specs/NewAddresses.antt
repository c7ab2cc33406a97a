-- The addresses that an image doesn't have yet, and the leaves in which they have slots.
use Rattle.std.specs.Prelude.{ℕ, ◌≡◌, ◌⊎◌, ◌+◌, ◌*◌, ◌<◌, ◌≤◌, List, Option, Some, None, Contains, slice_index_or}
use Rattle.blk_base.specs.declared.geometry.Geometry.{Geometry}
use Rattle.blk_base.specs.declared.opened.OpenedPage.{OpenedPage}
use Rattle.blk_base.specs.declared.place.Lba.{Lba}
use Rattle.blk_base.specs.declared.place.Mapping.{Mapping}
use Rattle.blk_base.specs.declared.place.Mapping.TheVariants.{Unmapped, At}
use Rattle.blk_base.specs.declared.place.PageId.{PageId}
use Rattle.blk_base.specs.declared.place.Pbn.{Pbn}
use Rattle.blk_base.specs.declared.sizes.TheConstants.{PAGE_SLOTS, TREES}
use Rattle.blk_base.specs.Pages.{above, slot_of, leaf_of, slot_of_address}
use Rattle.block_map_tree.specs.OpenedTree.{IsLed}
use Rattle.disk_model.specs.Log.{Blocks, block_at}
use Rattle.disk_model.specs.Seen.{Seen}
use Rattle.disk_model.specs.Trust.{Trust}
use Rattle.page_codec.specs.Grammar.{IsSlot, IsSlotFault}
use Rattle.page_codec.specs.declared.fault.PageFault.{PageFault}
use Rattle.page_codec.specs.declared.forms.PageHead.{PageHead}
use Rattle.replay_map.specs.Reads.{BlocksRead, Reading, Shows}
use Rattle.replay_map.specs.declared.links.Link.{Link}
use Rattle.grow_image.specs.declared.address_range.AddressRange.{AddressRange}

-- Addresses.

-- it is one of them
abbrev pub IsWithin : AddressRange → ℕ → Type 0
IsWithin range address = (range.first ≤ address) × (address < range.end)

-- that of a slot of a leaf
abbrev pub address_in : PageId → ℕ → ℕ
address_in leaf slot = (leaf.index * TREES + leaf.tree) * PAGE_SLOTS + slot

-- it comes before this one, if there is one
abbrev pub IsBefore : ℕ → Option Lba → Type 0
IsBefore address None = Unit {0}
IsBefore address (Some at) = address < at.0

-- Leaves.

-- one of these pages leads to this leaf of one of the trees
pub record IsLeafBelow (pages : List OpenedPage) (leaf : Link) : Type 0 where
  pub level : leaf.page.level ≡ 0
  pub tree : leaf.page.tree < TREES
  pub led : IsLed pages leaf.page leaf.at

-- leaves to which these pages lead, and all of those that have some of the addresses
pub record AreNewLeaves (range : AddressRange) (pages : List OpenedPage) (leaves : List Link) : Type 0 where
  pub each : (leaf : Link) → Contains leaves leaf → IsLeafBelow pages leaf
  pub every : (address : ℕ) (at : Pbn) → IsWithin range address → IsLed pages (leaf_of address) at → Contains leaves (record { page = leaf_of address; at = at })

-- a slot of a page leads to this leaf of one of the trees
pub record IsBelowSlot (page : OpenedPage) (slot : ℕ) (leaf : Link) : Type 0 where
  pub level : leaf.page.level ≡ 0
  pub tree : leaf.page.tree < TREES
  pub named : page.page ≡ above leaf.page
  pub slot_is : slot_of leaf.page ≡ slot
  pub leads : slice_index_or page.mappings slot Unmapped ≡ At leaf.at

-- the leaf to which a slot leads was added, where it has some of the addresses, and no other one
pub record AddsSlot (range : AddressRange) (page : OpenedPage) (slot : ℕ) (old new : List Link) : Type 0 where
  pub kept : (leaf : Link) → Contains old leaf → Contains new leaf
  pub each : (leaf : Link) → Contains new leaf → Contains old leaf ⊎ IsBelowSlot page slot leaf
  pub every : (address : ℕ) (at : Pbn) → IsWithin range address → IsBelowSlot page slot (record { page = leaf_of address; at = at })
      → Contains new (record { page = leaf_of address; at = at })

-- those were to which the first slots lead
pub record AreAdded (range : AddressRange) (page : OpenedPage) (count : ℕ) (old new : List Link) : Type 0 where
  pub kept : (leaf : Link) → Contains old leaf → Contains new leaf
  pub each : (leaf : Link) → Contains new leaf → Contains old leaf ⊎ ((slot : ℕ) × (slot < count) × IsBelowSlot page slot leaf)
  pub every : (address : ℕ) (at : Pbn) (slot : ℕ) → slot < count → IsWithin range address → IsBelowSlot page slot (record { page = leaf_of address; at = at })
      → Contains new (record { page = leaf_of address; at = at })

-- What stands in them.

-- which page it is, for the format of pages
abbrev pub leaf_head : Geometry → Link → PageHead
leaf_head g leaf = record { geometry = g; page = leaf.page; at = leaf.at }

-- the slot of one of these addresses is mapped, in this block of the leaf
pub record IsMappedOf (head : PageHead) (range : AddressRange) (block : List ℕ) (address : ℕ) : Type 0 where
  pub within : IsWithin range address
  pub own : leaf_of address ≡ head.page
  pub mapping : Mapping
  pub says : IsSlot head block (slot_of_address address) mapping
  pub mapped : mapping ≡ Unmapped → ⊥

-- the first of these addresses that is mapped, in this block of the leaf: so before it all are unmapped
pub record IsFirstMapped (head : PageHead) (range : AddressRange) (block : List ℕ) (first : Option Lba) : Type 0 where
  pub found : (at : Lba) → first ≡ Some at → IsMappedOf head range block at.0
  pub before : (address : ℕ) → leaf_of address ≡ head.page → IsWithin range address → IsBefore address first → IsSlot head block (slot_of_address address) Unmapped

-- the slot of one of these addresses has this fault
pub record IsUnreadable (head : PageHead) (range : AddressRange) (block : List ℕ) (fault : PageFault) : Type 0 where
  pub address : ℕ
  pub within : IsWithin range address
  pub own : leaf_of address ≡ head.page
  pub fault_is : IsSlotFault head block (slot_of_address address) fault

-- one of these addresses is mapped, in one of these leaves
pub record IsMappedIn (g : Geometry) (range : AddressRange) (leaves : List Link) (blocks : Blocks) (address : ℕ) : Type 0 where
  pub leaf : Link
  pub listed : Contains leaves leaf
  pub is : IsMappedOf (leaf_head g leaf) range (block_at blocks leaf.at.0) address

-- the least of these addresses that is mapped, in these leaves
pub record IsLeastMapped (g : Geometry) (range : AddressRange) (leaves : List Link) (blocks : Blocks) (least : Option Lba) : Type 0 where
  pub found : (at : Lba) → least ≡ Some at → IsMappedIn g range leaves blocks at.0
  pub before : (leaf : Link) (address : ℕ) → Contains leaves leaf → leaf_of address ≡ leaf.page → IsWithin range address → IsBefore address least
      → IsSlot (leaf_head g leaf) (block_at blocks leaf.at.0) (slot_of_address address) Unmapped

-- a slot of one of these leaves has this fault
abbrev pub HasUnreadable : Geometry → AddressRange → List Link → Blocks → Pbn → PageFault → Type 0
HasUnreadable g range leaves blocks at fault =
    (leaf : Link) × Contains leaves leaf × (leaf.at ≡ at) × IsUnreadable (leaf_head g leaf) range (block_at blocks leaf.at.0) fault

-- By the reads.

-- blocks were read, and this holds of all that have what was read
abbrev pub IsShownBy : Trust → Geometry → Seen → Seen → (Blocks → Type 0) → Type 0
IsShownBy trust g before now Says = (reads : List Reading) × BlocksRead trust g before now reads × ((blocks : Blocks) → Shows blocks reads → Says blocks)
