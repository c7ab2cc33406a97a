-- When a block is a page of the block map, and what is wrong with one that isn't.
use Rattle.std.specs.Prelude.{ℕ, ◌≡◌, ◌+◌, ◌*◌, ◌%◌, ◌<◌, ◌≤◌, ◌^◌, ◌⊎◌, List, length, take, drop, All}
use Rattle.blk_base.specs.declared.sizes.TheConstants.{PAGE_SLOTS}
use Rattle.blk_base.specs.declared.geometry.Geometry.{Geometry}
use Rattle.blk_base.specs.declared.place.Mapping.{Mapping}
use Rattle.blk_base.specs.declared.place.Mapping.TheVariants.{Unmapped, Zero, At}
use Rattle.blk_base.specs.Regions.{IsDataBlock}
use Rattle.blk_base.specs.Sectors.{sector}
use Rattle.byte_fields.specs.Fields.{number_at}
use Rattle.page_codec.specs.declared.forms.PageHead.{PageHead}
use Rattle.page_codec.specs.declared.fault.PageFault.{PageFault}
use Rattle.page_codec.specs.declared.fault.PageFault.TheVariants.{Header, Compressed, OutOfRange}
use Rattle.byte_fields.specs.Mappings.{mapping_bytes}
use Rattle.page_codec.specs.PageBytes.{head_bytes, page_bytes}

-- what a page of a level can hold: zeros only in a leaf, and only data blocks
abbrev pub HoldsMapping : Geometry → ℕ → Mapping → Type 0
HoldsMapping g level Unmapped = Unit {0}
HoldsMapping g level Zero = level ≡ 0
HoldsMapping g level (At block) = IsDataBlock g block.0 × (block.0 < 2 ^ 32)

-- mappings that a page of a level can hold, one for each slot
pub record AreHeld (g : Geometry) (level : ℕ) (mappings : List Mapping) : Type 0 where
  pub count : length mappings ≡ PAGE_SLOTS
  pub each : All (HoldsMapping g level) mappings

-- the block is this page, with these mappings: it is spelled so, and holds what a page can hold
pub record IsPage (head : PageHead) (block : List ℕ) (mappings : List Mapping) : Type 0 where
  pub spelled : block ≡ page_bytes head mappings
  pub held : AreHeld head.geometry head.page.level mappings

-- the numbers of a head are within their types
pub record IsHead (head : PageHead) : Type 0 where
  pub nonce : head.geometry.nonce < 2 ^ 64
  pub at : head.at.0 < 2 ^ 32
  pub page : (head.page.tree < 2 ^ 8) × (head.page.level < 2 ^ 8) × (head.page.index < 2 ^ 32)

-- the block begins as this page does
abbrev pub HasHead : PageHead → List ℕ → Type 0
HasHead head block = take 36 block ≡ head_bytes head

-- the 5 bytes of a slot
abbrev pub slot_bytes : ℕ → List ℕ → List ℕ
slot_bytes slot block = take 5 (drop (36 + 5 * slot) block)

-- a slot of this page says this mapping, whatever the others say
pub record IsSlot (head : PageHead) (block : List ℕ) (slot : ℕ) (mapping : Mapping) : Type 0 where
  pub headed : HasHead head block
  pub spelled : slot_bytes slot block ≡ mapping_bytes mapping
  pub held : HoldsMapping head.geometry head.page.level mapping

-- its state, the low half of its first byte
abbrev pub state_in : ℕ → List ℕ → ℕ
state_in slot block = number_at 1 (36 + 5 * slot) block % 16

-- Why a slot says no mapping: the block begins otherwise, or else the slot's state is above 1, or else its bytes are
-- those of no mapping that the page can hold.
abbrev pub IsSlotFault : PageHead → List ℕ → ℕ → PageFault → Type 0
IsSlotFault head block slot Header = HasHead head block → ⊥
IsSlotFault head block slot (Compressed named) = HasHead head block × (named ≡ slot) × (2 ≤ state_in slot block)
IsSlotFault head block slot (OutOfRange named) =
    HasHead head block × (named ≡ slot) × (state_in slot block < 2) × ((mapping : Mapping) → IsSlot head block slot mapping → ⊥)

-- why a block isn't this page: the fault of its least slot that says no mapping
pub record IsPageFault (head : PageHead) (block : List ℕ) (fault : PageFault) : Type 0 where
  pub slot : ℕ
  pub inside : slot < PAGE_SLOTS
  pub before : (i : ℕ) → i < slot → (mapping : Mapping) × IsSlot head block i mapping
  pub of_slot : IsSlotFault head block slot fault

-- a block after a stop within its write: each sector is as before or as it was to be
abbrev pub IsTorn : List ℕ → List ℕ → List ℕ → Type 0
IsTorn old new block = (i : ℕ) → i < 8 → (sector i block ≡ sector i old) ⊎ (sector i block ≡ sector i new)

-- each sector that has a byte of the slot is that of this page
abbrev pub IsFrom : List ℕ → List ℕ → ℕ → Type 0
IsFrom page block slot = (i : ℕ) → 512 * i < 41 + 5 * slot → 36 + 5 * slot < 512 * (i + 1) → sector i block ≡ sector i page
