-- A page's block into whose slots mappings are put.
use Rattle.std.specs.Prelude.{ℕ, ◌≡◌, ◌<◌, List, length, take, Some, None, IsSome}
use Rattle.blk_base.specs.declared.place.Mapping.{Mapping}
use Rattle.blk_base.specs.declared.place.PageId.{PageId}
use Rattle.blk_base.specs.declared.sizes.TheConstants.{PAGE_SLOTS}
use Rattle.byte_fields.specs.Mappings.{mapping_bytes}
use Rattle.page_codec.specs.Grammar.{slot_bytes}
use Rattle.replay_map.specs.Changes.{changed}
use Rattle.replay_map.specs.declared.changes.SlotId.{SlotId}

-- this mapping was put into this slot, and all else is as it was
pub record IsSlotPut (slot : ℕ) (mapping : Mapping) (old new : List ℕ) : Type 0 where
  pub size : length new ≡ length old
  pub head : take 36 new ≡ take 36 old
  pub put : slot_bytes slot new ≡ mapping_bytes mapping
  pub others : (other : ℕ) → other < PAGE_SLOTS → (other ≡ slot → ⊥) → slot_bytes other new ≡ slot_bytes other old

-- each of the first slots of this page has what the changes put there, and all else is as it was
pub record IsPatched (changes : List (SlotId × Mapping)) (page : PageId) (count : ℕ) (old new : List ℕ) : Type 0 where
  pub size : length new ≡ length old
  pub head : take 36 new ≡ take 36 old
  pub put : (slot : ℕ) (mapping : Mapping) → slot < count → slot < PAGE_SLOTS → changed changes page slot ≡ Some mapping → slot_bytes slot new ≡ mapping_bytes mapping
  pub others : (slot : ℕ) → slot < PAGE_SLOTS → (slot < count → changed changes page slot ≡ None) → slot_bytes slot new ≡ slot_bytes slot old

-- the changes put something into one of its slots
abbrev pub HasChange : List (SlotId × Mapping) → PageId → Type 0
HasChange changes page = (slot : ℕ) × (slot < PAGE_SLOTS) × IsSome (changed changes page slot)
