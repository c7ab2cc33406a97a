-- What a page of the block map says, with what the window puts into its slots.
use Rattle.std.specs.Prelude.{ℕ, ◌≡◌, ◌<◌, ◌⊎◌, List, Some, None, slice_index_or}
use Rattle.blk_base.specs.declared.place.Mapping.{Mapping}
use Rattle.blk_base.specs.declared.place.Mapping.TheVariants.{Unmapped}
use Rattle.blk_base.specs.declared.place.PageId.{PageId}
use Rattle.blk_base.specs.declared.sizes.TheConstants.{PAGE_SLOTS}
use Rattle.disk_model.specs.Log.{block_at}
use Rattle.image_model.specs.Maps.{Image, IsGoodPage, says}
use Rattle.page_codec.specs.Grammar.{HasHead, IsSlot, IsSlotFault}
use Rattle.page_codec.specs.declared.fault.PageFault.{PageFault}
use Rattle.page_codec.specs.declared.fault.PageFault.TheVariants.{Header}
use Rattle.page_codec.specs.declared.forms.PageHead.{PageHead}
use Rattle.replay_map.specs.Changes.{AreNewest, changed}
use Rattle.replay_map.specs.declared.changes.SlotId.{SlotId}

-- By an image.

-- in this image this block stands where the page does, and these are the changes of its window
pub record Stands (image : Image) (head : PageHead) (block : List ℕ) (changes : List (SlotId × Mapping)) : Type 0 where
  pub geometry : image.geometry ≡ head.geometry
  pub there : block_at image.blocks head.at.0 ≡ block
  pub newest : AreNewest image.window changes

-- the page can be read, and these are the mappings that its slots say in the image
pub record IsReadAs (image : Image) (head : PageHead) (mappings : List Mapping) : Type 0 where
  pub good : IsGoodPage image head.page head.at
  pub each : (slot : ℕ) → slot < PAGE_SLOTS → slice_index_or mappings slot Unmapped ≡ says image head.page head.at slot

-- By its block and the changes alone.

-- a slot says this mapping: that of the changes, or else the one that stands in the block
abbrev pub SaysSlot : PageHead → List ℕ → List (SlotId × Mapping) → ℕ → Mapping → Type 0
SaysSlot head block changes slot mapping =
    (changed changes head.page slot ≡ Some mapping) ⊎ ((changed changes head.page slot ≡ None) × IsSlot head block slot mapping)

-- each of the first slots says the mapping that stands in this list
abbrev pub AreSaid : PageHead → List ℕ → List (SlotId × Mapping) → ℕ → List Mapping → Type 0
AreSaid head block changes count mappings = (i : ℕ) → i < count → SaysSlot head block changes i (slice_index_or mappings i Unmapped)

-- each slot of the page has the mapping that the changes put there, or else the one that it had
pub record ArePut (changes : List (SlotId × Mapping)) (page : PageId) (old new : List Mapping) : Type 0 where
  pub put : (slot : ℕ) (mapping : Mapping) → slot < PAGE_SLOTS → changed changes page slot ≡ Some mapping → slice_index_or new slot Unmapped ≡ mapping
  pub others : (slot : ℕ) → slot < PAGE_SLOTS → changed changes page slot ≡ None → slice_index_or new slot Unmapped ≡ slice_index_or old slot Unmapped

-- a slot that the changes leave has this fault
abbrev pub HasSlotFault : PageHead → List ℕ → List (SlotId × Mapping) → ℕ → PageFault → Type 0
HasSlotFault head block changes slot fault = (changed changes head.page slot ≡ None) × IsSlotFault head block slot fault

-- the page begins otherwise; or its least slot that says nothing has this fault
abbrev pub IsRefused : PageHead → List ℕ → List (SlotId × Mapping) → PageFault → Type 0
IsRefused head block changes fault =
    ((fault ≡ Header) × (HasHead head block → ⊥))
    ⊎ ((slot : ℕ) × (slot < PAGE_SLOTS) × ((i : ℕ) → i < slot → (mapping : Mapping) × SaysSlot head block changes i mapping)
    × HasSlotFault head block changes slot fault)
