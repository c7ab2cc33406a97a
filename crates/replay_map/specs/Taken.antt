-- What one page adds to what was found.
use Rattle.std.specs.Prelude.{ℕ, ◌≡◌, ◌⊎◌, ◌+◌, ◌<◌, ◌↔◌, List, [], ◌∷◌, Option, Some, None, Contains, slice_index_or}
use Rattle.blk_base.specs.declared.place.Mapping.{Mapping}
use Rattle.blk_base.specs.declared.place.Mapping.TheVariants.{Unmapped, Zero, At}
use Rattle.blk_base.specs.declared.place.PageId.{PageId}
use Rattle.blk_base.specs.declared.place.Pbn.{Pbn}
use Rattle.image_model.specs.Counts.{mapped_below}
use Rattle.image_model.specs.Maps.{Image, page_at}
use Rattle.blk_base.specs.Pages.{above}
use Rattle.replay_map.specs.Changes.{changed}
use Rattle.replay_map.specs.Replayed.{times}
use Rattle.replay_map.specs.declared.changes.SlotId.{SlotId}
use Rattle.replay_map.specs.declared.found.SlotChange.{SlotChange}
use Rattle.replay_map.specs.declared.links.Link.{Link}

-- a list got these
abbrev pub Gained : {T : Type 0} → List T → List T → (T → Type 0) → Type 0
Gained {T} old new These = (x : T) → Contains new x ↔ (Contains old x ⊎ These x)

-- a linked page just below this one, with its block
abbrev pub AreBelow : Image → PageId → Link → Type 0
AreBelow image page link = (above link.page ≡ page) × (page_at image link.page ≡ Some link.at)

-- a list of blocks got each block as often as the first slots map to it
abbrev pub GainedMapped : List Mapping → ℕ → List Pbn → List Pbn → Type 0
GainedMapped mappings count old new =
    (block : Pbn) → times block new ≡ times block old + mapped_below (λ slot. slice_index_or mappings slot Unmapped) block count

-- one of the first slots of this page, with what the changes put there
abbrev pub AreChanges : List (SlotId × Mapping) → PageId → ℕ → SlotChange → Type 0
AreChanges changes page count change = (change.page ≡ page) × (change.slot < count) × (changed changes page change.slot ≡ Some change.mapping)

-- the block of a mapping, if it has one
abbrev pub block_in : Mapping → List Pbn
block_in Unmapped = []
block_in Zero = []
block_in (At block) = block ∷ []

-- a slot with what is put there, if anything is
abbrev pub change_in : PageId → ℕ → Option Mapping → List SlotChange
change_in page slot None = []
change_in page slot (Some mapping) = record { page = page; slot = slot; mapping = mapping } ∷ []
