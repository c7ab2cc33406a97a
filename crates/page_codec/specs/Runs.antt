-- Slots of a page by runs of 28, and how far a page is read.
use Rattle.std.specs.Prelude.{ℕ, ◌≡◌, ◌+◌, ◌*◌, ◌<◌, ◌≤◌, List, length, take, drop, replicate, slice_index_or}
use Rattle.blk_base.specs.declared.sizes.TheConstants.{PAGE_SLOTS}
use Rattle.blk_base.specs.declared.place.Mapping.{Mapping}
use Rattle.blk_base.specs.declared.place.Mapping.TheVariants.{Unmapped}
use Rattle.page_codec.specs.declared.forms.PageHead.{PageHead}
use Rattle.page_codec.specs.Grammar.{IsSlot}

-- the 140 bytes of a run are zeros
abbrev pub HasZeros : ℕ → List ℕ → Type 0
HasZeros run block = take 140 (drop (36 + 140 * run) block) ≡ replicate 140 0

-- the slots in front are read, and those behind them are unmapped yet
pub record AreReadTo (head : PageHead) (block : List ℕ) (to : ℕ) (mappings : List Mapping) : Type 0 where
  pub size : length mappings ≡ PAGE_SLOTS
  pub front : (i : ℕ) → i < to → IsSlot head block i (slice_index_or mappings i Unmapped)
  pub rest : (i : ℕ) → to ≤ i → slice_index_or mappings i Unmapped ≡ Unmapped
