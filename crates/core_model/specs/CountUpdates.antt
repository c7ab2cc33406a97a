-- The updates of the counters of data blocks that entries give, in their order, and how far these were taken.
use Rattle.std.specs.Prelude.{ℕ, ◌≡◌, Bool, true, false, List, [], ◌∷◌, ◌++◌, filter, nat_eq}
use Rattle.blk_base.specs.declared.place.Mapping.{Mapping}
use Rattle.blk_base.specs.declared.place.Mapping.TheVariants.{At}
use Rattle.data_vio.specs.declared.logged.Logged.{Logged}
use Rattle.data_vio.specs.declared.logged.Logged.TheVariants.{Remaps, Makes}
use Rattle.data_vio.specs.declared.logged.Remapping.{Remapping}
use Rattle.data_vio.specs.declared.sizes.Sizes.{Sizes}
use Rattle.data_vio.specs.Zones.{physical_zone_of}
use Rattle.core_model.specs.Trace.{Trace, Adds, Removes, Strays, new_of}

-- one more mapping of the block of an entry; one less of the block that it replaces
pub data CountUpdate : Type 0 where
  Increment : Logged → CountUpdate
  Decrement : Remapping → CountUpdate

-- that of the new mapping, and that of the old one, where these have a block
abbrev pub increment_of : Logged → Mapping → List CountUpdate
increment_of e (At x) = Increment e ∷ []
increment_of e other = []

abbrev pub decrement_of : Remapping → Mapping → List CountUpdate
decrement_of e (At x) = Decrement e ∷ []
decrement_of e other = []

-- those of an entry: its increment comes first; a new page replaces nothing
abbrev pub updates_by : Logged → List CountUpdate
updates_by (Remaps e) = increment_of (Remaps e) e.new ++ decrement_of e e.old
updates_by (Makes p) = Increment (Makes p) ∷ []

-- those of entries, of which the newest stands first: the oldest update stands first
abbrev pub updates_of : List Logged → List CountUpdate
updates_of [] = []
updates_of (e ∷ older) = updates_of older ++ updates_by e

-- those that were taken, the oldest first; one that found 0 counts as taken
abbrev pub updates_taken : Trace → List CountUpdate
updates_taken [] = []
updates_taken (Adds e ∷ t) = updates_taken t ++ Increment e ∷ []
updates_taken (Removes e to ∷ t) = updates_taken t ++ Decrement e ∷ []
updates_taken (Strays e ∷ t) = updates_taken t ++ Decrement e ∷ []
updates_taken (other ∷ t) = updates_taken t

-- the mapping that an update counts
abbrev pub mapping_of : CountUpdate → Mapping
mapping_of (Increment e) = new_of e
mapping_of (Decrement e) = e.old

-- whether a mapping is counted in a physical zone
abbrev pub is_counted_in : Sizes → ℕ → Mapping → Bool
is_counted_in sizes zone (At x) = nat_eq (physical_zone_of sizes x) zone
is_counted_in sizes zone other = false

-- of updates, and of entries whose decrements these are, those of a physical zone
abbrev pub updates_in : Sizes → ℕ → List CountUpdate → List CountUpdate
updates_in sizes zone updates = filter (λ update. is_counted_in sizes zone (mapping_of update)) updates

abbrev pub replaced_in : Sizes → ℕ → List Remapping → List Remapping
replaced_in sizes zone es = filter (λ e. is_counted_in sizes zone e.old) es

-- of the updates of a physical zone, these entries give this one next
pub record IsNextUpdate (sizes : Sizes) (es : List Logged) (t : Trace) (update : CountUpdate) : Type 0 where
  pub zone : ℕ
  pub own : is_counted_in sizes zone (mapping_of update) ≡ true
  pub rest : List CountUpdate
  pub next : updates_in sizes zone (updates_of es) ≡ updates_in sizes zone (updates_taken t) ++ update ∷ rest
