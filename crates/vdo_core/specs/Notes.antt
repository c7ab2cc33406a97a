-- What a core knows of its zones' work without looking through them.
use Rattle.std.specs.Prelude.{ℕ, ◌≡◌, ◌≢◌, ◌<◌, Bool, true, false, Some, List, length, slice_get, slice_index_or}
use Rattle.data_vio.specs.declared.sizes.Sizes.{Sizes}
use Rattle.core_model.specs.declared.zones.Zone.{Zone}
use Rattle.core_model.specs.Steps.{IsIdle}
use Rattle.plain_laws.specs.Sums.{Each}
use Rattle.vdo_core.specs.Moves.{has_items}
use Rattle.vdo_core.specs.Plays.{HasNoWork}
use Rattle.core_model.specs.ZoneSets.{IsBelow, is_in}
use Rattle.vdo_core.specs.declared.events.Event.{Event}
use Rattle.vdo_core.specs.declared.events.Event.TheVariants as event
use Rattle.vdo_core.specs.declared.notes.WorkNotes.{WorkNotes}
use Rattle.vdo_core.specs.declared.numbers.TheConstants.{MOST_ZONES}

-- the zone that steps, or from which something moves: no other changes what it posted
abbrev pub sender_of : Event → ℕ
sender_of (event.Step number) = number
sender_of (event.Move from to) = from

-- the zone that steps, or to which something moves: no other has more work or less
abbrev pub worker_of : Event → ℕ
worker_of (event.Step number) = number
worker_of (event.Move from to) = to

-- a set has those of so many zones to which the zone of this number posted something that hasn't moved yet
pub record TellsPosts (count from set : ℕ) (z : Zone) : Type 0 where
  pub yes : (to : ℕ) → is_in set to ≡ true → (from ≢ to) × (to < count) × (has_items (slice_get z.ports.outboxes to) ≡ true)
  pub no : (to : ℕ) → is_in set to ≡ false → from ≢ to → to < count → has_items (slice_get z.ports.outboxes to) ≡ false

-- a flag that isn't set tells that there is no such zone
abbrev pub TellsNone : ℕ → ℕ → Bool → Zone → Type 0
TellsNone count from flag z = flag ≡ false → (to : ℕ) → from ≢ to → to < count → has_items (slice_get z.ports.outboxes to) ≡ false

-- a flag tells whether there is work for a step of a zone
pub record TellsWork (sizes : Sizes) (number : ℕ) (flag : Bool) (z : Zone) : Type 0 where
  pub yes : flag ≡ true → IsIdle sizes z → ⊥
  pub no : flag ≡ false → IsIdle sizes z

-- what is noted of each zone, by its number, tells this
abbrev pub IsTold : {F : Type 0} → (ℕ → F → Zone → Type 0) → (ℕ → F) → List Zone → Type 0
IsTold P noted zones = Each (λ n z. P n (noted n) z) zones

-- what was posted is known of each of these zones, in a core of so many
pub record KnowsPosts (count : ℕ) (receivers : List ℕ) (sent : ℕ) (zones : List Zone) : Type 0 where
  pub long : length receivers ≡ MOST_ZONES
  pub posts : IsTold (TellsPosts count) (λ n. slice_index_or receivers n 0) zones
  pub senders : IsTold (TellsNone count) (is_in sent) zones
  pub few : IsBelow count sent

-- and what work there is
pub record KnowsWork (count : ℕ) (sizes : Sizes) (works : ℕ) (zones : List Zone) : Type 0 where
  pub work : IsTold (TellsWork sizes) (is_in works) zones
  pub few : IsBelow count works

-- the notes are right of each zone of a core
pub record IsKnown (sizes : Sizes) (notes : WorkNotes) (zones : List Zone) : Type 0 where
  pub posts : KnowsPosts (length zones) notes.posted notes.senders zones
  pub work : KnowsWork (length zones) sizes notes.works zones

-- of each zone but that of this number a note tells what it told before
abbrev pub OthersStay : {F : Type 0} → (ℕ → F → Zone → Type 0) → ℕ → List Zone → List Zone → Type 0
OthersStay {F} P number old new =
    (n : ℕ) (z : Zone) → n ≢ number → slice_get new n ≡ Some z → (before : Zone) × (slice_get old n ≡ Some before) × ((noted : F) → P n noted before → P n noted z)

-- each zone but that of this number posted what it had before
pub record OtherPostsStay (count number : ℕ) (old new : List Zone) : Type 0 where
  pub posts : OthersStay (TellsPosts count) number old new
  pub senders : OthersStay (TellsNone count) number old new

-- a set has those zones by which these events are for which there is work
pub record IsSetOfWork (sizes : Sizes) (zones : List Zone) (e : ℕ → Event) (set : ℕ) : Type 0 where
  pub yes : (n : ℕ) → is_in set n ≡ true → HasNoWork sizes zones (e n) → ⊥
  pub no : (n : ℕ) → is_in set n ≡ false → HasNoWork sizes zones (e n)

-- a set has all zones from which there is something to move
pub record IsSetOfSenders (zones : List Zone) (set : ℕ) : Type 0 where
  pub few : IsBelow (length zones) set
  pub no : (sizes : Sizes) (from to : ℕ) → is_in set from ≡ false → HasNoWork sizes zones (event.Move from to)
