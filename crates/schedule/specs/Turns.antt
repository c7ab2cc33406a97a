-- The turns of a core: which event each of them takes, and what becomes of the core.
use Rattle.std.specs.Prelude.{ℕ, zero, suc, ◌≡◌, ◌⊎◌, ◌+◌, ◌-◌, ◌*◌, ◌/◌, ◌%◌, ltb, if◌then◌else◌, Some, List, [], ◌∷◌, ◌++◌, length, slice_get}
use Rattle.disk_model.specs.Numbers.{next_state, number_in}
use Rattle.disk_model.specs.Seen.{Seen}
use Rattle.disk_model.specs.Trust.{Trust}
use Rattle.data_vio.specs.declared.sizes.Sizes.{Sizes}
use Rattle.core_model.specs.declared.zones.Zone.{Zone}
use Rattle.core_model.specs.Trace.{Trace}
use Rattle.vdo_core.specs.Done.{IsDone}
use Rattle.vdo_core.specs.Plays.{HasNoWork, PlaysOne, Vdo}
use Rattle.vdo_core.specs.declared.events.Event.{Event}
use Rattle.vdo_core.specs.declared.events.Event.TheVariants as event

-- how many events a core of so many zones has
abbrev pub event_count : ℕ → ℕ
event_count zones = zones + zones * zones

-- the event of a number, from 0: first the steps of the zones, then the moves by sender and then by receiver
abbrev pub event_of : ℕ → ℕ → Event
event_of zones k = if ltb k zones then event.Step k else event.Move ((k - zones) / zones) ((k - zones) % zones)

-- of the first so many events those for which there is work, in their order
abbrev pub AreReady : Sizes → List Zone → ℕ → List Event → Type 0
AreReady sizes zones zero ready = ready ≡ []
AreReady sizes zones (suc k) ready = (HasNoWork sizes zones (event_of (length zones) k) × AreReady sizes zones k ready)
    ⊎ ((front : List Event) × (ready ≡ front ++ event_of (length zones) k ∷ []) × (HasNoWork sizes zones (event_of (length zones) k) → ⊥) × AreReady sizes zones k front)

-- A turn at this state of the row of numbers takes this event: of all those for which there is work the one at the place that
-- the next number gives, modulo how many they are.
pub record IsTurn (sizes : Sizes) (zones : List Zone) (state : ℕ) (e : Event) : Type 0 where
  pub ready : List Event
  pub are_ready : AreReady sizes zones (event_count (length zones)) ready
  pub is : slice_get ready (number_in (next_state state) % length ready) ≡ Some e

-- a VDO that a schedule drives, at a moment: with the state of the row of numbers
pub record Driving : Type 0 where
  pub state : ℕ
  pub vdo : Vdo

-- the one at this state, with these zones, of whose device this is seen
abbrev pub driving : ℕ → List Zone → Seen → Driving
driving state zones seen = record { state = state; vdo = record { zones = zones; seen = seen } }

-- turns one after another, each of a core that isn't done and with the next state of the row, and what happens by them, that
-- of a later one in front
abbrev pub Drives : Trust → Sizes → List Event → Driving → Driving → Trace → Type 0
Drives trust sizes [] old new made = (new ≡ old) × (made ≡ [])
Drives trust sizes (e ∷ events) old new made =
    (between : Vdo) × (first later : Trace) × (IsDone old.vdo.zones → ⊥) × IsTurn sizes old.vdo.zones old.state e
    × PlaysOne trust sizes e old.vdo between first
    × Drives trust sizes events (record { state = next_state old.state; vdo = between }) new later × (made ≡ later ++ first)

-- events one after another, up to the first before which the core is done, and what happens by them
abbrev pub PlaysUntilDone : Trust → Sizes → List Event → Vdo → Vdo → Trace → Type 0
PlaysUntilDone trust sizes [] old new made = (new ≡ old) × (made ≡ [])
PlaysUntilDone trust sizes (e ∷ events) old new made =
    (IsDone old.zones × (new ≡ old) × (made ≡ []))
    ⊎ ((between : Vdo) × (first later : Trace) × (IsDone old.zones → ⊥) × PlaysOne trust sizes e old between first
    × PlaysUntilDone trust sizes events between new later × (made ≡ later ++ first))
