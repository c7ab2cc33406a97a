-- What becomes of a core by an event, by a list of them, and with the trace that they make, whatever happened before.
use Rattle.std.specs.Prelude.{ℕ, ◌≡◌, ◌≢◌, ◌<◌, ◌⊎◌, Some, List, [], ◌∷◌, ◌++◌, slice_get, slice_set}
use Rattle.disk_model.specs.Seen.{Seen}
use Rattle.disk_model.specs.Trust.{Trust}
use Rattle.data_vio.specs.declared.items.Item.{Item}
use Rattle.data_vio.specs.declared.sizes.Sizes.{Sizes}
use Rattle.core_model.specs.declared.zones.Zone.{Zone}
use Rattle.core_model.specs.Steps.{IsIdle, ZoneStep, Leads, step_limit, with_inbox, with_outboxes}
pub use Rattle.core_model.specs.Steps.{core_with}
use Rattle.core_model.specs.Trace.{Trace}
use Rattle.step_parts.specs.DeviceLog.{HasCalled}
use Rattle.vdo_core.specs.declared.stepped.Stepped.{Stepped}
use Rattle.vdo_core.specs.declared.stepped.Stepped.TheVariants.{Did, Idle}
use Rattle.vdo_core.specs.Moves.{MovesNothing}
use Rattle.vdo_core.specs.declared.events.Event.{Event}
use Rattle.vdo_core.specs.declared.events.Event.TheVariants as event

-- one zone steps
abbrev pub ZoneSteps : Trust → Sizes → Zone → Zone → Seen → Seen → Type 0
ZoneSteps trust sizes old new before after = (made : Trace) × ZoneStep sizes old new made × HasCalled trust before after made

-- a VDO at a moment: the zones of its core, and what contracts see of its device
pub record Vdo : Type 0 where
  pub zones : List Zone
  pub seen : Seen

-- the one with these zones, of whose device this is seen
abbrev pub vdo : List Zone → Seen → Vdo
vdo zones seen = record { zones = zones; seen = seen }

-- the zone of this number steps, all others stay, and this happens
pub record StepsAt (trust : Trust) (sizes : Sizes) (number : ℕ) (old new : Vdo) (made : Trace) : Type 0 where
  pub zone : Zone
  pub zone' : Zone
  pub had : slice_get old.zones number ≡ Some zone
  pub step : ZoneStep sizes zone zone' made
  pub called : HasCalled trust old.seen new.seen made
  pub has : new.zones ≡ slice_set old.zones number zone'

-- what one zone posted to another moves, all of it, to the tail of its inbox
pub record MovesAll (from to : ℕ) (old new : List Zone) : Type 0 where
  pub source : Zone
  pub target : Zone
  pub part : List Item
  pub apart : from ≢ to
  pub had_source : slice_get old from ≡ Some source
  pub had_target : slice_get old to ≡ Some target
  pub outbox : slice_get source.ports.outboxes to ≡ Some part
  pub has : new ≡ slice_set (slice_set old from (with_outboxes source (slice_set source.ports.outboxes to []))) to (with_inbox target (target.ports.inbox ++ part))

-- What a step or a move comes to: it was done, and there was work for it; or there was none, and nothing changed.
abbrev pub ComesTo : Type 0 → Type 0 → Type 0 → Stepped → Type 0
ComesTo done none same Did = done × (none → ⊥)
ComesTo done none same Idle = none × same

-- there is no work for an event: no zone of its number can step, or there is nothing to move
abbrev pub HasNoWork : Sizes → List Zone → Event → Type 0
HasNoWork sizes zones (event.Step number) = (z : Zone) → slice_get zones number ≡ Some z → IsIdle sizes z
HasNoWork sizes zones (event.Move from to) = MovesNothing zones from to

-- each zone may step once more
abbrev pub HaveStepsLeft : List Zone → Type 0
HaveStepsLeft zones = (n : ℕ) (z : Zone) → slice_get zones n ≡ Some z → z.steps < step_limit

-- an event: the zone steps, or all moves; or nothing happens, where there is no work for it
abbrev pub PlaysOne : Trust → Sizes → Event → Vdo → Vdo → Trace → Type 0
PlaysOne trust sizes (event.Step number) old new made =
    StepsAt trust sizes number old new made
    ⊎ (HasNoWork sizes old.zones (event.Step number) × (new ≡ old) × (made ≡ []))
PlaysOne trust sizes (event.Move from to) old new made =
    (MovesAll from to old.zones new.zones × (new.seen ≡ old.seen) × (made ≡ []))
    ⊎ (HasNoWork sizes old.zones (event.Move from to) × (new ≡ old) × (made ≡ []))

-- all of these, one after another, and what happens by them, that of a later one in front
abbrev pub Plays : Trust → Sizes → List Event → Vdo → Vdo → Trace → Type 0
Plays trust sizes [] old new made = (new ≡ old) × (made ≡ [])
Plays trust sizes (e ∷ events) old new made =
    (between : Vdo) × (first later : Trace) × PlaysOne trust sizes e old between first
    × Plays trust sizes events between new later × (made ≡ later ++ first)

-- events lead from one core to another
abbrev pub LeadsTo : Trust → Sizes → List Zone → List Zone → Seen → Seen → Type 0
LeadsTo trust sizes old new before after = (made : Trace) × ((t : Trace) → Leads sizes (core_with old t) (core_with new (made ++ t))) × HasCalled trust before after made
