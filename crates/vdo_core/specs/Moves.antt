-- What there is to move between zones.
use Rattle.std.specs.Prelude.{ℕ, ◌≡◌, ◌≢◌, true, false, Some, List, slice_get}
use Rattle.core_model.specs.declared.zones.Zone.{Zone}
pub use Rattle.core_model.specs.PortsData.{has_items}

-- there is something to move from one zone to another
pub record MovesSome (zones : List Zone) (from to : ℕ) : Type 0 where
  pub source : Zone
  pub target : Zone
  pub apart : from ≢ to
  pub had_source : slice_get zones from ≡ Some source
  pub had_target : slice_get zones to ≡ Some target
  pub posted : has_items (slice_get source.ports.outboxes to) ≡ true

-- There is nothing to move from one zone to another: they are one zone, or one isn't there, or the outbox has no items.
abbrev pub MovesNothing : List Zone → ℕ → ℕ → Type 0
MovesNothing zones from to =
    (source target : Zone) → from ≢ to → slice_get zones from ≡ Some source → slice_get zones to ≡ Some target → has_items (slice_get source.ports.outboxes to) ≡ false
