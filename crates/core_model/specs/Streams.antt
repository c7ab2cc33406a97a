-- Streams: the items of one class that one zone sends to another, and their order.
use Rattle.std.specs.Prelude.{ℕ, ◌≡◌, List, [], ◌∷◌, ◌++◌, Some, slice_get}
use Rattle.data_vio.specs.declared.items.Item.{Item}
use Rattle.core_model.specs.declared.zones.Zone.{Zone}
use Rattle.plain_laws.specs.Sums.{Each}
use Rattle.core_model.specs.Trace.{Trace}

-- A stream goes from the zone of one number to that of another. An item counts for some things, or for none where it is not of
-- the class; what was sent and what was taken so far is read off the trace, the oldest first.
pub record Stream (X : Type 0) : Type 0 where
  pub from : ℕ
  pub to : ℕ
  pub counts : Item → List X
  pub sent : Trace → List X
  pub taken : Trace → List X

-- what all of these count for
abbrev pub counted : {X : Type 0} → (Item → List X) → List Item → List X
counted counts [] = []
counted counts (it ∷ items) = counts it ++ counted counts items

-- What was sent is what was taken, then what is in the inbox, then what is in the lane, in this order; and nobody else
-- sends such items there.
pub record Flows {X : Type 0} (stream : Stream X) (t : Trace) (zones : List Zone) : Type 0 where
  pub in_order : (receiver sender : Zone) (lane : List Item)
      → slice_get zones stream.to ≡ Some receiver → slice_get zones stream.from ≡ Some sender → slice_get sender.ports.outboxes stream.to ≡ Some lane
      → stream.sent t ≡ stream.taken t ++ (counted stream.counts receiver.ports.inbox ++ counted stream.counts lane)
  pub alone : Each (λ n z. (n ≡ stream.from → ⊥) → (lane : List Item) → slice_get z.ports.outboxes stream.to ≡ Some lane → counted stream.counts lane ≡ []) zones
