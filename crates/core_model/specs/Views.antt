-- The zones of threads: each zone by what its thread knows, and what lies between two zones in a lane.
use Rattle.std.specs.Prelude.{ℕ, ◌≡◌, ◌≢◌, Some, List, [], ◌∷◌, ◌++◌, slice_get, slice_set}
use Rattle.std.specs.List.{AllByRecursion}
use Rattle.data_vio.specs.declared.items.Item.{Item}
use Rattle.core_model.specs.declared.zones.Zone.{Zone}
use Rattle.core_model.specs.Steps.{Core, with_inbox, with_outboxes}
use Rattle.core_model.specs.Trace.{Trace}

-- what lies in the lanes goes before what is in the outboxes
abbrev pub behind : List (List Item) → List (List Item) → List (List Item)
behind [] lanes = lanes
behind (batch ∷ batches) [] = []
behind (batch ∷ batches) (lane ∷ lanes) = (batch ++ lane) ∷ behind batches lanes

-- a zone with what lies in the lanes from it
abbrev pub with_batches : List (List Item) → Zone → Zone
with_batches batches z = with_outboxes z (behind batches z.ports.outboxes)

-- the zones that the views stand for, with what lies in the lanes from each
abbrev pub zones_of : List Zone → List (List (List Item)) → List Zone
zones_of [] lanes = []
zones_of (z ∷ zs) [] = z ∷ zs
zones_of (z ∷ zs) (batches ∷ lanes) = with_batches batches z ∷ zones_of zs lanes

-- the core that the zones' views and the lanes stand for, at a moment
abbrev pub core_of : List Zone → List (List (List Item)) → Trace → Core
core_of views lanes t = record { zones = zones_of views lanes; trace = t }

-- What a thread knows: its zone, and what it has received from the lane of each sender and not taken yet. That still counts
-- to the lane.
pub record View : Type 0 where
  pub zone : Zone
  pub received : List (List Item)

abbrev pub zones_seen : List View → List Zone
zones_seen [] = []
zones_seen (view ∷ views) = view.zone ∷ zones_seen views

-- the lane from one zone to another holds this
pub record LaneHolds (lanes : List (List (List Item))) (from to : ℕ) (batch : List Item) : Type 0 where
  pub row : List (List Item)
  pub had : slice_get lanes from ≡ Some row
  pub holds : slice_get row to ≡ Some batch

-- the lanes where that lane holds another batch
abbrev pub with_batch : List (List (List Item)) → ℕ → List (List Item) → ℕ → List Item → List (List (List Item))
with_batch lanes from row to batch = slice_set lanes from (slice_set row to batch)

-- A zone posts a batch: its whole outbox goes into the lane, which was empty.
pub record PostsBatch (from to : ℕ) (views views' : List View) (lanes lanes' : List (List (List Item))) : Type 0 where
  pub sender : View
  pub batch : List Item
  pub had : slice_get views from ≡ Some sender
  pub outbox : slice_get sender.zone.ports.outboxes to ≡ Some batch
  pub empty : LaneHolds lanes from to []
  pub views_is : views' ≡ slice_set views from (record sender { zone = with_outboxes sender.zone (slice_set sender.zone.ports.outboxes to []) })
  pub lanes_is : lanes' ≡ with_batch lanes from empty.row to batch

-- A zone receives a batch: it knows from then on what the lane holds.
pub record ReceivesBatch (from to : ℕ) (views views' : List View) (lanes : List (List (List Item))) : Type 0 where
  pub receiver : View
  pub batch : List Item
  pub had : slice_get views to ≡ Some receiver
  pub lane : LaneHolds lanes from to batch
  pub views_is : views' ≡ slice_set views to (record receiver { received = slice_set receiver.received from batch })

-- A zone takes the batch that it received: the lane is empty then, and the batch stands behind what was in the zone's inbox.
pub record TakesBatch (from to : ℕ) (views views' : List View) (lanes lanes' : List (List (List Item))) : Type 0 where
  pub sender : View
  pub receiver : View
  pub batch : List Item
  pub left : List Item
  pub apart : from ≢ to
  pub had_sender : slice_get views from ≡ Some sender
  pub had_receiver : slice_get views to ≡ Some receiver
  pub outbox : slice_get sender.zone.ports.outboxes to ≡ Some left
  pub received : slice_get receiver.received from ≡ Some batch
  pub lane : LaneHolds lanes from to batch
  pub views_is : views' ≡ slice_set views to (record receiver { zone = with_inbox receiver.zone (receiver.zone.ports.inbox ++ batch); received = slice_set receiver.received from [] })
  pub lanes_is : lanes' ≡ with_batch lanes from lane.row to []

-- nothing lies in any lane
abbrev pub AreEmptyLanes : List (List (List Item)) → Type 0
AreEmptyLanes lanes = AllByRecursion (AllByRecursion (λ batch. batch ≡ [])) lanes
