-- What a zone has in its ports: an inbox, and an outbox to each zone by its number.
use Rattle.std.specs.Prelude.{ℕ, ◌+◌, ◌*◌, ◌≡◌, ◌≤◌, Bool, true, false, Option, None, Some, List, [], ◌∷◌, length, map, slice_get}
use Rattle.std.specs.List.{AllByRecursion}
use Rattle.zone_queues.specs.Queues.{Boxes, Queue}
use Rattle.core_model.specs.SessionLimits.{most_items}
use Rattle.core_model.specs.ZoneSets.{is_in}
use Rattle.data_vio.specs.declared.items.Item.{Item}

-- the items of each, the oldest first
pub record Ports : Type 0 where
  pub inbox : List Item
  pub outboxes : List (List Item)

abbrev pub items_of : Queue Item → List Item
items_of queue = queue.items

abbrev pub ports_of : Boxes Item → Ports
ports_of boxes = record { inbox = items_of boxes.inbox; outboxes = map items_of boxes.outboxes }

-- the room of a lane: twice as many items as are under way, as many as two blocks have, and sixteen more
abbrev pub lane_room : ℕ
lane_room = 2 * most_items + 400

-- a list has that room, and no more in it
pub record IsLane (queue : Queue Item) : Type 0 where
  pub room : queue.room ≡ lane_room
  pub filled : length queue.items ≤ lane_room

-- so has each list of a zone; and there are no more zones than a set of them takes
pub record AreLanes (boxes : Boxes Item) : Type 0 where
  pub inbox : IsLane boxes.inbox
  pub outboxes : AllByRecursion IsLane boxes.outboxes
  pub few : length boxes.outboxes ≤ 32

-- a list is there, and has items
abbrev pub has_items : Option (List Item) → Bool
has_items None = false
has_items (Some []) = false
has_items (Some (item ∷ rest)) = true

-- a set has those zones whose outboxes have items
abbrev pub IsSetOfPosts : List (List Item) → ℕ → Type 0
IsSetOfPosts outboxes set = (to : ℕ) → is_in set to ≡ has_items (slice_get outboxes to)

-- a zone's lists, and the set of those to which it posted something
pub record ArePorts (boxes : Boxes Item) (set : ℕ) : Type 0 where
  pub lanes : AreLanes boxes
  pub posts : IsSetOfPosts (map items_of boxes.outboxes) set
