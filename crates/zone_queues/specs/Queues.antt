-- Lists with room, the lists of one zone, and those of all zones.
use Rattle.std.specs.Prelude.{ℕ, ◌≡◌, ◌<◌, ◌≤◌, ◌+◌, List, [], ◌∷◌, ◌++◌, length, slice_index_or, slice_set, map, replicate}

-- a list, the oldest item first, and how many items it has room for
pub record Queue (V : Type 0) : Type 0 where
  pub room : ℕ
  pub items : List V

abbrev pub empty : (V : Type 0) → ℕ → Queue V
empty V room = record { room = room; items = [] }

-- there is room for one more, or for these
abbrev pub HasRoom : {V : Type 0} → Queue V → Type 0
HasRoom queue = length queue.items < queue.room

abbrev pub HasRoomFor : {V : Type 0} → Queue V → List V → Type 0
HasRoomFor queue more = length queue.items + length more ≤ queue.room

-- the items behind all others
abbrev pub with_more : {V : Type 0} → Queue V → List V → Queue V
with_more queue more = record queue { items = queue.items ++ more }

-- what one zone has: its inbox, and an outbox to each zone
pub record Boxes (V : Type 0) : Type 0 where
  pub inbox : Queue V
  pub outboxes : List (Queue V)

-- the outbox to a zone; without room past the last
abbrev pub outbox_to : {V : Type 0} → Boxes V → ℕ → Queue V
outbox_to {V} boxes to = slice_index_or boxes.outboxes to (empty V 0)

-- this queue in place of the outbox to the zone
abbrev pub with_outbox : {V : Type 0} → Boxes V → ℕ → Queue V → Boxes V
with_outbox boxes to queue = record boxes { outboxes = slice_set boxes.outboxes to queue }

-- the inbox of each zone, and for each zone its outbox to each zone
pub record Network (V : Type 0) : Type 0 where
  pub inboxes : List (Queue V)
  pub outboxes : List (List (Queue V))

abbrev pub inbox_at : {V : Type 0} → Network V → ℕ → Queue V
inbox_at {V} lanes zone = slice_index_or lanes.inboxes zone (empty V 0)

abbrev pub entry_at : {V : Type 0} → List (List (Queue V)) → ℕ → ℕ → Queue V
entry_at {V} outboxes from to = slice_index_or (slice_index_or outboxes from []) to (empty V 0)

abbrev pub outbox_at : {V : Type 0} → Network V → ℕ → ℕ → Queue V
outbox_at lanes from to = entry_at lanes.outboxes from to

-- this queue in place of the outbox from one zone to another
abbrev pub set_outbox : {V : Type 0} → List (List (Queue V)) → ℕ → ℕ → Queue V → List (List (Queue V))
set_outbox outboxes from to queue = slice_set outboxes from (slice_set (slice_index_or outboxes from []) to queue)

-- empty lists: those to a zone have the room that the list says
abbrev pub opening : (V : Type 0) → List ℕ → Network V
opening V room = record { inboxes = map (empty V) room; outboxes = replicate (length room) (map (empty V) room) }

-- how many items are in the outboxes to a zone
abbrev pub count_sent : {V : Type 0} → List (List (Queue V)) → ℕ → ℕ
count_sent [] to = 0
count_sent {V} (row ∷ rows) to = length (slice_index_or row to (empty V 0)).items + count_sent rows to

-- there is room for one more on the way to a zone: in its inbox with all that is in the outboxes to it
abbrev pub HasRoomTo : {V : Type 0} → Network V → ℕ → Type 0
HasRoomTo lanes to = length (inbox_at lanes to).items + count_sent lanes.outboxes to < (inbox_at lanes to).room

-- all items of the outbox have gone to the receiver's inbox, in their order
abbrev pub moved : {V : Type 0} → Network V → ℕ → ℕ → Network V
moved {V} lanes from to = record {
  inboxes = slice_set lanes.inboxes to (with_more (inbox_at lanes to) (outbox_at lanes from to).items);
  outboxes = set_outbox lanes.outboxes from to (empty V (outbox_at lanes from to).room);
}

-- this was the oldest item of the zone's inbox, and has left
pub record Takes {V : Type 0} (old new : Network V) (zone : ℕ) (item : V) : Type 0 where
  pub oldest : (inbox_at old zone).items ≡ item ∷ (inbox_at new zone).items
  pub left : new ≡ record old { inboxes = slice_set old.inboxes zone (record (inbox_at old zone) { items = (inbox_at new zone).items }) }

-- each zone has an outbox to each zone with the room of the receiver's inbox, and no more is on the way than that
pub record IsFit {V : Type 0} (lanes : Network V) : Type 0 where
  pub zones : length lanes.inboxes ≡ length lanes.outboxes
  pub square : (x : ℕ) → x < length lanes.outboxes → length (slice_index_or lanes.outboxes x []) ≡ length lanes.outboxes
  pub rooms : (x y : ℕ) → x < length lanes.outboxes → y < length lanes.outboxes → (outbox_at lanes x y).room ≡ (inbox_at lanes y).room
  pub filled : (y : ℕ) → y < length lanes.outboxes → length (inbox_at lanes y).items + count_sent lanes.outboxes y ≤ (inbox_at lanes y).room

-- the boxes of all zones as a network
abbrev pub network_of : {V : Type 0} → List (Boxes V) → Network V
network_of ports = record { inboxes = map (λ boxes. boxes.inbox) ports; outboxes = map (λ boxes. boxes.outboxes) ports }
