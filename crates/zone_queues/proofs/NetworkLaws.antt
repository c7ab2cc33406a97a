-- What a change of one zone's boxes is in the network, and that the network stays fit.
use Rattle.std.specs.Prelude.{ℕ, zero, suc, ◌≡◌, ◌≢◌, ◌<◌, ◌≤◌, ◌+◌, List, [], ◌∷◌, ◌++◌, length, map, replicate, refl, Option, Some, None, IfSome, Bool, not, IsTrue, ◌↔◌}
use Rattle.std.proofs.Common.{ap, ap₂, ◌∙◌, sym, subst, arith, get_or, set, inl, inr, length-append, take}
use Rattle.std.proofs.Math.Seq.{take-length, map-set_same}
use Rattle.std.proofs.Math.ListN.{get_or-map as map_at}
use Rattle.std.proofs.lemmas.List.{get_or-set_same, get_or-set_other, length-set, set-set, set-get_or, map-set, length-map, get_or-map, get_or-replicate, length-replicate}
use Rattle.std.proofs.lemmas.Bool.{cases_eq}
use Rattle.zone_queues.specs.Queues.{Queue, Boxes, Network, empty, with_outbox, with_more, network_of, inbox_at, outbox_at, entry_at, set_outbox, count_sent, IsFit, opening, moved, Takes, HasRoom, HasRoomFor, HasRoomTo}

-- what is the same of an element and the one in its place is so of each
stays : {X Y : Type 0} (f : X → Y) (xs : List X) (x z : ℕ) (y d : X) → f y ≡ f (get_or xs x d) → f (get_or (set xs x y) z d) ≡ f (get_or xs z d)
stays f xs x z y d same = sym (map_at f (set xs x y) z d) ∙ ap (λ ys. get_or ys z (f d)) (map-set_same f xs x y d same) ∙ map_at f xs z d

module _ {V : Type 0} where
  pub inbox-network : (ports : List (Boxes V)) (zone : ℕ) (boxes : Boxes V) → zone < length ports → boxes ≡ get_or ports zone boxes
      → inbox_at (network_of ports) zone ≡ boxes.inbox
  inbox-network ports zone boxes inside is =
      get_or-map (λ (b : Boxes V). b.inbox) ports zone boxes (empty V 0) inside ∙ ap (λ (b : Boxes V). b.inbox) (sym is)

  pub row-network : (ports : List (Boxes V)) (from : ℕ) (boxes : Boxes V) → from < length ports → boxes ≡ get_or ports from boxes
      → get_or (network_of ports).outboxes from [] ≡ boxes.outboxes
  row-network ports from boxes inside is =
      get_or-map (λ (b : Boxes V). b.outboxes) ports from boxes [] inside ∙ ap (λ (b : Boxes V). b.outboxes) (sym is)

  pub network-with_outbox : (ports : List (Boxes V)) (from to : ℕ) (boxes : Boxes V) (queue : Queue V) → from < length ports → boxes ≡ get_or ports from boxes
      → network_of (set ports from (with_outbox boxes to queue)) ≡ record (network_of ports) { outboxes = set_outbox (network_of ports).outboxes from to queue }
  network-with_outbox ports from to boxes queue inside is =
      ap₂ (λ (qs : List (Queue V)) (os : List (List (Queue V))). record { inboxes = qs; outboxes = os })
      (map-set_same (λ (b : Boxes V). b.inbox) ports from (with_outbox boxes to queue) boxes (ap (λ (b : Boxes V). b.inbox) is))
      (map-set (λ (b : Boxes V). b.outboxes) ports from (with_outbox boxes to queue)
      ∙ ap (λ (r : List (Queue V)). set (network_of ports).outboxes from (set r to queue)) (sym (row-network ports from boxes inside is)))

  pub network-with_inbox : (ports : List (Boxes V)) (zone : ℕ) (boxes : Boxes V) (queue : Queue V) → boxes ≡ get_or ports zone boxes
      → network_of (set ports zone (record boxes { inbox = queue })) ≡ record (network_of ports) { inboxes = set (network_of ports).inboxes zone queue }
  network-with_inbox ports zone boxes queue is =
      ap₂ (λ (qs : List (Queue V)) (os : List (List (Queue V))). record { inboxes = qs; outboxes = os })
      (map-set (λ (b : Boxes V). b.inbox) ports zone (record boxes { inbox = queue }))
      (map-set_same (λ (b : Boxes V). b.outboxes) ports zone (record boxes { inbox = queue }) boxes (ap (λ (b : Boxes V). b.outboxes) is))

  pub zones_network : (ports : List (Boxes V)) → length (network_of ports).inboxes ≡ length ports
  zones_network ports = length-map ports (λ (b : Boxes V). b.inbox)

  pub rows_network : (ports : List (Boxes V)) → length (network_of ports).outboxes ≡ length ports
  rows_network ports = length-map ports (λ (b : Boxes V). b.outboxes)

  -- an outbox is part of what is on the way
  pub count_sent-part : (outboxes : List (List (Queue V))) (x y : ℕ) → x < length outboxes → length (entry_at outboxes x y).items ≤ count_sent outboxes y
  count_sent-part [] x y inside = absurd (omega arith)
  count_sent-part (row ∷ rows) zero y inside = omega arith
  count_sent-part (row ∷ rows) (suc x) y inside = omega (arith, count_sent-part rows x y (omega arith))

  row-set : (row : List (Queue V)) (y : ℕ) (queue : Queue V) → y < length row → length (get_or (set row y queue) y (empty V 0)).items ≡ length queue.items
  row-set row y queue inside = ap (λ (q : Queue V). length q.items) (get_or-set_same row y queue (empty V 0) inside)

  pub count_sent-set : (outboxes : List (List (Queue V))) (x y : ℕ) (queue : Queue V) → x < length outboxes → y < length (get_or outboxes x [])
      → count_sent (set_outbox outboxes x y queue) y + length (entry_at outboxes x y).items ≡ count_sent outboxes y + length queue.items
  count_sent-set [] x y queue inside place = absurd (omega arith)
  count_sent-set (row ∷ rows) zero y queue inside place = omega (arith, row-set row y queue place)
  count_sent-set (row ∷ rows) (suc x) y queue inside place = omega (arith, count_sent-set rows x y queue (omega arith) place)

  pub count_sent-other : (outboxes : List (List (Queue V))) (x y z : ℕ) (queue : Queue V) → z ≢ y → count_sent (set_outbox outboxes x y queue) z ≡ count_sent outboxes z
  count_sent-other [] x y z queue other = refl
  count_sent-other (row ∷ rows) zero y z queue other = ap (λ (q : Queue V). length q.items + count_sent rows z) (get_or-set_other row y z queue (empty V 0) other)
  count_sent-other (row ∷ rows) (suc x) y z queue other = ap (λ n. length (get_or row z (empty V 0)).items + n) (count_sent-other rows x y z queue other)

  set_outbox-again : (outboxes : List (List (Queue V))) (x y : ℕ) (first queue : Queue V) → x < length outboxes
      → set_outbox (set_outbox outboxes x y first) x y queue ≡ set_outbox outboxes x y queue
  set_outbox-again outboxes x y first queue inside =
      let row = get_or outboxes x [] in
      ap (λ (r : List (Queue V)). set (set outboxes x (set row y first)) x (set r y queue)) (get_or-set_same outboxes x (set row y first) [] inside)
      ∙ ap (λ (r : List (Queue V)). set (set outboxes x (set row y first)) x r) (set-set row y first queue)
      ∙ set-set outboxes x (set row y first) (set row y queue)

  -- one outbox to a zone and that zone's inbox change, and no more is on the way than before but what there is room for
  IsFit-step : (lanes : Network V) (x y : ℕ) (inbox queue : Queue V) → IsFit lanes → x < length lanes.outboxes → y < length lanes.outboxes
      → inbox.room ≡ (inbox_at lanes y).room → queue.room ≡ (outbox_at lanes x y).room
      → length inbox.items + count_sent lanes.outboxes y + length queue.items ≤ inbox.room + length (outbox_at lanes x y).items
      → IsFit (record { inboxes = set lanes.inboxes y inbox; outboxes = set_outbox lanes.outboxes x y queue })
  IsFit-step lanes x y inbox queue fit from to inbox_room queue_same few =
      let row = get_or lanes.outboxes x [] in
      let size : length (set lanes.outboxes x (set row y queue)) ≡ length lanes.outboxes = length-set lanes.outboxes x (set row y queue) in
      let inboxes : length (set lanes.inboxes y inbox) ≡ length lanes.inboxes = length-set lanes.inboxes y inbox in
      let zones = fit.zones in
      let square_row = fit.square x from in
      let counted = count_sent-set lanes.outboxes x y queue from (omega (arith, square_row)) in
      let at_y : length (get_or (set lanes.inboxes y inbox) y (empty V 0)).items + count_sent (set_outbox lanes.outboxes x y queue) y ≤ (get_or (set lanes.inboxes y inbox) y (empty V 0)).room
      = subst (λ (q : Queue V). length q.items + count_sent (set_outbox lanes.outboxes x y queue) y ≤ q.room)
      (sym (get_or-set_same lanes.inboxes y inbox (empty V 0) (omega arith))) (omega (arith, counted, few)) in
      let room_of : Queue V → ℕ = λ q. q.room in
      record {
        zones = inboxes ∙ zones ∙ sym size;
        square = λ z below. stays length lanes.outboxes x z (set row y queue) [] (length-set row y queue) ∙ fit.square z (omega arith) ∙ sym size;
        rooms = λ w z first second. stays (λ (r : List (Queue V)). room_of (get_or r z (empty V 0))) lanes.outboxes x w (set row y queue) [] (stays room_of row y z queue (empty V 0) queue_same)
            ∙ fit.rooms w z (omega arith) (omega arith) ∙ sym (stays room_of lanes.inboxes y z inbox (empty V 0) inbox_room);
        filled = λ z below. elim (cases_eq z y) [
          | inl same ↦ subst (λ (n : ℕ). length (get_or (set lanes.inboxes y inbox) n (empty V 0)).items + count_sent (set_outbox lanes.outboxes x y queue) n
              ≤ (get_or (set lanes.inboxes y inbox) n (empty V 0)).room) (sym same) at_y
          | inr other ↦
              let kept = fit.filled z (omega arith) in
              subst (λ (q : Queue V). length q.items + count_sent (set_outbox lanes.outboxes x y queue) z ≤ q.room) (sym (get_or-set_other lanes.inboxes y z inbox (empty V 0) other))
              (omega (arith, kept, count_sent-other lanes.outboxes x y z queue other))
        ];
      }

  pub IsFit-post : (lanes : Network V) (x y : ℕ) (queue : Queue V) → IsFit lanes → x < length lanes.outboxes → y < length lanes.outboxes
      → queue.room ≡ (outbox_at lanes x y).room → length queue.items ≡ length (outbox_at lanes x y).items + 1
      → length (inbox_at lanes y).items + count_sent lanes.outboxes y < (inbox_at lanes y).room
      → IsFit (record lanes { outboxes = set_outbox lanes.outboxes x y queue })
  IsFit-post lanes x y queue fit from to same more few =
      subst (λ (qs : List (Queue V)). IsFit (record { inboxes = qs; outboxes = set_outbox lanes.outboxes x y queue })) (set-get_or lanes.inboxes y (empty V 0))
      (IsFit-step lanes x y (inbox_at lanes y) queue fit from to refl same (omega (arith, more, few)))

  pub IsFit-moved : (lanes : Network V) (x y : ℕ) → IsFit lanes → x < length lanes.outboxes → y < length lanes.outboxes → IsFit (moved lanes x y)
  IsFit-moved lanes x y fit from to =
      let kept = fit.filled y to in
      let batch = outbox_at lanes x y in
      let more : length ((inbox_at lanes y).items ++ batch.items) ≡ length (inbox_at lanes y).items + length batch.items = length-append (inbox_at lanes y).items batch.items in
      IsFit-step lanes x y (with_more (inbox_at lanes y) batch.items) (empty V batch.room) fit from to refl refl (omega (arith, kept, more))

  count_sent-none : (n : ℕ) (row : List (Queue V)) (y : ℕ) → (get_or row y (empty V 0)).items ≡ [] → count_sent (replicate n row) y ≡ 0
  count_sent-none zero row y none = refl
  count_sent-none (suc n) row y none = omega (arith, ap (λ (vs : List V). length vs) none, count_sent-none n row y none)

  empty_items : (room : List ℕ) (y : ℕ) → (get_or (map (empty V) room) y (empty V 0)).items ≡ []
  empty_items [] y = refl
  empty_items (r ∷ rs) zero = refl
  empty_items (r ∷ rs) (suc y) = empty_items rs y

  pub IsFit-opening : (room : List ℕ) → IsFit (opening V room)
  IsFit-opening room =
      let row = map (empty V) room in
      let size : length row ≡ length room = length-map room (empty V) in
      let rows : length (replicate (length room) row) ≡ length room = length-replicate (length room) row in
      record {
        zones = size ∙ sym rows;
        square = λ x below. ap (λ (r : List (Queue V)). length r) (get_or-replicate (length room) x row [] (omega arith)) ∙ size ∙ sym rows;
        rooms = λ x y first second. ap (λ (r : List (Queue V)). (get_or r y (empty V 0)).room) (get_or-replicate (length room) x row [] (omega arith));
        filled = λ y below. omega (arith, count_sent-none (length room) row y (empty_items room y), ap (λ (vs : List V). length vs) (empty_items room y));
      }

  -- the outbox was handed out, its items were added to the inbox, and the list was put back empty
  pub moved-steps : (lanes first second third : Network V) (x y : ℕ) (batch none back : Queue V) → x < length lanes.outboxes
      → batch ≡ outbox_at lanes x y
      → first ≡ record lanes { outboxes = set_outbox lanes.outboxes x y none }
      → second ≡ record first { inboxes = set first.inboxes y (with_more (inbox_at first y) batch.items) }
      → back ≡ empty V batch.room
      → third ≡ record second { outboxes = set_outbox second.outboxes x y back }
      → third ≡ moved lanes x y
  moved-steps lanes first second third x y batch none back from out cut added emptied put =
      rw (put, added, cut, emptied, out)
      (ap (λ (os : List (List (Queue V))). record { inboxes = set lanes.inboxes y (with_more (inbox_at lanes y) (outbox_at lanes x y).items); outboxes = os })
      (set_outbox-again lanes.outboxes x y none (empty V (outbox_at lanes x y).room) from))

  -- the oldest item of one zone's boxes left, and so of the network
  pub takes_at : (ports : List (Boxes V)) (zone : ℕ) (boxes left : Boxes V) (result : Option V) → zone < length ports → boxes ≡ get_or ports zone boxes
      → IfSome result (λ item. boxes ≡ record left { inbox = record left.inbox { items = item ∷ left.inbox.items } })
      → IfSome result (Takes (network_of ports) (network_of (set ports zone left)) zone)
  takes_at ports zone boxes left None inside is from = tt
  takes_at ports zone boxes left (Some item) inside is from =
      let size = zones_network ports in
      let whole : left ≡ record boxes { inbox = left.inbox } = ap (λ (os : List (Queue V)). record { inbox = left.inbox; outboxes = os }) (sym (ap (λ (b : Boxes V). b.outboxes) from)) in
      let after : network_of (set ports zone left) ≡ record (network_of ports) { inboxes = set (network_of ports).inboxes zone left.inbox }
      = ap (λ (b : Boxes V). network_of (set ports zone b)) whole ∙ network-with_inbox ports zone boxes left.inbox is in
      let before : inbox_at (network_of ports) zone ≡ boxes.inbox = inbox-network ports zone boxes inside is in
      let now : inbox_at (network_of (set ports zone left)) zone ≡ left.inbox
      = ap (λ (s : Network V). inbox_at s zone) after ∙ get_or-set_same (network_of ports).inboxes zone left.inbox (empty V 0) (omega arith) in
      let room : left.inbox.room ≡ (inbox_at (network_of ports) zone).room = sym (ap (λ (b : Boxes V). b.inbox.room) from) ∙ ap (λ (q : Queue V). q.room) (sym before) in
      record {
        oldest = ap (λ (q : Queue V). q.items) before ∙ ap (λ (b : Boxes V). b.inbox.items) from ∙ ap (λ (q : Queue V). item ∷ q.items) (sym now);
        left = after
            ∙ ap (λ (n : ℕ). record (network_of ports) { inboxes = set (network_of ports).inboxes zone (record { room = n; items = left.inbox.items }) }) room
            ∙ ap (λ (vs : List V). record (network_of ports) { inboxes = set (network_of ports).inboxes zone (record (inbox_at (network_of ports) zone) { items = vs }) })
            (ap (λ (q : Queue V). q.items) (sym now));
      }

  pub room_in_outbox : (lanes : Network V) (x y : ℕ) → IsFit lanes → x < length lanes.outboxes → y < length lanes.outboxes → HasRoomTo lanes y
      → HasRoom (outbox_at lanes x y)
  room_in_outbox lanes x y fit from to room =
      let same = fit.rooms x y from to in
      omega (arith, room, same, count_sent-part lanes.outboxes x y from)

  pub room_for_batch : (lanes : Network V) (x y : ℕ) → IsFit lanes → x < length lanes.outboxes → y < length lanes.outboxes
      → HasRoomFor (inbox_at lanes y) (outbox_at lanes x y).items
  room_for_batch lanes x y fit from to =
      let kept = fit.filled y to in
      omega (arith, kept, count_sent-part lanes.outboxes x y from)

  pub IsFit-made : (lanes : Network V) (room : List ℕ) (n : ℕ) → n ≡ length room
      → lanes ≡ record { inboxes = map (empty V) (take n room); outboxes = replicate n (map (empty V) room) } → IsFit lanes
  IsFit-made lanes room n all is = rw (is, all, take-length room) (IsFit-opening room)

-- whether there is an item, from whether there is none
pub some_items : (n : ℕ) (none : Bool) → (IsTrue none ↔ (n ≡ 0)) → IsTrue (not none) ↔ (0 < n)
some_items n none said = grind arith
