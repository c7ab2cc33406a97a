-- What threads do with batches: each clause with a case that it accepts and one that breaks it alone.
use Rattle.std.proofs.Common.{ℕ, ◌≡◌, ◌++◌, Some, List, [], ◌∷◌, slice_get, slice_set, length, refl, ap, sym, subst}
use Rattle.std.proofs.lemmas.Option.{same_Some}
use Rattle.data_vio.specs.declared.items.Item.{Item}
use Rattle.data_vio.specs.declared.items.Item.TheVariants.{StopNotice}
use Rattle.core_model.specs.Views.{AreEmptyLanes, LaneHolds, PostsBatch, ReceivesBatch, TakesBatch, View, zones_seen}
use Rattle.core_model.proofs.ZoneForms.{nothing, physical}

abbrev Lanes : Type 0
Lanes = List (List (List Item))

-- one item, and two
abbrev pub one : List Item
one = StopNotice ∷ []

abbrev two : List Item
two = StopNotice ∷ StopNotice ∷ []

-- zone 0 with its outbox to zone 1, and zone 1 with its inbox and what it received from zone 0
abbrev sender : List Item → View
sender outbox = record { zone = record { number = 0; steps = 0; keeps = physical nothing nothing; ports = record { inbox = []; outboxes = [] ∷ outbox ∷ [] } }; received = [] ∷ [] ∷ [] }

abbrev receiver : List Item → List Item → View
receiver inbox received = record { zone = record { number = 1; steps = 0; keeps = physical nothing nothing; ports = record { inbox = inbox; outboxes = [] ∷ [] ∷ [] } }; received = received ∷ [] ∷ [] }

abbrev views : List Item → List Item → List Item → List View
views outbox inbox received = sender outbox ∷ receiver inbox received ∷ []

-- the lanes, of which that from zone 0 to zone 1 holds this
abbrev lanes : List Item → Lanes
lanes batch = ([] ∷ batch ∷ []) ∷ ([] ∷ [] ∷ []) ∷ []

-- LaneHolds: that lane, and what is in it
holds : LaneHolds (lanes one) 0 1 one
holds = record { row = [] ∷ one ∷ []; had = refl; holds = refl }

-- what the lane from zone 0 to zone 1 holds
held : (batch other : List Item) → LaneHolds (lanes batch) 0 1 other → batch ≡ other
held batch other is = same_Some _ _ (subst (λ (row : List (List Item)). slice_get row 1 ≡ Some other) (sym (same_Some _ _ is.had)) is.holds)

holds-not_another_batch : LaneHolds (lanes one) 0 1 two → ⊥
holds-not_another_batch is = let same = ap length (held one two is) in absurd cc

holds-no_such_lane : LaneHolds (lanes one) 2 1 one → ⊥
holds-no_such_lane is = let there = is.had in absurd cc

-- AreEmptyLanes: every one
empty : AreEmptyLanes (lanes [])
empty = ((refl, (refl, tt)), ((refl, (refl, tt)), tt))

empty-not_with_a_batch : AreEmptyLanes (lanes one) → ⊥
empty-not_with_a_batch are = let is = are.0.1.0 in absurd cc

-- PostsBatch: the whole outbox goes into the lane
posts : PostsBatch 0 1 (views two [] []) (views [] [] []) (lanes []) (lanes two)
posts = record { sender = sender two; batch = two; had = refl; outbox = refl; empty = record { row = [] ∷ [] ∷ []; had = refl; holds = refl }; views_is = refl; lanes_is = refl }

-- the view of zone 0, and what its outbox holds
the_sender : (outbox inbox received : List Item) (view : View) → slice_get (views outbox inbox received) 0 ≡ Some view → sender outbox ≡ view
the_sender outbox inbox received view had = same_Some _ _ had

in_outbox : (outbox inbox received : List Item) (view : View) (batch : List Item) → slice_get (views outbox inbox received) 0 ≡ Some view → slice_get view.zone.ports.outboxes 1 ≡ Some batch → outbox ≡ batch
in_outbox outbox inbox received view batch had is =
    same_Some _ _ (subst (λ (v : View). slice_get v.zone.ports.outboxes 1 ≡ Some batch) (sym (the_sender outbox inbox received view had)) is)

posts-not_into_a_full_lane : PostsBatch 0 1 (views one [] []) (views [] [] []) (lanes one) (lanes one) → ⊥
posts-not_into_a_full_lane p = let was = held one [] p.empty in absurd cc

posts-not_from_nowhere : PostsBatch 2 1 (views two [] []) (views [] [] []) (lanes []) (lanes two) → ⊥
posts-not_from_nowhere p = let had = p.had in absurd cc

-- what a lane from zone 0 holds after another batch was put into it
abbrev lane_of : Lanes → ℕ
lane_of ((first ∷ second ∷ rest) ∷ others) = length second
lane_of other = 9

posts-not_a_part : PostsBatch 0 1 (views two [] []) (views [] [] []) (lanes []) (lanes one) → ⊥
posts-not_a_part p =
    let whole = in_outbox two [] [] p.sender p.batch p.had p.outbox in
    let row : [] ∷ [] ∷ [] ≡ p.empty.row = same_Some _ _ p.empty.had in
    let now : lanes one ≡ slice_set (lanes []) 0 (slice_set p.empty.row 1 p.batch) = p.lanes_is in
    let there : lanes one ≡ lanes two = subst (λ (batch : List Item). lanes one ≡ lanes batch) (sym whole) (subst (λ (r : List (List Item)). lanes one ≡ slice_set (lanes []) 0 (slice_set r 1 p.batch)) (sym row) now) in
    let sizes = ap lane_of there in
    absurd cc

-- how many items the outbox from zone 0 to zone 1 has
abbrev outbox_of : List View → ℕ
outbox_of [] = 9
outbox_of (view ∷ others) = lane_of (view.zone.ports.outboxes ∷ [])

posts-not_kept_too : PostsBatch 0 1 (views two [] []) (views two [] []) (lanes []) (lanes two) → ⊥
posts-not_kept_too p =
    let is = the_sender two [] [] p.sender p.had in
    let now : views two [] [] ≡ views [] [] [] =
    subst (λ (v : View). views two [] [] ≡ slice_set (views two [] []) 0 (record v { zone = record v.zone { ports = record v.zone.ports { outboxes = slice_set v.zone.ports.outboxes 1 [] } } })) (sym is) p.views_is in
    let sizes = ap outbox_of now in
    absurd cc

-- ReceivesBatch: zone 1 knows what the lane holds
receives : ReceivesBatch 0 1 (views [] [] []) (views [] [] two) (lanes two)
receives = record { receiver = receiver [] []; batch = two; had = refl; lane = record { row = [] ∷ two ∷ []; had = refl; holds = refl }; views_is = refl }

-- how many items zone 1 received from zone 0
abbrev received_of : List View → ℕ
received_of (first ∷ second ∷ others) = lane_of (([] ∷ second.received) ∷ [])
received_of other = 9

the_receiver : (outbox inbox received : List Item) (view : View) → slice_get (views outbox inbox received) 1 ≡ Some view → receiver inbox received ≡ view
the_receiver outbox inbox received view had = same_Some _ _ had

receives-not_another_batch : ReceivesBatch 0 1 (views [] [] []) (views [] [] one) (lanes two) → ⊥
receives-not_another_batch r =
    let whole = held two r.batch r.lane in
    let is = the_receiver [] [] [] r.receiver r.had in
    let now : views [] [] one ≡ views [] [] r.batch =
    subst (λ (v : View). views [] [] one ≡ slice_set (views [] [] []) 1 (record v { received = slice_set v.received 0 r.batch })) (sym is) r.views_is in
    let there : views [] [] one ≡ views [] [] two = subst (λ (batch : List Item). views [] [] one ≡ views [] [] batch) (sym whole) now in
    let sizes = ap received_of there in
    absurd cc

receives-not_from_nowhere : ReceivesBatch 2 1 (views [] [] []) (views [] [] []) (lanes []) → ⊥
receives-not_from_nowhere r = let had = r.lane.had in absurd cc

receives-not_to_nowhere : ReceivesBatch 0 2 (views [] [] []) (views [] [] []) (lanes []) → ⊥
receives-not_to_nowhere r = let had = r.had in absurd cc

-- TakesBatch: what was received stands behind what was in the inbox, and the lane is empty
takes : TakesBatch 0 1 (views one one two) (views one (StopNotice ∷ two) []) (lanes two) (lanes [])
takes = record {
  sender = sender one;
  receiver = receiver one two;
  batch = two;
  left = one;
  apart = λ e. absurd cc;
  had_sender = refl;
  had_receiver = refl;
  outbox = refl;
  received = refl;
  lane = record { row = [] ∷ two ∷ []; had = refl; holds = refl };
  views_is = refl;
  lanes_is = refl;
}

takes-not_from_itself : TakesBatch 1 1 (views [] [] []) (views [] [] []) (lanes []) (lanes []) → ⊥
takes-not_from_itself t = t.apart refl

takes-not_unreceived : TakesBatch 0 1 (views [] [] []) (views [] two []) (lanes two) (lanes []) → ⊥
takes-not_unreceived t =
    let whole = held two t.batch t.lane in
    let is = the_receiver [] [] [] t.receiver t.had_receiver in
    let known : [] ≡ t.batch = same_Some _ _ (subst (λ (v : View). slice_get v.received 0 ≡ Some t.batch) (sym is) t.received) in
    let both : [] ≡ two = subst (λ (batch : List Item). [] ≡ batch) (sym whole) known in
    absurd cc

-- how many items the inbox of zone 1 has
abbrev inbox_of : List View → ℕ
inbox_of (first ∷ second ∷ others) = length second.zone.ports.inbox
inbox_of other = 9

-- zone 1 after it took what it received
taken_views : (t : TakesBatch 0 1 (views [] [] one) (views [] [] []) (lanes one) (lanes [])) → views [] [] [] ≡ views [] t.batch []
taken_views t =
    let is = the_receiver [] [] one t.receiver t.had_receiver in
    subst (λ (v : View). views [] [] [] ≡ slice_set (views [] [] one) 1 (record v { zone = record v.zone { ports = record v.zone.ports { inbox = v.zone.ports.inbox ++ t.batch } }; received = slice_set v.received 0 [] })) (sym is) t.views_is

takes-not_lost : TakesBatch 0 1 (views [] [] one) (views [] [] []) (lanes one) (lanes []) → ⊥
takes-not_lost t =
    let whole = held one t.batch t.lane in
    let there : views [] [] [] ≡ views [] one [] = subst (λ (batch : List Item). views [] [] [] ≡ views [] batch []) (sym whole) (taken_views t) in
    let sizes = ap inbox_of there in
    absurd cc

takes-not_left_in_the_lane : TakesBatch 0 1 (views [] [] one) (views [] one []) (lanes one) (lanes one) → ⊥
takes-not_left_in_the_lane t =
    let row : [] ∷ one ∷ [] ≡ t.lane.row = same_Some _ _ t.lane.had in
    let now : lanes one ≡ lanes [] = subst (λ (r : List (List Item)). lanes one ≡ slice_set (lanes one) 0 (slice_set r 1 [])) (sym row) t.lanes_is in
    let sizes = ap lane_of now in
    absurd cc

-- zones_seen: the zone of each view, in their order
seen : zones_seen (views one [] two) ≡ (sender one).zone ∷ (receiver [] two).zone ∷ []
seen = refl
