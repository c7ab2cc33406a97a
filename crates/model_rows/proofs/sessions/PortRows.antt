-- What a zone has in its ports, and the room of each list: each clause at its limit, and one past it.
use Rattle.std.proofs.Common.{◌≡◌, ℕ, zero, suc, true, false, None, Some, List, [], ◌∷◌, eqb, length, replicate, refl, ap, arith}
use Rattle.std.proofs.lemmas.List.{length-replicate}
use Rattle.std.proofs.lemmas.Nat.Bits.{bit_at_above}
use Rattle.zone_queues.specs.Queues.{Boxes, Queue}
use Rattle.core_model.specs.PortsData.{AreLanes, ArePorts, IsLane, IsSetOfPosts, has_items, ports_of}
use Rattle.data_vio.specs.declared.items.Item.{Item}
use Rattle.data_vio.specs.declared.items.Item.TheVariants.{StopNotice}

-- a list with this room, and so many items
abbrev queue : (room items : ℕ) → Queue Item
queue room items = record { room = room; items = replicate items StopNotice }

abbrev boxes : Queue Item → List (Queue Item) → Boxes Item
boxes inbox outboxes = record { inbox = inbox; outboxes = outboxes }

-- ports_of: the items of the inbox, and those of each outbox in its place
ports : ports_of (boxes (queue 5 1) (queue 6 2 ∷ queue 7 0 ∷ [])) ≡ record { inbox = StopNotice ∷ []; outboxes = (StopNotice ∷ StopNotice ∷ []) ∷ [] ∷ [] }
ports = refl

-- IsLane: 1452 items fit
lane_full : IsLane (queue 1452 1452)
lane_full = record { room = refl; filled = omega (arith, length-replicate 1452 StopNotice) }

lane_of_less_room : IsLane (queue 1451 0) → ⊥
lane_of_less_room is = absurd (omega (arith, is.room))

lane_too_full : IsLane (queue 1452 1453) → ⊥
lane_too_full is = absurd (omega (arith, is.filled, length-replicate 1453 StopNotice))

-- AreLanes: the inbox, and each outbox
lanes_all : AreLanes (boxes (queue 1452 1) (queue 1452 0 ∷ queue 1452 2 ∷ []))
lanes_all = record {
  inbox = record { room = refl; filled = omega arith };
  outboxes = (record { room = refl; filled = omega arith }, (record { room = refl; filled = omega arith }, tt));
  few = omega arith;
}

lanes_not_the_inbox : AreLanes (boxes (queue 0 0) []) → ⊥
lanes_not_the_inbox are = let room = are.inbox.room in absurd (omega (arith, room))

lanes_not_the_second : AreLanes (boxes (queue 1452 0) (queue 1452 0 ∷ queue 3 0 ∷ [])) → ⊥
lanes_not_the_second are = let room = are.outboxes.1.0.room in absurd (omega (arith, room))

lanes_too_many : (outboxes : List (Queue Item)) → length outboxes ≡ 33 → AreLanes (boxes (queue 1452 0) outboxes) → ⊥
lanes_too_many outboxes many are = let few = are.few in absurd (omega (arith, few, many))

-- has_items: a list that is there, with one
has_one : has_items (Some (StopNotice ∷ [])) ≡ true
has_one = refl

has_none : has_items (Some []) ≡ false
has_none = refl

has_no_list : has_items None ≡ false
has_no_list = refl

-- IsSetOfPosts: each outbox that has items, and no other
posts_to_the_second : IsSetOfPosts ([] ∷ (StopNotice ∷ []) ∷ []) 2
posts_to_the_second zero = refl
posts_to_the_second (suc zero) = refl
posts_to_the_second (suc (suc to)) = ap (λ b. eqb b 1) (bit_at_above 2 2 (suc (suc to)) (omega arith) (omega arith))

posts_not_one_less : IsSetOfPosts ([] ∷ (StopNotice ∷ []) ∷ []) 0 → ⊥
posts_not_one_less are = let one : false ≡ true = are 1 in absurd cc

posts_not_one_more : IsSetOfPosts ([] ∷ (StopNotice ∷ []) ∷ []) 3 → ⊥
posts_not_one_more are = let one : true ≡ false = are 0 in absurd cc

-- ArePorts: the lists, and the set of those with items
ports_all : ArePorts (boxes (queue 1452 1) (queue 1452 0 ∷ queue 1452 1 ∷ [])) 2
ports_all = record {
  lanes = record {
    inbox = record { room = refl; filled = omega arith };
    outboxes = (record { room = refl; filled = omega arith }, (record { room = refl; filled = omega arith }, tt));
    few = omega arith;
  };
  posts = posts_to_the_second;
}

ports_not_the_inbox : ArePorts (boxes (queue 0 0) []) 0 → ⊥
ports_not_the_inbox are = lanes_not_the_inbox are.lanes

ports_not_the_set : ArePorts (boxes (queue 1452 1) (queue 1452 1 ∷ [])) 0 → ⊥
ports_not_the_set are = let one : false ≡ true = are.posts 0 in absurd cc
