-- What a change of a zone's lists is in its ports, and that each keeps the room of a lane.
use Rattle.std.proofs.Common.{ℕ, zero, suc, Bool, true, false, ◌≡◌, ◌<◌, ◌≤◌, List, [], ◌∷◌, ◌++◌, Some, slice_get, slice_set, length, length-append, map, replicate, get_or, inl, inr, refl, sym, ap, subst, ◌∙◌, ◌↔◌, arith}
use Rattle.std.proofs.lemmas.Bool.Decides.{eqb_tells}
use Rattle.std.proofs.lemmas.List.{length-map, length-replicate, length-set}
use Rattle.std.proofs.lemmas.Option.{same_Some}
use Rattle.std.specs.List.{AllByRecursion}
use Rattle.zone_queues.specs.Queues.{Boxes, Queue, empty, outbox_to, with_more, with_outbox}
use Rattle.core_model.specs.PortsData.{AreLanes, ArePorts, IsLane, IsSetOfPosts, Ports, has_items, items_of, lane_room, ports_of}
use Rattle.core_model.specs.Steps.{posted}
use Rattle.core_model.specs.ZoneSets.{Puts, is_in}
use Rattle.core_model.proofs.ListForms.{posted_is}
use Rattle.core_model.proofs.ZoneSetLaws.{none_inside}
use Rattle.plain_laws.proofs.ListLaws.{get-put_other, get-put_same}
use Rattle.data_vio.specs.declared.items.Item.{Item}

-- the outbox to a zone that is there
pub lane_at : (queues : List (Queue Item)) (to : ℕ) (d : Queue Item) → to < length queues → slice_get (map items_of queues) to ≡ Some (get_or queues to d).items
lane_at [] to d there = absurd (omega (arith, there))
lane_at (q ∷ qs) zero d there = refl
lane_at (q ∷ qs) (suc to) d there = lane_at qs to d (omega (arith, there))

-- another in its place
pub lanes_set : (queues : List (Queue Item)) (to : ℕ) (q : Queue Item) → map items_of (slice_set queues to q) ≡ slice_set (map items_of queues) to q.items
lanes_set [] to q = refl
lanes_set (x ∷ xs) zero q = refl
lanes_set (x ∷ xs) (suc to) q = ap (λ (ys : List (List Item)). x.items ∷ ys) (lanes_set xs to q)

-- those that are made
pub lanes_empty : (rooms : List ℕ) (n : ℕ) → rooms ≡ replicate n lane_room → map items_of (map (empty Item) rooms) ≡ replicate n []
lanes_empty rooms zero is = ap (λ (rs : List ℕ). map items_of (map (empty Item) rs)) is
lanes_empty rooms (suc n) is = ap (λ (rs : List ℕ). map items_of (map (empty Item) rs)) is ∙ ap (λ (ls : List (List Item)). [] ∷ ls) (lanes_empty (replicate n lane_room) n refl)

pub are_lanes_empty : (n : ℕ) → AllByRecursion IsLane (map (empty Item) (replicate n lane_room))
are_lanes_empty zero = tt
are_lanes_empty (suc n) = (record { room = refl; filled = omega arith }, are_lanes_empty n)

-- an outbox that is seen is there
inside : (boxes : Boxes Item) (seen : Ports) (to : ℕ) → ports_of boxes ≡ seen → to < length seen.outboxes → to < length boxes.outboxes
inside boxes seen to is there = omega (arith, there, ap (λ (p : Ports). length p.outboxes) is, length-map boxes.outboxes items_of)

-- a zone's lists with one of them longer, and with another in its place
pub posted_in : (boxes : Boxes Item) (seen : Ports) (to : ℕ) (x : Item) → ports_of boxes ≡ seen → to < length seen.outboxes
    → ports_of (with_outbox boxes to (with_more (outbox_to boxes to) (x ∷ []))) ≡ record seen { outboxes = posted to x seen.outboxes }
posted_in boxes seen to x is there =
    let below = inside boxes seen to is there in
    ap (λ (lanes : List (List Item)). record (ports_of boxes) { outboxes = lanes })
    (lanes_set boxes.outboxes to (with_more (outbox_to boxes to) (x ∷ [])) ∙ posted_is to x (outbox_to boxes to).items (ports_of boxes).outboxes (lane_at boxes.outboxes to (empty Item 0) below))
    ∙ ap (λ (p : Ports). record p { outboxes = posted to x p.outboxes }) is

pub set_in : (boxes : Boxes Item) (seen : Ports) (to : ℕ) (q : Queue Item) → ports_of boxes ≡ seen → ports_of (with_outbox boxes to q) ≡ record seen { outboxes = slice_set seen.outboxes to q.items }
set_in boxes seen to q is =
    ap (λ (lanes : List (List Item)). record (ports_of boxes) { outboxes = lanes }) (lanes_set boxes.outboxes to q)
    ∙ ap (λ (p : Ports). record p { outboxes = slice_set p.outboxes to q.items }) is

-- the outbox to a zone, by what is seen of it
pub seen_at : (boxes : Boxes Item) (seen : Ports) (to : ℕ) → ports_of boxes ≡ seen → to < length seen.outboxes → slice_get seen.outboxes to ≡ Some (outbox_to boxes to).items
seen_at boxes seen to is there =
    subst (λ (p : Ports). slice_get p.outboxes to ≡ Some (outbox_to boxes to).items) is (lane_at boxes.outboxes to (empty Item 0) (inside boxes seen to is there))

-- nothing is posted to a zone
none_there : (items : List Item) → (has_items (Some items) ≡ false) ↔ (items ≡ [])
none_there [] = (λ e. refl, λ e. refl)
none_there (x ∷ xs) = (λ e. absurd cc, λ e. absurd cc)

pub none_posted : (boxes : Boxes Item) (seen : Ports) (to set : ℕ) (b : Bool) → ports_of boxes ≡ seen → to < length seen.outboxes → IsSetOfPosts (map items_of boxes.outboxes) set → b ≡ is_in set to
    → (b ≡ false) ↔ (slice_get seen.outboxes to ≡ Some [])
none_posted boxes seen to set b is there posts tells =
    let at = seen_at boxes seen to is there in
    let here : slice_get (map items_of boxes.outboxes) to ≡ Some (outbox_to boxes to).items = lane_at boxes.outboxes to (empty Item 0) (inside boxes seen to is there) in
    let same : b ≡ has_items (Some (outbox_to boxes to).items) = tells ∙ posts to ∙ ap has_items here in
    let none = none_there (outbox_to boxes to).items in
    (λ e. at ∙ ap (λ (items : List Item). Some items) (none.0 (sym same ∙ e)), λ e. same ∙ none.1 (same_Some _ _ (sym at ∙ e)))

-- the set of those to which something is posted, with another lane in the place of one
posts_set : (lanes : List (List Item)) (to : ℕ) (old lane : List Item) (set set' : ℕ) (some : Bool) → slice_get lanes to ≡ Some old → has_items (Some lane) ≡ some → Puts set set' to some → IsSetOfPosts lanes set
    → IsSetOfPosts (slice_set lanes to lane) set'
posts_set lanes to old lane set set' some had has puts posts n = elim (eqb_tells n to) [
  | inl same ↦ ap (λ (k : ℕ). is_in set' k) same.1 ∙ puts.there ∙ sym has ∙ sym (ap has_items (get-put_same lanes to old lane had)) ∙ ap (λ (k : ℕ). has_items (slice_get (slice_set lanes to lane) k)) (sym same.1)
  | inr other ↦ puts.others n other.1 ∙ posts n ∙ sym (ap has_items (get-put_other lanes to n lane other.1))
]

some_behind : (items : List Item) (x : Item) → has_items (Some (items ++ x ∷ [])) ≡ true
some_behind [] x = refl
some_behind (y ∷ ys) x = refl

-- lists with one in its place
are_lanes_set : (queues : List (Queue Item)) (to : ℕ) (q : Queue Item) → IsLane q → AllByRecursion IsLane queues → AllByRecursion IsLane (slice_set queues to q)
are_lanes_set [] to q one all = tt
are_lanes_set (x ∷ xs) zero q one all = (one, all.1)
are_lanes_set (x ∷ xs) (suc to) q one all = (all.0, are_lanes_set xs to q one all.1)

-- a zone's ports with another lane in the place of one
ports_set : (boxes : Boxes Item) (seen : Ports) (to : ℕ) (q : Queue Item) (set set' : ℕ) (some : Bool) → ports_of boxes ≡ seen → to < length seen.outboxes → IsLane q → has_items (Some q.items) ≡ some → Puts set set' to some
    → ArePorts boxes set → ArePorts (with_outbox boxes to q) set'
ports_set boxes seen to q set set' some is there one has puts are =
    let lanes = are.lanes in
    let here = lane_at boxes.outboxes to (empty Item 0) (inside boxes seen to is there) in
    record {
      lanes = record {
        inbox = lanes.inbox;
        outboxes = are_lanes_set boxes.outboxes to q one lanes.outboxes;
        few = (let few = lanes.few in omega (arith, few, length-set boxes.outboxes to q));
      };
      posts = subst (λ (ls : List (List Item)). IsSetOfPosts ls set') (sym (lanes_set boxes.outboxes to q)) (posts_set (map items_of boxes.outboxes) to _ q.items set set' some here has puts are.posts);
    }

-- the lane at a place
lane_of : (queues : List (Queue Item)) (to : ℕ) (d : Queue Item) → to < length queues → AllByRecursion IsLane queues → IsLane (get_or queues to d)
lane_of [] to d there all = absurd (omega (arith, there))
lane_of (q ∷ qs) zero d there all = all.0
lane_of (q ∷ qs) (suc to) d there all = lane_of qs to d (omega (arith, there)) all.1

-- one of them longer
pub posted_ports : (boxes : Boxes Item) (seen : Ports) (to : ℕ) (x : Item) (set set' : ℕ) → ports_of boxes ≡ seen → to < length seen.outboxes → length (outbox_to boxes to).items < lane_room → Puts set set' to true
    → ArePorts boxes set → ArePorts (with_outbox boxes to (with_more (outbox_to boxes to) (x ∷ []))) set'
posted_ports boxes seen to x set set' is there room puts are =
    let lane = lane_of boxes.outboxes to (empty Item 0) (inside boxes seen to is there) are.lanes.outboxes in
    ports_set boxes seen to (with_more (outbox_to boxes to) (x ∷ [])) set set' true is there (record { room = lane.room; filled = omega (arith, room, length-append (outbox_to boxes to).items (x ∷ [])) })
    (some_behind (outbox_to boxes to).items x) puts are

-- and one of them empty
pub emptied_ports : (boxes : Boxes Item) (seen : Ports) (to : ℕ) (set set' : ℕ) → ports_of boxes ≡ seen → to < length seen.outboxes → Puts set set' to false → ArePorts boxes set
    → ArePorts (with_outbox boxes to (empty Item (outbox_to boxes to).room)) set'
emptied_ports boxes seen to set set' is there puts are =
    let lane = lane_of boxes.outboxes to (empty Item 0) (inside boxes seen to is there) are.lanes.outboxes in
    ports_set boxes seen to (empty Item (outbox_to boxes to).room) set set' false is there (record { room = lane.room; filled = omega arith }) refl puts are

-- nothing is posted yet
no_posts : (count to : ℕ) → has_items (slice_get (replicate count []) to) ≡ false
no_posts zero to = refl
no_posts (suc count) zero = refl
no_posts (suc count) (suc to) = no_posts count to

-- the lists that are made
made_lanes : (boxes : Boxes Item) (rooms : List ℕ) (count : ℕ) → boxes ≡ record { inbox = empty Item lane_room; outboxes = map (empty Item) rooms } → rooms ≡ replicate count lane_room → count ≤ 32
    → AreLanes boxes
made_lanes boxes rooms count is counted few =
    let long : length boxes.outboxes ≡ count = omega (arith, ap (λ (b : Boxes Item). length b.outboxes) is, length-map rooms (empty Item), ap length counted, length-replicate count lane_room) in
    record {
      inbox = subst (λ (q : Queue Item). IsLane q) (sym (ap (λ (b : Boxes Item). b.inbox) is)) (record { room = refl; filled = omega arith });
      outboxes = subst (λ (qs : List (Queue Item)). AllByRecursion IsLane qs) (sym (ap (λ (b : Boxes Item). b.outboxes) is ∙ ap (λ (rs : List ℕ). map (empty Item) rs) counted)) (are_lanes_empty count);
      few = omega (arith, long, few);
    }

pub made_ports : (boxes : Boxes Item) (rooms : List ℕ) (count : ℕ) → boxes ≡ record { inbox = empty Item lane_room; outboxes = map (empty Item) rooms } → rooms ≡ replicate count lane_room
    → ports_of boxes ≡ record { inbox = []; outboxes = replicate count [] }
made_ports boxes rooms count is counted = ap ports_of is ∙ ap (λ (lanes : List (List Item)). record { inbox = []; outboxes = lanes }) (lanes_empty rooms count counted)

pub made : (boxes : Boxes Item) (rooms : List ℕ) (count set : ℕ) → boxes ≡ record { inbox = empty Item lane_room; outboxes = map (empty Item) rooms } → rooms ≡ replicate count lane_room → count ≤ 32 → set ≡ 0
    → ArePorts boxes set
made boxes rooms count set is counted few none = record {
  lanes = made_lanes boxes rooms count is counted few;
  posts = λ to. none_inside set none to ∙ sym (no_posts count to) ∙ ap (λ (p : Ports). has_items (slice_get p.outboxes to)) (sym (made_ports boxes rooms count is counted));
}
