-- What a thread does with its own zone is a step of the core, and what threads do with batches are moves of it.
use Rattle.std.proofs.Common.{◌≡◌, ℕ, zero, suc, ◌+◌, Bool, true, false, List, [], ◌∷◌, ◌++◌, Some, slice_get, slice_set, nat_eq, refl, ap, sym, ◌∙◌, append_assoc, ◌≢◌, subst}
use Rattle.core_laws.proofs.Common.{AllByRecursion, Item, Post, Session, Sizes, Trace, Zone, append-nil, get-put_same, same_Some, zone_number}
use Rattle.core_model.specs.Steps.{posted, sent_to, sent, delivered, with_inbox, with_outboxes, ZoneStep, Core, StepOf, MoveOf, core_with}
use Rattle.core_model.specs.Views.{behind, with_batches, zones_of, core_of, View, PostsBatch, ReceivesBatch, TakesBatch, AreEmptyLanes, with_batch, zones_seen}
use Rattle.core_model.specs.Start.{IsFirst}

-- What a thread does with its own zone is a step of the core, though other zones went on meanwhile.

behind_posted : (batches : List (List Item)) (to : ℕ) (x : Item) (lanes : List (List Item)) → behind batches (posted to x lanes) ≡ posted to x (behind batches lanes)
behind_posted [] to x lanes = refl
behind_posted (b ∷ bs) to x [] = refl
behind_posted (b ∷ bs) zero x (l ∷ ls) = ap (λ (lane : List Item). lane ∷ behind bs ls) (sym (append_assoc b l (x ∷ [])))
behind_posted (b ∷ bs) (suc to) x (l ∷ ls) = ap (λ (lanes : List (List Item)). (b ++ l) ∷ lanes) (behind_posted bs to x ls)

sent_behind : (batches : List (List Item)) (b : Bool) (to : ℕ) (it : Item) (z : Zone) → with_batches batches (sent_to b to it z) ≡ sent_to b to it (with_batches batches z)
sent_behind batches true to it z = refl
sent_behind batches false to it z = ap (λ (lanes : List (List Item)). record z { ports = record z.ports { outboxes = lanes } }) (behind_posted batches to it z.ports.outboxes)

delivered_behind : (sizes : Sizes) (batches : List (List Item)) (ps : List Post) (z : Zone) → with_batches batches (delivered sizes ps z) ≡ delivered sizes ps (with_batches batches z)
delivered_behind sizes batches [] z = refl
delivered_behind sizes batches (p ∷ ps) z =
    let to = zone_number sizes p.0 in
    delivered_behind sizes batches ps (sent sizes p z) ∙ ap (delivered sizes ps) (sent_behind batches (nat_eq to z.number) to p.1 z)

-- A step of a zone by itself is one of the zone with what lies in its lanes.
pub step_behind : (sizes : Sizes) (batches : List (List Item)) (old new : Zone) (made : Trace) → ZoneStep sizes old new made → ZoneStep sizes (with_batches batches old) (with_batches batches new) made
step_behind sizes batches old new made s =
    record {
      front = s.front;
      rest = s.rest;
      posts = s.posts;
      counts = s.counts;
      taken = s.taken;
      in_turn = s.in_turn;
      act = s.act;
      lanes = ap (with_batches batches) s.lanes ∙ delivered_behind sizes batches s.posts (record old { keeps = new.keeps; ports = record old.ports { inbox = s.rest }; steps = old.steps + 1 });
    }

-- what lies in the lanes from the zone of a number
abbrev pub batches_of : ℕ → List (List (List Item)) → List (List Item)
batches_of n [] = []
batches_of zero (b ∷ bs) = b
batches_of (suc n) (b ∷ bs) = batches_of n bs

pub view_get : (views : List Zone) (lanes : List (List (List Item))) (n : ℕ) (z : Zone) → slice_get views n ≡ Some z → slice_get (zones_of views lanes) n ≡ Some (with_batches (batches_of n lanes) z)
view_get [] lanes n z h = cc
view_get (y ∷ ys) [] n z h = h
view_get (y ∷ ys) (b ∷ bs) zero z h = ap (λ (k : Zone). Some (with_batches b k)) (same_Some _ _ h)
view_get (y ∷ ys) (b ∷ bs) (suc n) z h = view_get ys bs n z h

pub view_put : (views : List Zone) (lanes : List (List (List Item))) (n : ℕ) (z : Zone) → zones_of (slice_set views n z) lanes ≡ slice_set (zones_of views lanes) n (with_batches (batches_of n lanes) z)
view_put [] lanes n z = refl
view_put (y ∷ ys) [] zero z = refl
view_put (y ∷ ys) [] (suc n) z = refl
view_put (y ∷ ys) (b ∷ bs) zero z = refl
view_put (y ∷ ys) (b ∷ bs) (suc n) z = ap (λ (zones : List Zone). with_batches b y ∷ zones) (view_put ys bs n z)

at_moment : List Zone → Trace → Core
at_moment zones t = record { zones = zones; trace = t }

-- The step that a thread computed from its own zone is a step of the core, whatever the other views and the lanes are when it is taken.
pub seat_step : (sizes : Sizes) (views : List Zone) (lanes : List (List (List Item))) (n : ℕ) (old new : Zone) (made t : Trace) → slice_get views n ≡ Some old → ZoneStep sizes old new made
    → StepOf sizes (core_of views lanes t) (core_of (slice_set views n new) lanes (made ++ t))
unfolding at_moment
seat_step sizes views lanes n old new made t h s =
    record {
      number = n;
      zone = with_batches (batches_of n lanes) old;
      zone' = with_batches (batches_of n lanes) new;
      made = made;
      had = view_get views lanes n old h;
      step = step_behind sizes (batches_of n lanes) old new made s;
      has = ap (λ (zones : List Zone). at_moment zones (made ++ t)) (view_put views lanes n new);
    }

-- What threads do with batches, as moves of the core that their views and the lanes stand for.

-- a view in its place
pub seen_get : (views : List View) (n : ℕ) (view : View) → slice_get views n ≡ Some view → slice_get (zones_seen views) n ≡ Some view.zone
seen_get [] n view h = absurd cc
seen_get (y ∷ ys) zero view h = ap (λ (v : View). Some v.zone) (same_Some _ _ h)
seen_get (y ∷ ys) (suc n) view h = seen_get ys n view h

seen_put : (views : List View) (n : ℕ) (view : View) → zones_seen (slice_set views n view) ≡ slice_set (zones_seen views) n view.zone
seen_put [] n view = refl
seen_put (y ∷ ys) zero view = refl
seen_put (y ∷ ys) (suc n) view = ap (λ (zones : List Zone). y.zone ∷ zones) (seen_put ys n view)

-- the same zone stands in its place
put_same : {X : Type 0} (xs : List X) (n : ℕ) (x : X) → slice_get xs n ≡ Some x → slice_set xs n x ≡ xs
put_same [] n x h = refl
put_same {X = X} (y ∷ ys) zero x h = ap (λ (z : X). z ∷ ys) (sym (same_Some _ _ h))
put_same {X = X} (y ∷ ys) (suc n) x h = ap (λ (zs : List X). y ∷ zs) (put_same ys n x h)

-- the batches of a zone
row_of : (lanes : List (List (List Item))) (n : ℕ) (row : List (List Item)) → slice_get lanes n ≡ Some row → batches_of n lanes ≡ row
row_of [] n row h = absurd cc
row_of (b ∷ bs) zero row h = same_Some _ _ h
row_of (b ∷ bs) (suc n) row h = row_of bs n row h

-- other batches from a zone
row_put : (views : List Zone) (lanes : List (List (List Item))) (n : ℕ) (z : Zone) (row row' : List (List Item)) → slice_get views n ≡ Some z → slice_get lanes n ≡ Some row
    → zones_of views (slice_set lanes n row') ≡ slice_set (zones_of views lanes) n (with_batches row' z)
row_put [] lanes n z row row' h k = absurd cc
row_put (y ∷ ys) [] n z row row' h k = absurd cc
row_put (y ∷ ys) (b ∷ bs) zero z row row' h k = ap (λ (v : Zone). with_batches row' v ∷ zones_of ys bs) (same_Some _ _ h)
row_put (y ∷ ys) (b ∷ bs) (suc n) z row row' h k = ap (λ (zones : List Zone). with_batches b y ∷ zones) (row_put ys bs n z row row' h k)

-- a batch that was in the outbox is in the lane
batch_posted : (row lanes : List (List Item)) (to : ℕ) (batch : List Item) → slice_get row to ≡ Some [] → slice_get lanes to ≡ Some batch → behind (slice_set row to batch) (slice_set lanes to []) ≡ behind row lanes
batch_posted [] lanes to batch h k = absurd cc
batch_posted (b ∷ bs) [] to batch h k = absurd cc
batch_posted (b ∷ bs) (l ∷ ls) zero batch h k =
    let was : b ≡ [] = same_Some _ _ h in
    ap (λ (lane : List Item). lane ∷ behind bs ls) (append-nil batch ∙ sym (same_Some _ _ k) ∙ ap (λ (front : List Item). front ++ l) (sym was))
batch_posted (b ∷ bs) (l ∷ ls) (suc to) batch h k = ap (λ (lanes : List (List Item)). (b ++ l) ∷ lanes) (batch_posted bs ls to batch h k)

-- what lies in a lane, and what is behind it
behind_get : (row lanes : List (List Item)) (to : ℕ) (batch left : List Item) → slice_get row to ≡ Some batch → slice_get lanes to ≡ Some left → slice_get (behind row lanes) to ≡ Some (batch ++ left)
behind_get [] lanes to batch left h k = absurd cc
behind_get (b ∷ bs) [] to batch left h k = absurd cc
behind_get (b ∷ bs) (l ∷ ls) zero batch left h k = ap (λ (front : List Item). Some (front ++ l)) (same_Some _ _ h) ∙ ap (λ (rest : List Item). Some (batch ++ rest)) (same_Some _ _ k)
behind_get (b ∷ bs) (l ∷ ls) (suc to) batch left h k = behind_get bs ls to batch left h k

behind_taken : (row lanes : List (List Item)) (to : ℕ) (batch left : List Item) → slice_get row to ≡ Some batch → slice_get lanes to ≡ Some left → behind (slice_set row to []) lanes ≡ slice_set (behind row lanes) to left
behind_taken [] lanes to batch left h k = absurd cc
behind_taken (b ∷ bs) [] to batch left h k = absurd cc
behind_taken (b ∷ bs) (l ∷ ls) zero batch left h k = ap (λ (lane : List Item). lane ∷ behind bs ls) (same_Some _ _ k)
behind_taken (b ∷ bs) (l ∷ ls) (suc to) batch left h k = ap (λ (lanes : List (List Item)). (b ++ l) ∷ lanes) (behind_taken bs ls to batch left h k)

-- A batch that is posted counts to the lane, as it counted to the outbox.
pub posts_batch : (from to : ℕ) (views views' : List View) (lanes lanes' : List (List (List Item))) (t : Trace) → PostsBatch from to views views' lanes lanes'
    → core_of (zones_seen views') lanes' t ≡ core_of (zones_seen views) lanes t
posts_batch from to views views' lanes lanes' t p = ap (λ (zones : List Zone). core_with zones t) zones_same
  where
    sender' : Zone
    sender' = record p.sender.zone { ports = record p.sender.zone.ports { outboxes = slice_set p.sender.zone.ports.outboxes to [] } }

    row' : List (List Item)
    row' = slice_set p.empty.row to p.batch

    there : slice_get (zones_seen views) from ≡ Some p.sender.zone
    there = seen_get views from p.sender p.had

    same : with_batches row' sender' ≡ with_batches (batches_of from lanes) p.sender.zone
    same = ap (λ (lanes : List (List Item)). record p.sender.zone { ports = record p.sender.zone.ports { outboxes = lanes } }) (batch_posted p.empty.row p.sender.zone.ports.outboxes to p.batch p.empty.holds p.outbox)
        ∙ ap (λ (row : List (List Item)). with_batches row p.sender.zone) (sym (row_of lanes from p.empty.row p.empty.had))

    put_twice : {X : Type 0} (xs : List X) (n : ℕ) (x y : X) → slice_set (slice_set xs n x) n y ≡ slice_set xs n y
    put_twice [] n x y = refl
    put_twice (z ∷ zs) zero x y = refl
    put_twice {X = X} (z ∷ zs) (suc n) x y = ap (λ (ws : List X). z ∷ ws) (put_twice zs n x y)

    zones_same : zones_of (zones_seen views') lanes' ≡ zones_of (zones_seen views) lanes
    zones_same =
        ap (λ (vs : List View). zones_of (zones_seen vs) lanes') p.views_is ∙ ap (λ (ls : List (List (List Item))). zones_of (zones_seen (slice_set views from (record p.sender { zone = sender' }))) ls) p.lanes_is
        ∙ ap (λ (zs : List Zone). zones_of zs (with_batch lanes from p.empty.row to p.batch)) (seen_put views from (record p.sender { zone = sender' }))
        ∙ row_put (slice_set (zones_seen views) from sender') lanes from sender' p.empty.row row' (get-put_same (zones_seen views) from p.sender.zone sender' there) p.empty.had
        ∙ ap (λ (zs : List Zone). slice_set zs from (with_batches row' sender')) (view_put (zones_seen views) lanes from sender')
        ∙ put_twice (zones_of (zones_seen views) lanes) from (with_batches (batches_of from lanes) sender') (with_batches row' sender')
        ∙ ap (λ (z : Zone). slice_set (zones_of (zones_seen views) lanes) from z) same
        ∙ put_same (zones_of (zones_seen views) lanes) from (with_batches (batches_of from lanes) p.sender.zone) (view_get (zones_seen views) lanes from p.sender.zone there)

-- One that is received still counts to the lane.
pub receives_batch : (from to : ℕ) (views views' : List View) (lanes : List (List (List Item))) (t : Trace) → ReceivesBatch from to views views' lanes
    → core_of (zones_seen views') lanes t ≡ core_of (zones_seen views) lanes t
receives_batch from to views views' lanes t r =
    ap (λ (zones : List Zone). core_of zones lanes t)
    (ap zones_seen r.views_is ∙ seen_put views to (record r.receiver { received = slice_set r.receiver.received from r.batch }) ∙ put_same (zones_seen views) to r.receiver.zone (seen_get views to r.receiver r.had))

-- One that is taken moves.
pub takes_batch : (from to : ℕ) (views views' : List View) (lanes lanes' : List (List (List Item))) (t : Trace) → TakesBatch from to views views' lanes lanes'
    → MoveOf (core_of (zones_seen views) lanes t) (core_of (zones_seen views') lanes' t)
takes_batch from to views views' lanes lanes' t k = record {
  from = from;
  to = to;
  source = with_batches (batches_of from lanes) k.sender.zone;
  target = with_batches (batches_of to lanes) k.receiver.zone;
  part = k.batch;
  left = k.left;
  apart = k.apart;
  had_source = view_get (zones_seen views) lanes from k.sender.zone there;
  had_target = view_get (zones_seen views) lanes to k.receiver.zone (seen_get views to k.receiver k.had_receiver);
  outbox = subst (λ (row : List (List Item)). slice_get (behind row k.sender.zone.ports.outboxes) to ≡ Some (k.batch ++ k.left)) (sym row_is) (behind_get k.lane.row k.sender.zone.ports.outboxes to k.batch k.left k.lane.holds k.outbox);
  has = ap (λ (zones : List Zone). core_with zones t) zones_moved;
}
  where
    there : slice_get (zones_seen views) from ≡ Some k.sender.zone
    there = seen_get views from k.sender k.had_sender

    row_is : batches_of from lanes ≡ k.lane.row
    row_is = row_of lanes from k.lane.row k.lane.had

    receiver' : Zone
    receiver' = record k.receiver.zone { ports = record k.receiver.zone.ports { inbox = k.receiver.zone.ports.inbox ++ k.batch } }

    row' : List (List Item)
    row' = slice_set k.lane.row to []

    -- the batches from the receiver stay
    own_row : (rows : List (List (List Item))) (i j : ℕ) (row : List (List Item)) → i ≢ j → batches_of j (slice_set rows i row) ≡ batches_of j rows
    own_row [] i j row apart = refl
    own_row (b ∷ bs) zero zero row apart = absurd (apart refl)
    own_row (b ∷ bs) zero (suc j) row apart = refl
    own_row (b ∷ bs) (suc i) zero row apart = refl
    own_row (b ∷ bs) (suc i) (suc j) row apart = own_row bs i j row (λ e. apart (ap suc e))

    sent : with_batches row' k.sender.zone ≡ with_outboxes (with_batches (batches_of from lanes) k.sender.zone) (slice_set (behind (batches_of from lanes) k.sender.zone.ports.outboxes) to k.left)
    sent = ap (λ (lanes : List (List Item)). record k.sender.zone { ports = record k.sender.zone.ports { outboxes = lanes } })
        (behind_taken k.lane.row k.sender.zone.ports.outboxes to k.batch k.left k.lane.holds k.outbox ∙ ap (λ (row : List (List Item)). slice_set (behind row k.sender.zone.ports.outboxes) to k.left) (sym row_is))

    zones_moved : zones_of (zones_seen views') lanes'
        ≡ slice_set (slice_set (zones_of (zones_seen views) lanes) from (with_outboxes (with_batches (batches_of from lanes) k.sender.zone) (slice_set (behind (batches_of from lanes) k.sender.zone.ports.outboxes) to k.left)))
        to (with_inbox (with_batches (batches_of to lanes) k.receiver.zone) (k.receiver.zone.ports.inbox ++ k.batch))
    zones_moved =
        ap (λ (vs : List View). zones_of (zones_seen vs) lanes') k.views_is
        ∙ ap (λ (ls : List (List (List Item))). zones_of (zones_seen (slice_set views to (record k.receiver { zone = receiver'; received = slice_set k.receiver.received from [] }))) ls) k.lanes_is
        ∙ ap (λ (zs : List Zone). zones_of zs (slice_set lanes from row')) (seen_put views to (record k.receiver { zone = receiver'; received = slice_set k.receiver.received from [] }))
        ∙ view_put (zones_seen views) (slice_set lanes from row') to receiver'
        ∙ ap (λ (row : List (List Item)). slice_set (zones_of (zones_seen views) (slice_set lanes from row')) to (with_batches row receiver')) (own_row lanes from to row' k.apart)
        ∙ ap (λ (zs : List Zone). slice_set zs to (with_batches (batches_of to lanes) receiver')) (row_put (zones_seen views) lanes from k.sender.zone k.lane.row row' there k.lane.had)
        ∙ ap (λ (z : Zone). slice_set (slice_set (zones_of (zones_seen views) lanes) from z) to (with_batches (batches_of to lanes) receiver')) sent

-- with nothing in any lane, the views are the zones
nothing_behind : (row lanes : List (List Item)) → AllByRecursion (λ batch. batch ≡ []) row → behind row lanes ≡ lanes
nothing_behind [] lanes h = refl
nothing_behind (b ∷ bs) [] h = refl
nothing_behind (b ∷ bs) (l ∷ ls) h = ap (λ (front : List Item). (front ++ l) ∷ behind bs ls) h.0 ∙ ap (λ (lanes : List (List Item)). l ∷ lanes) (nothing_behind bs ls h.1)

zones_alone : (zones : List Zone) (lanes : List (List (List Item))) → AreEmptyLanes lanes → zones_of zones lanes ≡ zones
zones_alone [] lanes h = refl
zones_alone (z ∷ zs) [] h = refl
zones_alone (z ∷ zs) (b ∷ bs) h =
    ap (λ (lanes : List (List Item)). (record z { ports = record z.ports { outboxes = lanes } }) ∷ zones_of zs bs) (nothing_behind b z.ports.outboxes h.0) ∙ ap (λ (zones : List Zone). z ∷ zones) (zones_alone zs bs h.1)

-- At the start they stand for the first core.
pub first_views : (s : Session) (core : Core) (views : List View) (lanes : List (List (List Item))) → IsFirst s core → zones_seen views ≡ core.zones → AreEmptyLanes lanes → core_of (zones_seen views) lanes [] ≡ core
first_views s core views lanes first seen empty =
    ap (λ (zones : List Zone). core_of zones lanes []) seen ∙ ap (λ (zones : List Zone). core_with zones []) (zones_alone core.zones lanes empty) ∙ ap (λ (t : Trace). core_with core.zones t) (sym first.trace_is)
