-- A stream stays in its order over each step and each move, by what a step owes of it.
use Rattle.std.proofs.Common.{◌≡◌, ℕ, List, ◌++◌, Some, slice_get, slice_set, refl, sym, ◌∙◌, ap, subst, inl, inr, zero, suc, Bool, true, false, cond, [], ◌∷◌, ◌+◌, nat_eq, append_assoc, arith}
use Rattle.core_laws.proofs.Common.{Each, Each-put_other, Item, Post, Sizes, Trace, Zone, append-nil, eqb_tells, get-put_other, get-put_same, same_Some, zone_number}
use Rattle.core_model.specs.Steps.{Core, MoveOf, posted, sent_to, sent, delivered, StepOf}
use Rattle.core_model.specs.Streams.{Stream, Flows, counted}

-- What a move leaves of each zone.

-- what stood at the number of a zone before a move, and what of it the move changed
pub record Moved (old new : Core) (m : MoveOf old new) (j : ℕ) (z : Zone) : Type 0 where
  pub was : Zone
  pub had : slice_get old.zones j ≡ Some was
  pub number_is : z.number ≡ was.number
  pub keeps_is : z.keeps ≡ was.keeps
  pub inbox_to : j ≡ m.to → z.ports.inbox ≡ was.ports.inbox ++ m.part
  pub inbox_other : (j ≡ m.to → ⊥) → z.ports.inbox ≡ was.ports.inbox
  pub lanes_from : j ≡ m.from → z.ports.outboxes ≡ slice_set m.source.ports.outboxes m.to m.left
  pub was_from : j ≡ m.from → was ≡ m.source
  pub lanes_other : (j ≡ m.from → ⊥) → z.ports.outboxes ≡ was.ports.outboxes

pub moved : (old new : Core) (m : MoveOf old new) (j : ℕ) (z : Zone) → slice_get new.zones j ≡ Some z → Moved old new m j z
moved old new m j z has =
    elim (eqb_tells j m.to) [
      | inl at_to ↦
          let is : target' ≡ z = same_Some _ _ (sym (get-put_same (slice_set old.zones m.from source') m.to m.target target' still_there) ∙ subst (λ (i : ℕ). slice_get zones' i ≡ Some z) at_to.1 has') in
          let not_from : j ≡ m.from → ⊥ = λ e. m.apart (sym e ∙ at_to.1) in
          record {
            was = m.target;
            had = subst (λ (i : ℕ). slice_get old.zones i ≡ Some m.target) (sym at_to.1) m.had_target;
            number_is = ap (λ (y : Zone). y.number) (sym is);
            keeps_is = ap (λ (y : Zone). y.keeps) (sym is);
            inbox_to = λ e. ap (λ (y : Zone). y.ports.inbox) (sym is);
            inbox_other = λ ne. absurd (ne at_to.1);
            lanes_from = λ e. absurd (not_from e);
            was_from = λ e. absurd (not_from e);
            lanes_other = λ ne. ap (λ (y : Zone). y.ports.outboxes) (sym is);
          }
      | inr other ↦
          let has_before : slice_get (slice_set old.zones m.from source') j ≡ Some z = sym (get-put_other (slice_set old.zones m.from source') m.to j target' other.1) ∙ has' in
          elim (eqb_tells j m.from) [
            | inl at_from ↦
                let is : source' ≡ z = same_Some _ _ (sym (get-put_same old.zones m.from m.source source' m.had_source) ∙ subst (λ (i : ℕ). slice_get (slice_set old.zones m.from source') i ≡ Some z) at_from.1 has_before) in
                record {
                  was = m.source;
                  had = subst (λ (i : ℕ). slice_get old.zones i ≡ Some m.source) (sym at_from.1) m.had_source;
                  number_is = ap (λ (y : Zone). y.number) (sym is);
                  keeps_is = ap (λ (y : Zone). y.keeps) (sym is);
                  inbox_to = λ e. absurd (other.1 e);
                  inbox_other = λ ne. ap (λ (y : Zone). y.ports.inbox) (sym is);
                  lanes_from = λ e. ap (λ (y : Zone). y.ports.outboxes) (sym is);
                  was_from = λ e. refl;
                  lanes_other = λ ne. absurd (ne at_from.1);
                }
            | inr apart ↦
                record {
                  was = z;
                  had = sym (get-put_other old.zones m.from j source' apart.1) ∙ has_before;
                  number_is = refl;
                  keeps_is = refl;
                  inbox_to = λ e. absurd (other.1 e);
                  inbox_other = λ ne. refl;
                  lanes_from = λ e. absurd (apart.1 e);
                  was_from = λ e. absurd (apart.1 e);
                  lanes_other = λ ne. refl;
                }
          ]
    ]
  where
    source' : Zone
    source' = record m.source { ports = record m.source.ports { outboxes = slice_set m.source.ports.outboxes m.to m.left } }

    target' : Zone
    target' = record m.target { ports = record m.target.ports { inbox = m.target.ports.inbox ++ m.part } }

    zones' : List Zone
    zones' = slice_set (slice_set old.zones m.from source') m.to target'

    still_there : slice_get (slice_set old.zones m.from source') m.to ≡ Some m.target
    still_there = get-put_other old.zones m.from m.to source' (λ e. m.apart (sym e)) ∙ m.had_target

    has' : slice_get zones' j ≡ Some z
    has' = subst (λ (core : Core). slice_get core.zones j ≡ Some z) m.has has

-- A stream stays in its order over each step and each move, by what a step owes of it.

-- what is posted to the zone of a number
abbrev pub items_to : Sizes → ℕ → List Post → List Item
items_to sizes n [] = []
items_to sizes n (p ∷ ps) = cond (nat_eq (zone_number sizes p.0) n) (p.1 ∷ items_to sizes n ps) (items_to sizes n ps)

-- what two lists count for
pub counted-append : {X : Type 0} (counts : Item → List X) (xs ys : List Item) → counted counts (xs ++ ys) ≡ counted counts xs ++ counted counts ys
counted-append counts [] ys = refl
counted-append {X = X} counts (x ∷ xs) ys = ap (λ (us : List X). counts x ++ us) (counted-append counts xs ys) ∙ sym (append_assoc (counts x) (counted counts xs) (counted counts ys))

-- two lists of nothing
pub front_nothing : {X : Type 0} (us vs : List X) → us ++ vs ≡ [] → us ≡ []
front_nothing [] vs e = refl
front_nothing (u ∷ us) vs e = absurd cc

pub rest_nothing : {X : Type 0} (us vs : List X) → us ++ vs ≡ [] → vs ≡ []
rest_nothing [] vs e = e
rest_nothing (u ∷ us) vs e = absurd cc

-- what posts leave of a lane
pub record WasLane (lanes : List (List Item)) (n : ℕ) (more lane : List Item) : Type 0 where
  pub old : List Item
  pub was : slice_get lanes n ≡ Some old
  pub is : lane ≡ old ++ more

-- two numbers with one more each, and with one more of one alone
next_same : (m n : ℕ) → nat_eq (suc m) (suc n) ≡ nat_eq m n
next_same m n = elim (eqb_tells m n) [
  | inl same ↦ elim (eqb_tells (suc m) (suc n)) [ inl next ↦ next.0 ∙ sym same.0 | inr apart ↦ absurd (apart.1 (ap suc same.1)) ]
  | inr other ↦ elim (eqb_tells (suc m) (suc n)) [ inl next ↦ absurd (other.1 (omega (arith, next.1))) | inr apart ↦ apart.0 ∙ sym other.0 ]
]

none_next : (n : ℕ) → nat_eq zero (suc n) ≡ false
none_next n = elim (eqb_tells zero (suc n)) [ inl same ↦ absurd (omega (arith, same.1)) | inr other ↦ other.0 ]

next_none : (n : ℕ) → nat_eq (suc n) zero ≡ false
next_none n = elim (eqb_tells (suc n) zero) [ inl same ↦ absurd (omega (arith, same.1)) | inr other ↦ other.0 ]

was_posted : (to : ℕ) (x : Item) (lanes : List (List Item)) (n : ℕ) (lane : List Item) → slice_get (posted to x lanes) n ≡ Some lane → WasLane lanes n (cond (nat_eq to n) (x ∷ []) []) lane
was_posted to x [] n lane h = absurd cc
was_posted zero x (l ∷ ls) zero lane h = record { old = l; was = refl; is = sym (same_Some _ _ h) }
was_posted zero x (l ∷ ls) (suc n) lane h = record { old = lane; was = h; is = rw (none_next n) (sym (append-nil lane)) }
was_posted (suc to) x (l ∷ ls) zero lane h = record { old = l; was = refl; is = rw (next_none to) (sym (same_Some _ _ h) ∙ sym (append-nil l)) }
was_posted (suc to) x (l ∷ ls) (suc n) lane h = let r = was_posted to x ls n lane h in record { old = r.old; was = r.was; is = rw (next_same to n) r.is }

was_sent : (b : Bool) (to : ℕ) (x : Item) (z : Zone) (n : ℕ) (lane : List Item) → nat_eq to z.number ≡ b → (z.number ≡ n → ⊥) → slice_get (sent_to b to x z).ports.outboxes n ≡ Some lane
    → WasLane z.ports.outboxes n (cond (nat_eq to n) (x ∷ []) []) lane
was_sent true to x z n lane is apart h = elim (eqb_tells to z.number) [
  | inl same ↦ elim (eqb_tells to n) [
    | inl there ↦ absurd (apart (sym same.1 ∙ there.1))
    | inr other ↦ record { old = lane; was = h; is = rw other.0 (sym (append-nil lane)) }
  ]
  | inr other ↦ let both : true ≡ false = sym is ∙ other.0 in absurd cc
]
was_sent false to x z n lane is apart h = was_posted to x z.ports.outboxes n lane h

number_sent : (b : Bool) (to : ℕ) (x : Item) (z : Zone) → (sent_to b to x z).number ≡ z.number
number_sent true to x z = refl
number_sent false to x z = refl

two_parts : (b : Bool) (x : Item) (more : List Item) → cond b (x ∷ []) [] ++ more ≡ cond b (x ∷ more) more
two_parts true x more = refl
two_parts false x more = refl

-- a lane to the zone itself stays
own_lane_sent : (b : Bool) (to : ℕ) (x : Item) (z : Zone) → nat_eq to z.number ≡ b → slice_get (sent_to b to x z).ports.outboxes z.number ≡ slice_get z.ports.outboxes z.number
own_lane_sent true to x z is = refl
own_lane_sent false to x z is = posted_other to x z.ports.outboxes z.number is
  where
    posted_other : (to : ℕ) (x : Item) (lanes : List (List Item)) (n : ℕ) → nat_eq to n ≡ false → slice_get (posted to x lanes) n ≡ slice_get lanes n
    posted_other to x [] n is = refl
    posted_other zero x (l ∷ ls) zero is = absurd cc
    posted_other zero x (l ∷ ls) (suc n) is = refl
    posted_other (suc to) x (l ∷ ls) zero is = refl
    posted_other (suc to) x (l ∷ ls) (suc n) is = posted_other to x ls n (sym (next_same to n) ∙ is)

-- the inbox has what the zone posted to itself
inbox_sent : (b : Bool) (to : ℕ) (x : Item) (z : Zone) → nat_eq to z.number ≡ b → (sent_to b to x z).ports.inbox ≡ z.ports.inbox ++ cond (nat_eq to z.number) (x ∷ []) []
inbox_sent true to x z is = rw is refl
inbox_sent false to x z is = rw is (sym (append-nil z.ports.inbox))

module _ (sizes : Sizes) where
  -- a lane to another zone, after posts were delivered
  pub was_delivered : (ps : List Post) (z : Zone) (n : ℕ) (lane : List Item) → (z.number ≡ n → ⊥) → slice_get (delivered sizes ps z).ports.outboxes n ≡ Some lane → WasLane z.ports.outboxes n (items_to sizes n ps) lane
  was_delivered [] z n lane apart h = record { old = lane; was = h; is = sym (append-nil lane) }
  was_delivered (p ∷ ps) z n lane apart h =
      let to = zone_number sizes p.0 in
      let r = was_delivered ps (sent sizes p z) n lane (λ e. apart (sym (number_sent (nat_eq to z.number) to p.1 z) ∙ e)) h in
      let q = was_sent (nat_eq to z.number) to p.1 z n r.old refl apart r.was in
      record {
        old = q.old;
        was = q.was;
        is = r.is ∙ ap (λ (items : List Item). items ++ items_to sizes n ps) q.is ∙ append_assoc q.old (cond (nat_eq to n) (p.1 ∷ []) []) (items_to sizes n ps)
            ∙ ap (λ (items : List Item). q.old ++ items) (two_parts (nat_eq to n) p.1 (items_to sizes n ps));
      }

  pub own_lane_delivered : (ps : List Post) (z : Zone) → slice_get (delivered sizes ps z).ports.outboxes z.number ≡ slice_get z.ports.outboxes z.number
  own_lane_delivered [] z = refl
  own_lane_delivered (p ∷ ps) z =
      let to = zone_number sizes p.0 in
      let same = number_sent (nat_eq to z.number) to p.1 z in
      subst (λ (n : ℕ). slice_get (delivered sizes ps (sent sizes p z)).ports.outboxes n ≡ slice_get (sent sizes p z).ports.outboxes n) same (own_lane_delivered ps (sent sizes p z)) ∙ own_lane_sent (nat_eq to z.number) to p.1 z refl

  pub inbox_delivered : (ps : List Post) (z : Zone) → (delivered sizes ps z).ports.inbox ≡ z.ports.inbox ++ items_to sizes z.number ps
  inbox_delivered [] z = sym (append-nil z.ports.inbox)
  inbox_delivered (p ∷ ps) z =
      let to = zone_number sizes p.0 in
      let same = number_sent (nat_eq to z.number) to p.1 z in
      inbox_delivered ps (sent sizes p z) ∙ ap (λ (n : ℕ). (sent sizes p z).ports.inbox ++ items_to sizes n ps) same
      ∙ ap (λ (items : List Item). items ++ items_to sizes z.number ps) (inbox_sent (nat_eq to z.number) to p.1 z refl)
      ∙ append_assoc z.ports.inbox (cond (nat_eq to z.number) (p.1 ∷ []) []) (items_to sizes z.number ps)
      ∙ ap (λ (items : List Item). z.ports.inbox ++ items) (two_parts (nat_eq to z.number) p.1 (items_to sizes z.number ps))

-- What an act of the zone of a number owes: the sender sends what it posts to the receiver, the receiver takes what it is served,
-- and nobody else does either.
pub record Keeps {X : Type 0} (stream : Stream X) (sizes : Sizes) (n : ℕ) (t : Trace) (front : List Item) (made : Trace) (posts : List Post) : Type 0 where
  pub sends : n ≡ stream.from → stream.sent (made ++ t) ≡ stream.sent t ++ counted stream.counts (items_to sizes stream.to posts)
  pub sent_same : (n ≡ stream.from → ⊥) → stream.sent (made ++ t) ≡ stream.sent t
  pub nothing : (n ≡ stream.from → ⊥) → counted stream.counts (items_to sizes stream.to posts) ≡ []
  pub takes : n ≡ stream.to → stream.taken (made ++ t) ≡ stream.taken t ++ counted stream.counts front
  pub taken_same : (n ≡ stream.to → ⊥) → stream.taken (made ++ t) ≡ stream.taken t

module _ (X : Type 0) (stream : Stream X) (sizes : Sizes) (apart : stream.from ≡ stream.to → ⊥) where
  -- after a step
  module _ (zones : List Zone) (t : Trace) (n : ℕ) (old new : Zone) (front rest : List Item) (made : Trace) (posts : List Post) (had : slice_get zones n ≡ Some old) (number : old.number ≡ n)
      (taken : old.ports.inbox ≡ front ++ rest) (inbox : new.ports.inbox ≡ rest ++ items_to sizes n posts) (owes : Keeps stream sizes n t front made posts) where
    abbrev zones' : List Zone
    zones' = slice_set zones n new

    -- a zone that didn't step
    stays : (j : ℕ) (z : Zone) → (j ≡ n → ⊥) → slice_get zones' j ≡ Some z → slice_get zones j ≡ Some z
    stays j z other h = sym (get-put_other zones n j new other) ∙ h

    -- the zone that stepped
    stepped : (j : ℕ) (z : Zone) → j ≡ n → slice_get zones' j ≡ Some z → new ≡ z
    stepped j z is h = same_Some _ _ (sym (get-put_same zones n old new had) ∙ subst (λ (i : ℕ). slice_get zones' i ≡ Some z) is h)

    abbrev c : List Item → List X
    c items = counted stream.counts items

    module _ (lanes : (lane : List Item) → (n ≡ stream.to → ⊥) → slice_get new.ports.outboxes stream.to ≡ Some lane → WasLane old.ports.outboxes stream.to (items_to sizes stream.to posts) lane)
        (own_lane : n ≡ stream.to → slice_get new.ports.outboxes stream.to ≡ slice_get old.ports.outboxes stream.to) (flows : Flows stream t zones) where
      -- the sender stepped
      by_sender : (receiver sender : Zone) (lane : List Item) → n ≡ stream.from → slice_get zones stream.to ≡ Some receiver → slice_get new.ports.outboxes stream.to ≡ Some lane
          → stream.sent (made ++ t) ≡ stream.taken (made ++ t) ++ (c receiver.ports.inbox ++ c lane)
      by_sender receiver sender lane is had_receiver had_lane =
          let here : n ≡ stream.to → ⊥ = λ e. apart (sym is ∙ e) in
          let r = lanes lane here had_lane in
          let before = flows.in_order receiver old r.old had_receiver (subst (λ (i : ℕ). slice_get zones i ≡ Some old) is had) r.was in
          owes.sends is ∙ ap (λ (us : List X). us ++ c (items_to sizes stream.to posts)) before
          ∙ append_assoc (stream.taken t) (c receiver.ports.inbox ++ c r.old) (c (items_to sizes stream.to posts))
          ∙ ap (λ (us : List X). stream.taken t ++ us) (append_assoc (c receiver.ports.inbox) (c r.old) (c (items_to sizes stream.to posts))
          ∙ ap (λ (us : List X). c receiver.ports.inbox ++ us) (sym (counted-append stream.counts r.old (items_to sizes stream.to posts)) ∙ ap c (sym r.is)))
          ∙ ap (λ (us : List X). us ++ (c receiver.ports.inbox ++ c lane)) (sym (owes.taken_same here))

      -- the receiver stepped
      by_receiver : (sender : Zone) (lane : List Item) → n ≡ stream.to → slice_get zones stream.from ≡ Some sender → slice_get sender.ports.outboxes stream.to ≡ Some lane
          → stream.sent (made ++ t) ≡ stream.taken (made ++ t) ++ (c new.ports.inbox ++ c lane)
      by_receiver sender lane is had_sender had_lane =
          let here : n ≡ stream.from → ⊥ = λ e. apart (sym e ∙ is) in
          let before = flows.in_order old sender lane (subst (λ (i : ℕ). slice_get zones i ≡ Some old) is had) had_sender had_lane in
          let none : c (items_to sizes n posts) ≡ [] = subst (λ (i : ℕ). c (items_to sizes i posts) ≡ []) (sym is) (owes.nothing here) in
          let inbox_is : c new.ports.inbox ≡ c rest = ap c inbox ∙ counted-append stream.counts rest (items_to sizes n posts) ∙ ap (λ (us : List X). c rest ++ us) none ∙ append-nil (c rest) in
          owes.sent_same here ∙ before
          ∙ ap (λ (us : List X). stream.taken t ++ (us ++ c lane)) (ap c taken ∙ counted-append stream.counts front rest)
          ∙ ap (λ (us : List X). stream.taken t ++ us) (append_assoc (c front) (c rest) (c lane))
          ∙ sym (append_assoc (stream.taken t) (c front) (c rest ++ c lane))
          ∙ ap (λ (us : List X). us ++ (c rest ++ c lane)) (sym (owes.takes is))
          ∙ ap (λ (us : List X). stream.taken (made ++ t) ++ (us ++ c lane)) (sym inbox_is)

      step_order : (receiver sender : Zone) (lane : List Item) → slice_get zones' stream.to ≡ Some receiver → slice_get zones' stream.from ≡ Some sender → slice_get sender.ports.outboxes stream.to ≡ Some lane
          → stream.sent (made ++ t) ≡ stream.taken (made ++ t) ++ (c receiver.ports.inbox ++ c lane)
      step_order receiver sender lane had_receiver had_sender had_lane = elim (eqb_tells stream.from n) [
        | inl from ↦
            let is = stepped stream.from sender from.1 had_sender in
            by_sender receiver sender lane (sym from.1) (stays stream.to receiver (λ e. apart (from.1 ∙ sym e)) had_receiver) (subst (λ (z : Zone). slice_get z.ports.outboxes stream.to ≡ Some lane) (sym is) had_lane)
        | inr not_from ↦
            let there = stays stream.from sender not_from.1 had_sender in
            elim (eqb_tells stream.to n) [
              | inl to ↦
                  let is = stepped stream.to receiver to.1 had_receiver in
                  subst (λ (z : Zone). stream.sent (made ++ t) ≡ stream.taken (made ++ t) ++ (c z.ports.inbox ++ c lane)) is (by_receiver sender lane (sym to.1) there had_lane)
              | inr not_to ↦
                  let before = flows.in_order receiver sender lane (stays stream.to receiver not_to.1 had_receiver) there had_lane in
                  owes.sent_same (λ e. not_from.1 (sym e)) ∙ before ∙ ap (λ (us : List X). us ++ (c receiver.ports.inbox ++ c lane)) (sym (owes.taken_same (λ e. not_to.1 (sym e))))
            ]
      ]

      step_alone : (n ≡ stream.from → ⊥) → (lane : List Item) → slice_get new.ports.outboxes stream.to ≡ Some lane → c lane ≡ []
      step_alone ne lane had_lane = elim (eqb_tells n stream.to) [
        | inl is ↦ flows.alone n old had ne lane (sym (own_lane is.1) ∙ had_lane)
        | inr other ↦
            let r = lanes lane other.1 had_lane in
            ap c r.is ∙ counted-append stream.counts r.old (items_to sizes stream.to posts) ∙ ap (λ (us : List X). us ++ c (items_to sizes stream.to posts)) (flows.alone n old had ne r.old r.was) ∙ owes.nothing ne
      ]

      pub flows_on : Flows stream (made ++ t) zones'
      flows_on = record {
        in_order = step_order;
        alone = Each-put_other zones n old new had flows.alone (λ j z other k. k) step_alone;
      }

  -- after a step of the core
  pub flows_step : (old new : Core) (st : StepOf sizes old new) → st.zone.number ≡ st.number → Keeps stream sizes st.number old.trace st.step.front st.made st.step.posts → Flows stream old.trace old.zones → Flows stream new.trace new.zones
  flows_step old new st number owes flows =
      let before : Zone = record st.zone { keeps = st.zone'.keeps; ports = record st.zone.ports { inbox = st.step.rest }; steps = st.zone.steps + 1 } in
      let inbox : st.zone'.ports.inbox ≡ st.step.rest ++ items_to sizes st.number st.step.posts = ap (λ (z : Zone). z.ports.inbox) st.step.lanes ∙ inbox_delivered sizes st.step.posts before ∙ ap (λ (n : ℕ). st.step.rest ++ items_to sizes n st.step.posts) number in
      subst (λ (core : Core). Flows stream core.trace core.zones) (sym st.has)
      (flows_on old.zones old.trace st.number st.zone st.zone' st.step.front st.step.rest st.made st.step.posts st.had number st.step.taken inbox owes
      (λ lane other h. was_delivered sizes st.step.posts before stream.to lane (λ e. other (sym number ∙ e)) (subst (λ (z : Zone). slice_get z.ports.outboxes stream.to ≡ Some lane) st.step.lanes h))
      (λ is. ap (λ (z : Zone). slice_get z.ports.outboxes stream.to) st.step.lanes ∙ subst (λ (i : ℕ). slice_get (delivered sizes st.step.posts before).ports.outboxes i ≡ slice_get st.zone.ports.outboxes i) (number ∙ is) (own_lane_delivered sizes st.step.posts before))
      flows)

  -- after a move
  module _ (old new : Core) (m : MoveOf old new) (flows : Flows stream old.trace old.zones) where
    abbrev k : List Item → List X
    k items = counted stream.counts items

    -- what moves there from another zone than the sender counts for nothing
    moves_nothing : (m.from ≡ stream.from → ⊥) → m.to ≡ stream.to → k m.part ++ k m.left ≡ []
    moves_nothing ne to = sym (counted-append stream.counts m.part m.left) ∙ flows.alone m.from m.source m.had_source ne (m.part ++ m.left) (subst (λ (i : ℕ). slice_get m.source.ports.outboxes i ≡ Some (m.part ++ m.left)) to m.outbox)

    move_order : (receiver sender : Zone) (lane : List Item) → slice_get new.zones stream.to ≡ Some receiver → slice_get new.zones stream.from ≡ Some sender → slice_get sender.ports.outboxes stream.to ≡ Some lane
        → stream.sent old.trace ≡ stream.taken old.trace ++ (k receiver.ports.inbox ++ k lane)
    move_order receiver sender lane had_receiver had_sender had_lane =
        let r = moved old new m stream.to receiver had_receiver in
        let q = moved old new m stream.from sender had_sender in
        elim (eqb_tells stream.to m.to) [
          | inl to ↦ elim (eqb_tells stream.from m.from) [
            | inl from ↦
                let was : slice_get q.was.ports.outboxes stream.to ≡ Some (m.part ++ m.left) =
                subst (λ (z : Zone). slice_get z.ports.outboxes stream.to ≡ Some (m.part ++ m.left)) (sym (q.was_from from.1)) (subst (λ (i : ℕ). slice_get m.source.ports.outboxes i ≡ Some (m.part ++ m.left)) (sym to.1) m.outbox) in
                let now : slice_get (slice_set m.source.ports.outboxes m.to m.left) m.to ≡ Some lane =
                subst (λ (i : ℕ). slice_get (slice_set m.source.ports.outboxes m.to m.left) i ≡ Some lane) to.1 (subst (λ (lanes : List (List Item)). slice_get lanes stream.to ≡ Some lane) (q.lanes_from from.1) had_lane) in
                let left : m.left ≡ lane = same_Some _ _ (sym (get-put_same m.source.ports.outboxes m.to (m.part ++ m.left) m.left m.outbox) ∙ now) in
                flows.in_order r.was q.was (m.part ++ m.left) r.had q.had was
                ∙ ap (λ (us : List X). stream.taken old.trace ++ us)
                (ap (λ (us : List X). k r.was.ports.inbox ++ us) (counted-append stream.counts m.part m.left) ∙ sym (append_assoc (k r.was.ports.inbox) (k m.part) (k m.left))
                ∙ ap (λ (us : List X). us ++ k m.left) (sym (counted-append stream.counts r.was.ports.inbox m.part) ∙ ap k (sym (r.inbox_to to.1)))
                ∙ ap (λ (items : List Item). k receiver.ports.inbox ++ k items) left)
            | inr other ↦
                let none = front_nothing (k m.part) (k m.left) (moves_nothing (λ e. other.1 (sym e)) (sym to.1)) in
                flows.in_order r.was q.was lane r.had q.had (subst (λ (lanes : List (List Item)). slice_get lanes stream.to ≡ Some lane) (q.lanes_other other.1) had_lane)
                ∙ ap (λ (us : List X). stream.taken old.trace ++ (us ++ k lane))
                (sym (ap k (r.inbox_to to.1) ∙ counted-append stream.counts r.was.ports.inbox m.part ∙ ap (λ (us : List X). k r.was.ports.inbox ++ us) none ∙ append-nil (k r.was.ports.inbox)))
          ]
          | inr elsewhere ↦
              flows.in_order r.was q.was lane r.had q.had (lane_before q (λ e. elsewhere.1 e))
              ∙ ap (λ (items : List Item). stream.taken old.trace ++ (k items ++ k lane)) (sym (r.inbox_other elsewhere.1))
        ]
      where
        lane_before : (q : Moved old new m stream.from sender) → (stream.to ≡ m.to → ⊥) → slice_get q.was.ports.outboxes stream.to ≡ Some lane
        lane_before q elsewhere = elim (eqb_tells stream.from m.from) [
          | inl from ↦
              subst (λ (z : Zone). slice_get z.ports.outboxes stream.to ≡ Some lane) (sym (q.was_from from.1))
              (sym (get-put_other m.source.ports.outboxes m.to stream.to m.left elsewhere) ∙ subst (λ (lanes : List (List Item)). slice_get lanes stream.to ≡ Some lane) (q.lanes_from from.1) had_lane)
          | inr other ↦ subst (λ (lanes : List (List Item)). slice_get lanes stream.to ≡ Some lane) (q.lanes_other other.1) had_lane
        ]

    move_alone : Each (λ n z. (n ≡ stream.from → ⊥) → (lane : List Item) → slice_get z.ports.outboxes stream.to ≡ Some lane → k lane ≡ []) new.zones
    move_alone n z has ne lane had_lane =
        let r = moved old new m n z has in
        elim (eqb_tells n m.from) [
          | inl from ↦
              let there : slice_get (slice_set m.source.ports.outboxes m.to m.left) stream.to ≡ Some lane = subst (λ (lanes : List (List Item)). slice_get lanes stream.to ≡ Some lane) (r.lanes_from from.1) had_lane in
              elim (eqb_tells stream.to m.to) [
                | inl to ↦
                    let left : m.left ≡ lane = same_Some _ _ (sym (get-put_same m.source.ports.outboxes m.to (m.part ++ m.left) m.left m.outbox) ∙ subst (λ (i : ℕ). slice_get (slice_set m.source.ports.outboxes m.to m.left) i ≡ Some lane) to.1 there) in
                    ap k (sym left) ∙ rest_nothing (k m.part) (k m.left) (moves_nothing (λ e. ne (from.1 ∙ e)) (sym to.1))
                | inr elsewhere ↦ flows.alone m.from m.source m.had_source (λ e. ne (from.1 ∙ e)) lane (sym (get-put_other m.source.ports.outboxes m.to stream.to m.left elsewhere.1) ∙ there)
              ]
          | inr other ↦ flows.alone n r.was r.had ne lane (subst (λ (lanes : List (List Item)). slice_get lanes stream.to ≡ Some lane) (r.lanes_other other.1) had_lane)
        ]

    pub flows_move : Flows stream new.trace new.zones
    flows_move = subst (λ (t : Trace). Flows stream t new.zones) (sym (ap (λ (core : Core). core.trace) m.has)) (record { in_order = move_order; alone = move_alone })
