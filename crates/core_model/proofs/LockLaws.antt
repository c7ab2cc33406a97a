-- What the locks do, in the words of a logical zone's rules.
use Rattle.std.specs.Prelude.{ℕ, Bool, true, false, not, ◌≡◌, ◌≢◌, ◌+◌, ◌*◌, ◌-◌, ◌^◌, ◌==◌, ◌||◌, Option, IfNone, IfSome, None, Some, List, [], ◌∷◌, ◌++◌, length, reverse, refl}
use Rattle.std.specs.List.{filter, find, list_any}
use Rattle.std.proofs.Common.{ap, ◌∙◌, sym, subst, arith, inl, inr}
use Rattle.std.proofs.lemmas.Bool.{eq-eqb, ne_eqb}
use Rattle.std.proofs.lemmas.Bool.Decides.{eqb_tells}
use Rattle.std.proofs.lemmas.List.{length-reverse, reverse-append}
use Rattle.std.proofs.lemmas.Option.{same_Some}
use Rattle.blk_base.specs.declared.place.Lba.{Lba}
use Rattle.logical_locks.specs.Holders.{Holders, Takes, Waits, HasRoom, HoldsNext, Frees}
use Rattle.logical_locks.specs.Holders as locks
use Rattle.logical_locks.specs.declared.waiter.Waiter.{Waiter}
use Rattle.plain_laws.specs.Firsts.{but_first}
use Rattle.blk_base.specs.declared.place.PageId.{PageId}
use Rattle.block_map_tree.specs.Tree.{Tree}
use Rattle.core_model.specs.LogicalData.{Lock, LogicalZone}
use Rattle.core_model.specs.LogicalRules.{but_first_for, first_for, is_among, drawn_by, is_held, lock_of, passed_to, place_of_vio, placed, released, without}
use Rattle.core_model.specs.Waiters.{AreFree, AreOwn, IsFree, vios}
use Rattle.core_model.specs.LogicalLimits.{IsLogicalWithin}
use Rattle.core_model.specs.SessionLimits.{most_items}
use Rattle.data_vio.specs.Vios.{turned}
use Rattle.data_vio.specs.declared.items.Phase.TheVariants as phase
use Rattle.data_vio.specs.declared.items.Vio.{Vio}
use Rattle.data_vio.specs.declared.logged.Remapping.{Remapping}
use Rattle.vdo_model.specs.declared.report.Placed.{Placed}
use Rattle.core_model.proofs.ListForms.{without_reverse}

-- whether an address is held, in either order
is_held_append : (a : ℕ) (xs ys : List Lock) → is_held a (xs ++ ys) ≡ (is_held a xs || is_held a ys)
is_held_append a [] ys = refl
is_held_append a (x ∷ xs) ys = elim (x.at.0 == a) as (λ b. (b || is_held a (xs ++ ys)) ≡ ((b || is_held a xs) || is_held a ys)) [
  | true ↦ refl
  | false ↦ is_held_append a xs ys
]

or_last : (b c : Bool) → (b || (c || false)) ≡ (c || b)
or_last true true = refl
or_last true false = refl
or_last false true = refl
or_last false false = refl

pub is_held_reverse : (a : ℕ) (held : List Lock) → is_held a (reverse held) ≡ list_any (λ lock. lock.at.0 == a) held
is_held_reverse a [] = refl
is_held_reverse a (x ∷ xs) =
    ap (is_held a) (reverse-append (x ∷ []) xs) ∙ is_held_append a (reverse xs) (x ∷ []) ∙ or_last (is_held a (reverse xs)) (x.at.0 == a)
    ∙ ap (λ (b : Bool). (x.at.0 == a) || b) (is_held_reverse a xs)

-- those who wait for an address, by their own addresses
abbrev vio_in : Option (Waiter Vio) → Option Vio
vio_in None = None
vio_in (Some w) = Some w.vio

own_test : (a : ℕ) (w : Waiter Vio) (b : Bool) → w.at ≡ w.vio.at → (w.at.0 == a) ≡ b → (w.vio.at.0 == a) ≡ b
own_test a w b own is = ap (λ (at : Lba). at.0 == a) (sym own) ∙ is

first_is : (a : ℕ) (ws : List (Waiter Vio)) → AreOwn ws → first_for a (vios ws) ≡ vio_in (find (λ w. w.at.0 == a) ws)
first_is a [] own = refl
first_is a (w ∷ ws) own = elim (eqb_tells w.at.0 a) [
  | inl here ↦ rw (here.0, own_test a w true own.0 here.0) refl
  | inr there ↦ rw (there.0, own_test a w false own.0 there.0) (first_is a ws own.2)
]

but_first_is : (a : ℕ) (ws : List (Waiter Vio)) → AreOwn ws → but_first_for a (vios ws) ≡ vios (but_first (λ w. w.at.0 == a) ws)
but_first_is a [] own = refl
but_first_is a (w ∷ ws) own = elim (eqb_tells w.at.0 a) [
  | inl here ↦ rw (here.0, own_test a w true own.0 here.0) refl
  | inr there ↦ rw (there.0, own_test a w false own.0 there.0) (ap (λ (vs : List Vio). w.vio ∷ vs) (but_first_is a ws own.2))
]

own_but_first : (a : ℕ) (ws : List (Waiter Vio)) → AreOwn ws → AreOwn (but_first (λ w. w.at.0 == a) ws)
own_but_first a [] own = tt
own_but_first a (w ∷ ws) own = elim (eqb_tells w.at.0 a) [
  | inl here ↦ rw here.0 own.2
  | inr there ↦ rw there.0 (own.0, own.1, own_but_first a ws own.2)
]

same_Some_waiter : (w u : Waiter Vio) → Some w ≡ Some u → w ≡ u
same_Some_waiter w u same = cc

first_is_own : (a : ℕ) (ws : List (Waiter Vio)) (u : Waiter Vio) → AreOwn ws → find (λ w. w.at.0 == a) ws ≡ Some u → (u.at ≡ u.vio.at) × (u.place ≡ u.vio.place)
first_is_own a [] u own some = absurd cc
first_is_own a (w ∷ ws) u own some = elim (eqb_tells w.at.0 a) [
  | inl here ↦
      let same : w ≡ u = same_Some_waiter w u (rw here.0 at some) in
      (subst (λ (x : Waiter Vio). x.at ≡ x.vio.at) same own.0, subst (λ (x : Waiter Vio). x.place ≡ x.vio.place) same own.1)
  | inr there ↦ first_is_own a ws u own.2 (rw there.0 at some)
]

vios_append : (ws : List (Waiter Vio)) (u : Waiter Vio) → vios (ws ++ u ∷ []) ≡ vios ws ++ u.vio ∷ []
vios_append [] u = refl
vios_append (w ∷ ws) u = ap (λ (vs : List Vio). w.vio ∷ vs) (vios_append ws u)

own_append : (ws : List (Waiter Vio)) (u : Waiter Vio) → AreOwn ws → u.at ≡ u.vio.at → u.place ≡ u.vio.place → AreOwn (ws ++ u ∷ [])
own_append [] u own at place = (at, place, tt)
own_append (w ∷ ws) u own at place = (own.0, own.1, own_append ws u own.2 at place)

pub length_vios : (ws : List (Waiter Vio)) → length (vios ws) ≡ length ws
length_vios [] = refl
length_vios (w ∷ ws) = omega (arith, length_vios ws)

-- A free address stays free while the lists lose some, and while others come.
held_without : (a b : ℕ) (held : List Lock) → is_held a held ≡ false → is_held a (without b held) ≡ false
held_without a b [] none = refl
held_without a b (x ∷ xs) none = elim (eqb_tells x.at.0 a) [
  | inl here ↦ absurd (let is : true ≡ false = rw here.0 at none in cc)
  | inr there ↦ elim (eqb_tells x.at.0 b) [
    | inl gone ↦ rw gone.0 (held_without a b xs (rw there.0 at none))
    | inr stays ↦ rw (stays.0, there.0) (held_without a b xs (rw there.0 at none))
  ]
]

first_without : (a b : ℕ) (vs : List Vio) → first_for a vs ≡ None → first_for a (but_first_for b vs) ≡ None
first_without a b [] none = refl
first_without a b (v ∷ vs) none = elim (eqb_tells v.at.0 a) [
  | inl here ↦ absurd (let is : Some v ≡ None = rw here.0 at none in cc)
  | inr there ↦ elim (eqb_tells v.at.0 b) [
    | inl gone ↦ rw gone.0 (rw there.0 at none)
    | inr stays ↦ rw (stays.0, there.0) (first_without a b vs (rw there.0 at none))
  ]
]

first_append : (a : ℕ) (vs : List Vio) (u : Vio) → first_for a vs ≡ None → u.at.0 ≢ a → first_for a (vs ++ u ∷ []) ≡ None
first_append a [] u none other = rw (ne_eqb u.at.0 a other) refl
first_append a (v ∷ vs) u none other = elim (eqb_tells v.at.0 a) [
  | inl here ↦ absurd (let is : Some v ≡ None = rw here.0 at none in cc)
  | inr there ↦ rw there.0 (first_append a vs u (rw there.0 at none) other)
]

pub first_at : (a : ℕ) (vs : List Vio) (v : Vio) → first_for a vs ≡ Some v → v.at.0 ≡ a
first_at a [] v some = absurd cc
first_at a (w ∷ vs) v some = elim (eqb_tells w.at.0 a) [
  | inl here ↦ let same : w ≡ v = same_Some w v (rw here.0 at some) in sym (ap (λ (u : Vio). u.at.0) same) ∙ here.1
  | inr there ↦ first_at a vs v (rw there.0 at some)
]

-- an address that is never released is not this one
apart : (a b : ℕ) (retired : List Lba) → is_among a retired ≡ true → is_among b retired ≡ false → b ≢ a
apart a b retired among alive same = let both : true ≡ false = sym among ∙ ap (λ (n : ℕ). is_among n retired) (sym same) ∙ alive in absurd cc

pub free_taken : (lock : Lock) (held : List Lock) (vs : List Vio) (retired : List Lba) → AreFree held vs retired → is_among lock.at.0 retired ≡ false → AreFree (lock ∷ held) vs retired
free_taken lock held vs retired free alive = λ a among.
    let other = apart a lock.at.0 retired among alive in
    record { unheld = rw (ne_eqb lock.at.0 a other) (free a among).unheld; unawaited = (free a among).unawaited }

pub free_waits : (v : Vio) (held : List Lock) (vs : List Vio) (retired : List Lba) → AreFree held vs retired → is_among v.at.0 retired ≡ false → AreFree held (vs ++ v ∷ []) retired
free_waits v held vs retired free alive = λ a among.
    record { unheld = (free a among).unheld; unawaited = first_append a vs v (free a among).unawaited (apart a v.at.0 retired among alive) }

free_released : (a : ℕ) (l : LogicalZone) → AreFree l.held l.waiting l.retired → AreFree (released a l).held (released a l).waiting l.retired
free_released a l free = λ b among. by_next b among (first_for a l.waiting) refl
  where
    by_next : (b : ℕ) → is_among b l.retired ≡ true → (next : Option Vio) → first_for a l.waiting ≡ next
        → IsFree (passed_to a l next).held (passed_to a l next).waiting b
    by_next b among None is = record { unheld = held_without b a l.held (free b among).unheld; unawaited = (free b among).unawaited }
    by_next b among (Some v) is =
        let other : v.at.0 ≢ b = λ same.
        (let here : a ≡ b = sym (first_at a l.waiting v is) ∙ same in
        let none : Some v ≡ None = sym is ∙ ap (λ (n : ℕ). first_for n l.waiting) here ∙ (free b among).unawaited in
        absurd cc) in
        record {
          unheld = rw (ne_eqb v.at.0 b other) (held_without b a l.held (free b among).unheld);
          unawaited = first_without b a l.waiting (free b among).unawaited;
        }

pub free_retired : (at : Lba) (held : List Lock) (vs : List Vio) (retired : List Lba) → AreFree held vs retired → IsFree held vs at.0 → AreFree held vs (at ∷ retired)
free_retired at held vs retired free own = λ a among. elim (eqb_tells at.0 a) [
  | inl same ↦ subst (λ (n : ℕ). IsFree held vs n) same.1 own
  | inr other ↦ free a (rw other.0 at among)
]

-- The locks of a zone that has the rest.
module _ (zone : ℕ) (notified : Bool) (retired : List Lba) (tree : Tree) (making : List PageId) (lacking : List Vio) (unlinkable : List PageId) (settling : List Vio) (reported : List Remapping) (slots : List Remapping) where
  abbrev pub shown : List Placed → Holders Vio → LogicalZone
  shown places h = record {
    zone = zone;
    notified = notified;
    next = h.next;
    places = places;
    held = reverse h.held;
    waiting = vios h.waiting;
    retired = retired;
    tree = tree;
    making = making;
    lacking = lacking;
    unlinkable = unlinkable;
    settling = settling;
    reported = reported;
    slots = slots;
  }

  -- what the zone has to be once its locks have changed: its new value, and what is so in it
  pub record IsShown (places : List Placed) (h h' : Holders Vio) (l : LogicalZone) : Type 0 where
    pub value : shown places h' ≡ l
    pub room : h'.room ≡ h.room
    pub own : AreOwn h'.waiting
    pub free : AreFree (reverse h'.held) (vios h'.waiting) retired

  module _ (places : List Placed) (h h' : Holders Vio) (at : Lba) (own : AreOwn h.waiting) (free : AreFree (reverse h.held) (vios h.waiting) retired) where
    without_is : reverse (locks.without at h.held) ≡ without at.0 (reverse h.held)
    without_is = sym (without_reverse at.0 h.held)

    still_free : shown places h' ≡ released at.0 (shown places h) → AreFree (reverse h'.held) (vios h'.waiting) retired
    still_free is = subst (λ (l : LogicalZone). AreFree l.held l.waiting retired) (sym is) (free_released at.0 (shown places h) free)

    -- the lock goes to the first that waits for it, or is free
    hands_on : (place : ℕ) (v : Vio) → HoldsNext h h' (record { at = at; place = place; vio = v })
        → (Some v ≡ first_for at.0 (vios h.waiting)) × IsShown places h h' (released at.0 (shown places h))
    hands_on place v next =
        let first : first_for at.0 (vios h.waiting) ≡ Some v = first_is at.0 h.waiting own ∙ ap vio_in next.first in
        let is = first_is_own at.0 h.waiting (record { at = at; place = place; vio = v }) own next.first in
        let its_lock : record { at = at; place = place } ≡ lock_of v = ap (λ (x : Lba). record { at = x; place = place }) is.0 ∙ ap (λ (n : ℕ). record { at = v.at; place = n }) is.1 in
        let value : shown places h' ≡ released at.0 (shown places h) =
        ap (shown places) next.now_held
        ∙ ap (λ (ls : List Lock). record (shown places h) { held = ls; waiting = vios (locks.but_first_for at h.waiting) })
        (reverse-append (locks.without at h.held) (record { at = at; place = place } ∷ []) ∙ ap (λ (x : Lock). x ∷ reverse (locks.without at h.held)) its_lock
        ∙ ap (λ (ls : List Lock). lock_of v ∷ ls) without_is)
        ∙ ap (λ (vs : List Vio). record (shown places h) { held = lock_of v ∷ without at.0 (reverse h.held); waiting = vs }) (sym (but_first_is at.0 h.waiting own))
        ∙ ap (passed_to at.0 (shown places h)) (sym first) in (
          sym first,
          record {
            value = value;
            room = ap (λ (k : Holders Vio). k.room) next.now_held;
            own = subst (λ (k : Holders Vio). AreOwn k.waiting) (sym next.now_held) (own_but_first at.0 h.waiting own);
            free = still_free value;
          },
        )

    lets_go : Frees h h' at → (None ≡ first_for at.0 (vios h.waiting)) × IsShown places h h' (released at.0 (shown places h))
    lets_go none =
        let first : first_for at.0 (vios h.waiting) ≡ None = first_is at.0 h.waiting own ∙ ap vio_in none.none_waits in
        let value : shown places h' ≡ released at.0 (shown places h) =
        ap (shown places) none.free ∙ ap (λ (ls : List Lock). record (shown places h) { held = ls }) without_is ∙ ap (passed_to at.0 (shown places h)) (sym first) in (
          sym first,
          record {
            value = value;
            room = ap (λ (k : Holders Vio). k.room) none.free;
            own = subst (λ (k : Holders Vio). AreOwn k.waiting) (sym none.free) own;
            free = still_free value;
          },
        )

    pub releases : (r : Option Vio) → IfSome r (λ v. (place : ℕ) × HoldsNext h h' (record { at = at; place = place; vio = v })) → IfNone r (Frees h h' at)
        → (r ≡ first_for at.0 (vios h.waiting)) × IsShown places h h' (released at.0 (shown places h))
    releases (Some v) next none = hands_on next.0 v next.1
    releases None next none = lets_go none

  -- there is room for one more that asks
  pub has_room : (places : List Placed) (h : Holders Vio) (l : LogicalZone) → shown places h ≡ l → h.room ≡ 2 * most_items + 1 → IsLogicalWithin (2 ^ 64 - 2) l → HasRoom h
  has_room places h l is room within =
      let own : IsLogicalWithin (2 ^ 64 - 2) (shown places h) = subst (IsLogicalWithin (2 ^ 64 - 2)) (sym is) within in
      record {
        fewer = omega (arith, room, own.held, own.waiting, length-reverse h.held, length_vios h.waiting);
        number = omega (arith, own.next);
      }

  -- a request asks for the lock of its address, with the place that it drew: it has it, or waits
  module _ (places now : List Placed) (h h' : Holders Vio) (u v : Vio) (n k : ℕ) (its : n ≡ h.next) (given : k ≡ h.next) (v_is : v ≡ turned phase.Wait (record u { place = n }))
      (now_is : now ≡ record { request = u.request; zone = zone; place = n } ∷ places)
      (own : AreOwn h.waiting) (free : AreFree (reverse h.held) (vios h.waiting) retired) (alive : is_among u.at.0 retired ≡ false) where
    abbrev old : LogicalZone
    old = shown places h

    drawn_is : now ≡ place_of_vio old u ∷ places
    drawn_is = now_is ∙ ap (λ (m : ℕ). record { request = u.request; zone = zone; place = m } ∷ places) its

    waiter_is : v ≡ turned phase.Wait (placed old u)
    waiter_is = v_is ∙ ap (λ (m : ℕ). turned phase.Wait (record u { place = m })) its

    takes : Takes h h' (record { at = u.at; place = k }) → (is_held u.at.0 old.held ≡ false)
        × IsShown now h h' (record (drawn_by old u) { held = lock_of (placed old u) ∷ old.held })
    takes did =
        let value : shown now h' ≡ record (drawn_by old u) { held = lock_of (placed old u) ∷ old.held } =
        ap (shown now) did.now_held
        ∙ ap (λ (ls : List Lock). record old { next = h.next + 1; places = now; held = ls }) (reverse-append h.held (record { at = u.at; place = k } ∷ []))
        ∙ ap (λ (m : ℕ). record old { next = h.next + 1; places = now; held = record { at = u.at; place = m } ∷ reverse h.held }) given
        ∙ ap (λ (ps : List Placed). record old { next = h.next + 1; places = ps; held = record { at = u.at; place = h.next } ∷ reverse h.held }) drawn_is in (
          is_held_reverse u.at.0 h.held ∙ did.was_free,
          record {
            value = value;
            room = ap (λ (m : Holders Vio). m.room) did.now_held;
            own = subst (λ (m : Holders Vio). AreOwn m.waiting) (sym did.now_held) own;
            free = subst (λ (l : LogicalZone). AreFree l.held l.waiting retired) (sym value) (free_taken (lock_of (placed old u)) old.held old.waiting retired free alive);
          },
        )

    waits : Waits h h' (record { at = u.at; place = k; vio = v }) → (is_held u.at.0 old.held ≡ true)
        × IsShown now h h' (record (drawn_by old u) { waiting = old.waiting ++ turned phase.Wait (placed old u) ∷ [] })
    waits did =
        let value : shown now h' ≡ record (drawn_by old u) { waiting = old.waiting ++ turned phase.Wait (placed old u) ∷ [] } =
        ap (shown now) did.behind
        ∙ ap (λ (vs : List Vio). record old { next = h.next + 1; places = now; waiting = vs }) (vios_append h.waiting (record { at = u.at; place = k; vio = v }))
        ∙ ap (λ (ps : List Placed). record old { next = h.next + 1; places = ps; waiting = vios h.waiting ++ v ∷ [] }) drawn_is
        ∙ ap (λ (w : Vio). record old { next = h.next + 1; places = place_of_vio old u ∷ places; waiting = vios h.waiting ++ w ∷ [] }) waiter_is in (
          is_held_reverse u.at.0 h.held ∙ did.was_held,
          record {
            value = value;
            room = ap (λ (m : Holders Vio). m.room) did.behind;
            own = subst (λ (m : Holders Vio). AreOwn m.waiting) (sym did.behind)
                (own_append h.waiting (record { at = u.at; place = k; vio = v }) own (sym (ap (λ (w : Vio). w.at) v_is)) (given ∙ sym its ∙ sym (ap (λ (w : Vio). w.place) v_is)));
            free = subst (λ (l : LogicalZone). AreFree l.held l.waiting retired) (sym value) (free_waits (turned phase.Wait (placed old u)) old.held old.waiting retired free alive);
          },
        )

    abbrev Taken : LogicalZone → Vio → Type 0
    Taken l back = (back ≡ turned phase.Wait (placed l u)) × (is_held u.at.0 l.held ≡ false) × (shown now h' ≡ record (drawn_by l u) { held = lock_of (placed l u) ∷ l.held })

    abbrev Waiting : LogicalZone → Type 0
    Waiting l = (is_held u.at.0 l.held ≡ true) × (shown now h' ≡ record (drawn_by l u) { waiting = l.waiting ++ turned phase.Wait (placed l u) ∷ [] })

    pub record HasAsked (l : LogicalZone) (r : Option Vio) : Type 0 where
      pub taken : IfSome r (Taken l)
      pub waits : IfNone r (Waiting l)
      pub room : h'.room ≡ h.room
      pub is_own : AreOwn h'.waiting
      pub is_free : AreFree (reverse h'.held) (vios h'.waiting) retired

    asked_own : (l : LogicalZone) → shown places h ≡ l → (r : Option Vio) → IfSome r (λ back. (back ≡ v) × Takes h h' (record { at = u.at; place = k }))
        → IfNone r (Waits h h' (record { at = u.at; place = k; vio = v }))
        → HasAsked l r
    asked_own l is (Some back) taken none =
        let has = takes taken.1 in
        record { taken = subst (λ (l : LogicalZone). Taken l back) is (taken.0 ∙ waiter_is, has.0, has.1.value); waits = tt; room = has.1.room; is_own = has.1.own; is_free = has.1.free }
    asked_own l is None taken none =
        let has = waits none in
        record { taken = tt; waits = subst (λ (l : LogicalZone). Waiting l) is (has.0, has.1.value); room = has.1.room; is_own = has.1.own; is_free = has.1.free }

    pub asked : (at : Lba) → at ≡ u.at → (l : LogicalZone) → shown places h ≡ l → (r : Option Vio) → IfSome r (λ back. (back ≡ v) × Takes h h' (record { at = at; place = k }))
        → IfNone r (Waits h h' (record { at = at; place = k; vio = v })) → HasAsked l r
    asked at same l is r taken none = asked_own l is r
        (subst (λ (x : Lba). IfSome r (λ back. (back ≡ v) × Takes h h' (record { at = x; place = k }))) same taken)
        (subst (λ (x : Lba). IfNone r (Waits h h' (record { at = x; place = k; vio = v }))) same none)

-- a lock that nobody held was taken, and let go again
without_last : (a : ℕ) (held : List Lock) (lock : Lock) → lock.at.0 ≡ a → list_any (λ other. other.at.0 == a) held ≡ false
    → filter (λ other. not (other.at.0 == a)) (held ++ lock ∷ []) ≡ held
without_last a [] lock same none = rw (eq-eqb lock.at.0 a same) refl
without_last a (x ∷ xs) lock same none = elim (eqb_tells x.at.0 a) [
  | inl here ↦ absurd (let is : true ≡ false = rw here.0 at none in cc)
  | inr there ↦ rw there.0 (ap (λ (ls : List Lock). x ∷ ls) (without_last a xs lock same (rw there.0 at none)))
]

pub drawn_only : (h h' h'' : Holders Vio) (at : Lba) (place : ℕ) → is_held at.0 (reverse h.held) ≡ false → Takes h h' (record { at = at; place = place }) → Frees h' h'' at
    → h'' ≡ record h { next = h.next + 1 }
drawn_only h h' h'' at place none taken freed =
    freed.free ∙ ap (λ (k : Holders Vio). record k { held = locks.without at k.held }) taken.now_held
    ∙ ap (λ (ls : List Lock). record h { next = h.next + 1; held = ls }) (without_last at.0 h.held (record { at = at; place = place }) refl (sym (is_held_reverse at.0 h.held) ∙ none))

-- what is retired is free, so that it isn't held, and nobody waits for it
pub not_held : (h h' : Holders Vio) (w : Waiter Vio) → is_held w.at.0 (reverse h.held) ≡ false → Waits h h' w → ⊥
not_held h h' w none did = let both : true ≡ false = sym did.was_held ∙ sym (is_held_reverse w.at.0 h.held) ∙ none in absurd cc

pub not_awaited : (h h' h'' : Holders Vio) (at : Lba) (place place' : ℕ) (v : Vio) → AreOwn h.waiting → first_for at.0 (vios h.waiting) ≡ None
    → Takes h h' (record { at = at; place = place }) → HoldsNext h' h'' (record { at = at; place = place'; vio = v }) → ⊥
not_awaited h h' h'' at place place' v own none taken next =
    let some : first_for at.0 (vios h.waiting) ≡ Some v
    = first_is at.0 h.waiting own ∙ ap (λ (k : Holders Vio). vio_in (locks.first_for at k.waiting)) (sym taken.now_held) ∙ ap vio_in next.first in
    let both : Some v ≡ None = sym some ∙ none in
    absurd cc
