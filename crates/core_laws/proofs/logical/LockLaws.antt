-- The locks of a logical zone and who waits for them, as locks are taken, passed on, released and retired.
use Rattle.std.proofs.Common.{◌≡◌, ◌≢◌, ℕ, zero, suc, ◌+◌, ◌<◌, ◌≤◌, ◌==◌, ◌||◌, Bool, true, false, None, Some, List, [], ◌∷◌, ◌++◌, refl, ap, sym, ◌∙◌, subst, inl, inr, arith}
use Rattle.core_laws.proofs.Common.{AllByRecursion, InLine, Lock, LockOk, LocksOk, Session, Vio, WaitsOk, bit, eq-eqb, eqb_tells, every-append, every-map, every_both, lock_weight, total, zone_of}
use Rattle.core_model.specs.LogicalRules.{is_held, without, lock_of, first_for, but_first_for, none_for}
use Rattle.blk_base.specs.declared.place.ZoneId.TheVariants as id
use Rattle.core_laws.proofs.lists.CoreLists.{held_without, every_without, has_lock, counts_held, every_but_first, every_none_for, first_has, none_first, rises_but_first, rises_none_for, rises_more, first_below}
use Rattle.core_laws.proofs.tokens.LeaseTokens.{without_same, without_other}

or_some : (a b : Bool) → b ≡ true → (a || b) ≡ true
or_some true b is = refl
or_some false b is = is

module _ (s : Session) (zone next : ℕ) (held : List Lock) (waiting : List Vio) (k : LocksOk s zone next held waiting) where
  -- one more place is drawn
  pub more_drawn : LocksOk s zone (next + 1) held waiting
  more_drawn = record {
    locks_are = every-map {P = LockOk s zone next} {Q = LockOk s zone (next + 1)} (λ lock o. (o.0, (let d = o.1 in omega (arith, d)))) held k.locks_are;
    once = k.once;
    waits = every-map {P = WaitsOk zone next held} {Q = WaitsOk zone (next + 1) held} (λ u w. record { at_home = w.at_home; drawn_before = (let d = w.drawn_before in omega (arith, d)); locked = w.locked }) waiting k.waits;
    in_line = k.in_line;
    in_order = k.in_order;
  }

  -- and the request that drew it waits, or takes a free lock
  pub one_waits : (w : Vio) → w.home ≡ id.Logical zone → w.place ≡ next → is_held w.at.0 held ≡ true → LocksOk s zone (next + 1) held (waiting ++ w ∷ [])
  one_waits w home place locked =
      let more = more_drawn in
      record {
        locks_are = more.locks_are;
        once = k.once;
        waits = every-append (WaitsOk zone (next + 1) held) waiting (w ∷ []) more.waits (record { at_home = home; drawn_before = omega (arith, place); locked = locked }, tt);
        in_line = every_both {P = InLine waiting} {Q = LockOk s zone next} {R = InLine (waiting ++ w ∷ [])}
            (λ lock all o. every-append (λ u. u.at.0 ≡ lock.at.0 → lock.place < u.place) waiting (w ∷ []) all ((λ same. (let d = o.1 in omega (arith, d, place))), tt)) held k.in_line k.locks_are;
        in_order = rises_more waiting w k.in_order (every-map {P = WaitsOk zone next held} {Q = λ (u : Vio). u.place < w.place} (λ u o. (let d = o.drawn_before in omega (arith, d, place))) waiting k.waits);
      }

  pub one_takes : (v : Vio) → zone_of s.sizes.zones v.at.0 ≡ zone → v.place ≡ next → is_held v.at.0 held ≡ false → LocksOk s zone (next + 1) (lock_of v ∷ held) waiting
  one_takes v home place free =
      let more = more_drawn in
      record {
        locks_are = ((home, omega (arith, place)), more.locks_are);
        once = λ b. elim (eqb_tells v.at.0 b) [
          | inl here ↦ let none = subst (λ (c : ℕ). total (lock_weight c (λ q. true)) held ≡ 0) here.1 (none_held (total (lock_weight v.at.0 (λ q. true)) held) refl) in rw here.0 (omega (arith, none))
          | inr there ↦ let old = k.once b in rw there.0 (omega (arith, old))
        ];
        waits = every-map {P = WaitsOk zone (next + 1) held} {Q = WaitsOk zone (next + 1) (lock_of v ∷ held)} (λ u o. record { at_home = o.at_home; drawn_before = o.drawn_before; locked = or_some (v.at.0 == u.at.0) (is_held u.at.0 held) o.locked }) waiting more.waits;
        in_line = (
          every-map {P = WaitsOk zone next held} {Q = λ (u : Vio). u.at.0 ≡ v.at.0 → v.place < u.place} (λ u o same. absurd (let locked = subst (λ (a : ℕ). is_held a held ≡ true) same o.locked in cc)) waiting k.waits,
          k.in_line,
        );
        in_order = k.in_order;
      }
    where
      none_held : (m : ℕ) → total (lock_weight v.at.0 (λ q. true)) held ≡ m → total (lock_weight v.at.0 (λ q. true)) held ≡ 0
      none_held zero is = is
      none_held (suc m) is = absurd (let locked = counts_held v.at.0 held (omega (arith, is)) in cc)

  -- A lock with its holder's place ..
  module _ (v : Vio) (leased : (test : ℕ → Bool) → total (lock_weight v.at.0 test) held ≡ bit (test v.place)) where
    own_lock : (P : Lock → Type 0) → AllByRecursion P held → (lock : Lock) × (lock.at.0 ≡ v.at.0) × (lock.place ≡ v.place) × P lock
    own_lock P all =
        let one : total (lock_weight v.at.0 (λ p. p == v.place)) held ≡ 1 = leased (λ p. p == v.place) ∙ ap bit (eq-eqb v.place v.place refl) in
        let has = has_lock v.at.0 (λ p. p == v.place) held P (omega (arith, one)) all in
        (has.0, has.1, elim (eqb_tells has.0.place v.place) [ inl is ↦ is.1 | inr other ↦ absurd (let e = other.0 in let f = has.2 in cc) ], has.3)

    pub place_drawn : v.place < next
    place_drawn = let has = own_lock (LockOk s zone next) k.locks_are in let p = has.2 in let q = has.3.1 in omega (arith, p, q)

    -- .. and whoever waits for it has a greater place
    pub waits_behind : AllByRecursion (λ (u : Vio). u.at.0 ≡ v.at.0 → v.place < u.place) waiting
    waits_behind =
        let has = own_lock (InLine waiting) k.in_line in
        every-map {P = λ (u : Vio). u.at.0 ≡ has.0.at.0 → has.0.place < u.place} {Q = λ (u : Vio). u.at.0 ≡ v.at.0 → v.place < u.place}
        (λ u f same. (let p = has.2 in let q = f (same ∙ sym has.1) in omega (arith, p, q))) waiting has.3

  -- A lock is given back ..
  module _ (a : ℕ) where
    once_without : (b : ℕ) → total (lock_weight b (λ p. true)) (without a held) ≤ 1
    once_without b = elim (eqb_tells a b) [
      | inl same ↦ let none = without_same a (λ p. true) held in subst (λ (c : ℕ). total (lock_weight c (λ p. true)) (without a held) ≤ 1) same.1 (omega (arith, none))
      | inr other ↦ let is = without_other b a (λ p. true) held other.1 in let old = k.once b in omega (arith, is, old)
    ]

    still_waits : (u : Vio) → WaitsOk zone next held u × (u.at.0 ≢ a) → WaitsOk zone next (without a held) u
    still_waits u w = record { at_home = w.0.at_home; drawn_before = w.0.drawn_before; locked = held_without a u.at.0 held w.1 ∙ w.0.locked }

    -- .. where nobody waits for it
    pub one_back : first_for a waiting ≡ None → LocksOk s zone next (without a held) waiting
    one_back none = record {
      locks_are = every_without (LockOk s zone next) a held k.locks_are;
      once = once_without;
      waits = every-map {P = λ (u : Vio). WaitsOk zone next held u × (u.at.0 ≢ a)} {Q = WaitsOk zone next (without a held)} still_waits waiting (none_first (WaitsOk zone next held) a waiting none k.waits);
      in_line = every_without (InLine waiting) a held k.in_line;
      in_order = k.in_order;
    }

    -- .. where nobody waits for it any more
    pub one_retired : LocksOk s zone next (without a held) (none_for a waiting)
    one_retired = record {
      locks_are = every_without (LockOk s zone next) a held k.locks_are;
      once = once_without;
      waits = every-map {P = λ (u : Vio). WaitsOk zone next held u × (u.at.0 ≢ a)} {Q = WaitsOk zone next (without a held)} still_waits (none_for a waiting) (every_none_for (WaitsOk zone next held) a waiting k.waits);
      in_line = every-map {P = InLine waiting} {Q = InLine (none_for a waiting)}
          (λ lock all. every-map {P = λ (u : Vio). (u.at.0 ≡ lock.at.0 → lock.place < u.place) × (u.at.0 ≢ a)} {Q = λ (u : Vio). u.at.0 ≡ lock.at.0 → lock.place < u.place} (λ u w. w.0) (none_for a waiting)
          (every_none_for (λ u. u.at.0 ≡ lock.at.0 → lock.place < u.place) a waiting all)) (without a held) (every_without (InLine waiting) a held k.in_line);
      in_order = rises_none_for a waiting k.in_order;
    }

    -- .. and passed to the first that waits for it
    pub one_passed : (w : Vio) → zone_of s.sizes.zones a ≡ zone → first_for a waiting ≡ Some w → LocksOk s zone next (lock_of w ∷ without a held) (but_first_for a waiting)
    one_passed w home is =
        let has = first_has (WaitsOk zone next held) a waiting w is k.waits in
        record {
          locks_are = ((ap (zone_of s.sizes.zones) has.1 ∙ home, has.0.drawn_before), every_without (LockOk s zone next) a held k.locks_are);
          once = λ b. elim (eqb_tells w.at.0 b) [
            | inl here ↦ let none = subst (λ (c : ℕ). total (lock_weight c (λ p. true)) (without a held) ≡ 0) (sym has.1 ∙ here.1) (without_same a (λ p. true) held) in rw here.0 (omega (arith, none))
            | inr there ↦ let old = once_without b in rw there.0 (omega (arith, old))
          ];
          waits = every-map {P = WaitsOk zone next held} {Q = WaitsOk zone next (lock_of w ∷ without a held)}
              (λ u o. record { at_home = o.at_home; drawn_before = o.drawn_before; locked = locked_or has.1 u.at.0 o.locked }) (but_first_for a waiting) (every_but_first (WaitsOk zone next held) a waiting k.waits);
          in_line = (
            every-map {P = λ (u : Vio). u.at.0 ≡ a → w.place < u.place} {Q = λ (u : Vio). u.at.0 ≡ w.at.0 → w.place < u.place} (λ u f same. f (same ∙ has.1)) (but_first_for a waiting) (first_below a waiting w is k.in_order),
            every-map {P = InLine waiting} {Q = InLine (but_first_for a waiting)} (λ lock all. every_but_first (λ u. u.at.0 ≡ lock.at.0 → lock.place < u.place) a waiting all) (without a held) (every_without (InLine waiting) a held k.in_line),
          );
          in_order = rises_but_first a waiting k.in_order;
        }
      where
        locked_or : w.at.0 ≡ a → (b : ℕ) → is_held b held ≡ true → ((w.at.0 == b) || is_held b (without a held)) ≡ true
        locked_or same b locked = elim (eqb_tells w.at.0 b) [
          | inl here ↦ rw here.0 refl
          | inr there ↦ rw there.0 (held_without a b held (λ is. there.1 (same ∙ sym is)) ∙ locked)
        ]
