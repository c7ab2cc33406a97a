-- Each call keeps the locks in order.
use Rattle.std.specs.Prelude.{ℕ, ◌≡◌, ◌≢◌, Bool, true, false, cond, List, [], ◌∷◌, ◌++◌, None, Some, refl}
use Rattle.std.specs.Option.{option_or}
use Rattle.std.specs.Str.{bytes_eq}
use Rattle.std.proofs.Common.{ap, ◌∙◌, sym, subst, arith, get_or, length-append}
use Rattle.std.proofs.lemmas.Bool.{cond-false, false_from_ne_true, false≢true}
use Rattle.std.proofs.lemmas.List.Elements.{All-push, All-weaker, All-rest}
use Rattle.std.proofs.lemmas.List.Folds.{find-append}
use Rattle.std.proofs.lemmas.Slice.Eq.{bytes_eq-Decides}
use Rattle.plain_laws.proofs.FirstLaws.{find-none, find-none_parts, find-but_first, find-but_first_none, length-but_first, length-but_first_most, All-but_first}
use Rattle.hash_locks.specs.declared.role.Role.{Role}
use Rattle.hash_locks.specs.declared.role.Role.TheVariants.{Agent, Waits, Alone}
use Rattle.hash_locks.specs.declared.waiter.Waiter.{Waiter}
use Rattle.hash_locks.specs.LockedNames.{Sharing, Lock, HasRoom, lock_of, but_lock_of, lock_with, Arrives, Leaves, Frees, AreDistinct, AreInOrder}

pub same_bytes : (xs ys : List ℕ) → bytes_eq xs ys ≡ true → xs ≡ ys
same_bytes xs ys = (bytes_eq-Decides xs ys).0

other_bytes : (xs ys : List ℕ) → xs ≢ ys → bytes_eq xs ys ≡ false
other_bytes xs ys other = false_from_ne_true _ (λ same. other (same_bytes xs ys same))

pub differ : (xs ys : List ℕ) → bytes_eq xs ys ≡ false → xs ≢ ys
differ xs ys test same = false≢true (sym test ∙ (bytes_eq-Decides xs ys).1 same)

-- the tests by which a lock and a waiter are found
abbrev pub is_of : List ℕ → Lock → Bool
is_of name lock = bytes_eq lock.name name

abbrev pub waits_for : {V : Type 0} → List ℕ → Waiter V → Bool
waits_for name waiter = bytes_eq waiter.name name

lock_of-push : (name : List ℕ) (held : List Lock) (lock new : Lock) → lock_of name held ≡ Some lock → lock_of name (held ++ new ∷ []) ≡ Some lock
lock_of-push name held lock new found =
    find-append (is_of name) held (new ∷ []) ∙ ap (λ o. option_or o (lock_of name (new ∷ []))) found

AreDistinct-push : (held : List Lock) (lock : Lock) → AreDistinct held → lock_of lock.name held ≡ None → AreDistinct (held ++ lock ∷ [])
AreDistinct-push [] lock distinct free = (refl, tt)
AreDistinct-push (first ∷ held) lock distinct free =
    let parts = find-none_parts (is_of lock.name) first held free in
    let other : lock.name ≢ first.name = λ same. differ first.name lock.name parts.0 (sym same) in (
      find-append (is_of first.name) held (lock ∷ []) ∙ ap (λ o. option_or o (lock_of first.name (lock ∷ []))) distinct.0
          ∙ cond-false _ (Some lock) None (other_bytes lock.name first.name other),
      AreDistinct-push held lock distinct.1 parts.1,
    )

AreDistinct-less : (name : List ℕ) (held : List Lock) → AreDistinct held → AreDistinct (but_lock_of name held)
AreDistinct-less name [] distinct = tt
AreDistinct-less name (first ∷ held) distinct =
    elim (bytes_eq first.name name) as (λ b. AreDistinct (cond b held (first ∷ but_lock_of name held))) [
      | true ↦ distinct.1
      | false ↦ (find-but_first_none (is_of name) (is_of first.name) held distinct.0, AreDistinct-less name held distinct.1)
    ]

-- the lock of a name was the only one
pub lock_of-less : (name : List ℕ) (held : List Lock) → AreDistinct held → lock_of name (but_lock_of name held) ≡ None
lock_of-less name [] distinct = refl
lock_of-less name (first ∷ held) distinct = by_first (bytes_eq first.name name) refl (lock_of-less name held distinct.1)
  where
    by_first : (passes : Bool) → bytes_eq first.name name ≡ passes → lock_of name (but_lock_of name held) ≡ None
        → lock_of name (cond passes held (first ∷ but_lock_of name held)) ≡ None
    by_first true same behind = subst (λ (n : List ℕ). lock_of n held ≡ None) (same_bytes first.name name same) distinct.0
    by_first false other behind = cond-false _ (Some first) _ other ∙ behind

module _ {V : Type 0} (bytes_of : V → List ℕ) where
  -- the lock for which one waits is held, and has its bytes
  abbrev pub IsMatched : List Lock → Waiter V → Type 0
  IsMatched held waiter = lock_of waiter.name held ≡ Some (lock_with bytes_of waiter.name waiter.vio)

  pub arrives_in_order : (old new : Sharing V) (name : List ℕ) (vio : V) (role : Role V) → AreInOrder bytes_of old → HasRoom old
      → Arrives bytes_of old new name vio role → AreInOrder bytes_of new
  arrives_in_order old new name vio (Agent back) order room did =
      let lock = lock_with bytes_of name vio in
      subst (λ (locks : Sharing V). AreInOrder bytes_of locks) (sym did.2) (record {
        filled = omega (arith, room, length-append old.held (lock ∷ []));
        distinct = AreDistinct-push old.held lock order.distinct did.1;
        matched = All-weaker (IsMatched old.held) (IsMatched (old.held ++ lock ∷ [])) (λ w found. lock_of-push w.name old.held _ lock found) old.waiting order.matched;
      })
  arrives_in_order old new name vio Waits order room did =
      let waiter : Waiter V = record { name = name; vio = vio } in
      subst (λ (locks : Sharing V). AreInOrder bytes_of locks) (sym did.1) (record {
        filled = omega (arith, room, length-append old.waiting (waiter ∷ []));
        distinct = order.distinct;
        matched = All-push (IsMatched old.held) old.waiting waiter order.matched did.0;
      })
  arrives_in_order old new name vio (Alone back) order room did = subst (λ (locks : Sharing V). AreInOrder bytes_of locks) (sym did.2) order

  pub leaves_in_order : (old new : Sharing V) (waiter : Waiter V) → AreInOrder bytes_of old → Leaves bytes_of old new waiter → AreInOrder bytes_of new
  leaves_in_order old new waiter order did =
      let fewer = length-but_first (waits_for waiter.name) old.waiting waiter did.first in
      subst (λ (locks : Sharing V). AreInOrder bytes_of locks) (sym did.left) (record {
        filled = omega (arith, order.filled, fewer);
        distinct = order.distinct;
        matched = All-but_first (waits_for waiter.name) (IsMatched old.held) old.waiting order.matched;
      })

  pub oldest_in_order : (old new : Sharing V) (waiter : Waiter V) → AreInOrder bytes_of old → old ≡ record new { waiting = waiter ∷ new.waiting }
      → AreInOrder bytes_of new
  oldest_in_order old new waiter order was =
      let before = subst (λ (locks : Sharing V). AreInOrder bytes_of locks) was order in
      record {
        filled = omega (arith, before.filled);
        distinct = before.distinct;
        matched = All-rest (IsMatched new.held) waiter new.waiting (waiter ∷ new.waiting) refl before.matched;
      }

  pub frees_in_order : (old new : Sharing V) (name : List ℕ) → AreInOrder bytes_of old → Frees old new name → AreInOrder bytes_of new
  frees_in_order old new name order did =
      let nobody = find-none (waits_for name) old.waiting did.none_waits in
      subst (λ (locks : Sharing V). AreInOrder bytes_of locks) (sym did.less) (record {
        filled = omega (arith, order.filled, length-but_first_most (is_of name) old.held);
        distinct = AreDistinct-less name old.held order.distinct;
        matched = λ k w below.
            let waiter = get_or old.waiting k w in
            let other = differ waiter.name name (nobody k w below) in
            find-but_first (is_of name) (is_of waiter.name)
            (λ lock same. other_bytes lock.name waiter.name (λ also. other (sym also ∙ same_bytes lock.name name same))) old.held
            ∙ order.matched k w below;
      })
