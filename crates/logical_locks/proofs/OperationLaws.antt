-- Each call keeps the locks in order.
use Rattle.std.specs.Prelude.{◌≡◌, ◌≢◌, ◌≤◌, ◌==◌, true, false, not, cond, List, [], ◌∷◌, ◌++◌, length, refl}
use Rattle.std.proofs.Common.{◌∙◌, sym, subst, arith, get_or, inl, inr, length-append}
use Rattle.std.proofs.lemmas.Bool.{cases_eq, eqb-true, eqb-false, eq-eqb, ne_eqb, or_left, or_right, or_from, or_parts, not_from_true, not_from_false}
use Rattle.std.proofs.lemmas.List.Elements.{All-push, All-weaker}
use Rattle.std.proofs.lemmas.List.Folds.{list_any-append}
use Rattle.std.proofs.lemmas.List.Filters.{length-filter_both}
use Rattle.std.proofs.lemmas.Map.Views.{any-filter_same}
use Rattle.plain_laws.proofs.FirstLaws.{find-none, length-but_first, All-but_first}
use Rattle.blk_base.specs.declared.place.Lba.{Lba}
use Rattle.plain_laws.proofs.LeadLaws.{leads_keep}
use Rattle.logical_locks.specs.Operations.{Operation, Asks, Releases, Does, LeadTo, AreDistinct, AreInOrder}
use Rattle.logical_locks.specs.Holders.{Holders, HasRoom, Takes, Waits, HoldsNext, Frees, is_held, without, lock_of}
use Rattle.logical_locks.specs.declared.lock.Lock.{Lock}
use Rattle.logical_locks.specs.declared.waiter.Waiter.{Waiter}
use Rattle.logical_locks.proofs.LockLaws.{waits_for}

is_held-more : (at : Lba) (held : List Lock) (lock : Lock) → is_held at held ≡ true → is_held at (held ++ lock ∷ []) ≡ true
is_held-more at held lock before = list_any-append _ held (lock ∷ []) ∙ or_left _ _ before

is_held-new : (at : Lba) (held : List Lock) (lock : Lock) → lock.at.0 ≡ at.0 → is_held at (held ++ lock ∷ []) ≡ true
is_held-new at held lock same = list_any-append _ held (lock ∷ []) ∙ or_right _ _ (or_left _ _ (eq-eqb _ _ same))

is_held-others : (at : Lba) (held : List Lock) (lock : Lock) → is_held at held ≡ false → lock.at.0 ≢ at.0 → is_held at (held ++ lock ∷ []) ≡ false
is_held-others at held lock before other = list_any-append _ held (lock ∷ []) ∙ or_from _ _ before (or_from _ _ (ne_eqb _ _ other) refl)

-- an address is held without the lock of another exactly where it was held before
is_held-without : (at gone : Lba) (held : List Lock) → at.0 ≢ gone.0 → is_held at (without gone held) ≡ is_held at held
is_held-without at gone held other =
    any-filter_same (λ (lock : Lock). lock.at.0 == at.0) (λ (lock : Lock). not (lock.at.0 == gone.0)) true
    (λ lock is. not_from_false _ (ne_eqb _ _ (λ same. other (sym (eqb-true _ _ is) ∙ same)))) held

gone-without : (at gone : Lba) (held : List Lock) → at.0 ≡ gone.0 → is_held at (without gone held) ≡ false
gone-without at gone held same =
    any-filter_same (λ (lock : Lock). lock.at.0 == at.0) (λ (lock : Lock). not (lock.at.0 == gone.0)) false
    (λ lock is. not_from_true _ (eq-eqb _ _ (eqb-true _ _ is ∙ same))) held

length-without : (at : Lba) (held : List Lock) → length (without at held) ≤ length held
length-without at held =
    omega (arith, length-filter_both (λ (lock : Lock). lock.at.0 == at.0) (λ (lock : Lock). not (lock.at.0 == at.0)) (λ _. refl) held)

AreDistinct-push : (held : List Lock) (lock : Lock) → AreDistinct held → is_held lock.at held ≡ false → AreDistinct (held ++ lock ∷ [])
AreDistinct-push [] lock distinct free = (refl, tt)
AreDistinct-push (first ∷ held) lock distinct free =
    let apart = or_parts (first.at.0 == lock.at.0) (is_held lock.at held) free in (
      is_held-others first.at held lock distinct.0 (λ same. eqb-false _ _ apart.0 (sym same)),
      AreDistinct-push held lock distinct.1 apart.1,
    )

AreDistinct-without : (at : Lba) (held : List Lock) → AreDistinct held → AreDistinct (without at held)
AreDistinct-without at [] distinct = tt
AreDistinct-without at (first ∷ held) distinct =
    let rest = AreDistinct-without at held distinct.1 in
    let free : is_held first.at (without at held) ≡ false
    = elim (cases_eq first.at.0 at.0) [ inl same ↦ gone-without first.at at held same | inr other ↦ is_held-without first.at at held other ∙ distinct.0 ] in
    elim (first.at.0 == at.0) as (λ b. AreDistinct (cond (not b) (first ∷ without at held) (without at held))) [ true ↦ rest | false ↦ (free, rest) ]

module _ {V : Type 0} where
  takes : (old new : Holders V) (lock : Lock) → AreInOrder old → HasRoom old → Takes old new lock → AreInOrder new
  takes old new lock order room did = subst (λ (locks : Holders V). AreInOrder locks) (sym did.now_held) (record {
    filled = omega (arith, room.fewer, length-append old.held (lock ∷ []));
    distinct = AreDistinct-push old.held lock order.distinct did.was_free;
    awaited = All-weaker (λ (w : Waiter V). is_held w.at old.held ≡ true) (λ (w : Waiter V). is_held w.at (old.held ++ lock ∷ []) ≡ true)
        (λ w held. is_held-more w.at old.held lock held) old.waiting order.awaited;
  })

  waits : (old new : Holders V) (waiter : Waiter V) → AreInOrder old → HasRoom old → Waits old new waiter → AreInOrder new
  waits old new waiter order room did = subst (λ (locks : Holders V). AreInOrder locks) (sym did.behind) (record {
    filled = omega (arith, room.fewer, length-append old.waiting (waiter ∷ []));
    distinct = order.distinct;
    awaited = All-push (λ (w : Waiter V). is_held w.at old.held ≡ true) old.waiting waiter order.awaited did.was_held;
  })

  holds_next : (old new : Holders V) (waiter : Waiter V) → AreInOrder old → HoldsNext old new waiter → AreInOrder new
  holds_next old new waiter order did =
      let less = without waiter.at old.held in
      let locks = less ++ lock_of waiter ∷ [] in
      let fewer = length-without waiter.at old.held in
      let left = length-but_first (waits_for waiter.at) old.waiting waiter did.first in
      let stays : (w : Waiter V) → is_held w.at old.held ≡ true → is_held w.at locks ≡ true
      = λ w held. elim (cases_eq w.at.0 waiter.at.0) [
        | inl same ↦ is_held-new w.at less (lock_of waiter) (sym same)
        | inr other ↦ is_held-more w.at less (lock_of waiter) (is_held-without w.at waiter.at old.held other ∙ held)
      ] in
      subst (λ (locks : Holders V). AreInOrder locks) (sym did.now_held) (record {
        filled = omega (arith, order.filled, fewer, left, length-append less (lock_of waiter ∷ []));
        distinct = AreDistinct-push less (lock_of waiter) (AreDistinct-without waiter.at old.held order.distinct) (gone-without waiter.at waiter.at old.held refl);
        awaited = All-but_first (waits_for waiter.at) (λ (w : Waiter V). is_held w.at locks ≡ true) old.waiting
            (All-weaker (λ (w : Waiter V). is_held w.at old.held ≡ true) (λ (w : Waiter V). is_held w.at locks ≡ true) stays old.waiting order.awaited);
      })

  frees : (old new : Holders V) (at : Lba) → AreInOrder old → Frees old new at → AreInOrder new
  frees old new at order did =
      let nobody = find-none (waits_for at) old.waiting did.none_waits in
      subst (λ (locks : Holders V). AreInOrder locks) (sym did.free) (record {
        filled = omega (arith, order.filled, length-without at old.held);
        distinct = AreDistinct-without at old.held order.distinct;
        awaited = λ k w below.
            let waiter = get_or old.waiting k w in
            is_held-without waiter.at at old.held (eqb-false _ _ (nobody k w below)) ∙ order.awaited k w below;
      })

  pub call_keeps : (call : Operation V) (old new : Holders V) → AreInOrder old → Does call old new → AreInOrder new
  call_keeps (Asks at vio) old new order (room, inl taken) = takes old new _ order room taken
  call_keeps (Asks at vio) old new order (room, inr behind) = waits old new _ order room behind
  call_keeps (Releases at) old new order (inl (place, vio, next)) = holds_next old new _ order next
  call_keeps (Releases at) old new order (inr free) = frees old new at order free

  pub calls_keep : (old new : Holders V) (calls : List (Operation V)) → AreInOrder old → LeadTo old calls new → AreInOrder new
  calls_keep = leads_keep (Does {V = V}) AreInOrder call_keeps
