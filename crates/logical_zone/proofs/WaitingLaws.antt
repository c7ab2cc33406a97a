-- Those that wait for an address, and the first of them.
use Rattle.std.proofs.Common.{ℕ, ◌≡◌, ◌+◌, false, Option, None, Some, List, [], ◌∷◌, length, refl, ap, sym, ◌∙◌, arith, inl, inr}
use Rattle.std.proofs.lemmas.Bool.{eq-eqb}
use Rattle.std.proofs.lemmas.Option.{same_Some}
use Rattle.std.proofs.lemmas.Bool.Decides.{eqb_tells}
use Rattle.core_model.specs.LogicalRules.{all_for, but_first_for, first_for, is_held, none_for, passed_to, released, without}
use Rattle.core_model.specs.Waiters.{IsFree}
use Rattle.data_vio.specs.declared.items.Vio.{Vio}
use Rattle.core_model.specs.LogicalData.{Lock, LogicalZone}
use Rattle.core_model.proofs.LockLaws.{first_at}

-- where nobody waits for it, all wait for others
pub nobody : (a : ℕ) (vs : List Vio) → first_for a vs ≡ None → (all_for a vs ≡ []) × (none_for a vs ≡ vs) × (but_first_for a vs ≡ vs)
nobody a [] none = (refl, refl, refl)
nobody a (v ∷ vs) none = elim (eqb_tells v.at.0 a) [
  | inl here ↦ absurd (no_some v (rw here.0 at none))
  | inr there ↦
      let rest = nobody a vs (rw there.0 at none) in
      rw there.0 (rest.0, ap (λ (k : List Vio). v ∷ k) rest.1, ap (λ (k : List Vio). v ∷ k) rest.2)
]
  where
    no_some : (v : Vio) → Some v ≡ None → ⊥
    no_some v same = absurd cc

-- the first of them, and the others
pub others_wait : (a : ℕ) (vs : List Vio) (v : Vio) → first_for a vs ≡ Some v → all_for a vs ≡ v ∷ all_for a (but_first_for a vs)
others_wait a [] v some = absurd cc
others_wait a (w ∷ vs) v some = elim (eqb_tells w.at.0 a) [
  | inl here ↦ let same : w ≡ v = same_Some w v (rw here.0 at some) in rw here.0 (ap (λ (u : Vio). u ∷ all_for a vs) same)
  | inr there ↦ let rest = others_wait a vs v (rw there.0 at some) in grind (arith, there.0, rest)
]

pub rest_waits : (a : ℕ) (vs : List Vio) (v : Vio) → first_for a vs ≡ Some v → none_for a vs ≡ none_for a (but_first_for a vs)
rest_waits a [] v some = refl
rest_waits a (w ∷ vs) v some = elim (eqb_tells w.at.0 a) [
  | inl here ↦ rw here.0 refl
  | inr there ↦ let rest = rest_waits a vs v (rw there.0 at some) in grind (arith, there.0, rest)
]

pub fewer_wait : (a : ℕ) (vs : List Vio) (v : Vio) → first_for a vs ≡ Some v → length vs ≡ length (but_first_for a vs) + 1
fewer_wait a [] v some = absurd cc
fewer_wait a (w ∷ vs) v some = elim (eqb_tells w.at.0 a) [
  | inl here ↦ rw here.0 (omega arith)
  | inr there ↦ let rest = fewer_wait a vs v (rw there.0 at some) in rw there.0 (omega (arith, rest))
]

-- The zone while those that wait for an address come out, and when all have.
abbrev pub emptied : ℕ → LogicalZone → LogicalZone
emptied a l = record l { held = without a l.held; waiting = none_for a l.waiting }

without_twice : (a : ℕ) (held : List Lock) → without a (without a held) ≡ without a held
without_twice a [] = refl
without_twice a (lock ∷ held) = elim (eqb_tells lock.at.0 a) [
  | inl gone ↦ rw gone.0 (without_twice a held)
  | inr stays ↦ rw (stays.0, stays.0) (ap (λ (ls : List Lock). lock ∷ ls) (without_twice a held))
]

pub next_emptied : (a : ℕ) (l : LogicalZone) (v : Vio) → first_for a l.waiting ≡ Some v → emptied a (released a l) ≡ emptied a l
next_emptied a l v first =
    ap (λ (o : Option Vio). emptied a (passed_to a l o)) first
    ∙ ap (λ (ls : List Lock). record l { held = ls; waiting = none_for a (but_first_for a l.waiting) }) (rw (eq-eqb v.at.0 a (first_at a l.waiting v first)) (without_twice a l.held))
    ∙ ap (λ (vs : List Vio). record l { held = without a l.held; waiting = vs }) (sym (rest_waits a l.waiting v first))

pub next_waiting : (a : ℕ) (l : LogicalZone) (v : Vio) → first_for a l.waiting ≡ Some v → (released a l).waiting ≡ but_first_for a l.waiting
next_waiting a l v first = ap (λ (o : Option Vio). (passed_to a l o).waiting) first

pub last_emptied : (a : ℕ) (l : LogicalZone) → first_for a l.waiting ≡ None → released a l ≡ emptied a l
last_emptied a l none =
    ap (passed_to a l) none ∙ ap (λ (vs : List Vio). record l { held = without a l.held; waiting = vs }) (sym (nobody a l.waiting none).1)

-- then nobody holds the address, and nobody waits for it
gone_without : (a : ℕ) (held : List Lock) → is_held a (without a held) ≡ false
gone_without a [] = refl
gone_without a (lock ∷ held) = elim (eqb_tells lock.at.0 a) [ inl gone ↦ rw gone.0 (gone_without a held) | inr stays ↦ rw (stays.0, stays.0) (gone_without a held) ]

none_waits : (a : ℕ) (vs : List Vio) → first_for a (none_for a vs) ≡ None
none_waits a [] = refl
none_waits a (v ∷ vs) = elim (eqb_tells v.at.0 a) [ inl gone ↦ rw gone.0 (none_waits a vs) | inr stays ↦ rw (stays.0, stays.0) (none_waits a vs) ]

pub emptied_free : (a : ℕ) (l : LogicalZone) → IsFree (emptied a l).held (emptied a l).waiting a
emptied_free a l = record { unheld = gone_without a l.held; unawaited = none_waits a l.waiting }
