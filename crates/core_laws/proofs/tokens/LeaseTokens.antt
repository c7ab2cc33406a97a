-- The locks of a zone, without those of an address.
use Rattle.std.proofs.Common.{◌≡◌, ℕ, ◌+◌, Bool, true, false, ◌&&◌, ◌==◌, List, [], ◌∷◌, length, refl, sym, ◌∙◌, ap, subst, inl, inr, arith}
use Rattle.core_laws.proofs.Common.{Lock, LogicalZone, Vio, bit, eqb_tells, lock_weight, total}
use Rattle.core_model.specs.LogicalRules.{without}
use Rattle.core_laws.proofs.tokens.Known.{Leased}

-- without the locks of an address, it has none, and all others have theirs
pub without_same : (b : ℕ) (test : ℕ → Bool) (locks : List Lock) → total (lock_weight b test) (without b locks) ≡ 0
without_same b test [] = refl
without_same b test (lock ∷ locks) = elim (eqb_tells lock.at.0 b) [
  | inl here ↦ rw here.0 (without_same b test locks)
  | inr there ↦ rw (there.0, there.0) (omega (arith, without_same b test locks))
]

pub without_other : (a b : ℕ) (test : ℕ → Bool) (locks : List Lock) → (b ≡ a → ⊥) → total (lock_weight a test) (without b locks) ≡ total (lock_weight a test) locks
without_other a b test [] ne = refl
without_other a b test (lock ∷ locks) ne = elim (eqb_tells lock.at.0 b) [
  | inl here ↦
      let other : (lock.at.0 == a) ≡ false = elim (eqb_tells lock.at.0 a) [ inl same ↦ absurd (ne (sym here.1 ∙ same.1)) | inr apart ↦ apart.0 ] in
      rw (here.0, other) (omega (arith, without_other a b test locks ne))
  | inr there ↦ rw there.0 (ap (λ n. lock_weight a test lock + n) (without_other a b test locks ne))
]

-- where an address has the lock of a request alone, it has none without it
pub freed : (a : ℕ) (test : ℕ → Bool) (l : LogicalZone) (v : Vio) → Leased l v → total (lock_weight a test) (without v.at.0 l.held) + bit (v.at.0 == a && test v.place) ≡ total (lock_weight a test) l.held
freed a test l v leased = elim (eqb_tells v.at.0 a) [
  | inl same ↦
      let x = subst (λ (n : ℕ). total (lock_weight n test) l.held ≡ bit (test v.place)) same.1 (leased test) in
      let y = subst (λ (n : ℕ). total (lock_weight n test) (without v.at.0 l.held) ≡ 0) same.1 (without_same v.at.0 test l.held) in
      rw same.0 (omega (arith, x, y))
  | inr other ↦ let x = without_other a v.at.0 test l.held other.1 in rw other.0 (omega (arith, x))
]

-- then the zone holds one lock less
without_one : (b : ℕ) (locks : List Lock) → length (without b locks) + total (lock_weight b (λ p. true)) locks ≡ length locks
without_one b [] = refl
without_one b (lock ∷ locks) = elim (eqb_tells lock.at.0 b) [
  | inl here ↦ rw here.0 (omega (arith, without_one b locks))
  | inr there ↦ rw there.0 (omega (arith, without_one b locks))
]

pub one_freed : (l : LogicalZone) (v : Vio) → Leased l v → length (without v.at.0 l.held) + 1 ≡ length l.held
one_freed l v leased = omega (arith, without_one v.at.0 l.held, leased (λ p. true))
