-- Names of requests.
use Rattle.std.proofs.Common.{ℕ, ◌≡◌, ◌≢◌, ◌⊎◌, true, false, refl, ap, inl, inr}
use Rattle.std.proofs.lemmas.Bool.Decides.{eqb_tells}
use Rattle.blk_base.specs.declared.request.Writer.{Writer}
use Rattle.vdo_model.specs.Scripts.{same_writer}

-- two names are the same or differ
pub same_tells : (v w : Writer) → ((same_writer v w ≡ true) × (v ≡ w)) ⊎ ((same_writer v w ≡ false) × (v ≢ w))
same_tells v w = elim (eqb_tells v.stream w.stream) [
  | inl stream ↦ elim (eqb_tells v.number w.number) [
    | inl number ↦ inl (rw (stream.0, number.0) refl, writer_is v.stream v.number w.stream w.number stream.1 number.1)
    | inr other ↦ inr (rw (stream.0, other.0) refl, λ same. other.1 (ap (λ (x : Writer). x.number) same))
  ]
  | inr other ↦ inr (rw other.0 refl, λ same. other.1 (ap (λ (x : Writer). x.stream) same))
]
  where
    writer_is : (a b c d : ℕ) → a ≡ c → b ≡ d → ◌≡◌ {A = Writer} (record { stream = a; number = b }) (record { stream = c; number = d })
    writer_is a b c d p q = cc

-- a name is its own
pub same_self : (w : Writer) → same_writer w w ≡ true
same_self w = elim (same_tells w w) [ inl same ↦ same.0 | inr other ↦ absurd (other.1 refl) ]
