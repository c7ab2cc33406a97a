-- Which pages a list has, and what stands in a list after one place was set.
use Rattle.std.specs.Prelude.{ℕ, zero, suc, ◌≡◌, ◌≢◌, ◌<◌, ◌⊎◌, List, [], ◌∷◌, length, All, Contains, slice_index_or, slice_set, replicate, refl}
use Rattle.std.proofs.Common.{ap, ◌∙◌, inl, inr, arith}
use Rattle.std.proofs.lemmas.Bool.{cases_eq}
use Rattle.std.proofs.lemmas.List.{get_or-set_same, get_or-set_other}
use Rattle.std.proofs.lemmas.List.Elements.{All-nil, All-cons}
use Rattle.blk_base.specs.declared.place.PageId.{PageId}
use Rattle.blk_base.proofs.PageIdLaws.{same_or_not}

-- a place of a list after a write is the written one or another
pub at_set : {X : Type 0} (xs : List X) (i j : ℕ) (y d : X) → i < length xs
    → ((j ≡ i) × (slice_index_or (slice_set xs i y) j d ≡ y)) ⊎ ((j ≢ i) × (slice_index_or (slice_set xs i y) j d ≡ slice_index_or xs j d))
at_set xs i j y d inside =
    elim (cases_eq j i) [
      | inl same ↦ inl (same, ap (λ k. slice_index_or (slice_set xs i y) k d) same ∙ get_or-set_same xs i y d inside)
      | inr other ↦ inr (other, get_or-set_other xs i j y d other)
    ]

-- each place of a list that repeats what is past its end
pub replicate_at : {X : Type 0} (n i : ℕ) (x : X) → slice_index_or (replicate n x) i x ≡ x
replicate_at zero i x = refl
replicate_at (suc n) zero x = refl
replicate_at (suc n) (suc i) x = replicate_at n i x

-- whether a page is that of one of a list
pub listed_or_not : {X : Type 0} (page_of : X → PageId) (xs : List X) (page : PageId) → ((x : X) × Contains xs x × (page_of x ≡ page)) ⊎ All (λ x. page_of x ≢ page) xs
listed_or_not page_of [] page = inr (All-nil (λ x. page_of x ≢ page))
listed_or_not page_of (x ∷ xs) page =
    elim (same_or_not (page_of x) page) [
      | inl here ↦ inl (x, (0, omega arith, refl), here)
      | inr other ↦ elim (listed_or_not page_of xs page) [
        | inl behind ↦ inl (behind.0, (suc behind.1.0, omega (arith, behind.1.1), behind.1.2), behind.2)
        | inr none ↦ inr (All-cons (λ x. page_of x ≢ page) x xs other none)
      ]
    ]
