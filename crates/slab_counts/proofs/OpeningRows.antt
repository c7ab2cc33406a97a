-- For each clause on how the counts of a slab begin, and on what is always true of them, a case that it accepts, and one that
-- breaks it alone.
use Rattle.std.specs.Prelude.{ℕ, ◌≡◌, false, List, [], ◌∷◌, replicate, slice_index, Contains, ◌↔◌}
use Rattle.std.proofs.Common.{sym, ◌∙◌, ap, arith, inl, inr, refl, subst, get_or}
use Rattle.std.proofs.lemmas.Bool.{cases_lt, cases_eq, false≢true}
use Rattle.std.proofs.lemmas.List.{get_or_past, get_or-replicate, length-replicate}
use Rattle.blk_base.specs.Limits.{IsGeometry}
use Rattle.blk_base.specs.declared.geometry.Geometry.{Geometry}
use Rattle.blk_base.specs.declared.place.Pbn.{Pbn}
use Rattle.blk_base.proofs.Example.{small_with_is, small_with}
use Rattle.blk_base.specs.Forms.{pbn as at}
use Rattle.slab_counts.specs.Counts.{Counts, IsOfSlab, IsPage, IsOpening}
use Rattle.slab_counts.specs.Kept.{IsWithin, NoneFreeBelow}

abbrev pub sizes : Geometry
sizes = small_with 16 4

abbrev pub unused : Counts
unused = record { geometry = sizes; slab = 0; counters = replicate 16 0; claims = replicate 16 0; pages = replicate 16 false }

pub limits : IsGeometry sizes
limits = small_with_is 16 4 (omega arith) (omega arith) (omega arith) (omega arith)

zero_of : (n k : ℕ) → slice_index (replicate n 0) k ≡ 0
zero_of n k = elim (cases_lt k n) [
  | inl inside ↦ get_or-replicate n k 0 0 inside
  | inr past ↦ get_or_past (replicate n 0) k 0 (omega (arith, length-replicate {A = ℕ} n 0))
]

-- IsWithin
within : IsWithin unused
within = record {
  geometry = limits;
  slab = omega arith;
  counters = refl;
  claims = refl;
  pages = refl;
  limit = λ k. omega (arith, zero_of 16 k);
}

odd_sizes : ¬ IsWithin (record unused { geometry = record sizes { nonce = 0 } })
odd_sizes = λ is. omega (arith, is.geometry.nonce)

no_such_slab : ¬ IsWithin (record unused { slab = 1 })
no_such_slab = λ is. omega (arith, is.slab)

a_counter_less : ¬ IsWithin (record unused { counters = replicate 15 0 })
a_counter_less = λ is. let short : 15 ≡ 16 = is.counters in absurd (omega (arith, short))

a_claim_more : ¬ IsWithin (record unused { claims = replicate 17 0 })
a_claim_more = λ is. let long : 17 ≡ 16 = is.claims in absurd (omega (arith, long))

a_page_less : ¬ IsWithin (record unused { pages = replicate 15 false })
a_page_less = λ is. let short : 15 ≡ 16 = is.pages in absurd (omega (arith, short))

too_many_claims : ¬ IsWithin (record unused { counters = 200 ∷ replicate 15 0; claims = 55 ∷ replicate 15 0 })
too_many_claims = λ is. absurd (omega (arith, is.limit 0))

-- IsOpening: the sizes, the slab, its counters, no claims, its tree pages
abbrev of_three : List ℕ
of_three = 7 ∷ 8 ∷ 9 ∷ []

-- two slabs of one block, of which the second one's counter is 8
abbrev ones : Geometry
ones = record sizes { slab_blocks = 1; slabs = 2 }

abbrev second : Counts
second = record { geometry = ones; slab = 1; counters = 8 ∷ []; claims = 0 ∷ []; pages = false ∷ [] }

-- the second slab's block, behind a block of the first, a reference block and four of its journal
only_block : (b : Pbn) → IsOfSlab second b → b.0 ≡ 91
only_block b here = omega (arith, here.0, here.1)

listed_first : (b : Pbn) → Contains (at 85 ∷ []) b → b.0 ≡ 85
listed_first b listed =
    let first : listed.0 ≡ 0 = omega (arith, listed.1) in
    ap (λ (p : Pbn). p.0) (sym listed.2 ∙ ap (λ (k : ℕ). get_or (at 85 ∷ []) k b) first)

elsewhere : (b : Pbn) → IsOfSlab second b → IsPage second b ↔ Contains (at 85 ∷ []) b
elsewhere b here = (
  (λ page. let place : b.0 ≡ 91 = only_block b here in absurd (false≢true (subst (λ (n : ℕ). IsPage second (at n)) place page))),
  (λ listed. absurd (omega (arith, only_block b here, listed_first b listed))),
)

opens : IsOpening ones 1 of_three (at 85 ∷ []) second
opens = record { geometry = refl; slab = refl; counters = refl; claims = refl; pages = elsewhere }

other_sizes : ¬ IsOpening sizes 1 of_three (at 85 ∷ []) (record second { geometry = ones })
other_sizes = λ is. let one : 1 ≡ 16 = ap (λ (g : Geometry). g.slab_blocks) is.geometry in absurd (omega (arith, one))

other_slab : ¬ IsOpening ones 1 of_three (at 85 ∷ []) (record second { slab = 0 })
other_slab = λ is. let none : 0 ≡ 1 = is.slab in absurd (omega (arith, none))

other_counter : ¬ IsOpening ones 1 of_three (at 85 ∷ []) (record second { counters = 7 ∷ [] })
other_counter = λ is. let seven : 7 ≡ 8 = ap (λ (xs : List ℕ). slice_index xs 0) is.counters in absurd (omega (arith, seven))

with_a_claim : ¬ IsOpening ones 1 of_three (at 85 ∷ []) (record second { claims = 1 ∷ [] })
with_a_claim = λ is. let one : 1 ≡ 0 = ap (λ (xs : List ℕ). slice_index xs 0) is.claims in absurd (omega (arith, one))

page_forgotten : ¬ IsOpening ones 1 of_three (at 91 ∷ []) second
page_forgotten = λ is. absurd (false≢true ((is.pages (at 91) (omega arith, omega arith)).1 (0, omega arith, refl)))

-- NoneFreeBelow
two_in_use : NoneFreeBelow (1 ∷ 0 ∷ 0 ∷ []) (0 ∷ 1 ∷ 0 ∷ []) 2
two_in_use k below free = elim (cases_eq k 0) [
  | inl first ↦ let one : 1 ≡ 0 = ap (λ (n : ℕ). slice_index (1 ∷ 0 ∷ 0 ∷ []) n) (sym first) ∙ free.0 in absurd (omega (arith, one))
  | inr later ↦
      let second : k ≡ 1 = omega (arith, below, later) in
      let one : 1 ≡ 0 = ap (λ (n : ℕ). slice_index (0 ∷ 1 ∷ 0 ∷ []) n) (sym second) ∙ free.1 in absurd (omega (arith, one))
]

third_is_free : ¬ NoneFreeBelow (1 ∷ 0 ∷ 0 ∷ []) (0 ∷ 1 ∷ 0 ∷ []) 3
third_is_free = λ none. none 2 (omega arith) (refl, refl)
