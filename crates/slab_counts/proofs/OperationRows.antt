-- For each call on the counts of a slab what it does, and what it doesn't do: a case that each clause accepts, and one that
-- breaks it alone.
use Rattle.std.specs.Prelude.{ℕ, ◌≡◌, false, [], ◌∷◌, slice_index, slice_index_or}
use Rattle.std.proofs.Common.{ap, subst, arith, refl}
use Rattle.std.proofs.lemmas.Bool.{false≢true}
use Rattle.blk_base.specs.declared.point.Half.TheVariants.{Increment, Decrement}
use Rattle.blk_base.proofs.Example.{small}
use Rattle.blk_base.specs.Forms.{pbn as at}
use Rattle.slab_counts.specs.Operations.{Applied, Does, Dropped, Extended, FreeClaimed, LeadTo, PageSpent, Refused, Shared, Spent, one_of}
use Rattle.slab_counts.specs.Counts.{Counts, IsClaimed, claimed, claims_of, counter_of, mapped, offset_of, unclaimed, unmapped, with_page}

-- of its blocks 85 is free, 86 mapped, and 87 claimed
abbrev some : Counts
some = record { geometry = small; slab = 0; counters = 0 ∷ 1 ∷ 0 ∷ []; claims = 0 ∷ 0 ∷ 1 ∷ []; pages = false ∷ false ∷ false ∷ [] }

abbrev count_at : ℕ → Counts → ℕ
count_at k c = slice_index c.counters k

abbrev claims_at : ℕ → Counts → ℕ
claims_at k c = slice_index c.claims k

-- offset_of, counter_of, claims_of
offset_of_second : offset_of some (at 86) ≡ 1
offset_of_second = refl

counter_of_second : counter_of some (at 86) ≡ 1
counter_of_second = refl

claims_of_third : claims_of some (at 87) ≡ 1
claims_of_third = refl

-- one_of
the_same : one_of (at 85) (at 85) ≡ 1
the_same = refl

another : one_of (at 85) (at 86) ≡ 0
another = refl

-- Does: the lowest free block is claimed
claims_first : Does (FreeClaimed (at 85)) some (claimed some (at 85))
claims_first = record { of_slab = (omega arith, omega arith); free = (refl, refl); lowest = λ other here below. absurd (let above = here.0 in omega (arith, above, below)); now_claimed = refl }

claims_a_mapped_one : (new : Counts) → Does (FreeClaimed (at 86)) some new → ⊥
claims_a_mapped_one new is = omega (arith, is.free.0)

-- a mapped block is shared
shares : Does (Shared (at 86)) some (claimed some (at 86))
shares = record { of_slab = (omega arith, omega arith); data_block = λ page. false≢true page; live = omega arith; room = omega arith; now_claimed = refl }

shares_a_free_one : (new : Counts) → Does (Shared (at 85)) some new → ⊥
shares_a_free_one new is = omega (arith, is.live)

-- a claim is extended to one more, where it fits
third_is_claimed : IsClaimed some (at 87)
third_is_claimed = record { of_slab = (omega arith, omega arith); some = omega arith }

second_is_not : IsClaimed some (at 86) → ⊥
second_is_not is = omega (arith, is.some)

extends : Does (Extended (at 87)) some (claimed some (at 87))
extends = (third_is_claimed, omega arith, refl)

extends_no_claim : (new : Counts) → Does (Extended (at 86)) some new → ⊥
extends_no_claim new is = second_is_not is.0

extends_past_the_limit : (new : Counts) → Does (Extended (at 87)) (record some { counters = 0 ∷ 1 ∷ 253 ∷ [] }) new → ⊥
extends_past_the_limit new is = omega (arith, is.1)

extends_without_a_trace : Does (Extended (at 87)) some some → ⊥
extends_without_a_trace is = let no : 1 ≡ 2 = ap (claims_at 2) is.2 in omega (arith, no)

-- a claim is dropped
drops : Does (Dropped (at 87)) some (unclaimed some (at 87))
drops = (third_is_claimed, refl)

drops_no_claim : (new : Counts) → Does (Dropped (at 86)) some new → ⊥
drops_no_claim new is = second_is_not is.0

drops_without_a_trace : Does (Dropped (at 87)) some some → ⊥
drops_without_a_trace is = let no : 1 ≡ 0 = ap (claims_at 2) is.1 in omega (arith, no)

-- a claim is spent: it goes with the increment, and not before
spends : Does (Spent (at 87)) some some
spends = (third_is_claimed, refl)

spends_no_claim : (new : Counts) → Does (Spent (at 86)) some new → ⊥
spends_no_claim new is = second_is_not is.0

spends_and_drops : Does (Spent (at 87)) some (unclaimed some (at 87)) → ⊥
spends_and_drops is = let no : 0 ≡ 1 = ap (claims_at 2) is.1 in omega (arith, no)

-- it is spent for a page
spends_for_a_page : Does (PageSpent (at 87)) some (with_page some (at 87))
spends_for_a_page = (third_is_claimed, refl)

spends_no_claim_for_a_page : (new : Counts) → Does (PageSpent (at 86)) some new → ⊥
spends_no_claim_for_a_page new is = second_is_not is.0

spends_for_no_page : Does (PageSpent (at 87)) some some → ⊥
spends_for_no_page is = false≢true (ap (λ (c : Counts). slice_index_or c.pages 2 false) is.1)

-- an update is applied to a block of the slab
counts_one_more : Does (Applied Increment (at 87)) some (mapped some (at 87))
counts_one_more = ((omega arith, omega arith), (omega arith, omega arith, refl))

counts_one_less : Does (Applied Decrement (at 86)) some (unmapped some (at 86))
counts_one_less = ((omega arith, omega arith), (omega arith, refl))

counts_elsewhere : (new : Counts) → Does (Applied Decrement (at 149)) some new → ⊥
counts_elsewhere new is = omega (arith, is.0.1)

counts_without_a_claim : (new : Counts) → Does (Applied Increment (at 86)) some new → ⊥
counts_without_a_claim new is = omega (arith, is.1.1)

-- what is refused changes nothing
refused : Does Refused some some
refused = refl

refused_and_claimed : Does Refused some (claimed some (at 85)) → ⊥
refused_and_claimed is = let no : 1 ≡ 0 = ap (claims_at 0) is in omega (arith, no)

-- LeadTo: the newest call comes first
in_turn : LeadTo some (Applied Increment (at 85) ∷ FreeClaimed (at 85) ∷ []) (mapped (claimed some (at 85)) (at 85))
in_turn = (claimed some (at 85), (some, refl, claims_first), ((omega arith, omega arith), (omega arith, omega arith, refl)))

in_another_order : (new : Counts) → LeadTo some (FreeClaimed (at 85) ∷ Applied Increment (at 85) ∷ []) new → ⊥
in_another_order new (before, (first, same, applied), claims) =
    let taken = subst (λ (c : Counts). Does (Applied Increment (at 85)) c before) same applied in omega (arith, taken.1.1)

by_no_call : LeadTo some [] (claimed some (at 85)) → ⊥
by_no_call is = let no : 1 ≡ 0 = ap (claims_at 0) is in omega (arith, no)
