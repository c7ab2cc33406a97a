-- For each clause of what a call does to the counts of a slab, a case that it accepts, and one that breaks it alone.
use Rattle.std.specs.Prelude.{ℕ, ◌≡◌, ◌<◌, ◌≤◌, true, false, List, [], ◌∷◌, slice_index}
use Rattle.std.proofs.Common.{ap, arith, inl, inr, refl, subst}
use Rattle.std.proofs.lemmas.Bool.{cases_eq, false≢true}
use Rattle.blk_base.specs.declared.place.Pbn.{Pbn}
use Rattle.blk_base.specs.declared.point.Half.TheVariants.{Increment, Decrement}
use Rattle.blk_base.proofs.Example.{small}
use Rattle.blk_base.specs.Forms.{pbn as at}
use Rattle.slab_counts.specs.Counts.{Counts, IsOfSlab, IsFree, IsPage, IsClaimed, HasRoom, HasNoFree, ClaimsFree, Shares, IsRefused, Takes, IsStray, claimed, unclaimed, mapped, unmapped, with_page, used_of}
use Rattle.slab_counts.specs.Operations.{Operation, FreeClaimed, Shared, Extended, Dropped, Spent, PageSpent, Applied, Refused, makes, drops, spends, maps, unmaps, total}
use Rattle.slab_counts.specs.declared.refusals.Refusal.TheVariants.{NotData, NotLive, Full}

-- of its blocks 85 is mapped, 86 claimed, 87 and 88 free, 89 mapped as often as can be, 90 almost, and 91 has a page
abbrev some : Counts
some = record {
  geometry = small;
  slab = 0;
  counters = 1 ∷ 0 ∷ 0 ∷ 0 ∷ 254 ∷ 250 ∷ 1 ∷ [];
  claims = 0 ∷ 1 ∷ 0 ∷ 0 ∷ 0 ∷ 4 ∷ 0 ∷ [];
  pages = false ∷ false ∷ false ∷ false ∷ false ∷ false ∷ true ∷ [];
}

-- and one whose first block is free, one whose first block is claimed
abbrev first_free : Counts
first_free = record some { counters = 0 ∷ []; claims = 0 ∷ [] }

abbrev first_claimed : Counts
first_claimed = record some { counters = 0 ∷ []; claims = 1 ∷ [] }

abbrev claims_at : ℕ → Counts → ℕ
claims_at k c = slice_index c.claims k

abbrev count_at : ℕ → Counts → ℕ
count_at k c = slice_index c.counters k

-- IsOfSlab
first_block : IsOfSlab some (at 85)
first_block = (omega arith, omega arith)

last_block : IsOfSlab some (at 148)
last_block = (omega arith, omega arith)

before_the_first : ¬ IsOfSlab some (at 84)
before_the_first = λ here. omega (arith, here.0)

past_the_last : ¬ IsOfSlab some (at 149)
past_the_last = λ here. omega (arith, here.1)

of_slab : (n : ℕ) → 85 ≤ n → n < 149 → IsOfSlab some (at n)
of_slab n above below = (above, below)

-- IsFree: no mapping, no claim
free_block : IsFree some (at 87)
free_block = (refl, refl)

mapped_block : ¬ IsFree some (at 85)
mapped_block = λ free. omega (arith, free.0)

claimed_block : ¬ IsFree some (at 86)
claimed_block = λ free. omega (arith, free.1)

-- used_of
three_used : used_of some ≡ 4
three_used = refl

none_used : used_of first_claimed ≡ 0
none_used = refl

-- HasRoom
has_room : HasRoom some (at 85)
has_room = omega arith

full_of_mappings : ¬ HasRoom some (at 89)
full_of_mappings = λ room. omega (arith, room)

full_with_claims : ¬ HasRoom some (at 90)
full_with_claims = λ room. omega (arith, room)

-- IsClaimed
is_claimed : IsClaimed some (at 86)
is_claimed = record { of_slab = of_slab 86 (omega arith) (omega arith); some = omega arith }

claimed_elsewhere : ¬ IsClaimed first_claimed (at 84)
claimed_elsewhere = λ claimed. before_the_first claimed.of_slab

without_claim : ¬ IsClaimed some (at 85)
without_claim = λ claimed. omega (arith, claimed.some)

-- ClaimsFree: the block is of the slab, free, the lowest, and is claimed
none_below : (other : Pbn) → IsOfSlab some other → other.0 < 87 → ¬ IsFree some other
none_below other here below free = elim (cases_eq other.0 85) [
  | inl first ↦ mapped_block (subst (λ (n : ℕ). IsFree some (at n)) first free)
  | inr past ↦ claimed_block (subst (λ (n : ℕ). IsFree some (at n)) (let second : other.0 ≡ 86 = omega (arith, here.0, below, past) in second) free)
]

claims_free : ClaimsFree some (claimed some (at 87)) (at 87)
claims_free = record { of_slab = of_slab 87 (omega arith) (omega arith); free = free_block; lowest = none_below; now_claimed = refl }

claims_outside : ¬ ClaimsFree first_free (claimed first_free (at 84)) (at 84)
claims_outside = λ claims. before_the_first claims.of_slab

claims_claimed : ¬ ClaimsFree some (claimed some (at 86)) (at 86)
claims_claimed = λ claims. claimed_block claims.free

claims_the_second : ¬ ClaimsFree some (claimed some (at 88)) (at 88)
claims_the_second = λ claims. claims.lowest (at 87) (of_slab 87 (omega arith) (omega arith)) (omega arith) free_block

claims_without_a_trace : ¬ ClaimsFree some some (at 87)
claims_without_a_trace = λ claims. let none : 0 ≡ 1 = ap (claims_at 2) claims.now_claimed in absurd (omega (arith, none))

-- HasNoFree
one_is_free : ¬ HasNoFree some
one_is_free = λ none. none (at 87) (of_slab 87 (omega arith) (omega arith)) free_block

-- Shares: the block is of the slab, no tree page, mapped, with room, and is claimed
no_page : ¬ IsPage some (at 85)
no_page = λ page. absurd (false≢true page)

shares : Shares some (claimed some (at 85)) (at 85)
shares = record { of_slab = first_block; data_block = no_page; live = omega arith; room = has_room; now_claimed = refl }

shares_outside : ¬ Shares some (claimed some (at 84)) (at 84)
shares_outside = λ shares. before_the_first shares.of_slab

shares_a_page : ¬ Shares some (claimed some (at 91)) (at 91)
shares_a_page = λ shares. shares.data_block refl

shares_what_is_not_mapped : ¬ Shares some (claimed some (at 86)) (at 86)
shares_what_is_not_mapped = λ shares. omega (arith, shares.live)

shares_what_is_full : ¬ Shares some (claimed some (at 90)) (at 90)
shares_what_is_full = λ shares. full_with_claims shares.room

shares_without_a_trace : ¬ Shares some some (at 85)
shares_without_a_trace = λ shares. let none : 0 ≡ 1 = ap (claims_at 0) shares.now_claimed in absurd (omega (arith, none))

-- IsRefused: each cause, and none that comes behind another one
outside_is_no_data : IsRefused NotData some (at 84)
outside_is_no_data = inl before_the_first

page_is_no_data : IsRefused NotData some (at 91)
page_is_no_data = inr refl

data_is_data : ¬ IsRefused NotData some (at 85)
data_is_data = λ refused. elim refused [ inl outside ↦ outside first_block | inr page ↦ no_page page ]

claimed_is_not_live : IsRefused NotLive some (at 86)
claimed_is_not_live = (of_slab 86 (omega arith) (omega arith), (λ page. absurd (false≢true page)), refl)

outside_is_not_looked_at : ¬ IsRefused NotLive first_free (at 84)
outside_is_not_looked_at = λ refused. before_the_first refused.0

page_comes_first : ¬ IsRefused NotLive (with_page some (at 87)) (at 87)
page_comes_first = λ refused. refused.1 refl

mapped_is_live : ¬ IsRefused NotLive some (at 85)
mapped_is_live = λ refused. absurd (omega (arith, refused.2))

claims_fill : IsRefused Full some (at 90)
claims_fill = (of_slab 90 (omega arith) (omega arith), (λ page. absurd (false≢true page)), omega arith, full_with_claims)

outside_is_not_full : ¬ IsRefused Full (record some { counters = 254 ∷ [] }) (at 84)
outside_is_not_full = λ refused. before_the_first refused.0

page_is_not_full : ¬ IsRefused Full (with_page some (at 90)) (at 90)
page_is_not_full = λ refused. refused.1 refl

not_live_is_not_full : ¬ IsRefused Full (record some { claims = 0 ∷ 254 ∷ [] }) (at 86)
not_live_is_not_full = λ refused. absurd (omega (arith, refused.2))

room_is_not_full : ¬ IsRefused Full some (at 85)
room_is_not_full = λ refused. refused.3 has_room

-- Takes: an increment below the limit, with a claim; a decrement of what is above 0
takes_increment : Takes Increment some (mapped some (at 86)) (at 86)
takes_increment = (omega arith, omega arith, refl)

abbrev over_full : Counts
over_full = record some { counters = 254 ∷ []; claims = 1 ∷ [] }

increment_past_the_limit : ¬ Takes Increment over_full (mapped over_full (at 85)) (at 85)
increment_past_the_limit = λ taken. omega (arith, taken.0)

increment_without_claim : ¬ Takes Increment some (mapped some (at 85)) (at 85)
increment_without_claim = λ taken. omega (arith, taken.1)

increment_that_keeps_the_claim : ¬ Takes Increment some (record (mapped some (at 86)) { claims = some.claims }) (at 86)
increment_that_keeps_the_claim = λ taken. let one : 1 ≡ 0 = ap (claims_at 1) taken.2 in absurd (omega (arith, one))

increment_not_counted : ¬ Takes Increment some (unclaimed some (at 86)) (at 86)
increment_not_counted = λ taken. let one : 0 ≡ 1 = ap (count_at 1) taken.2 in absurd (omega (arith, one))

takes_decrement : Takes Decrement some (unmapped some (at 85)) (at 85)
takes_decrement = (omega arith, refl)

decrement_of_nothing : ¬ Takes Decrement some (unmapped some (at 86)) (at 86)
decrement_of_nothing = λ taken. omega (arith, taken.0)

decrement_not_counted : ¬ Takes Decrement some some (at 85)
decrement_not_counted = λ taken. let one : 1 ≡ 0 = ap (count_at 0) taken.1 in absurd (omega (arith, one))

-- IsStray
stray_at_the_limit : IsStray Increment some (at 89)
stray_at_the_limit = inl (omega arith)

stray_without_claim : IsStray Increment some (at 85)
stray_without_claim = inr refl

claimed_is_not_stray : ¬ IsStray Increment some (at 86)
claimed_is_not_stray = λ stray. elim stray [ inl full ↦ absurd (omega (arith, full)) | inr none ↦ absurd (omega (arith, none)) ]

stray_decrement : IsStray Decrement some (at 86)
stray_decrement = refl

mapped_is_not_stray : ¬ IsStray Decrement some (at 85)
mapped_is_not_stray = λ stray. absurd (omega (arith, stray))

-- what calls count: each its own block, and nothing else
abbrev story : List Operation
story = Applied Increment (at 87) ∷ Spent (at 87) ∷ Refused ∷ Dropped (at 85) ∷ Shared (at 85) ∷ FreeClaimed (at 87) ∷ []

made_one : total makes story (at 87) ≡ 1
made_one = refl

dropped_none : total drops story (at 87) ≡ 0
dropped_none = refl

dropped_the_other : total drops story (at 85) ≡ 1
dropped_the_other = refl

spent_one : total spends story (at 87) ≡ 1
spent_one = refl

spent_as_page : spends (PageSpent (at 87)) (at 87) ≡ 1
spent_as_page = refl

extended_one : makes (Extended (at 87)) (at 87) ≡ 1
extended_one = refl

mapped_one : total maps story (at 87) ≡ 1
mapped_one = refl

decrement_is_no_mapping : maps (Applied Decrement (at 87)) (at 87) ≡ 0
decrement_is_no_mapping = refl

unmapped_one : unmaps (Applied Decrement (at 87)) (at 87) ≡ 1
unmapped_one = refl

increment_takes_none_off : total unmaps story (at 87) ≡ 0
increment_takes_none_off = refl
