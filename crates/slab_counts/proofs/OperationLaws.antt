-- What each call does to the counters and the claims of each block, and so what lists of calls do.
use Rattle.std.specs.Prelude.{ℕ, ◌≡◌, ◌≢◌, ◌+◌, ◌-◌, ◌<◌, ◌≤◌, List, [], ◌∷◌, length, slice_index, true}
use Rattle.std.proofs.Common.{sym, ◌∙◌, ap, subst, arith, inl, inr, set, refl, get_or-set_same, get_or-set_other}
use Rattle.std.proofs.lemmas.Bool.{cases_eq, eq-eqb, ne_eqb}
use Rattle.std.proofs.lemmas.List.{length-set, set-get_or}
use Rattle.blk_base.specs.Counters.{limit_of}
use Rattle.blk_base.specs.declared.place.Pbn.{Pbn}
use Rattle.blk_base.specs.declared.point.Half.TheVariants.{Increment, Decrement}
use Rattle.plain_laws.proofs.LeadLaws.{leads_keep}
use Rattle.slab_counts.specs.Counts.{Counts, IsOfSlab, HasRoom, offset_of, counter_of, claims_of, claimed, unclaimed, mapped, unmapped, with_page}
use Rattle.slab_counts.specs.Kept.{IsWithin}
use Rattle.slab_counts.specs.Operations.{Operation, FreeClaimed, Shared, Extended, Dropped, Spent, PageSpent, Applied, Refused, Does, LeadTo, one_of, makes, drops, spends, maps, unmaps, total}

-- 1 where the block is this one
pub one_same : (at block : Pbn) → at.0 ≡ block.0 → one_of at block ≡ 1
one_same at block same = rw (eq-eqb at.0 block.0 same)

pub one_other : (at block : Pbn) → at.0 ≢ block.0 → one_of at block ≡ 0
one_other at block other = rw (ne_eqb at.0 block.0 other)

-- a number of one block that was raised or lowered, as that of each block
module _ (xs : List ℕ) (start : ℕ) (at block : Pbn) (above : start ≤ at.0) (above_too : start ≤ block.0) (inside : at.0 - start < length xs) where
  raised : slice_index (set xs (at.0 - start) (slice_index xs (at.0 - start) + 1)) (block.0 - start) ≡ slice_index xs (block.0 - start) + one_of at block
  raised = elim (cases_eq at.0 block.0) [
    | inl same ↦
        let place : block.0 - start ≡ at.0 - start = omega arith in
        let old = ap (λ (k : ℕ). slice_index xs k) place in
        omega (arith, ap (λ (k : ℕ). slice_index (set xs (at.0 - start) (slice_index xs (at.0 - start) + 1)) k) place, get_or-set_same xs (at.0 - start) (slice_index xs (at.0 - start) + 1) 0 inside, one_same at block same, old)
    | inr other ↦
        let apart : block.0 - start ≢ at.0 - start = λ same. other (omega arith) in
        omega (arith, get_or-set_other xs (at.0 - start) (block.0 - start) (slice_index xs (at.0 - start) + 1) 0 apart, one_other at block other)
  ]

  lowered : 0 < slice_index xs (at.0 - start) → slice_index (set xs (at.0 - start) (slice_index xs (at.0 - start) - 1)) (block.0 - start) + one_of at block ≡ slice_index xs (block.0 - start)
  lowered some = elim (cases_eq at.0 block.0) [
    | inl same ↦
        let place : block.0 - start ≡ at.0 - start = omega arith in
        let old = ap (λ (k : ℕ). slice_index xs k) place in
        omega (arith, ap (λ (k : ℕ). slice_index (set xs (at.0 - start) (slice_index xs (at.0 - start) - 1)) k) place, get_or-set_same xs (at.0 - start) (slice_index xs (at.0 - start) - 1) 0 inside, one_same at block same, old)
    | inr other ↦
        let apart : block.0 - start ≢ at.0 - start = λ same. other (omega arith) in
        omega (arith, get_or-set_other xs (at.0 - start) (block.0 - start) (slice_index xs (at.0 - start) - 1) 0 apart, one_other at block other)
  ]

-- both numbers of a place changed, within the limit
within_changed : (c : Counts) (k x y : ℕ) → IsWithin c → k < length c.counters → x + y ≤ limit_of c.geometry
    → IsWithin (record c { counters = set c.counters k x; claims = set c.claims k y })
within_changed c k x y within inside small = record {
  geometry = within.geometry;
  slab = within.slab;
  counters = length-set c.counters k x ∙ within.counters;
  claims = length-set c.claims k y ∙ within.claims;
  pages = within.pages;
  limit = λ j. elim (cases_eq j k) [
    | inl same ↦
        omega (
          arith,
          ap (λ (n : ℕ). slice_index (set c.counters k x) n) same,
          ap (λ (n : ℕ). slice_index (set c.claims k y) n) same,
          get_or-set_same c.counters k x 0 inside,
          get_or-set_same c.claims k y 0 (omega (arith, within.counters, within.claims)),
          small,
        )
    | inr other ↦ omega (arith, get_or-set_other c.counters k j x 0 other, get_or-set_other c.claims k j y 0 other, within.limit j)
  ];
}

inside_counters : (c : Counts) (at : Pbn) → IsWithin c → IsOfSlab c at → offset_of c at < length c.counters
inside_counters c at within here = omega (arith, within.counters, here.0, here.1)

inside_claims : (c : Counts) (at : Pbn) → IsWithin c → IsOfSlab c at → offset_of c at < length c.claims
inside_claims c at within here = omega (arith, within.claims, here.0, here.1)

pub within_claimed : (c : Counts) (at : Pbn) → IsWithin c → IsOfSlab c at → HasRoom c at → IsWithin (claimed c at)
within_claimed c at within here room =
    subst (λ (xs : List ℕ). IsWithin (record (claimed c at) { counters = xs })) (set-get_or c.counters (offset_of c at) 0)
    (within_changed c (offset_of c at) (counter_of c at) (claims_of c at + 1) within (inside_counters c at within here) (omega (arith, room)))

pub within_unclaimed : (c : Counts) (at : Pbn) → IsWithin c → IsOfSlab c at → IsWithin (unclaimed c at)
within_unclaimed c at within here =
    subst (λ (xs : List ℕ). IsWithin (record (unclaimed c at) { counters = xs })) (set-get_or c.counters (offset_of c at) 0)
    (within_changed c (offset_of c at) (counter_of c at) (claims_of c at - 1) within (inside_counters c at within here) (omega (arith, within.limit (offset_of c at))))

pub within_mapped : (c : Counts) (at : Pbn) → IsWithin c → IsOfSlab c at → 0 < claims_of c at → IsWithin (mapped c at)
within_mapped c at within here some =
    within_changed c (offset_of c at) (counter_of c at + 1) (claims_of c at - 1) within (inside_counters c at within here) (omega (arith, within.limit (offset_of c at)))

pub within_unmapped : (c : Counts) (at : Pbn) → IsWithin c → IsOfSlab c at → IsWithin (unmapped c at)
within_unmapped c at within here =
    subst (λ (xs : List ℕ). IsWithin (record (unmapped c at) { claims = xs })) (set-get_or c.claims (offset_of c at) 0)
    (within_changed c (offset_of c at) (counter_of c at - 1) (claims_of c at) within (inside_counters c at within here) (omega (arith, within.limit (offset_of c at))))

pub within_page : (c : Counts) (at : Pbn) → IsWithin c → IsWithin (with_page c at)
within_page c at within = record {
  geometry = within.geometry;
  slab = within.slab;
  counters = within.counters;
  claims = within.claims;
  pages = length-set c.pages (offset_of c at) true ∙ within.pages;
  limit = within.limit;
}

-- a free block has room for a claim
room_free : (c : Counts) (at : Pbn) → counter_of c at ≡ 0 → claims_of c at ≡ 0 → HasRoom c at
room_free c at none free = omega arith

-- one call

abbrev Same : Counts → Counts → Type 0
Same old new = (new.geometry ≡ old.geometry) × (new.slab ≡ old.slab)

pub of_slab_still : (old new : Counts) (at : Pbn) → Same old new → IsOfSlab old at → IsOfSlab new at
of_slab_still old new at same here = rw (same.0, same.1) here

same_as : (old : Counts) (new made : Counts) → new ≡ made → Same old made → Same old new
same_as old new made is same = (ap (λ (c : Counts). c.geometry) is ∙ same.0, ap (λ (c : Counts). c.slab) is ∙ same.1)

pub call_same : (call : Operation) (old new : Counts) → Does call old new → Same old new
call_same (FreeClaimed at) old new did = same_as old new (claimed old at) did.now_claimed (refl, refl)
call_same (Shared at) old new did = same_as old new (claimed old at) did.now_claimed (refl, refl)
call_same (Extended at) old new did = same_as old new (claimed old at) did.2 (refl, refl)
call_same (Dropped at) old new did = same_as old new (unclaimed old at) did.1 (refl, refl)
call_same (Spent at) old new did = same_as old new old did.1 (refl, refl)
call_same (PageSpent at) old new did = same_as old new (with_page old at) did.1 (refl, refl)
call_same (Applied Increment at) old new did = same_as old new (mapped old at) did.1.2 (refl, refl)
call_same (Applied Decrement at) old new did = same_as old new (unmapped old at) did.1.1 (refl, refl)
call_same Refused old new did = same_as old new old did (refl, refl)

within_as : (new made : Counts) → new ≡ made → IsWithin made → IsWithin new
within_as new made is within = subst (λ (c : Counts). IsWithin c) (sym is) within

pub call_within : (call : Operation) (old new : Counts) → IsWithin old → Does call old new → IsWithin new
call_within (FreeClaimed at) old new within did =
    within_as new (claimed old at) did.now_claimed (within_claimed old at within did.of_slab (room_free old at did.free.0 did.free.1))
call_within (Shared at) old new within did = within_as new (claimed old at) did.now_claimed (within_claimed old at within did.of_slab did.room)
call_within (Extended at) old new within did = within_as new (claimed old at) did.2 (within_claimed old at within did.0.of_slab did.1)
call_within (Dropped at) old new within did = within_as new (unclaimed old at) did.1 (within_unclaimed old at within did.0.of_slab)
call_within (Spent at) old new within did = within_as new old did.1 within
call_within (PageSpent at) old new within did = within_as new (with_page old at) did.1 (within_page old at within)
call_within (Applied Increment at) old new within did = within_as new (mapped old at) did.1.2 (within_mapped old at within did.0 did.1.1)
call_within (Applied Decrement at) old new within did = within_as new (unmapped old at) did.1.1 (within_unmapped old at within did.0)
call_within Refused old new within did = within_as new old did within

-- what a call does to a block's counter
abbrev Counted : Operation → Counts → Counts → Pbn → Type 0
Counted call old new block = counter_of new block + unmaps call block ≡ counter_of old block + maps call block

counted_as : (old new made : Counts) (block : Pbn) (less more : ℕ) → new ≡ made → counter_of made block + less ≡ counter_of old block + more → counter_of new block + less ≡ counter_of old block + more
counted_as old new made block less more is counted = subst (λ (c : Counts). counter_of c block + less ≡ counter_of old block + more) (sym is) counted

pub call_counts : (call : Operation) (old new : Counts) (block : Pbn) → IsWithin old → IsOfSlab old block → Does call old new → Counted call old new block
call_counts (FreeClaimed at) old new block within here did = counted_as old new (claimed old at) block 0 0 did.now_claimed refl
call_counts (Shared at) old new block within here did = counted_as old new (claimed old at) block 0 0 did.now_claimed refl
call_counts (Extended at) old new block within here did = counted_as old new (claimed old at) block 0 0 did.2 refl
call_counts (Dropped at) old new block within here did = counted_as old new (unclaimed old at) block 0 0 did.1 refl
call_counts (Spent at) old new block within here did = counted_as old new old block 0 0 did.1 refl
call_counts (PageSpent at) old new block within here did = counted_as old new (with_page old at) block 0 0 did.1 refl
call_counts (Applied Increment at) old new block within here did =
    counted_as old new (mapped old at) block 0 (one_of at block) did.1.2
    (let up = raised old.counters _ at block did.0.0 here.0 (inside_counters old at within did.0) in omega (arith, up))
call_counts (Applied Decrement at) old new block within here did =
    counted_as old new (unmapped old at) block (one_of at block) 0 did.1.1
    (let down = lowered old.counters _ at block did.0.0 here.0 (inside_counters old at within did.0) did.1.0 in omega (arith, down))
call_counts Refused old new block within here did = counted_as old new old block 0 0 did refl

-- what a call does to a block's claims
claimed_as : (old new made : Counts) (block : Pbn) (dropped taken more : ℕ) → new ≡ made → claims_of made block + dropped + taken ≡ claims_of old block + more
    → claims_of new block + dropped + taken ≡ claims_of old block + more
claimed_as old new made block dropped taken more is counted = subst (λ (c : Counts). claims_of c block + dropped + taken ≡ claims_of old block + more) (sym is) counted

pub call_claims : (call : Operation) (old new : Counts) (block : Pbn) → IsWithin old → IsOfSlab old block → Does call old new
    → claims_of new block + drops call block + maps call block ≡ claims_of old block + makes call block
call_claims (FreeClaimed at) old new block within here did =
    claimed_as old new (claimed old at) block 0 0 (one_of at block) did.now_claimed
    (let up = raised old.claims _ at block did.of_slab.0 here.0 (inside_claims old at within did.of_slab) in omega (arith, up))
call_claims (Shared at) old new block within here did =
    claimed_as old new (claimed old at) block 0 0 (one_of at block) did.now_claimed
    (let up = raised old.claims _ at block did.of_slab.0 here.0 (inside_claims old at within did.of_slab) in omega (arith, up))
call_claims (Extended at) old new block within here did =
    claimed_as old new (claimed old at) block 0 0 (one_of at block) did.2
    (let up = raised old.claims _ at block did.0.of_slab.0 here.0 (inside_claims old at within did.0.of_slab) in omega (arith, up))
call_claims (Dropped at) old new block within here did =
    claimed_as old new (unclaimed old at) block (one_of at block) 0 0 did.1
    (let down = lowered old.claims _ at block did.0.of_slab.0 here.0 (inside_claims old at within did.0.of_slab) did.0.some in omega (arith, down))
call_claims (Spent at) old new block within here did = claimed_as old new old block 0 0 0 did.1 (omega arith)
call_claims (PageSpent at) old new block within here did = claimed_as old new (with_page old at) block 0 0 0 did.1 (omega arith)
call_claims (Applied Increment at) old new block within here did =
    claimed_as old new (mapped old at) block 0 (one_of at block) 0 did.1.2
    (let down = lowered old.claims _ at block did.0.0 here.0 (inside_claims old at within did.0) did.1.1 in omega (arith, down))
call_claims (Applied Decrement at) old new block within here did = claimed_as old new (unmapped old at) block 0 0 0 did.1.1 (omega arith)
call_claims Refused old new block within here did = claimed_as old new old block 0 0 0 did (omega arith)

-- lists of calls

pub calls_same : (old new : Counts) (calls : List Operation) → LeadTo old calls new → Same old new
calls_same old new calls lead = leads_keep Does (Same old) (λ call before after rest did.
    let one = call_same call before after did in
    (one.0 ∙ rest.0, one.1 ∙ rest.1)) old new calls (refl, refl) lead

pub calls_within : (old new : Counts) (calls : List Operation) → IsWithin old → LeadTo old calls new → IsWithin new
calls_within = leads_keep Does IsWithin call_within

pub calls_count : (old new : Counts) (calls : List Operation) (block : Pbn) → IsWithin old → LeadTo old calls new → IsOfSlab old block
    → counter_of new block + total unmaps calls block ≡ counter_of old block + total maps calls block
calls_count old new [] block within same here = counted_as old new old block 0 0 same refl
calls_count old new (call ∷ calls) block within (before, lead, did) here =
    let one = call_counts call before new block (calls_within old before calls within lead) (of_slab_still old before block (calls_same old before calls lead) here) did in
    let rest = calls_count old before calls block within lead here in
    omega (arith, one, rest)

pub calls_claim : (old new : Counts) (calls : List Operation) (block : Pbn) → IsWithin old → LeadTo old calls new → IsOfSlab old block
    → claims_of new block + total drops calls block + total maps calls block ≡ claims_of old block + total makes calls block
calls_claim old new [] block within same here = claimed_as old new old block 0 0 0 same (omega arith)
calls_claim old new (call ∷ calls) block within (before, lead, did) here =
    let one = call_claims call before new block (calls_within old before calls within lead) (of_slab_still old before block (calls_same old before calls lead) here) did in
    let rest = calls_claim old before calls block within lead here in
    omega (arith, one, rest)

pub claims_exist : (old new : Counts) (calls : List Operation) (block : Pbn) (exist owed : ℕ) → IsWithin old → LeadTo old calls new → IsOfSlab old block
    → exist + total drops calls block + total spends calls block ≡ claims_of old block + total makes calls block
    → owed + total maps calls block ≡ total spends calls block
    → claims_of new block ≡ exist + owed
claims_exist old new calls block exist owed within lead here left pending = omega (arith, calls_claim old new calls block within lead here, left, pending)
