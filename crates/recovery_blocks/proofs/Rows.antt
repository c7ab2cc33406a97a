-- For each definition a small case that it accepts, and one that it refuses.
use Rattle.std.proofs.Common.{ℕ, ◌≡◌, List, [], ◌∷◌, ◌++◌, length, replicate, get_or, refl, ◌∙◌, ap, arith}
use Rattle.blk_base.specs.declared.place.Mapping.{Mapping}
use Rattle.blk_base.specs.declared.place.Mapping.TheVariants.{Zero}
use Rattle.blk_base.proofs.Example.{leaf}
use Rattle.byte_fields.specs.Fields.{le, number_at}
use Rattle.byte_fields.specs.Mappings.{mapping_bytes}
use Rattle.image_model.proofs.Example.{small}
use Rattle.replay_counts.specs.declared.forms.SectorPoints.{SectorPoints}
use Rattle.replay_map.specs.declared.changes.SlotId.{SlotId}
use Rattle.recovery_blocks.specs.Counters.{AreCountsPut, HasUpdate, IsSectorPut}
use Rattle.recovery_blocks.specs.Patches.{HasChange, IsPatched}

-- A page of one slot, into which zeros are put.

abbrev changes : List (SlotId × Mapping)
changes = (record { page = leaf; slot = 0 }, Zero) ∷ []

abbrev page : List ℕ → List ℕ
page slot = replicate 36 7 ++ slot

changed_slot : HasChange changes leaf
changed_slot = (0, omega arith, refl)

not_changed : HasChange [] leaf → ⊥
not_changed (slot, inside, some) = absurd (cc some)

nothing_put : IsPatched changes leaf 0 (page (0 ∷ [])) (page (0 ∷ []))
nothing_put = record { size = refl; head = refl; put = λ slot mapping none inside is. absurd (omega (arith, none)); others = λ slot inside left. refl }

zero_bytes : mapping_bytes Zero ≡ 1 ∷ 0 ∷ 0 ∷ 0 ∷ 0 ∷ []
unfolding mapping_bytes le
zero_bytes = refl

-- size: no byte is added
longer : IsPatched [] leaf 812 (page (0 ∷ [])) (page (0 ∷ 0 ∷ [])) → ⊥
longer is = let size = is.size in omega (arith, size)

-- head: the bytes before the slots stay
other_head : IsPatched [] leaf 812 (page []) (replicate 36 8) → ⊥
other_head is = let same = ap (λ (bytes : List ℕ). get_or bytes 0 0) is.head in omega (arith, same)

-- put: a slot has what the changes put there
not_put : IsPatched changes leaf 812 (page (0 ∷ 0 ∷ 0 ∷ 0 ∷ 0 ∷ [])) (page (0 ∷ 0 ∷ 0 ∷ 0 ∷ 0 ∷ [])) → ⊥
not_put is =
    let same = ap (λ (bytes : List ℕ). get_or bytes 0 0) (is.put 0 Zero (omega arith) (omega arith) refl ∙ zero_bytes) in
    omega (arith, same)

-- others: and every other slot stays
other_put : IsPatched [] leaf 812 (page (0 ∷ 0 ∷ 0 ∷ 0 ∷ 0 ∷ [])) (page (1 ∷ 0 ∷ 0 ∷ 0 ∷ 0 ∷ [])) → ⊥
other_put is =
    let same = ap (λ (bytes : List ℕ). get_or bytes 0 0) (is.others 0 (omega arith) (λ below. refl)) in
    omega (arith, same)

-- A slab's one sector of counters, whose greatest point is 9.

abbrev points : ℕ → ℕ → List SectorPoints
points commit applied = record { commit = record { 0 = commit }; applied = record { 0 = applied } } ∷ []

has_update : HasUpdate small 0 0 (points 3 9)
has_update = (0, refl, omega arith, λ same. omega (arith, same))

has_none : HasUpdate small 0 0 (points 9 9) → ⊥
has_none (n, row, below, differ) = let one : n ≡ 0 = omega (arith, below) in differ (rw one refl)

point_is : (count : ℕ) → number_at 8 0 (9 ∷ 0 ∷ 0 ∷ 0 ∷ 0 ∷ 0 ∷ 0 ∷ 0 ∷ count ∷ []) ≡ 9
unfolding number_at
point_is count = refl

count_is : number_at 1 8 (9 ∷ 0 ∷ 0 ∷ 0 ∷ 0 ∷ 0 ∷ 0 ∷ 0 ∷ 1 ∷ []) ≡ 1
unfolding number_at
count_is = refl

-- commit: the commit point is raised
not_raised : IsSectorPut small 0 0 (1 ∷ []) (points 3 10) (9 ∷ 0 ∷ 0 ∷ 0 ∷ 0 ∷ 0 ∷ 0 ∷ 0 ∷ 1 ∷ []) → ⊥
not_raised is = let raised = is.commit in let point = point_is 1 in omega (arith, raised, point)

-- counters: each is the count of its block
not_counted : IsSectorPut small 0 0 (2 ∷ []) (points 3 9) (9 ∷ 0 ∷ 0 ∷ 0 ∷ 0 ∷ 0 ∷ 0 ∷ 0 ∷ 1 ∷ []) → ⊥
not_counted is =
    let counted = is.counters 0 (omega arith) refl in
    let count = count_is in
    omega (arith, counted, count)

-- rest: the slab has 64 blocks, so that the counter of offset 64 is 0
abbrev with_rest : ℕ → List ℕ
with_rest byte = 9 ∷ replicate 71 0 ++ byte ∷ []

rest_is : number_at 1 72 (with_rest 1) ≡ 1
unfolding number_at
rest_is = refl

not_zero : IsSectorPut small 0 0 [] (points 3 9) (with_rest 1) → ⊥
not_zero is =
    let zero_there = is.rest 64 (omega arith) refl in
    let one = rest_is in
    omega (arith, zero_there, one)

-- put: each sector of the block is put so
no_sector_put : AreCountsPut small 0 0 (2 ∷ []) (points 3 10) [] (9 ∷ 0 ∷ 0 ∷ 0 ∷ 0 ∷ 0 ∷ 0 ∷ 0 ∷ 1 ∷ []) → ⊥
no_sector_put is = let raised = (is.put 0 refl (omega arith)).commit in let point = point_is 1 in omega (arith, raised, point)

-- past: and those past the slab's end stay
past_the_end : AreCountsPut small 0 0 [] (points 3 9) (replicate 512 0) (replicate 513 0) → ⊥
past_the_end is = let same = ap length (is.past 1 refl (omega arith)) in omega (arith, same)
