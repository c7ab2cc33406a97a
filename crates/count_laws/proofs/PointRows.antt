-- Points of updates, and what an update finds in a counter: each function is computed, and each clause has a case that it
-- accepts and one that it refuses.
use Rattle.std.proofs.Common.{ℕ, ◌≡◌, nat_lt, true, false, [], ◌∷◌, Result, Err, refl, arith}
use Rattle.blk_base.specs.declared.journal_entry.Update.{Update}
use Rattle.blk_base.specs.declared.place.Mapping.TheVariants.{At}
use Rattle.blk_base.specs.Forms.{at_point, pbn}
use Rattle.image_model.specs.Counts.{count_after}
use Rattle.count_laws.specs.Points.{ArePointed, adds_to, next_point, past, points_for, points_in, takes_from, those_of, up_to, updates_of}
use Rattle.count_laws.specs.Strays.{FitsCounter}
use Rattle.count_laws.proofs.Example.{four, leaf, one, remap}

-- Points of a block.

adds : (adds_to leaf (pbn 85) ≡ true) × (adds_to leaf (pbn 86) ≡ false) × (adds_to (remap 5 (At (pbn 86)) (At (pbn 87))) (pbn 87) ≡ true)
    × (adds_to (remap 5 (At (pbn 86)) (At (pbn 87))) (pbn 86) ≡ false)
adds = (refl, refl, refl, refl)

takes : (takes_from leaf (pbn 85) ≡ false) × (takes_from (remap 5 (At (pbn 86)) (At (pbn 87))) (pbn 86) ≡ true)
    × (takes_from (remap 5 (At (pbn 86)) (At (pbn 87))) (pbn 87) ≡ false)
takes = (refl, refl, refl)

points_of_block : points_for four (pbn 86) ≡ 514 ∷ 516 ∷ 519 ∷ []
points_of_block = refl

points_of_leaf : points_for four (pbn 85) ≡ 512 ∷ []
points_of_leaf = refl

points_of_none : points_for four (pbn 87) ≡ []
points_of_none = refl

-- what is mapped again to its own block adds one before it takes one away
points_of_itself : points_for (at_point (remap 5 (At (pbn 86)) (At (pbn 86))) 512 ∷ []) (pbn 86) ≡ 512 ∷ 513 ∷ []
points_of_itself = refl

count_over_limit : ◌≡◌ {A = Result ℕ ℕ} (count_after 254 254 (512 ∷ 513 ∷ [])) (Err 512)
count_over_limit = refl

counted_up_to : (up_to 516 (points_for four (pbn 86)) ≡ 514 ∷ 516 ∷ []) × (past 516 (points_for four (pbn 86)) ≡ 519 ∷ [])
counted_up_to = (refl, refl)

next_is : next_point 512 four ≡ 520
next_is = refl

next_of_none : next_point 512 [] ≡ 512
next_of_none = refl

pointed_twice : ArePointed 512 (at_point leaf 512 ∷ at_point leaf 512 ∷ []) → ⊥
pointed_twice pointed = let first = pointed.0 in omega (arith, first)

pointed_odd : ArePointed 512 (at_point leaf 513 ∷ []) → ⊥
pointed_odd pointed = let even : ◌≡◌ {A = ℕ} 1 0 = pointed.1 in omega (arith, even)

pointed_before : ArePointed 512 (at_point leaf 510 ∷ []) → ⊥
pointed_before pointed = let first = pointed.0 in omega (arith, first)

-- Updates, in the order of points, and those of a zone.

abbrev update : ℕ → ℕ → Update
update block point = record { at = pbn block; point = record { 0 = point } }

updates_are : updates_of four ≡ update 85 512 ∷ update 86 514 ∷ update 86 516 ∷ update 86 519 ∷ []
updates_are = refl

updates_of_zone : those_of (λ block. nat_lt block.0 86) (updates_of four) ≡ update 85 512 ∷ []
updates_of_zone = refl

points_are_in : points_in (pbn 86) (updates_of four) ≡ 514 ∷ 516 ∷ 519 ∷ []
points_are_in = refl

takes_one : FitsCounter 254 1 (update 86 519)
takes_one = record { takes = λ odd. omega arith; adds = λ even. omega arith }

takes_from_none : FitsCounter 254 0 (update 86 519) → ⊥
takes_from_none fits = let some = fits.takes refl in omega (arith, some)

-- up to the limit; and what takes away has no limit
adds_below_limit : FitsCounter 254 253 (update 86 516)
adds_below_limit = record { takes = λ odd. absurd (let no : ◌≡◌ {A = ℕ} 0 1 = odd in omega (arith, no)); adds = λ even. omega arith }

takes_at_limit : FitsCounter 254 254 (update 86 519)
takes_at_limit = record { takes = λ odd. omega arith; adds = λ even. absurd (let no : ◌≡◌ {A = ℕ} 1 0 = even in omega (arith, no)) }

adds_at_limit : FitsCounter 254 254 (update 86 516) → ⊥
adds_at_limit fits = let room = fits.adds refl in omega (arith, room)

-- a point that is no increment's doesn't pass in front of a later entry either
pointed_behind : ArePointed 512 (at_point leaf 900 ∷ at_point leaf 513 ∷ []) → ⊥
pointed_behind pointed = let even : ◌≡◌ {A = ℕ} 1 0 = pointed.2.1 in omega (arith, even)

pointed_once : ArePointed 512 one
pointed_once = (omega arith, refl, tt)
