-- For each definition small lists that it accepts, and some that it refuses.
use Rattle.std.proofs.Common.{ℕ, ◌≡◌, ◌⊎◌, ◌<◌, ◌≤◌, List, [], ◌∷◌, get_or, Result, Ok, Err, refl, sym, ◌∙◌, ap, ap₂, subst, inl, inr, arith}
use Rattle.blk_base.specs.declared.geometry.Geometry.{Geometry}
use Rattle.blk_base.specs.declared.journal_entry.Entry.TheVariants.{NewPage}
use Rattle.blk_base.specs.declared.journal_entry.Update.{Update}
use Rattle.blk_base.specs.declared.layout.DataPlace.{DataPlace}
use Rattle.blk_base.specs.declared.place.Mapping.TheVariants.{Unmapped, Zero, At}
use Rattle.blk_base.specs.declared.point.Point.{Point}
use Rattle.blk_base.specs.Forms.{place_in, pbn}
use Rattle.blk_base.proofs.Example.{place}
use Rattle.blk_base.specs.Regions.{data_blocks}
use Rattle.image_model.specs.Counts.{block_of_data, count_from}
use Rattle.image_model.specs.Sound.{IsDataPlace}
use Rattle.image_model.proofs.CountLaws.{one_rising, none_in_nothing, is_first_or_behind}
use Rattle.image_model.proofs.Example.{small}
use Rattle.image_model.proofs.CountExample.{remap}
use Rattle.count_updates.specs.Applied.{IsGreatest, AreApplied}
use Rattle.count_updates.specs.Counted.{IsCountedAt, AreCounted, Leaves}
use Rattle.count_updates.specs.Entries.{updates_in}
use Rattle.count_updates.specs.Listed.{Lists, IsUpTo, AreInOrder, ArePoints, IsCounted, IsPassed}
use Rattle.count_updates.specs.Numbers.{all_sectors, block_number, sector_number, IsEarlier}
use Rattle.count_updates.proofs.AppliedLaws.{none_yet}
use Rattle.count_updates.proofs.PointLaws.{are_points, is_counted, made as one}
use Rattle.count_updates.specs.FoundLists.{found_lists}

-- Order: by the block, and then by the point.
later_block : IsUpTo (one 85 512) (one 86 3)
later_block = inl (omega arith)

same_again : IsUpTo (one 85 512) (one 85 512)
same_again = inr (refl, omega arith)

earlier_point : IsUpTo (one 85 513) (one 85 512) → ⊥
earlier_point (inl less) = omega (arith, less)
earlier_point (inr (same, most)) = omega (arith, most)

earlier_block : IsUpTo (one 86 3) (one 85 512) → ⊥
earlier_block (inl less) = omega (arith, less)
earlier_block (inr (same, most)) = omega (arith, same)

abbrev three : List Update
three = one 85 512 ∷ one 85 1024 ∷ one 85 1024 ∷ []

in_order : AreInOrder three
in_order = ((inr (refl, omega arith), (inr (refl, omega arith), tt)), ((inr (refl, omega arith), tt), (tt, tt)))

out_of_order : AreInOrder (one 85 512 ∷ one 86 3 ∷ one 85 600 ∷ []) → ⊥
out_of_order order = elim order.1.0.0 [ inl less ↦ omega (arith, less) | inr (same, most) ↦ omega (arith, same) ]

-- all of one block
abbrev AllOf : ℕ → List Update → Type 0
AllOf at [] = Unit {0}
AllOf at (update ∷ later) = (update.at.0 ≡ at) × AllOf at later

-- Points: those above the commit point, each once.
points_of_three : ArePoints three 85 512 (1024 ∷ [])
points_of_three = are_points 85 512 three in_order

points_at_commit : ArePoints three 85 512 (512 ∷ 1024 ∷ []) → ⊥
points_at_commit are = let above = ((are.each 512).0 (0, omega arith, refl)).0 in omega (arith, above)

points_twice : ArePoints three 85 512 (1024 ∷ 1024 ∷ []) → ⊥
points_twice are = let more = are.rising.0.0 in omega (arith, more)

points_left_out : ArePoints three 85 512 [] → ⊥
points_left_out are = none_in_nothing 1024 ((are.each 1024).1 (omega arith, (1, omega arith, refl)))

none_of_another : (updates : List Update) (at point : ℕ) → AllOf 85 updates → at ≡ 86 → Lists updates at point → ⊥
none_of_another [] at point all other has = none_in_nothing (one at point) has
none_of_another (update ∷ later) at point all other has = elim (is_first_or_behind update later (one at point) has) [
  | inl first ↦ let block = ap (λ (u : Update). u.at.0) first in let is = all.0 in omega (arith, block, is, other)
  | inr behind ↦ none_of_another later at point all.1 other behind
]

points_of_another : ArePoints three 86 512 (1024 ∷ []) → ⊥
points_of_another are = none_of_another three 86 1024 (refl, (refl, (refl, tt))) refl ((are.each 1024).0 (0, omega arith, refl)).1

-- Counts: the counter, and then these points.
one_list : (updates : List Update) (at commit : ℕ) (points others : List ℕ) → ArePoints updates at commit points → ArePoints updates at commit others → points ≡ others
one_list updates at commit points others are are' =
    one_rising points others are.rising are'.rising (λ p has. (are'.each p).1 ((are.each p).0 has)) (λ p has. (are.each p).1 ((are'.each p).0 has))

one_result : (limit : ℕ) (updates : List Update) (at commit counter : ℕ) (result other : Result ℕ ℕ) → IsCounted limit updates at commit counter result
    → IsCounted limit updates at commit counter other → result ≡ other
one_result limit updates at commit counter result other is is' =
    sym is.counted ∙ ap (count_from limit commit counter) (one_list updates at commit is.points is'.points is.are is'.are) ∙ is'.counted

counted_once : IsCounted 254 three 85 512 3 (Ok 4)
counted_once = is_counted 254 85 512 3 three (Ok 4) in_order refl

counted_twice : IsCounted 254 three 85 512 3 (Ok 5) → ⊥
counted_twice is = absurd (let same = one_result 254 three 85 512 3 (Ok 5) (Ok 4) is counted_once in cc same)

counted_past : IsCounted 254 three 85 512 254 (Err 1024)
counted_past = is_counted 254 85 512 254 three (Err 1024) in_order refl

counter_past : IsCounted 254 three 85 512 255 (Err 512)
counter_past = is_counted 254 85 512 255 three (Err 512) in_order refl

-- Updates that are passed.
passed_one : IsPassed (one 85 512 ∷ one 86 3 ∷ []) 1 86
passed_one = record { within = omega arith; before = λ k d below. let first : k ≡ 0 = omega (arith, below) in rw first (omega arith) }

passed_its_own : IsPassed (one 85 512 ∷ one 86 3 ∷ []) 2 86 → ⊥
passed_its_own passed = let less = passed.before 1 (one 0 0) (omega arith) in omega (arith, less)

passed_too_many : IsPassed (one 85 512 ∷ []) 2 86 → ⊥
passed_too_many passed = let most = passed.within in omega (arith, most)

-- What an entry makes.
makes_two : updates_in (remap (At (pbn 85)) (At (pbn 86))) ≡ one 86 512 ∷ one 85 513 ∷ []
makes_two = refl

makes_none : updates_in (remap Unmapped Zero) ≡ []
makes_none = refl

makes_one : updates_in (record { entry = NewPage (record { tree = 0; level = 0; index = 0 }) (pbn 85); point = record { 0 = 512 } }) ≡ one 85 512 ∷ []
makes_one = refl

-- Numbers: two slabs of 600 blocks, with two sectors each.
abbrev two_slabs : Geometry
two_slabs = record small { slabs = 2; slab_blocks = 600 }

all_of_two : (data_blocks two_slabs ≡ 1200) × (all_sectors two_slabs ≡ 4)
all_of_two = (refl, refl)

block_of_two : block_number two_slabs (record { slab = 1; offset = 5 }) ≡ 605
block_of_two = refl

sectors_of_two : (sector_number two_slabs (record { slab = 1; offset = 503 }) ≡ 2) × (sector_number two_slabs (record { slab = 1; offset = 504 }) ≡ 3)
sectors_of_two = (refl, refl)

earlier_slab : IsEarlier (record { slab = 0; offset = 70 }) 1 0
earlier_slab = inl (omega arith)

earlier_offset : IsEarlier (record { slab = 1; offset = 4 }) 1 5
earlier_offset = inr (refl, omega arith)

not_itself : IsEarlier (record { slab = 1; offset = 5 }) 1 5 → ⊥
not_itself (inl less) = omega (arith, less)
not_itself (inr (same, less)) = omega (arith, less)

not_later : IsEarlier (record { slab = 1; offset = 0 }) 0 5 → ⊥
not_later (inl less) = omega (arith, less)
not_later (inr (same, less)) = omega (arith, same)

-- The greatest point.
abbrev Two : ℕ → Type 0
Two point = (point ≡ 600) ⊎ (point ≡ 1024)

two_most : (point : ℕ) → Two point → point ≤ 1024
two_most point (inl is) = omega (arith, is)
two_most point (inr is) = omega (arith, is)

greatest : IsGreatest 512 Two 1024
greatest = record { reached = inr (omega arith, inr refl); most = λ point above is. two_most point is }

greatest_is_commit : IsGreatest 1024 Two 1024
greatest_is_commit = record { reached = inl refl; most = λ point above is. two_most point is }

not_the_greatest : IsGreatest 512 Two 600 → ⊥
not_the_greatest is = let most = is.most 1024 (omega arith) (inr refl) in omega (arith, most)

of_none : (point : ℕ) → (point ≡ 512) ⊎ ((512 < point) × Two point) → point ≡ 2048 → ⊥
of_none point (inl none) is = omega (arith, none, is)
of_none point (inr (more, two)) is = let most = two_most point two in omega (arith, most, is)

greatest_of_none : IsGreatest 512 Two 2048 → ⊥
greatest_of_none is = of_none 2048 is.reached refl

-- An image with one data block, or with two.
abbrev blocks : ℕ → Geometry
blocks n = record small { slab_blocks = n }

abbrev at_512 : List Point
at_512 = record { 0 = 512 } ∷ []

only_place : (p : DataPlace) → IsDataPlace (blocks 1) p → p ≡ place 0
only_place p inside =
    let slab : p.slab ≡ 0 = let less = inside.0 in omega (arith, less) in
    let offset : p.offset ≡ 0 = let less = inside.1 in omega (arith, less) in
    ap₂ (λ (s o : ℕ). place_in s o) slab offset

counted_at : (counter : ℕ) (result : Result ℕ ℕ) → count_from 254 512 counter [] ≡ result → IsCountedAt (blocks 1) (found_lists (counter ∷ []) at_512 []) (place 0) result
counted_at counter result is = is_counted 254 (block_of_data (blocks 1) (place 0)).0 512 counter [] result tt is

all_counted : AreCounted (blocks 1) (found_lists (3 ∷ []) at_512 []) (3 ∷ [])
all_counted = record {
  size = refl;
  each = λ p inside. subst (λ (q : DataPlace). IsCountedAt (blocks 1) (found_lists (3 ∷ []) at_512 []) q (Ok (get_or (3 ∷ []) (block_number (blocks 1) q) 0))) (sym (only_place p inside))
      (counted_at 3 (Ok 3) refl);
}

too_many_counted : AreCounted (blocks 1) (found_lists (3 ∷ []) at_512 []) (3 ∷ 3 ∷ []) → ⊥
too_many_counted are = let size = are.size in omega (arith, size)

counted_otherwise : AreCounted (blocks 1) (found_lists (3 ∷ []) at_512 []) (4 ∷ []) → ⊥
counted_otherwise are =
    absurd (let same = one_result 254 [] (block_of_data (blocks 1) (place 0)).0 512 3 (Ok 4) (Ok 3) (are.each (place 0) (omega arith, omega arith)) (counted_at 3 (Ok 3) refl) in cc same)

no_block_before : (p : DataPlace) → (block_of_data (blocks 1) p).0 < (block_of_data (blocks 1) (place 0)).0 → ⊥
no_block_before p less = omega (arith, less)

leaves : Leaves (blocks 1) (found_lists (255 ∷ []) at_512 []) (block_of_data (blocks 1) (place 0)).0 512
leaves = record {
  place = place 0;
  inside = (omega arith, omega arith);
  stands = refl;
  leaves = counted_at 255 (Err 512) refl;
  first = λ other inside less. absurd (no_block_before other less);
}

abbrev point_in : Result ℕ ℕ → ℕ
point_in (Ok count) = 0
point_in (Err point) = point

leaves_at_another : Leaves (blocks 1) (found_lists (255 ∷ []) at_512 []) (block_of_data (blocks 1) (place 0)).0 513 → ⊥
leaves_at_another is =
    let here = only_place is.place is.inside in
    let same = ap point_in (one_result 254 [] (block_of_data (blocks 1) (place 0)).0 512 255 (Err 513) (Err 512)
    (subst (λ (q : DataPlace). IsCountedAt (blocks 1) (found_lists (255 ∷ []) at_512 []) q (Err 513)) here is.leaves) (counted_at 255 (Err 512) refl)) in
    omega (arith, same)

-- not the second block, where the first one leaves its range too
abbrev two_past : List ℕ
two_past = 255 ∷ 255 ∷ []

not_the_first : Leaves (blocks 2) (found_lists two_past at_512 []) (block_of_data (blocks 2) (place 1)).0 512 → ⊥
not_the_first is =
    let first = is.first (place 0) (omega arith, omega arith) (omega arith) in
    absurd (let same = one_result 254 [] (block_of_data (blocks 2) (place 0)).0 512 255 (Ok first.0) (Err 512) first.1
    (is_counted 254 (block_of_data (blocks 2) (place 0)).0 512 255 [] (Err 512) tt refl) in cc same)

-- The points applied: none, and that of an update of the one block.
applied_none : AreApplied (blocks 1) [] at_512 at_512
applied_none = none_yet (blocks 1) at_512

applied_too_many : AreApplied (blocks 1) [] at_512 (record { 0 = 512 } ∷ record { 0 = 512 } ∷ []) → ⊥
applied_too_many are = let size = are.size in omega (arith, size)

applied_left_out : AreApplied (blocks 1) (one (block_of_data (blocks 1) (place 0)).0 1024 ∷ []) at_512 at_512 → ⊥
applied_left_out are =
    let most = (are.each 0 (omega arith)).most 1024 (omega arith) (place 0, (omega arith, omega arith), refl, (0, omega arith, refl)) in omega (arith, most)
