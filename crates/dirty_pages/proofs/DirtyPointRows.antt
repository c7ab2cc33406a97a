-- Of the dirty points of pages: for each clause and each case of a function a small case that it accepts, and one that breaks it
-- alone.
use Rattle.std.proofs.Common.{ℕ, zero, suc, ◌≡◌, ◌≤◌, true, false, None, Some, [], ◌∷◌, refl, ap, sym, inl, inr, arith}
use Rattle.std.proofs.lemmas.Option.{none-some}
use Rattle.blk_base.specs.declared.point.Point.{Point}
use Rattle.blk_base.specs.Forms.{point as p}
use Rattle.blk_base.proofs.Example.{number_of_point}
use Rattle.dirty_pages.specs.declared.dirty_points.DirtyPoints.{DirtyPoints}
use Rattle.dirty_pages.specs.DirtyPoints.{AreClean, HasPoint, IsBeingWritten, IsDue, IsLowPoint, NoneIsDue, changed_at, clean, clean_by, clean_of, due_by, due_of, handed_out, least_of, dirty_points_at, settled, unwritten_by, unwritten_of, with_dirty_points}
use Rattle.dirty_pages.proofs.Rows.{busy, changed, least, out, pages, written}

-- clean
clean_is : clean ≡ record { dirty = None; writing = None }
clean_is = refl

-- least_of
least_of_one : least_of None (p 5) ≡ p 5
least_of_one = refl

least_is_the_first : least_of (Some (p 3)) (p 5) ≡ p 3
least_is_the_first = refl

least_is_the_other : least_of (Some (p 7)) (p 5) ≡ p 5
least_is_the_other = refl

-- changed_at: from the first change on, whatever is being written
changed_first : changed_at (p 5) clean ≡ changed 5
changed_first = refl

changed_again : changed_at (p 5) busy ≡ busy
changed_again = refl

-- handed_out
handed_out_from_5 : handed_out (changed 5) ≡ out
handed_out_from_5 = refl

-- settled: later changes stay
settled_out : settled out ≡ clean
settled_out = refl

settled_busy : settled busy ≡ changed 3
settled_busy = refl

-- HasPoint
has_its_dirty_point : HasPoint busy (p 3)
has_its_dirty_point = inl refl

has_its_written_point : HasPoint busy (p 2)
has_its_written_point = inr refl

has_no_other : HasPoint busy (p 5) → ⊥
has_no_other (inl is) = omega (arith, ap number_of_point is)
has_no_other (inr is) = omega (arith, ap number_of_point is)

clean_has_none : HasPoint clean (p 0) → ⊥
clean_has_none (inl is) = none-some (p 0) is
clean_has_none (inr is) = none-some (p 0) is

-- IsDue
is_due : IsDue (changed 5) (p 5)
is_due = record { idle = refl; dirty = refl }

-- idle
not_while_it_is_written : IsDue busy (p 3) → ⊥
not_while_it_is_written is = none-some (p 2) (sym is.idle)

-- dirty: by that point
clean_is_not_due : IsDue clean (p 5) → ⊥
clean_is_not_due is = none-some (p 5) is.dirty

due_by_another_point : IsDue (changed 5) (p 4) → ⊥
due_by_another_point is = omega (arith, ap number_of_point is.dirty)

-- IsBeingWritten
is_being_written : IsBeingWritten busy
is_being_written = record { first = p 2; is = refl }

only_dirty : IsBeingWritten (changed 5) → ⊥
only_dirty is = none-some is.first is.is

-- dirty_points_at
dirty_points_of_third : dirty_points_at pages 2 ≡ changed 5
dirty_points_of_third = refl

dirty_points_past_the_last : dirty_points_at pages 4 ≡ clean
dirty_points_past_the_last = refl

-- with_dirty_points
with_third_out : with_dirty_points pages 2 handed_out ≡ written
with_third_out = refl

with_none_past_the_last : with_dirty_points pages 4 (changed_at (p 1)) ≡ pages
with_none_past_the_last = refl

-- NoneIsDue
none_is_due_at_4 : NoneIsDue pages (p 4)
none_is_due_at_4 number first due = let from : 5 ≤ first.0 = least number first due in omega (arith, from)

one_is_due_at_5 : NoneIsDue pages (p 5) → ⊥
one_is_due_at_5 none = omega (arith, none 2 (p 5) is_due)

-- IsLowPoint: 2, with which the second page is being written
from_2_on : (other : ℕ) (point : Point) → HasPoint (dirty_points_at pages other) point → 2 ≤ point.0
from_2_on zero point (inl is) = omega (arith, ap number_of_point is)
from_2_on zero point (inr is) = absurd (none-some point is)
from_2_on (suc zero) point (inl is) = omega (arith, ap number_of_point is)
from_2_on (suc zero) point (inr is) = omega (arith, ap number_of_point is)
from_2_on (suc (suc zero)) point (inl is) = omega (arith, ap number_of_point is)
from_2_on (suc (suc zero)) point (inr is) = absurd (none-some point is)
from_2_on (suc (suc (suc zero))) point (inl is) = omega (arith, ap number_of_point is)
from_2_on (suc (suc (suc zero))) point (inr is) = absurd (none-some point is)
from_2_on (suc (suc (suc (suc n)))) point (inl is) = absurd (none-some point is)
from_2_on (suc (suc (suc (suc n)))) point (inr is) = absurd (none-some point is)

low_point : IsLowPoint pages (p 2)
low_point = record { number = 1; has = inr refl; least = from_2_on }

-- has
lower_than_all : IsLowPoint pages (p 1) → ⊥
lower_than_all is = omega (arith, from_2_on is.number (p 1) is.has)

-- least: of what is dirty and of what is being written
above_the_written : IsLowPoint pages (p 3) → ⊥
above_the_written is = omega (arith, is.least 1 (p 2) (inr refl))

above_the_dirty : IsLowPoint (out ∷ changed 4 ∷ []) (p 5) → ⊥
above_the_dirty is = omega (arith, is.least 1 (p 4) (inl refl))

-- AreClean
are_clean : AreClean (clean ∷ clean ∷ [])
are_clean zero = refl
are_clean (suc zero) = refl
are_clean (suc (suc n)) = refl

one_is_dirty : AreClean (clean ∷ changed 5 ∷ []) → ⊥
one_is_dirty are = none-some (p 5) (sym (ap (λ (m : DirtyPoints). m.dirty) (are 1)))

one_is_out : AreClean (clean ∷ out ∷ []) → ⊥
one_is_out are = none-some (p 5) (sym (ap (λ (m : DirtyPoints). m.writing) (are 1)))

-- due_by, due_of
due_of_clean : due_of clean ≡ None
due_of_clean = refl

due_of_changed : due_of (changed 5) ≡ Some 5
due_of_changed = refl

due_of_busy : due_of busy ≡ None
due_of_busy = refl

due_by_the_second : due_by None (Some (p 7)) ≡ Some 7
due_by_the_second = refl

not_due_by_it : due_by (Some (p 7)) None ≡ None
not_due_by_it = refl

-- unwritten_by, unwritten_of
unwritten_of_clean : unwritten_of clean ≡ None
unwritten_of_clean = refl

unwritten_of_changed : unwritten_of (changed 5) ≡ Some 5
unwritten_of_changed = refl

unwritten_of_out : unwritten_of out ≡ Some 5
unwritten_of_out = refl

unwritten_of_busy : unwritten_of busy ≡ Some 2
unwritten_of_busy = refl

unwritten_by_the_first : unwritten_by (Some (p 2)) (Some (p 3)) ≡ Some 2
unwritten_by_the_first = refl

-- clean_by, clean_of
clean_of_clean : clean_of clean ≡ true
clean_of_clean = refl

clean_of_changed : clean_of (changed 5) ≡ false
clean_of_changed = refl

clean_of_out : clean_of out ≡ false
clean_of_out = refl

clean_by_neither : clean_by (Some (p 1)) (Some (p 2)) ≡ false
clean_by_neither = refl
