-- Of what is handed out next: a small case that each clause accepts, and one that it refuses.
use Rattle.std.proofs.Common.{ℕ, zero, suc, ◌≡◌, ◌≢◌, ◌<◌, ◌≤◌, Option, None, Some, List, [], ◌∷◌, refl, ap, sym, arith}
use Rattle.std.proofs.lemmas.Option.{none-some}
use Rattle.blk_base.specs.declared.point.Point.{Point}
use Rattle.blk_base.specs.Forms.{point as p}
use Rattle.blk_base.proofs.Example.{number_of_point}
use Rattle.dirty_pages.specs.declared.dirty_points.DirtyPoints.{DirtyPoints}
use Rattle.dirty_pages.specs.DirtyPoints.{clean, dirty_points_at, IsDue, IsFirstDue, NoneIsEverDue, HandsOut}
use Rattle.dirty_pages.specs.Minima.{key_at, IsLeast}

abbrev pub number : Option ℕ → ℕ
number None = 0
number (Some n) = n

-- IsLeast: two slots with 5, one with 7

abbrev pub keys : List (Option ℕ)
keys = Some 7 ∷ Some 5 ∷ Some 5 ∷ []

five_is_least : (k other : ℕ) → key_at keys k ≡ Some other → 5 ≤ other
five_is_least zero other at = omega (arith, ap number at)
five_is_least (suc zero) other at = omega (arith, ap number at)
five_is_least (suc (suc zero)) other at = omega (arith, ap number at)
five_is_least (suc (suc (suc k))) other at = absurd (none-some other at)

seven_before : (k : ℕ) → k < 1 → key_at keys k ≢ Some 5
seven_before zero below at = omega (arith, ap number at)
seven_before (suc k) below at = omega arith

first_is_least : IsLeast keys 1 5
first_is_least = record { inside = omega arith; here = refl; least = five_is_least; first = seven_before }

-- here, least: another number is refused, and so is a greater one
not_its_number : IsLeast keys 1 6 → ⊥
not_its_number is = omega (arith, ap number is.here)

seven_is_not_least : IsLeast keys 0 7 → ⊥
seven_is_not_least is = omega (arith, is.least 1 5 refl)

-- first: and so is a later slot with the same number
second_is_not_first : IsLeast keys 2 5 → ⊥
second_is_not_first is = is.first 1 (omega arith) refl

-- HandsOut, IsFirstDue: two pages that were first changed at 5, one at 7, and one that was at 3 and is being written

abbrev pub changed : ℕ → DirtyPoints
changed n = record { dirty = Some (p n); writing = None }

abbrev pub busy : DirtyPoints
busy = record { dirty = Some (p 3); writing = Some (p 2) }

abbrev pub pages : List DirtyPoints
pages = changed 7 ∷ busy ∷ changed 5 ∷ changed 5 ∷ []

abbrev pub out : DirtyPoints
out = record { dirty = None; writing = Some (p 5) }

abbrev pub written : List DirtyPoints
written = changed 7 ∷ busy ∷ out ∷ changed 5 ∷ []

pub least : (other : ℕ) (later : Point) → IsDue (dirty_points_at pages other) later → 5 ≤ later.0
least zero later due = omega (arith, ap number_of_point due.dirty)
least (suc zero) later due = absurd (none-some (p 2) (sym due.idle))
least (suc (suc zero)) later due = omega (arith, ap number_of_point due.dirty)
least (suc (suc (suc zero))) later due = omega (arith, ap number_of_point due.dirty)
least (suc (suc (suc (suc n)))) later due = absurd (none-some later due.dirty)

lowest : (other : ℕ) → IsDue (dirty_points_at pages other) (p 5) → 2 ≤ other
lowest zero due = omega (arith, ap number_of_point due.dirty)
lowest (suc zero) due = absurd (none-some (p 2) (sym due.idle))
lowest (suc (suc n)) due = omega arith

handed_out_first : HandsOut pages written (p 5) 2
handed_out_first = record {
  first = p 5;
  due = record { idle = refl; dirty = refl };
  reached = omega arith;
  least = least;
  lowest = lowest;
  after = refl;
}

-- due: one that is being written isn't handed out
while_it_is_written : (new : List DirtyPoints) → HandsOut pages new (p 5) 1 → ⊥
while_it_is_written new is = none-some (p 2) (sym is.due.idle)

-- reached: none is before its point
before_its_point : (new : List DirtyPoints) → HandsOut pages new (p 4) 2 → ⊥
before_its_point new is = omega (arith, is.reached, ap number_of_point is.due.dirty)

-- least: nor one that was changed later
a_later_one : (new : List DirtyPoints) → HandsOut pages new (p 7) 0 → ⊥
a_later_one new is = omega (arith, is.least 2 (p 5) (record { idle = refl; dirty = refl }), ap number_of_point is.due.dirty)

-- lowest: of two with the same first point the second isn't
the_second_of_two : (new : List DirtyPoints) → HandsOut pages new (p 7) 3 → ⊥
the_second_of_two new is = omega (arith, is.lowest 2 (record { idle = refl; dirty = is.due.dirty }))

-- after: it is being written from then on
stays_dirty : HandsOut pages pages (p 5) 2 → ⊥
stays_dirty is = none-some (p 5) (ap (λ (ms : List DirtyPoints). (dirty_points_at ms 2).writing) is.after)

first_due_is : IsFirstDue pages (p 5)
first_due_is = record { number = 3; due = record { idle = refl; dirty = refl }; least = least }

-- due: it is that of some page
none_has_it : IsFirstDue [] (p 5) → ⊥
none_has_it is = none-some (p 5) is.due.dirty

-- least
later_one_is_due : IsFirstDue pages (p 7) → ⊥
later_one_is_due is = omega (arith, is.least 2 (p 5) (record { idle = refl; dirty = refl }))

-- NoneIsEverDue
none_due : NoneIsEverDue (busy ∷ clean ∷ [])
none_due zero first due = none-some (p 2) (sym due.idle)
none_due (suc zero) first due = none-some first due.dirty
none_due (suc (suc n)) first due = none-some first due.dirty

one_due : NoneIsEverDue pages → ⊥
one_due none = none 0 (p 7) (record { idle = refl; dirty = refl })
