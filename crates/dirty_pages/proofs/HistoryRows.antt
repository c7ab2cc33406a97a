-- Of what became of the changes of pages: for each case of a function a history that it accepts, and one that it refuses;
-- the newest event comes first.
use Rattle.std.proofs.Common.{◌≢◌, None, Some, List, [], ◌∷◌, refl, ap, sym, inl, inr, arith}
use Rattle.std.proofs.lemmas.Option.{none-some}
use Rattle.blk_base.specs.declared.place.PageId.{PageId}
use Rattle.blk_base.specs.declared.point.Point.{Point}
use Rattle.blk_base.specs.Forms.{point as p}
use Rattle.blk_base.proofs.Example.{leaf as a, number_of_point}
use Rattle.dirty_pages.specs.declared.dirty_points.DirtyPoints.{DirtyPoints}
use Rattle.dirty_pages.specs.History.{AtMost, Becomes, Changed, Event, HandedOut, IsAfter, IsInWrite, IsUnreported, IsUnwritten, IsWaiting, Written}
use Rattle.dirty_pages.specs.DirtyPoints.{clean}
use Rattle.dirty_pages.proofs.Rows.{busy, changed, out}

abbrev b : PageId
b = record { tree = 0; level = 0; index = 1 }

a_is_not_b : a ≢ b
a_is_not_b same = omega (arith, ap (λ (q : PageId). q.index) same)

b_is_not_a : b ≢ a
b_is_not_a same = omega (arith, ap (λ (q : PageId). q.index) same)

-- one change
abbrev change : List Event
change = Changed a (p 5) ∷ []

-- IsWaiting
waits : IsWaiting change a (p 5)
waits = inl (refl, refl)

waits_behind_later_ones : IsWaiting (Changed a (p 7) ∷ Written a ∷ HandedOut b ∷ change) a (p 5)
waits_behind_later_ones = inr (b_is_not_a, waits)

nothing_waits : IsWaiting [] a (p 5) → ⊥
nothing_waits is = is

another_page_waits : IsWaiting change b (p 5) → ⊥
another_page_waits (inl is) = a_is_not_b is.0
another_page_waits (inr is) = is

waits_from_another_point : IsWaiting change a (p 6) → ⊥
waits_from_another_point (inl is) = omega (arith, ap (λ (q : Point). q.0) is.1)
waits_from_another_point (inr is) = is

waits_no_longer : IsWaiting (HandedOut a ∷ change) a (p 5) → ⊥
waits_no_longer is = is.0 refl

-- IsInWrite
in_write : IsInWrite (HandedOut a ∷ change) a (p 5)
in_write = inl (refl, waits)

in_write_behind_later_ones : IsInWrite (Changed a (p 7) ∷ Written b ∷ HandedOut b ∷ HandedOut a ∷ change) a (p 5)
in_write_behind_later_ones = (b_is_not_a, inr in_write)

nothing_in_write : IsInWrite [] a (p 5) → ⊥
nothing_in_write is = is

not_in_write_yet : IsInWrite change a (p 5) → ⊥
not_in_write_yet is = is

another_in_write : IsInWrite (HandedOut b ∷ change) a (p 5) → ⊥
another_in_write (inl is) = b_is_not_a is.0
another_in_write (inr is) = is

changed_since : IsInWrite (Changed a (p 5) ∷ HandedOut a ∷ []) a (p 5) → ⊥
changed_since (inl is) = is.1
changed_since (inr is) = is

in_write_no_longer : IsInWrite (Written a ∷ HandedOut a ∷ change) a (p 5) → ⊥
in_write_no_longer is = is.0 refl

-- IsUnwritten
unwritten_as_it_waits : IsUnwritten change a (p 5)
unwritten_as_it_waits = inl waits

unwritten_in_write : IsUnwritten (HandedOut a ∷ change) a (p 5)
unwritten_in_write = inr in_write

written : IsUnwritten (Written a ∷ HandedOut a ∷ change) a (p 5) → ⊥
written (inl is) = is.0 refl
written (inr is) = is.0 refl

-- IsUnreported
unreported_at_first : IsUnreported [] a
unreported_at_first = tt

unreported : IsUnreported (Written b ∷ HandedOut a ∷ change) a
unreported = (b_is_not_a, tt)

reported : IsUnreported (Written a ∷ []) a → ⊥
reported is = is.0 refl

reported_before : IsUnreported (Changed a (p 7) ∷ HandedOut a ∷ Written b ∷ Written a ∷ []) a → ⊥
reported_before is = is.1.0 refl

-- Becomes: a change
becomes_dirty : Becomes (Changed a (p 5)) a clean (changed 5)
becomes_dirty = inl (refl, refl)

another_stays : Becomes (Changed a (p 5)) b clean clean
another_stays = inr (a_is_not_b, refl)

stays_clean : Becomes (Changed a (p 5)) a clean clean → ⊥
stays_clean (inl is) = none-some (p 5) (ap (λ (m : DirtyPoints). m.dirty) is.1)
stays_clean (inr is) = is.0 refl

another_becomes_dirty : Becomes (Changed a (p 5)) b clean (changed 5) → ⊥
another_becomes_dirty (inl is) = a_is_not_b is.0
another_becomes_dirty (inr is) = none-some (p 5) (sym (ap (λ (m : DirtyPoints). m.dirty) is.1))

-- it is handed out
becomes_out : Becomes (HandedOut a) a (changed 5) out
becomes_out = inl (refl, refl, refl)

another_stays_dirty : Becomes (HandedOut a) b (changed 5) (changed 5)
another_stays_dirty = inr (a_is_not_b, refl)

becomes_out_twice : (new : DirtyPoints) → Becomes (HandedOut a) a busy new → ⊥
becomes_out_twice new (inl is) = none-some (p 2) (sym is.1)
becomes_out_twice new (inr is) = is.0 refl

stays_dirty : Becomes (HandedOut a) a (changed 5) (changed 5) → ⊥
stays_dirty (inl is) = none-some (p 5) (ap (λ (m : DirtyPoints). m.writing) is.2)
stays_dirty (inr is) = is.0 refl

another_becomes_out : Becomes (HandedOut a) b (changed 5) out → ⊥
another_becomes_out (inl is) = a_is_not_b is.0
another_becomes_out (inr is) = none-some (p 5) (sym (ap (λ (m : DirtyPoints). m.writing) is.1))

-- it is written: what changed it since stays
becomes_settled : Becomes (Written a) a busy (changed 3)
becomes_settled = inl (refl, refl)

another_stays_out : Becomes (Written a) b out out
another_stays_out = inr (a_is_not_b, refl)

stays_out : Becomes (Written a) a out out → ⊥
stays_out (inl is) = none-some (p 5) (sym (ap (λ (m : DirtyPoints). m.writing) is.1))
stays_out (inr is) = is.0 refl

another_becomes_settled : Becomes (Written a) b out clean → ⊥
another_becomes_settled (inl is) = a_is_not_b is.0
another_becomes_settled (inr is) = none-some (p 5) (ap (λ (m : DirtyPoints). m.writing) is.1)

-- IsAfter: in the order of the events
after_both : IsAfter clean (HandedOut a ∷ change) a out
after_both = (changed 5, (clean, refl, becomes_dirty), becomes_out)

after_none : IsAfter clean [] a (changed 5) → ⊥
after_none same = none-some (p 5) (sym (ap (λ (m : DirtyPoints). m.dirty) same))

-- AtMost
at_most : AtMost (Some (p 5)) (p 5)
at_most = record { first = p 5; is = refl; early = omega arith }

-- is: there is one, and it is that one
none_at_most : AtMost None (p 5) → ⊥
none_at_most is = none-some is.first is.is

-- early
later_than_that : AtMost (Some (p 6)) (p 5) → ⊥
later_than_that is = omega (arith, ap number_of_point is.is, is.early)
