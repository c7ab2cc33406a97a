-- The dirty points of a page speak of each of its changes that isn't durable.
use Rattle.std.specs.Prelude.{ℕ, ◌≡◌, ◌≤◌, List, [], ◌∷◌, Option, None, Some, refl}
use Rattle.std.proofs.Common.{◌∙◌, ap, inl, inr, arith}
use Rattle.blk_base.specs.declared.place.PageId.{PageId}
use Rattle.blk_base.specs.declared.point.Point.{Point}
use Rattle.dirty_pages.specs.declared.dirty_points.DirtyPoints.{DirtyPoints}
use Rattle.dirty_pages.specs.DirtyPoints.{clean, least_of, changed_at, handed_out, settled, HasPoint, IsLowPoint, dirty_points_at}
use Rattle.dirty_pages.specs.History.{Event, Changed, HandedOut, Written, IsWaiting, IsInWrite, IsUnwritten, IsUnreported, Becomes, IsAfter, AtMost}

least_of-new : (least : Option Point) (point : Point) → (least_of least point).0 ≤ point.0
least_of-new None point = omega arith
least_of-new (Some first) point = omega arith

least_of-old : (least : Option Point) (point later : Point) → AtMost least later → (least_of least point).0 ≤ later.0
least_of-old None point later is = let none = is.is in cc
least_of-old (Some first) point later is =
    let same : first ≡ is.first = let some = is.is in cc in
    let early = is.early in
    omega (arith, ap (λ (p : Point). p.0) same)

none_at_most : (least : Option Point) (point : Point) → least ≡ None → AtMost least point → ⊥
none_at_most least point none is = let some = is.is in cc

-- the dirty points of a page after an event, where it is about this page and where it isn't
record Covers (events : List Event) (page : PageId) (dirty_points : DirtyPoints) : Type 0 where
  waiting : (point : Point) → IsWaiting events page point → AtMost dirty_points.dirty point
  in_write : (point : Point) → IsInWrite events page point → AtMost dirty_points.writing point

covers_changed : (events : List Event) (page : PageId) (point : Point) (dirty_points : DirtyPoints) → Covers events page dirty_points
    → Covers (Changed page point ∷ events) page (changed_at point dirty_points)
covers_changed events page point dirty_points known = record {
  waiting = λ later wait. record {
    first = least_of dirty_points.dirty point;
    is = refl;
    early = elim wait [
      | inl now ↦ omega (arith, least_of-new dirty_points.dirty point, ap (λ (p : Point). p.0) now.1)
      | inr before ↦ least_of-old dirty_points.dirty point later (known.waiting later before)
    ];
  };
  in_write = known.in_write;
}

covers_handed_out : (events : List Event) (page : PageId) (dirty_points : DirtyPoints) → dirty_points.writing ≡ None → Covers events page dirty_points
    → Covers (HandedOut page ∷ events) page (handed_out dirty_points)
covers_handed_out events page dirty_points idle known = record {
  waiting = λ point wait. absurd (wait.0 refl);
  in_write = λ point out. elim out [
    | inl now ↦ known.waiting point now.1
    | inr before ↦ absurd (none_at_most dirty_points.writing point idle (known.in_write point before))
  ];
}

covers_settled : (events : List Event) (page : PageId) (dirty_points : DirtyPoints) → Covers events page dirty_points → Covers (Written page ∷ events) page (settled dirty_points)
covers_settled events page dirty_points known = record { waiting = known.waiting; in_write = λ point out. absurd (out.0 refl) }

covers_more : (event : Event) (events : List Event) (page : PageId) (old new : DirtyPoints) → Covers events page old → Becomes event page old new
    → Covers (event ∷ events) page new
covers_more (Changed other point) events page old new known step = elim step [
  | inl this ↦ rw (this.0, this.1) (covers_changed events page point old known)
  | inr none ↦ rw none.1 (record {
    waiting = λ later wait. elim wait [ inl now ↦ absurd (none.0 now.0) | inr before ↦ known.waiting later before ];
    in_write = known.in_write;
  })
]
covers_more (HandedOut other) events page old new known step = elim step [
  | inl this ↦ rw (this.0, this.2) (covers_handed_out events page old this.1 known)
  | inr none ↦ rw none.1 (record {
    waiting = λ point wait. known.waiting point wait.1;
    in_write = λ point out. elim out [ inl now ↦ absurd (none.0 now.0) | inr before ↦ known.in_write point before ];
  })
]
covers_more (Written other) events page old new known step = elim step [
  | inl this ↦ rw (this.0, this.1) (covers_settled events page old known)
  | inr none ↦ rw none.1 (record { waiting = known.waiting; in_write = λ point out. known.in_write point out.1 })
]

covers : (old new : DirtyPoints) (events : List Event) (page : PageId) → IsAfter old events page new → Covers events page new
covers old new [] page after = record { waiting = λ point wait. absurd wait; in_write = λ point out. absurd out }
covers old new (event ∷ events) page after = covers_more event events page after.0 new (covers old after.0 events page after.1) after.2

pub waits : (old new : DirtyPoints) (events : List Event) (page : PageId) (point : Point) → IsAfter old events page new → IsWaiting events page point
    → AtMost new.dirty point
waits old new events page point after wait = (covers old new events page after).waiting point wait

-- the dirty points have a point for each change that isn't written
pub has_point : (old new : DirtyPoints) (events : List Event) (page : PageId) (point : Point) → IsAfter old events page new → IsUnwritten events page point
    → (low : Point) × HasPoint new low × (low.0 ≤ point.0)
has_point old new events page point after unwritten =
    let all = covers old new events page after in
    elim unwritten [
      | inl wait ↦ let known = all.waiting point wait in (known.first, inl known.is, known.early)
      | inr out ↦ let known = all.in_write point out in (known.first, inr known.is, known.early)
    ]

pub not_below : (old : DirtyPoints) (pages : List DirtyPoints) (number : ℕ) (events : List Event) (page : PageId) (point low : Point) → IsAfter old events page (dirty_points_at pages number)
    → IsUnwritten events page point → IsLowPoint pages low → low.0 ≤ point.0
not_below old pages number events page point low after unwritten is =
    let has = has_point old (dirty_points_at pages number) events page point after unwritten in
    omega (arith, is.least number has.0 has.1, has.2)

pub not_clean : (old new : DirtyPoints) (events : List Event) (page : PageId) (point : Point) → IsAfter old events page new → IsUnwritten events page point
    → new ≡ clean → ⊥
not_clean old new events page point after unwritten is =
    elim (has_point old new events page point after unwritten).1 [ inl dirty ↦ cc | inr writing ↦ cc ]

stays_out : (event : Event) (page : PageId) (old new : DirtyPoints) (first : Point) → Becomes event page old new → IsUnreported (event ∷ []) page
    → old.writing ≡ Some first → new.writing ≡ Some first
stays_out (Changed other point) page old new first step open_still out = elim step [ inl this ↦ ap (λ (m : DirtyPoints). m.writing) this.1 ∙ out | inr none ↦ ap (λ (m : DirtyPoints). m.writing) none.1 ∙ out ]
stays_out (HandedOut other) page old new first step open_still out = elim step [ inl this ↦ (let idle = this.1 in cc) | inr none ↦ ap (λ (m : DirtyPoints). m.writing) none.1 ∙ out ]
stays_out (Written other) page old new first step open_still out = elim step [ inl this ↦ absurd (open_still.0 this.0) | inr none ↦ ap (λ (m : DirtyPoints). m.writing) none.1 ∙ out ]

unreported_parts : (event : Event) (events : List Event) (page : PageId) → IsUnreported (event ∷ events) page
    → IsUnreported (event ∷ []) page × IsUnreported events page
unreported_parts (Changed other point) events page all = (tt, all)
unreported_parts (HandedOut other) events page all = (tt, all)
unreported_parts (Written other) events page all = ((all.0, tt), all.1)

pub still_out : (old new : DirtyPoints) (events : List Event) (page : PageId) (first : Point) → IsAfter old events page new → IsUnreported events page
    → old.writing ≡ Some first → new.writing ≡ Some first
still_out old new [] page first after none out = ap (λ (m : DirtyPoints). m.writing) after ∙ out
still_out old new (event ∷ events) page first after none out =
    let parts = unreported_parts event events page none in
    stays_out event page after.0 new first after.2 parts.0 (still_out old after.0 events page first after.1 parts.1 out)
