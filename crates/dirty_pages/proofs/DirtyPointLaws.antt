-- What the trees of least numbers tell of the dirty points.
use Rattle.std.specs.Prelude.{ℕ, zero, suc, ◌≡◌, ◌≢◌, ◌<◌, ◌≤◌, min, ◌⊎◌, List, ◌∷◌, length, map, Option, None, Some, replicate, refl}
use Rattle.std.proofs.Common.{sym, ◌∙◌, ap, subst, inl, inr, arith}
use Rattle.std.proofs.Math.ListN.{get_or-map, get_or-eq_default}
use Rattle.std.proofs.lemmas.Bool.{cases_lt}
use Rattle.std.proofs.lemmas.List.{get_or-set_same, get_or-set_other}
use Rattle.blk_base.specs.declared.point.Point.{Point}
use Rattle.dirty_pages.specs.declared.dirty_points.DirtyPoints.{DirtyPoints}
use Rattle.dirty_pages.specs.Minima.{key_at, IsLeast}
use Rattle.dirty_pages.specs.DirtyPoints.{clean, HasPoint, IsDue, IsBeingWritten, dirty_points_at, with_dirty_points, handed_out, IsFirstDue, NoneIsEverDue, HandsOut, NoneIsDue, IsLowPoint, AreClean, due_by, due_of, unwritten_by, unwritten_of}

pub map-replicate : {X Y : Type 0} (f : X → Y) (x : X) (n : ℕ) → map f (replicate n x) ≡ replicate n (f x)
map-replicate f x zero = refl
map-replicate f x (suc n) = ap (λ ys. f x ∷ ys) (map-replicate f x n)

-- what a tree has of a page
due_at : (pages : List DirtyPoints) (page : ℕ) → key_at (map due_of pages) page ≡ due_of (dirty_points_at pages page)
due_at pages page = get_or-map due_of pages page clean

unwritten_at : (pages : List DirtyPoints) (page : ℕ) → key_at (map unwritten_of pages) page ≡ unwritten_of (dirty_points_at pages page)
unwritten_at pages page = get_or-map unwritten_of pages page clean

due-some : (writing dirty : Option Point) (n : ℕ) → due_by writing dirty ≡ Some n → IsDue (record { dirty = dirty; writing = writing }) (record { 0 = n })
due-some None None n is = cc
due-some None (Some first) n is = record { idle = refl; dirty = let same : first.0 ≡ n = cc in ap (λ (k : ℕ). Some (record { 0 = k })) same }
due-some (Some point) dirty n is = cc

due-is : (dirty_points : DirtyPoints) (point : Point) → IsDue dirty_points point → due_of dirty_points ≡ Some point.0
due-is dirty_points point due = ap (λ (w : Option Point). due_by w dirty_points.dirty) due.idle ∙ ap (λ (d : Option Point). due_by None d) due.dirty

unwritten-some : (dirty writing : Option Point) (n : ℕ) → unwritten_by dirty writing ≡ Some n
    → HasPoint (record { dirty = dirty; writing = writing }) (record { 0 = n })
unwritten-some None None n is = cc
unwritten-some None (Some point) n is = inr (let same : point.0 ≡ n = cc in ap (λ (k : ℕ). Some (record { 0 = k })) same)
unwritten-some (Some first) None n is = inl (let same : first.0 ≡ n = cc in ap (λ (k : ℕ). Some (record { 0 = k })) same)
unwritten-some (Some first) (Some point) n is =
    let least : min first.0 point.0 ≡ n = cc in
    elim (cases_lt point.0 first.0) [
      | inl later ↦ let same : point.0 ≡ n = omega arith in inr (ap (λ (k : ℕ). Some (record { 0 = k })) same)
      | inr early ↦ let same : first.0 ≡ n = omega arith in inl (ap (λ (k : ℕ). Some (record { 0 = k })) same)
    ]

-- the least point is at most each
unwritten-least : (dirty writing : Option Point) (p : Point) → (dirty ≡ Some p) ⊎ (writing ≡ Some p)
    → (n : ℕ) × (unwritten_by dirty writing ≡ Some n) × (n ≤ p.0)
unwritten-least None None p has = elim has [ inl d ↦ cc | inr w ↦ cc ]
unwritten-least None (Some point) p has = elim has [ inl d ↦ cc | inr w ↦ let same : point ≡ p = cc in (point.0, refl, omega (arith, ap (λ (q : Point). q.0) same)) ]
unwritten-least (Some first) None p has = elim has [ inl d ↦ let same : first ≡ p = cc in (first.0, refl, omega (arith, ap (λ (q : Point). q.0) same)) | inr w ↦ cc ]
unwritten-least (Some first) (Some point) p has =
    let one : (first.0 ≡ p.0) ⊎ (point.0 ≡ p.0) = elim has [ inl d ↦ inl cc | inr w ↦ inr cc ] in
    (min first.0 point.0, refl, omega (arith, one))

unwritten-none : (dirty writing : Option Point) → unwritten_by dirty writing ≡ None → record { dirty = dirty; writing = writing } ≡ clean
unwritten-none None None is = refl
unwritten-none None (Some point) is = cc
unwritten-none (Some first) None is = cc
unwritten-none (Some first) (Some point) is = cc

-- a page that is due, or has a point, is none past the last
pub due_inside : (pages : List DirtyPoints) (page : ℕ) (first : Point) → IsDue (dirty_points_at pages page) first → page < length pages
due_inside pages page first due =
    elim (cases_lt page (length pages)) [
      | inl inside ↦ inside
      | inr past ↦ absurd (let none = ap (λ (m : DirtyPoints). m.dirty) (get_or-eq_default pages clean {n = page} (omega arith)) in let some = due.dirty in cc)
    ]

pub out_inside : (pages : List DirtyPoints) (page : ℕ) → IsBeingWritten (dirty_points_at pages page) → page < length pages
out_inside pages page out =
    elim (cases_lt page (length pages)) [
      | inl inside ↦ inside
      | inr past ↦ absurd (let none = ap (λ (m : DirtyPoints). m.writing) (get_or-eq_default pages clean {n = page} (omega arith)) in let some = out.is in cc)
    ]

-- the dirty points of a page after a change of one page's
pub changed_here : (pages : List DirtyPoints) (page : ℕ) (change : DirtyPoints → DirtyPoints) → page < length pages → dirty_points_at (with_dirty_points pages page change) page ≡ change (dirty_points_at pages page)
changed_here pages page change inside = get_or-set_same pages page (change (dirty_points_at pages page)) clean inside

pub changed_elsewhere : (pages : List DirtyPoints) (page other : ℕ) (change : DirtyPoints → DirtyPoints) → other ≢ page → dirty_points_at (with_dirty_points pages page change) other ≡ dirty_points_at pages other
changed_elsewhere pages page other change apart = get_or-set_other pages page other (change (dirty_points_at pages page)) clean apart

-- the first of the pages that are due
pub first_due : (pages : List DirtyPoints) (page first : ℕ) → IsLeast (map due_of pages) page first → IsDue (dirty_points_at pages page) (record { 0 = first })
first_due pages page first is =
    due-some (dirty_points_at pages page).writing (dirty_points_at pages page).dirty first (sym (due_at pages page) ∙ is.here)

pub hands_out : (pages new : List DirtyPoints) (point : Point) (page first : ℕ) → IsLeast (map due_of pages) page first → first ≤ point.0
    → new ≡ with_dirty_points pages page handed_out → HandsOut pages new point page
hands_out pages new point page first is reached after = record {
  first = record { 0 = first };
  due = first_due pages page first is;
  reached = reached;
  least = λ other later due. is.least other later.0 (due_at pages other ∙ due-is (dirty_points_at pages other) later due);
  lowest = λ other due. elim (cases_lt other page) [
    | inl before ↦ absurd (is.first other before (due_at pages other ∙ due-is (dirty_points_at pages other) (record { 0 = first }) due))
    | inr behind ↦ behind
  ];
  after = after;
}

pub is_first_due : (pages : List DirtyPoints) (page first : ℕ) → IsLeast (map due_of pages) page first → IsFirstDue pages (record { 0 = first })
is_first_due pages page first is = record {
  number = page;
  due = first_due pages page first is;
  least = λ other later due. is.least other later.0 (due_at pages other ∙ due-is (dirty_points_at pages other) later due);
}

pub none_is_ever_due : (pages : List DirtyPoints) → ((page : ℕ) → key_at (map due_of pages) page ≡ None) → NoneIsEverDue pages
none_is_ever_due pages none page first due =
    let some : Some first.0 ≡ None = sym (due-is (dirty_points_at pages page) first due) ∙ sym (due_at pages page) ∙ none page in
    cc

-- which page is handed out, and the low point, are one
pub same_point : (p q : Point) → p.0 ≡ q.0 → p ≡ q
same_point p q same = ap (λ (n : ℕ). let r : Point = record { 0 = n } in r) same

pub one_is_handed_out : (old new new' : List DirtyPoints) (point : Point) (number number' : ℕ) → HandsOut old new point number → HandsOut old new' point number'
    → (number ≡ number') × (new ≡ new')
one_is_handed_out old new new' point number number' one other =
    let first : one.first ≡ other.first = same_point one.first other.first (omega (arith, one.least number' other.first other.due, other.least number one.first one.due)) in
    let below = one.lowest number' (subst (λ (p : Point). IsDue (dirty_points_at old number') p) (sym first) other.due) in
    let above = other.lowest number (subst (λ (p : Point). IsDue (dirty_points_at old number) p) first one.due) in
    let same : number ≡ number' = omega (arith, below, above) in
    (same, one.after ∙ ap (λ (n : ℕ). with_dirty_points old n handed_out) same ∙ sym other.after)

pub out_or_none : (old new : List DirtyPoints) (point : Point) (number : ℕ) → HandsOut old new point number → NoneIsDue old point → ⊥
out_or_none old new point number out none = omega (arith, out.reached, none number out.first out.due)

pub one_first_due : (pages : List DirtyPoints) (first first' : Point) → IsFirstDue pages first → IsFirstDue pages first' → first ≡ first'
one_first_due pages first first' one other = same_point first first' (omega (arith, one.least other.number first' other.due, other.least one.number first one.due))

pub one_low_point : (pages : List DirtyPoints) (low low' : Point) → IsLowPoint pages low → IsLowPoint pages low' → low ≡ low'
one_low_point pages low low' one other = same_point low low' (omega (arith, one.least other.number low' other.has, other.least one.number low one.has))

pub low_or_clean : (pages : List DirtyPoints) (low : Point) → IsLowPoint pages low → AreClean pages → ⊥
low_or_clean pages low is are =
    elim is.has [
      | inl dirty ↦ absurd (let none = ap (λ (m : DirtyPoints). m.dirty) (are is.number) in cc)
      | inr writing ↦ absurd (let none = ap (λ (m : DirtyPoints). m.writing) (are is.number) in cc)
    ]

pub none_is_due : (pages : List DirtyPoints) (point : Point) → ((page : ℕ) → key_at (map due_of pages) page ≡ None) → NoneIsDue pages point
none_is_due pages point none page first due =
    let some : Some first.0 ≡ None = sym (due-is (dirty_points_at pages page) first due) ∙ sym (due_at pages page) ∙ none page in
    cc

pub none_is_early : (pages : List DirtyPoints) (point : Point) (page first : ℕ) → IsLeast (map due_of pages) page first → point.0 < first → NoneIsDue pages point
none_is_early pages point page first is late other later due =
    omega (arith, is.least other later.0 (due_at pages other ∙ due-is (dirty_points_at pages other) later due))

pub low_point : (pages : List DirtyPoints) (page low : ℕ) → IsLeast (map unwritten_of pages) page low → IsLowPoint pages (record { 0 = low })
low_point pages page low is = record {
  number = page;
  has = unwritten-some (dirty_points_at pages page).dirty (dirty_points_at pages page).writing low (sym (unwritten_at pages page) ∙ is.here);
  least = λ other point has.
      let own = unwritten-least (dirty_points_at pages other).dirty (dirty_points_at pages other).writing point has in
      omega (arith, own.2, is.least other own.0 (unwritten_at pages other ∙ own.1));
}

pub are_clean : (pages : List DirtyPoints) → ((page : ℕ) → key_at (map unwritten_of pages) page ≡ None) → AreClean pages
are_clean pages none page = unwritten-none (dirty_points_at pages page).dirty (dirty_points_at pages page).writing (sym (unwritten_at pages page) ∙ none page)
