-- A block is being written where it has a point with which it was handed out.
use Rattle.std.specs.Prelude.{◌≡◌, Bool, Option, None, Some, is_some, IsTrue}
use Rattle.std.proofs.Common.{◌∙◌, ap, sym, subst, refl}
use Rattle.std.proofs.lemmas.Bool.{false≢true}
use Rattle.blk_base.specs.declared.point.Point.{Point}
use Rattle.dirty_pages.specs.declared.dirty_points.DirtyPoints.{DirtyPoints}
use Rattle.dirty_pages.specs.DirtyPoints.{IsBeingWritten}

point_of : (o : Option Point) → IsTrue (is_some o) → (first : Point) × (o ≡ Some first)
point_of None is = absurd (false≢true is)
point_of (Some first) is = (first, refl)

pub writing_tells : (m : DirtyPoints) (b : Bool) → b ≡ is_some m.writing → (IsTrue b → IsBeingWritten m) × (IsBeingWritten m → IsTrue b)
writing_tells m b is = (
  λ yes'. let there = point_of m.writing (subst (λ (t : Bool). IsTrue t) is yes') in record { first = there.0; is = there.1 },
  λ out. subst (λ (t : Bool). IsTrue t) (sym (is ∙ ap (λ (o : Option Point). is_some o) out.is)) refl,
)
