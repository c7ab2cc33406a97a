use Rattle.std.proofs.Common.{ℕ, ap, subst, sym, ◌∙◌, List, Option}
use Rattle.dirty_pages.specs.declared.dirty_points.DirtyPoints.{DirtyPoints}
use Rattle.dirty_pages.specs.Minima.{key_at, IsLeast}
use Rattle.dirty_pages.specs.DirtyPoints.{IsLowPoint, AreClean}
use Rattle.dirty_pages.proofs.DirtyPointLaws.{low_point, are_clean}
use Rattle.dirty_pages.proofs.table.DirtyPages.low_point.Goals as goal

pub returns-in_err-low-clause-none : goal.returns-in_err-low-clause-none
returns-in_err-low-clause-none c =
    rw c.from_residual.ensures
    (subst (λ (pages : List DirtyPoints). AreClean pages) c.self.view_is
    (are_clean c.self.inside.dirty_points.items
    (λ page. ap (λ (keys : List (Option ℕ)). key_at keys page) (sym c.self.invariant.unwritten) ∙ c.in_err-low.ensures.none page)))

pub returns-clause-some : goal.returns-clause-some
returns-clause-some c =
    let is = subst (λ (keys : List (Option ℕ)). IsLeast keys c.in_ok-low.field-0-0 c.in_ok-low.low) c.self.invariant.unwritten c.in_ok-low.ensures.some in
    subst (λ (pages : List DirtyPoints). IsLowPoint pages (record { 0 = c.in_ok-low.low })) c.self.view_is
    (low_point c.self.inside.dirty_points.items c.in_ok-low.field-0-0 c.in_ok-low.low is)
