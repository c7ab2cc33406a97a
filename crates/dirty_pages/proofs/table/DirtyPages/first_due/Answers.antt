use Rattle.std.proofs.Common.{ℕ, ap, subst, sym, ◌∙◌, List, Option}
use Rattle.dirty_pages.specs.declared.dirty_points.DirtyPoints.{DirtyPoints}
use Rattle.dirty_pages.specs.Minima.{key_at, IsLeast}
use Rattle.dirty_pages.specs.DirtyPoints.{IsFirstDue, NoneIsEverDue}
use Rattle.dirty_pages.proofs.DirtyPointLaws.{is_first_due, none_is_ever_due}
use Rattle.dirty_pages.proofs.table.DirtyPages.first_due.Goals as goal

pub returns-in_err-first-clause-none : goal.returns-in_err-first-clause-none
returns-in_err-first-clause-none c =
    rw c.from_residual.ensures
    (subst (λ (pages : List DirtyPoints). NoneIsEverDue pages) c.self.view_is
    (none_is_ever_due c.self.inside.dirty_points.items
    (λ page. ap (λ (keys : List (Option ℕ)). key_at keys page) (sym c.self.invariant.due) ∙ c.in_err-first.ensures.none page)))

pub returns-clause-some : goal.returns-clause-some
returns-clause-some c =
    let is = subst (λ (keys : List (Option ℕ)). IsLeast keys c.in_ok-first.field-0-0 c.in_ok-first.first) c.self.invariant.due c.in_ok-first.ensures.some in
    subst (λ (pages : List DirtyPoints). IsFirstDue pages (record { 0 = c.in_ok-first.first })) c.self.view_is
    (is_first_due c.self.inside.dirty_points.items c.in_ok-first.field-0-0 c.in_ok-first.first is)
