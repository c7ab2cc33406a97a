use Rattle.std.proofs.Common.{ℕ, ap, subst, sym, ◌∙◌, set, map, List, Option}
use Rattle.std.proofs.lemmas.List.{get_or_default}
use Rattle.dirty_pages.specs.declared.dirty_points.DirtyPoints.{DirtyPoints}
use Rattle.dirty_pages.specs.Minima.{key_at, IsLeast}
use Rattle.dirty_pages.specs.DirtyPoints.{clean, due_of, dirty_points_at, handed_out, NoneIsDue}
use Rattle.dirty_pages.proofs.DirtyPointLaws.{due_inside, first_due, hands_out, none_is_due, none_is_early}
use Rattle.dirty_pages.proofs.table.DirtyPages.take_expired.Goals as goal

pub returns-in_err-page-clause-none : goal.returns-in_err-page-clause-none
returns-in_err-page-clause-none c =
    rw c.from_residual.ensures
    (subst (λ (pages : List DirtyPoints). NoneIsDue pages c.args.point) c.self.view_is
    (none_is_due c.self.inside.dirty_points.items c.args.point
    (λ page. ap (λ (keys : List (Option ℕ)). key_at keys page) (sym c.self.invariant.due) ∙ c.in_err-page.ensures.none page)))

pub returns-then-first-point-clause-none : goal.returns-then-first-point-clause-none
returns-then-first-point-clause-none c =
    let is = subst (λ (keys : List (Option ℕ)). IsLeast keys c.in_ok-page.page c.in_ok-page.first) c.self.invariant.due c.in_ok-page.ensures.some in
    subst (λ (pages : List DirtyPoints). NoneIsDue pages c.args.point) c.self.view_is
    (none_is_early c.self.inside.dirty_points.items c.args.point c.in_ok-page.page c.in_ok-page.first is c.if-first-point.true)

pub returns-clause-some : goal.returns-clause-some
returns-clause-some c =
    let is = subst (λ (keys : List (Option ℕ)). IsLeast keys c.in_ok-page.page c.in_ok-page.first) c.self.invariant.due c.in_ok-page.ensures.some in
    let is' = subst (λ (pages : List DirtyPoints). IsLeast (map due_of pages) c.in_ok-page.page c.in_ok-page.first) c.self.view_is is in
    let inside = due_inside c.self.inside.dirty_points.items c.in_ok-page.page (record { 0 = c.in_ok-page.first })
    (first_due c.self.inside.dirty_points.items c.in_ok-page.page c.in_ok-page.first is) in
    let read = c.index-dirty_points.ensures ∙ get_or_default c.self.inside.dirty_points.items c.in_ok-page.page c.index-dirty_points.result.now clean inside
    ∙ ap (λ (pages : List DirtyPoints). dirty_points_at pages c.in_ok-page.page) c.self.view_is in
    hands_out c.args.self.now c.set.new.self c.args.point c.in_ok-page.page c.in_ok-page.first is' c.if-first-point.false
    (c.set.ensures ∙ ap (λ (m : DirtyPoints). set c.args.self.now c.in_ok-page.page m) (c.handed_out.ensures ∙ ap handed_out read))
