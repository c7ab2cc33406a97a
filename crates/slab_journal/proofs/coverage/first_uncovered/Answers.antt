use Rattle.std.proofs.Common.{sym, ◌∙◌, subst, Option, IfNone}
use Rattle.std.specs.Prelude.{All}
use Rattle.blk_base.specs.declared.point.Point.{Point}
use Rattle.slab_journal.specs.Slab.{IsCovered}
use Rattle.slab_journal.proofs.LowLaws.{least_is_first, all_covered}
use Rattle.slab_journal.proofs.coverage.first_uncovered.Goals as goal

pub returns-clause-some : goal.returns-clause-some
returns-clause-some c =
    least_is_first c.args.layout.now.geometry c.args.commits.now c.args.entries.now c.in_ok-place.place _ c.requires (sym c.place_of_uncovered.ensures ∙ c.in_ok-place.was)

pub returns-in_err-place-clause-none : goal.returns-in_err-place-clause-none
returns-in_err-place-clause-none c =
    subst (λ (r : Option Point). IfNone r (All (IsCovered c.args.layout.now.geometry c.args.commits.now) c.args.entries.now)) (sym c.from_residual.ensures)
    (all_covered c.args.layout.now.geometry c.args.commits.now c.args.entries.now (sym c.place_of_uncovered.ensures ∙ c.in_err-place.was))
