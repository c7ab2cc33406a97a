use Rattle.std.proofs.Common.{Bool, List, Option, ℕ, [], ◌∙◌, ap, arith, length, map, subst, sym, take_all}
use Rattle.core_reports.specs.Found.{AreEntered}
use Rattle.core_reports.proofs.EnteredLaws.{blank, none_entered}
use Rattle.core_reports.proofs.entered.room_for_entries.Goals as goal

pub returns : goal.returns
returns c =
    let notes = c.args.notes.now in
    subst (λ (entered : List (List Bool)). AreEntered [] (map length notes) entered)
    (sym (c.loop-noted.invariant.items ∙ ap (λ (lists : List (List (Option ℕ))). map blank lists) (take_all c.loop-noted.noted-index notes (omega (arith, c.loop-noted-test.false)))))
    (none_entered notes)
