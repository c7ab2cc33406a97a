use Rattle.std.proofs.Common.{◌∙◌, sym}
use Rattle.std.proofs.lemmas.Bool.{OnFalse_from, OnTrue_from}
use Rattle.std.specs.Map.Iter.{deref_pair}
use Rattle.recovery_blocks.proofs.PatchLaws.{none_first, some_first}
use Rattle.replay_map.proofs.PutLaws.{are_own}
use Rattle.recovery_blocks.specs.Patches.{HasChange}
use Rattle.recovery_blocks.proofs.page_patches.has_changes.Goals as goal

pub returns-clause-yes : goal.returns-clause-yes
returns-clause-yes c =
    let own = c.of_page.result in
    OnTrue_from c.is_some.result (HasChange c.args.changes.now c.args.page)
    (λ is. some_first deref_pair c.args.changes.now own c.next.new.self c.args.page c.next.result c.next.ensures.steps
    (are_own c.args.changes.now own c.args.page c.of_page.ensures.listed) (sym c.is_some.ensures ∙ is))

pub returns-clause-no : goal.returns-clause-no
returns-clause-no c =
    let own = c.of_page.result in
    OnFalse_from c.is_some.result (HasChange c.args.changes.now c.args.page → ⊥)
    (λ is. none_first deref_pair c.args.changes.now own c.next.new.self c.args.page c.next.result c.next.ensures.steps c.of_page.ensures.each (sym c.is_some.ensures ∙ is))
