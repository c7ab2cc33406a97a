use Rattle.std.proofs.Common.{arith, ◌≡◌, ◌<◌, ◌∙◌, false, Some, length, slice_get, get_or, sym, subst}
use Rattle.std.proofs.lemmas.Grind.{common_steps}
use Rattle.std.proofs.lemmas.Option.{gets, same_Some, slice_get-get_or}
use Rattle.core_model.specs.declared.zones.Zone.{Zone}
use Rattle.vdo_core.specs.Moves.{has_items}
use Rattle.vdo_core.proofs.moves.can_move.Goals as goal

pub returns-clause-yes : goal.returns-clause-yes
returns-clause-yes c posted =
    let source : slice_get c.args.zones.now c.args.from ≡ Some c.index.result.now = grind (arith, common_steps, gets) in
    let other : Zone = get_or c.args.zones.now c.args.to c.index.result.now in
    let within : c.args.to < length c.args.zones.now = grind (arith, common_steps) in
    record {
      source = c.index.result.now;
      target = other;
      apart = grind arith;
      had_source = source;
      had_target = slice_get-get_or c.args.zones.now c.args.to c.index.result.now within;
      posted = sym c.has_posted.ensures ∙ posted;
    }

pub returns-clause-no : goal.returns-clause-no
returns-clause-no c none = λ source target apart had had'.
    (let here : slice_get c.args.zones.now c.args.from ≡ Some c.index.result.now = grind (arith, common_steps, gets) in
    subst (λ (z : Zone). has_items (slice_get z.ports.outboxes c.args.to) ≡ false) (same_Some _ _ (sym here ∙ had)) (sym c.has_posted.ensures ∙ none))
