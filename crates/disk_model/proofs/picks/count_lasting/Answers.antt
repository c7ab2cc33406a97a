use Rattle.std.proofs.Common.{length, reverse, ap, ◌∙◌, arith}
use Rattle.std.proofs.lemmas.List.{take_all}
use Rattle.disk_model.specs.PickParts.{lasting}
use Rattle.disk_model.proofs.RecentLaws.{lasting_part, recent_part}
use Rattle.disk_model.proofs.picks.count_lasting.Goals as goal

pub returns-clause-lasting : goal.returns-clause-lasting
returns-clause-lasting c =
    let all = take_all c.loop-call.call-index c.args.calls.now (omega (arith, c.loop-call-test.false)) in
    let few = c.loop-call.invariant.few in
    lasting_part c.args.calls.now c.loop-call.count (c.loop-call.invariant.count ∙ ap (λ calls. length (lasting (reverse calls))) all)
    (omega (arith, few, c.loop-call.auto.call-index-end))

pub returns-clause-recent : goal.returns-clause-recent
returns-clause-recent c =
    let all = take_all c.loop-call.call-index c.args.calls.now (omega (arith, c.loop-call-test.false)) in
    let few = c.loop-call.invariant.few in
    recent_part c.args.calls.now c.loop-call.count (c.loop-call.invariant.count ∙ ap (λ calls. length (lasting (reverse calls))) all)
    (omega (arith, few, c.loop-call.auto.call-index-end))
