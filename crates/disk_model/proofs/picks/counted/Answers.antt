use Rattle.std.proofs.Common.{◌∙◌, reverse, ap, sym, arith}
use Rattle.disk_model.specs.Picks.{counted_log}
use Rattle.disk_model.proofs.PickLaws.{oldest}
use Rattle.disk_model.proofs.picks.counted.Goals as goal

pub returns-in-Spent : goal.returns-in-Spent
returns-in-Spent c =
    let few = c.if-count-calls.true in
    oldest c.args.calls.now c.in-Spent.count (omega (arith, few)) ∙ ap (λ f. counted_log f (reverse c.args.calls.now)) (sym c.in-Spent.is)
