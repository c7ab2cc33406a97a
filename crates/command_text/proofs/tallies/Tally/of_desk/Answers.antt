use Rattle.std.proofs.Common.{◌∙◌, ap, arith}
use Rattle.command_text.specs.declared.tallies.Tally.{Tally}
use Rattle.command_text.specs.Tallies.{with_line}
use Rattle.command_text.proofs.TallyLaws.{tally-next}
use Rattle.command_text.proofs.tallies.Tally.of_desk.Goals as goal

pub loop-at-preserved : goal.loop-at-preserved
loop-at-preserved c =
    let little = c.count_line-tally.ensures.little in
    let next = tally-next c.args.desk.now c.loop-at.at c.index-desk-at.result c.loop-at-test.true c.index-desk-at.is in
    record {
      value = rw (next) (c.count_line-tally.ensures.counted ∙ ap (λ (t : Tally). with_line c.index-desk-at.result t) c.loop-at.invariant.value);
      ok = omega (arith, little.ok, c.loop-at.invariant.ok);
      no_space = omega (arith, little.no_space, c.loop-at.invariant.no_space);
      read_sum = omega (arith, little.read_sum, c.loop-at.invariant.read_sum);
    }
