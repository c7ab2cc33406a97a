use Rattle.std.proofs.Common.{◌∙◌}
use Rattle.vdo_cli.proofs.EndingLaws.{puts_or_fails}
use Rattle.vdo_cli.proofs.runner.refuse_after.Goals as goal

pub returns-clause-refuses : goal.returns-clause-refuses
returns-clause-refuses g c = record {
  status_is = c.end_with.ensures.status ∙ c.status_of.ensures;
  report_is = c.end_with.ensures.report;
  puts = puts_or_fails c.put_refusal-put.ensures;
}
