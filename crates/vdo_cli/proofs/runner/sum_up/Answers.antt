use Rattle.std.proofs.Common.{ℕ, ◌≡◌, Option, ◌∙◌, ap}
use Rattle.vdo_cli.specs.Openings.{recovered_of}
use Rattle.vdo_cli.specs.Workloads.{summary_of}
use Rattle.vdo_cli.proofs.runner.sum_up.Goals as goal

pub returns-clause-closes : goal.returns-clause-closes
returns-clause-closes g c =
    let same : c.summary_of-summary.result ≡ summary_of (recovered_of c.args.worked.found) c.args.options.now c.args.worked.report =
    c.summary_of-summary.ensures ∙ ap (λ (r : Option ℕ). summary_of r c.args.options.now c.args.worked.report) c.recovered_of.ensures in
    c.end_session.ensures.closes _ _ _ _ (rw same at c.put_summary-put.ensures)
