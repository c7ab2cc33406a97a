use Rattle.std.proofs.Common.{refl}
use Rattle.vdo_cli.proofs.EndingLaws.{workload_served_ends, workload_not_begun_ends}
use Rattle.vdo_cli.proofs.runner.run_workload.Goals as goal

pub returns-in-Ok : goal.returns-in-Ok
returns-in-Ok g c = rw (c.sum_up.ensures.device, c.sum_up.ensures.report) (record {
  ends = workload_served_ends _ _ _ _ _ _ _ (record {
    found = c.in-Ok.worked.found;
    session = c.in-Ok.ensures.session;
    closes = c.sum_up.ensures.closes;
  });
  source = refl;
})

pub returns-in-Err : goal.returns-in-Err
returns-in-Err g c = rw (c.refuse_after.ensures.device, c.refuse_after.ensures.fault) (record {
  ends = workload_not_begun_ends _ _ _ _ _ _ _ (record {
    recovered = c.in-Err.not.recovered;
    cause = c.in-Err.ensures.fault;
    early = c.in-Err.ensures.early;
    refuses = c.refuse_after.ensures.refuses;
  });
  source = refl;
})
