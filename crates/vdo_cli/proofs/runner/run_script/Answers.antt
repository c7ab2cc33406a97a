use Rattle.vdo_cli.proofs.EndingLaws.{served_ends, not_begun_ends}
use Rattle.vdo_cli.proofs.runner.run_script.Goals as goal

pub returns-in-Ok : goal.returns-in-Ok
returns-in-Ok g c = rw (c.close.ensures.device, c.close.ensures.report) (served_ends _ _ _ _ _ _ _ (record {
  found = c.in-Ok.played.found;
  session = c.in-Ok.ensures.session;
  closes = c.close.ensures.closes;
}))

pub returns-in-Err : goal.returns-in-Err
returns-in-Err g c = rw (c.refuse_after.ensures.device, c.refuse_after.ensures.fault) (not_begun_ends _ _ _ _ _ _ _ (record {
  recovered = c.in-Err.not.recovered;
  cause = c.in-Err.ensures.fault;
  early = c.in-Err.ensures.early;
  refuses = c.refuse_after.ensures.refuses;
}))
