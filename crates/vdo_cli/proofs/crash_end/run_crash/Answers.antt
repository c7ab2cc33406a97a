use Rattle.std.proofs.Common.{inl}
use Rattle.vdo_cli.proofs.crash_end.run_crash.Goals as goal

pub returns-in-Ok-shown : goal.returns-in-Ok-shown
returns-in-Ok-shown g c = rw (c.tell_crash.ensures.report, c.tell_crash.ensures.device, c.tell_crash.ensures.copy) (record {
  ends = inl (record {
    run = c.in-Ok.ensures.run;
    shown = c.in-Ok-shown.shown;
    shows = rw c.in-Ok-shown.is at c.in-Ok.ensures.shown;
    told = c.tell_crash.ensures.told;
  });
  untouched = c.in-Ok.ensures.untouched;
})
