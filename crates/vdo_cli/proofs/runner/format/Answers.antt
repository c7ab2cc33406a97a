use Rattle.std.proofs.Common.{refl}
use Rattle.vdo_cli.proofs.EndingLaws.{made_ends, not_made_ends}
use Rattle.vdo_cli.proofs.runner.format.Goals as goal

pub returns-in-Ok : goal.returns-in-Ok
returns-in-Ok g c = rw c.tell.ensures.device (record {
  ends = made_ends _ _ _ _ _ _ _ (record {
    planned = c.in-Ok.ensures.planned;
    image = c.in-Ok.ensures.empty;
    report_is = c.tell.ensures.report;
    line = rw c.in-Ok.ensures.made at c.tell.ensures.tells;
  });
  stays = c.in-Ok.ensures.stays;
  stops = c.in-Ok.ensures.stops;
  source = refl;
})

pub returns-in-Err : goal.returns-in-Err
returns-in-Err g c = rw (c.refuse.ensures.device, c.refuse.ensures.fault) (record {
  ends = not_made_ends _ _ _ _ _ _ (record { cause = c.in-Err.ensures.fault; refuses = c.refuse.ensures.refuses });
  stays = c.in-Err.ensures.stays;
  stops = c.in-Err.ensures.stops;
  source = refl;
})
