use Rattle.logical_zone.proofs.ActLaws.{acts, hears, reports}
use Rattle.logical_zone.proofs.ServedLaws.{can_serve}
use Rattle.logical_zone.proofs.dispatch.act.Goals as goal

pub returns-in-Request : goal.returns-in-Request
returns-in-Request c = rw c.in-Request.is (acts _ _ _ _ _ c.serve_logical.ensures)

pub serve_logical-requires-clause-can : goal.serve_logical-requires-clause-can
serve_logical-requires-clause-can c = can_serve _ _ _ (rw c.in-Request.is at c.requires.rule)

pub returns-in-StopNotice : goal.returns-in-StopNotice
returns-in-StopNotice c = rw c.in-StopNotice.is (hears _ _ _ _ c.hear_stop.ensures.zone c.hear_stop.ensures.posts)

pub returns-in-Report : goal.returns-in-Report
returns-in-Report c = rw c.in-Report.is (reports _ _ _ _ _ c.hear_report.ensures)
