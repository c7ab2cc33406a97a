use Rattle.desk_zone.proofs.ActLaws.{acts, comes_back, hears}
use Rattle.desk_zone.proofs.dispatch.act.Goals as goal

pub returns-in-Request : goal.returns-in-Request
returns-in-Request c = rw (c.in-Request.is, c.requires.none) (acts _ _ _ _ _ c.serve_desk.ensures)

pub serve_desk-requires-clause-phase : goal.serve_desk-requires-clause-phase
serve_desk-requires-clause-phase c = (comes_back _ _ _ (rw c.in-Request.is at c.requires.rule)).0

pub serve_desk-requires-clause-answered : goal.serve_desk-requires-clause-answered
serve_desk-requires-clause-answered c = (comes_back _ _ _ (rw c.in-Request.is at c.requires.rule)).1

pub returns-in-StopNotice : goal.returns-in-StopNotice
returns-in-StopNotice c = rw c.in-StopNotice.is (hears _ _ _ _ c.hear_stop.ensures.desk c.hear_stop.ensures.posts)
