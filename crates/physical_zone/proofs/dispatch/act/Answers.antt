use Rattle.physical_zone.proofs.ActLaws.{acts, hears, served, taken, takes_update}
use Rattle.physical_zone.proofs.dispatch.act.Goals as goal

pub returns-in-Request : goal.returns-in-Request
returns-in-Request c = rw c.in-Request.is (acts _ _ _ _ _ c.serve_physical.ensures)

pub serve_physical-requires-clause-rule : goal.serve_physical-requires-clause-rule
serve_physical-requires-clause-rule c = served _ _ _ (rw c.in-Request.is at c.requires.rule)

pub returns-in-Decrement : goal.returns-in-Decrement
returns-in-Decrement c = rw c.in-Decrement.is (takes_update _ _ _ _ _ c.take_decrement.ensures)

pub take_decrement-requires-clause-rule : goal.take_decrement-requires-clause-rule
take_decrement-requires-clause-rule c = taken _ _ _ (rw c.in-Decrement.is at c.requires.rule)

pub returns-in-StopNotice : goal.returns-in-StopNotice
returns-in-StopNotice c = rw c.in-StopNotice.is (hears _ _ _ _ c.hear_stop.ensures.zone c.hear_stop.ensures.posts)
