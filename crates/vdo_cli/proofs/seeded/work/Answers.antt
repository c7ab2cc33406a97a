use Rattle.std.proofs.Common.{refl, inl, inr}
use Rattle.vdo_cli.proofs.RecoveredImages.{ready_kept, unready_kept}
use Rattle.vdo_cli.proofs.seeded.work.Goals as goal

-- why there is nothing to start with
pub returns-in-Err-clause-fault : goal.returns-in-Err-clause-fault
returns-in-Err-clause-fault g c = inl (record { cause = c.in-Err.not.why; fault_is = c.fault_of.ensures; unready = c.in-Err.ensures.unready })

pub returns-in-Err-clause-early : goal.returns-in-Err-clause-early
returns-in-Err-clause-early g c = unready_kept _ _ _ _ _ c.in-Err.ensures.unready

pub serve_drawn-requires-clause-ready : goal.serve_drawn-requires-clause-ready
serve_drawn-requires-clause-ready g c = record { before = _; is = c.in-Ok.ensures.ready }

-- memory ran out before the first request was served
pub returns-in_default-clause-fault : goal.returns-in_default-clause-fault
returns-in_default-clause-fault g c = inr (record {
  found = c.in-Ok.ready.found;
  recovered_is = c.recovered_of.ensures;
  start = c.in-Ok.ready.start;
  ready = rw c.in_default.ensures.unserved c.in-Ok.ensures.ready;
  fault_is = refl;
})

pub returns-in_default-clause-early : goal.returns-in_default-clause-early
returns-in_default-clause-early g c = rw c.in_default.ensures.unserved (ready_kept _ _ _ _ _ c.in-Ok.ensures.ready)

-- what was served
pub returns-clause-session : goal.returns-clause-session
returns-clause-session g c = record {
  start = c.in-Ok.ready.start;
  serves = c.in-Ok-serve_drawn.ensures.serves _ c.in-Ok.ensures.ready;
  requests_are = c.in-Ok-serve_drawn.ensures.requests;
}
