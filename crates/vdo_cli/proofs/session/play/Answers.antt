use Rattle.std.proofs.Common.{refl, sym, subst, inl, inr}
use Rattle.stream_text.specs.AnswerRooms.{HasRoomFor}
use Rattle.vdo_model.specs.Scripts.{Script}
use Rattle.vdo_cli.proofs.RecoveredImages.{ready_kept, unready_kept}
use Rattle.vdo_cli.proofs.session.play.Goals as goal

-- why there is nothing to start with
pub returns-in-Err-clause-fault : goal.returns-in-Err-clause-fault
returns-in-Err-clause-fault g c = inl (record {
  fails = record { cause = c.in-Err.not.why; fault_is = c.fault_of.ensures; unready = c.in-Err.ensures.unready };
  unread = refl;
})

pub returns-in-Err-clause-early : goal.returns-in-Err-clause-early
returns-in-Err-clause-early g c = unready_kept _ _ _ _ _ c.in-Err.ensures.unready

-- why the script can't be served
pub returns-in-Err-read_requests-clause-fault : goal.returns-in-Err-read_requests-clause-fault
returns-in-Err-read_requests-clause-fault g c = inr (record {
  found = c.in-Ok.ready.found;
  recovered_is = c.recovered_of-recovered.ensures;
  start = c.in-Ok.ready.start;
  ready = c.in-Ok.ensures.ready;
  cause = c.in-Err-read_requests.ensures.fault;
})

pub returns-in-Err-read_requests-clause-early : goal.returns-in-Err-read_requests-clause-early
returns-in-Err-read_requests-clause-early g c = ready_kept _ _ _ _ _ c.in-Ok.ensures.ready

pub returns-in_default-clause-fault : goal.returns-in_default-clause-fault
returns-in_default-clause-fault g c = inr (record {
  found = c.in-Ok.ready.found;
  recovered_is = c.recovered_of-recovered.ensures;
  start = c.in-Ok.ready.start;
  ready = c.in-Ok.ensures.ready;
  cause = tt;
})

pub returns-in_default-clause-early : goal.returns-in_default-clause-early
returns-in_default-clause-early g c = ready_kept _ _ _ _ _ c.in-Ok.ensures.ready

pub serve-requires-clause-ready : goal.serve-requires-clause-ready
serve-requires-clause-ready g c = record { before = _; is = c.in-Ok.ensures.ready }

pub returns-in_default-serve-clause-fault : goal.returns-in_default-serve-clause-fault
returns-in_default-serve-clause-fault g c = inr (record {
  found = c.in-Ok.ready.found;
  recovered_is = c.recovered_of-recovered.ensures;
  start = c.in-Ok.ready.start;
  ready = rw c.in_default-serve.ensures.unserved c.in-Ok.ensures.ready;
  cause = tt;
})

pub returns-in_default-serve-clause-early : goal.returns-in_default-serve-clause-early
returns-in_default-serve-clause-early g c = rw c.in_default-serve.ensures.unserved (ready_kept _ _ _ _ _ c.in-Ok.ensures.ready)

-- what was played
pub returns-clause-session : goal.returns-clause-session
returns-clause-session g c =
    let requests = c.in-Ok-serve.ensures.requests in
    let script = c.in-Ok-read_requests.ensures.script in
    record {
      start = c.in-Ok.ready.start;
      serves = c.in-Ok-serve.ensures.serves _ c.in-Ok.ensures.ready;
      script_is = λ told. rw requests (script told).0;
      to_its_end = λ told. (script told).1;
    }

-- and that there is room for it
pub returns-clause-room : goal.returns-clause-room
returns-clause-room g c = subst (λ (script : Script). HasRoomFor c.in-Ok-with_room_for.room script) (sym c.in-Ok-serve.ensures.requests) c.in-Ok-with_room_for.ensures
