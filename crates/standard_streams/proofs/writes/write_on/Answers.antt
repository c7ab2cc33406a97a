use Rattle.std.proofs.Common.{arith, take}
use Rattle.std.proofs.lemmas.List.{take_rest}
use Rattle.standard_streams.proofs.WriteLaws.{appends-more, appends-same}
use Rattle.standard_streams.proofs.writes.write_on.Goals as goal
use Rattle.standard_streams.proofs.writes.write_on.Goals.{in-Ok, in-Err}

pub loop-preserved : goal.loop-preserved
loop-preserved g c = elim c.match-write.branch [
  | in-Ok w ↦
      let more = appends-more _ _ _ c.loop.done _ c.args.bytes.now c.loop.invariant.1 (rw (take_rest c.args.bytes.now c.loop.done) at w.in-Ok.ensures.bytes) in
      (omega (arith, w.done-is, w.in-Ok.ensures.bound, c.if-done-bytes.false), rw w.done-is more)
  | in-Err w ↦
      (omega (arith, w.done-is, c.loop.invariant.0), rw w.done-is (appends-same _ _ _ (take c.loop.done c.args.bytes.now) c.loop.invariant.1 w.in-Err.ensures.bytes))
]
