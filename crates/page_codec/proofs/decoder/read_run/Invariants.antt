use Rattle.page_codec.specs.Runs.{AreReadTo}
use Rattle.page_codec.proofs.decoder.read_run.Given as goal

-- the slots in front are read
abbrev pub invariant-loop-slot : goal.invariant-loop-slot
invariant-loop-slot l = AreReadTo l.want l.bytes l.slot l.into
