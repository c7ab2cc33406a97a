use Rattle.std.proofs.Common.{reverse, take}
use Rattle.disk_model.specs.PickParts.{AreWritten}
use Rattle.disk_model.proofs.picks.write_blocks.Given as goal

abbrev pub invariant-loop-call : goal.invariant-loop-call
invariant-loop-call l = AreWritten l.opening (reverse (take l.call-index l.calls)) l.blocks.items
