use Rattle.std.proofs.Common.{[], slice_index, take}
use Rattle.audit.specs.Tallies.{AreNumbers}
use Rattle.audit.proofs.tallies.mark_all.Given as goal

abbrev pub invariant-loop-link : goal.invariant-loop-link
invariant-loop-link l = AreNumbers l.layout.geometry (take l.link-index l.links) [] (slice_index l.counts)
