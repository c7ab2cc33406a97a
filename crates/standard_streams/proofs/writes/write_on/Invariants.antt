use Rattle.std.proofs.Common.{◌≤◌, length, take}
use Rattle.std.specs.Io.KnownBytes.{Appends}
use Rattle.standard_streams.proofs.writes.write_on.Given as goal

abbrev pub invariant-loop : goal.invariant-loop
invariant-loop g l = (l.done ≤ length l.bytes) × Appends (g.W.Write.contents l.initial.out) (g.W.Write.contents l.out) (take l.done l.bytes)
