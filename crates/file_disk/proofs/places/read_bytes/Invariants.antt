use Rattle.std.proofs.Common.{◌≡◌, ◌≤◌, length}
use Rattle.file_disk.specs.FileReads.{IsReadTo}
use Rattle.file_disk.proofs.places.read_bytes.Given as goal

abbrev pub invariant-loop : goal.invariant-loop
invariant-loop g l = (length l.into ≡ length l.initial.into) × (l.filled ≤ length l.into) × IsReadTo g.F.ByteFile.trust (g.F.ByteFile.seen l.initial.file) (g.F.ByteFile.seen l.file) l.offset l.into l.filled
