use Rattle.std.proofs.Common.{◌≡◌, ◌+◌, drop}
use Rattle.core_model.specs.SessionLimits.{asks_read, reads_in}
use Rattle.plain_laws.specs.Sums.{total}
use Rattle.core_model.proofs.scripts.count_reads.Given as goal

abbrev pub invariant-loop-stream : goal.invariant-loop-stream
invariant-loop-stream l = l.count + total (total asks_read) (drop l.stream l.requests) ≡ reads_in l.requests
