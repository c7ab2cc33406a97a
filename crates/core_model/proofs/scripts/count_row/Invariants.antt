use Rattle.std.proofs.Common.{◌≡◌, ◌≤◌, ◌+◌, drop}
use Rattle.core_model.specs.SessionLimits.{asks_read}
use Rattle.plain_laws.specs.Sums.{total}
use Rattle.core_model.proofs.scripts.count_row.Given as goal

abbrev pub invariant-loop-request : goal.invariant-loop-request
invariant-loop-request l = (l.count + total asks_read (drop l.request-index l.requests) ≡ total asks_read l.requests) × (l.count ≤ l.request-index)
