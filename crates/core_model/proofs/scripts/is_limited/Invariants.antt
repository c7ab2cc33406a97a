use Rattle.std.proofs.Common.{◌≡◌, ◌≤◌, ◌+◌, length, drop}
use Rattle.core_model.specs.SessionLimits.{most_requests, requests_in}
use Rattle.plain_laws.specs.Sums.{total}
use Rattle.core_model.proofs.scripts.is_limited.Given as goal

abbrev pub invariant-loop-stream : goal.invariant-loop-stream
invariant-loop-stream l = (l.count + total length (drop l.stream l.requests) ≡ requests_in l.requests) × (l.count ≤ most_requests)
