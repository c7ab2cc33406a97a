use Rattle.std.proofs.Common.{◌≡◌}
use Rattle.stream_text.specs.StreamRequests.{with_requests, discards}
use Rattle.stream_text.proofs.streams.Streams.push_discards.Given as goal

abbrev pub invariant-loop-number : goal.invariant-loop-number
invariant-loop-number l = l.self ≡ with_requests l.initial.self l.stream (discards l.at l.number)
