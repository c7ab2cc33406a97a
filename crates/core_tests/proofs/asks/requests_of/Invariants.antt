use Rattle.std.specs.List.{AllByRecursion}
use Rattle.vdo_model.specs.Scripts.{IsServed}
use Rattle.core_tests.proofs.asks.requests_of.Given as goal

abbrev pub invariant-loop-stream : goal.invariant-loop-stream
invariant-loop-stream l = AllByRecursion (λ requests. AllByRecursion IsServed requests.items) l.streams.items
