use Rattle.std.specs.List.{AllByRecursion}
use Rattle.vdo_model.specs.Scripts.{IsServed}
use Rattle.core_tests.proofs.asks.requests.Given as goal

abbrev pub invariant-loop-ask : goal.invariant-loop-ask
invariant-loop-ask l = AllByRecursion IsServed l.requests.items
