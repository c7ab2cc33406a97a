use Rattle.std.specs.List.{AllByRecursion}
use Rattle.vdo_model.specs.Scripts.{IsServed}
use Rattle.core_tests.proofs.Served.{one_more, each_named}
use Rattle.core_tests.proofs.asks.requests_of.Goals as goal

pub loop-stream-preserved : goal.loop-stream-preserved
loop-stream-preserved c = one_more (λ requests. AllByRecursion IsServed requests.items) _ _ _ c.in_ok-push.ensures c.loop-stream.invariant c.in_ok-requests.ensures

pub returns : goal.returns
returns c = rw c.of_streams.ensures (each_named (λ requests. requests.items) (AllByRecursion IsServed) _ c.loop-stream.invariant)
