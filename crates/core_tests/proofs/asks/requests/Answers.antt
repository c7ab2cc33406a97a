use Rattle.vdo_model.specs.Scripts.{IsServed}
use Rattle.core_tests.proofs.Served.{one_more}
use Rattle.core_tests.proofs.asks.requests.Goals as goal

pub loop-ask-preserved : goal.loop-ask-preserved
loop-ask-preserved c = one_more IsServed _ _ _ c.in_ok-push.ensures c.loop-ask.invariant c.in_ok-request.ensures
