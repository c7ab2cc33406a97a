use Rattle.std.proofs.Common.{sym, subst}
use Rattle.core_model.specs.LogicalData.{LogicalZone}
use Rattle.core_model.specs.Waiters.{IsFree}
use Rattle.logical_zone.proofs.WaitingLaws.{emptied_free}
use Rattle.logical_zone.proofs.requests.abort_entered.Goals as goal

pub retire-requires-clause-free : goal.retire-requires-clause-free
retire-requires-clause-free c = subst (λ (l : LogicalZone). IsFree l.held l.waiting c.get-2.result.now.at.0) (sym c.stop_all.ensures.zone) (emptied_free c.get-2.result.now.at.0 c.args.zone.now)
