use Rattle.std.proofs.lemmas.Result.{IfOk-weaker}
use Rattle.format_guards.proofs.CountFacts.{applied_none, applied_upto}
use Rattle.format_guards.proofs.counts.an_update_raises_the_point_of_its_sector.Goals as goal

pub returns : goal.returns
returns c = record {
  raised = IfOk-weaker _ _ _ (λ applied are. applied_upto _ _ _ _ are c.requires) c.applied_points.ensures;
  others = IfOk-weaker _ _ _ (λ applied are. applied_none _ _ _ _ are c.requires) c.applied_points.ensures;
}
