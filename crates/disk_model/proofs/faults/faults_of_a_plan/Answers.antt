use Rattle.disk_model.proofs.PlanLaws.{named-counted_all, takes_effect-counted_all}
use Rattle.disk_model.proofs.faults.faults_of_a_plan.Goals as goal

pub returns : goal.returns
returns c = record { names = named-counted_all; effect = takes_effect-counted_all }
