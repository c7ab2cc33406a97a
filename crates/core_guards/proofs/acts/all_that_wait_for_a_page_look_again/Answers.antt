use Rattle.std.proofs.Common.{refl}
use Rattle.core_model.specs.LogicalRules.LogicalServes.{unmakes}
use Rattle.core_model.specs.Steps.Act.{serves}
use Rattle.core_guards.proofs.ZoneActs.{logical_does}
use Rattle.core_guards.proofs.acts.all_that_wait_for_a_page_look_again.Goals as goal

pub returns : goal.returns
returns c = λ page makes. (logical_does _ _ _ _ _ _ _ _ c.act.ensures (serves (unmakes page c.requires.aborted makes refl refl refl))).1
