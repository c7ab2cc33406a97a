use Rattle.std.proofs.Common.{ap, refl}
use Rattle.core_model.specs.LogicalData.{LogicalZone}
use Rattle.core_model.specs.LogicalRules.LogicalServes.{makes_page}
use Rattle.core_model.specs.Steps.Act.{serves}
use Rattle.core_guards.proofs.ZoneActs.{logical_does}
use Rattle.core_guards.proofs.acts.a_page_is_made_before_it_is_linked.Goals as goal

pub returns : goal.returns
returns c = λ page lacks linkable unmade.
    let does = logical_does _ _ _ _ _ _ _ _ c.act.ensures (serves (makes_page page c.requires.looks c.requires.path lacks linkable unmade refl refl refl)) in
    (ap (λ (l : LogicalZone). l.tree) does.0, does.1)
