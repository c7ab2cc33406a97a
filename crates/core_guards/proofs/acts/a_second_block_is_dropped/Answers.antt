use Rattle.std.proofs.Common.{ap, refl}
use Rattle.core_model.specs.PhysicalRules.PhysicalServes.{drops_block}
use Rattle.core_model.specs.Steps.Act.{takes}
use Rattle.core_model.specs.declared.zones.PhysicalZone.{PhysicalZone}
use Rattle.core_guards.proofs.ZoneActs.{physical_does}
use Rattle.core_guards.proofs.acts.a_second_block_is_dropped.Goals as goal

pub returns : goal.returns
returns c = λ k others x y begun between z has some begins from claim change.
    let does = physical_does _ _ _ _ _ _ _ _ c.act.ensures (takes (drops_block k others x y begun between z c.requires.withdraws has some begins from claim change refl refl refl)) in
    (ap (λ (p : PhysicalZone). p.counts) does.0, does.1)
