use Rattle.std.proofs.Common.{ap, refl}
use Rattle.core_model.specs.PhysicalRules.PhysicalServes.{drops}
use Rattle.core_model.specs.Steps.Act.{takes}
use Rattle.core_model.specs.declared.zones.PhysicalZone.{PhysicalZone}
use Rattle.core_guards.proofs.ZoneActs.{physical_does}
use Rattle.core_guards.proofs.acts.the_claim_of_an_aborted_write_is_dropped.Goals as goal

pub returns : goal.returns
returns c = λ x z some claim change.
    let does = physical_does _ _ _ _ _ _ _ _ c.act.ensures (takes (drops x z c.requires.aborted some claim change refl refl refl)) in
    ap (λ (p : PhysicalZone). p.counts) does.0
