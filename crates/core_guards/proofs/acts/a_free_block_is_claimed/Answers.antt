use Rattle.std.proofs.Common.{ap, refl}
use Rattle.core_model.specs.PhysicalRules.PhysicalServes.{claims}
use Rattle.core_model.specs.Steps.Act.{takes}
use Rattle.core_model.specs.declared.zones.PhysicalZone.{PhysicalZone}
use Rattle.core_guards.proofs.ZoneActs.{physical_does}
use Rattle.core_guards.proofs.acts.a_free_block_is_claimed.Goals as goal

pub returns : goal.returns
returns c = λ x z gives.
    let does = physical_does _ _ _ _ _ _ _ _ c.act.ensures (takes (claims x z c.requires.claims gives refl refl refl)) in
    (ap (λ (p : PhysicalZone). p.counts) does.0, does.1)
