use Rattle.std.proofs.Common.{ap, refl}
use Rattle.core_model.specs.PhysicalRules.PhysicalServes.{asks}
use Rattle.core_model.specs.Steps.Act.{takes}
use Rattle.core_model.specs.declared.zones.PhysicalZone.{PhysicalZone}
use Rattle.core_guards.proofs.ZoneActs.{physical_does}
use Rattle.core_guards.proofs.acts.who_finds_no_block_has_a_ticket.Goals as goal

pub returns : goal.returns
returns c = λ k begun z fewer begins gives.
    let does = physical_does _ _ _ _ _ _ _ _ c.act.ensures (takes (asks k begun z c.requires.claims fewer begins gives refl refl refl)) in
    (ap (λ (p : PhysicalZone). p.counts) does.0, does.1)
