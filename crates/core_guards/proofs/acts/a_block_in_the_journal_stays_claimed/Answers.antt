use Rattle.std.proofs.Common.{refl}
use Rattle.core_model.specs.PhysicalRules.PhysicalServes.{spends}
use Rattle.core_model.specs.Steps.Act.{takes}
use Rattle.core_guards.proofs.ZoneActs.{physical_does}
use Rattle.core_guards.proofs.acts.a_block_in_the_journal_stays_claimed.Goals as goal

pub returns : goal.returns
returns c =
    let does = physical_does _ _ _ _ _ _ _ _ c.act.ensures (takes (spends c.requires.aborted refl refl refl)) in
    does.0
