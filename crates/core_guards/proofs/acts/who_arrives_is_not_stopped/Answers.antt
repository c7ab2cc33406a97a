use Rattle.std.proofs.Common.{refl}
use Rattle.core_model.specs.LogicalRules.LogicalServes.{arrives_free, arrives_held}
use Rattle.core_model.specs.Steps.Act.{serves}
use Rattle.core_guards.proofs.ZoneActs.{logical_does}
use Rattle.core_guards.proofs.acts.who_arrives_is_not_stopped.Goals as goal

pub returns-clause-free : goal.returns-clause-free
returns-clause-free c = λ free.
    (logical_does _ _ _ _ _ _ _ _ c.act.ensures (serves (arrives_free c.requires.arrives c.requires.released free refl refl refl))).1

pub returns-clause-held : goal.returns-clause-held
returns-clause-held c = λ held.
    (logical_does _ _ _ _ _ _ _ _ c.act.ensures (serves (arrives_held c.requires.arrives c.requires.released held refl refl refl))).1
