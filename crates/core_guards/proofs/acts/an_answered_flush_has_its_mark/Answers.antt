use Rattle.std.proofs.Common.{ap, refl}
use Rattle.core_model.specs.DeskData.{Desk}
use Rattle.core_model.specs.DeskRules.DeskServes.{marks}
use Rattle.core_model.specs.Steps.Act.{answers}
use Rattle.core_guards.proofs.ZoneActs.{desk_does}
use Rattle.core_guards.proofs.acts.an_answered_flush_has_its_mark.Goals as goal

pub returns : goal.returns
returns c =
    let does = desk_does _ _ _ _ _ _ _ _ c.act.ensures (answers (marks c.requires.comes c.requires.flush c.requires.answer refl refl refl)) in
    ap (λ (d : Desk). d.marks) does.0
