use Rattle.std.proofs.Common.{◌∙◌, ap}
use Rattle.core_model.specs.LogicalRules.{first_for, released}
use Rattle.core_model.specs.LogicalData.{LogicalZone}
use Rattle.core_model.proofs.LockLaws.{releases}
use Rattle.core_model.proofs.logical.LogicalZone.release.Goals as goal

pub invariant_of-self : goal.invariant_of-self
invariant_of-self c =
    let is = (releases c.self.inside.zone c.self.inside.notified c.self.inside.retired c.self.inside.tree c.self.inside.making c.self.inside.lacking c.self.inside.unlinkable c.self.inside.settling.items c.self.inside.reported.items c.self.inside.slots c.self.inside.places
    c.self.inside.locks c.release.new.self c.args.at c.self.invariant.own c.self.invariant.free c.release.result c.release.ensures.next c.release.ensures.none).1 in
    record { room = is.room ∙ c.self.invariant.room; own = is.own; free = is.free; settling = c.self.invariant.settling; reported = c.self.invariant.reported }

pub returns-clause-next : goal.returns-clause-next
returns-clause-next c =
    (releases c.self.inside.zone c.self.inside.notified c.self.inside.retired c.self.inside.tree c.self.inside.making c.self.inside.lacking c.self.inside.unlinkable c.self.inside.settling.items c.self.inside.reported.items c.self.inside.slots c.self.inside.places
    c.self.inside.locks c.release.new.self c.args.at c.self.invariant.own c.self.invariant.free c.release.result c.release.ensures.next c.release.ensures.none).0
    ∙ ap (λ (l : LogicalZone). first_for c.args.at.0 l.waiting) c.self.view_is

pub returns-clause-zone : goal.returns-clause-zone
returns-clause-zone c =
    (releases c.self.inside.zone c.self.inside.notified c.self.inside.retired c.self.inside.tree c.self.inside.making c.self.inside.lacking c.self.inside.unlinkable c.self.inside.settling.items c.self.inside.reported.items c.self.inside.slots c.self.inside.places
    c.self.inside.locks c.release.new.self c.args.at c.self.invariant.own c.self.invariant.free c.release.result c.release.ensures.next c.release.ensures.none).1.value
    ∙ ap (released c.args.at.0) c.self.view_is
