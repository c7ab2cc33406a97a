use Rattle.std.proofs.Common.{◌∙◌, ◌∷◌, ap}
use Rattle.vdo_model.specs.declared.report.Placed.{Placed}
use Rattle.core_model.specs.LogicalData.{LogicalZone}
use Rattle.core_model.specs.LogicalRules.{is_among}
use Rattle.data_vio.specs.Vios.{turned}
use Rattle.data_vio.specs.declared.items.Phase.TheVariants as phase
use Rattle.data_vio.specs.declared.items.Vio.{Vio}
use Rattle.core_model.proofs.LockLaws.{asked, has_room}
use Rattle.core_model.proofs.logical.LogicalZone.ask.Goals as goal

pub ask-requires : goal.ask-requires
ask-requires c = has_room c.self.inside.zone c.self.inside.notified c.self.inside.retired c.self.inside.tree c.self.inside.making c.self.inside.lacking c.self.inside.unlinkable c.self.inside.settling.items c.self.inside.reported.items c.self.inside.slots c.self.inside.places c.self.inside.locks
    c.args.self.now c.self.view_is c.self.invariant.room c.requires.within

pub invariant_of-self : goal.invariant_of-self
invariant_of-self c =
    let is = asked c.self.inside.zone c.self.inside.notified c.self.inside.retired c.self.inside.tree c.self.inside.making c.self.inside.lacking c.self.inside.unlinkable c.self.inside.settling.items c.self.inside.reported.items c.self.inside.slots c.self.inside.places c.push.new.self
    c.self.inside.locks c.ask.new.self c.args.vio c.turn.result c.next-place.result c.ask.result.0 c.next-place.ensures c.ask.ensures.place
    (c.turn.ensures ∙ ap (turned phase.Wait) c.draw.ensures) (c.push.ensures ∙ ap (λ (p : Placed). p ∷ c.self.inside.places) c.placed.ensures)
    c.self.invariant.own c.self.invariant.free (ap (λ (l : LogicalZone). is_among c.args.vio.at.0 l.retired) c.self.view_is ∙ c.requires.alive) c.get.result.now.at (ap (λ (v : Vio). v.at) c.get.ensures) c.args.self.now c.self.view_is
    c.ask.result.1 c.ask.ensures.taken c.ask.ensures.waits in
    record { room = is.room ∙ c.self.invariant.room; own = is.is_own; free = is.is_free; settling = c.self.invariant.settling; reported = c.self.invariant.reported }

pub returns-clause-taken : goal.returns-clause-taken
returns-clause-taken c =
    (asked c.self.inside.zone c.self.inside.notified c.self.inside.retired c.self.inside.tree c.self.inside.making c.self.inside.lacking c.self.inside.unlinkable c.self.inside.settling.items c.self.inside.reported.items c.self.inside.slots c.self.inside.places c.push.new.self
    c.self.inside.locks c.ask.new.self c.args.vio c.turn.result c.next-place.result c.ask.result.0 c.next-place.ensures c.ask.ensures.place
    (c.turn.ensures ∙ ap (turned phase.Wait) c.draw.ensures) (c.push.ensures ∙ ap (λ (p : Placed). p ∷ c.self.inside.places) c.placed.ensures)
    c.self.invariant.own c.self.invariant.free (ap (λ (l : LogicalZone). is_among c.args.vio.at.0 l.retired) c.self.view_is ∙ c.requires.alive) c.get.result.now.at (ap (λ (v : Vio). v.at) c.get.ensures) c.args.self.now c.self.view_is
    c.ask.result.1 c.ask.ensures.taken c.ask.ensures.waits).taken

pub returns-clause-waits : goal.returns-clause-waits
returns-clause-waits c =
    (asked c.self.inside.zone c.self.inside.notified c.self.inside.retired c.self.inside.tree c.self.inside.making c.self.inside.lacking c.self.inside.unlinkable c.self.inside.settling.items c.self.inside.reported.items c.self.inside.slots c.self.inside.places c.push.new.self
    c.self.inside.locks c.ask.new.self c.args.vio c.turn.result c.next-place.result c.ask.result.0 c.next-place.ensures c.ask.ensures.place
    (c.turn.ensures ∙ ap (turned phase.Wait) c.draw.ensures) (c.push.ensures ∙ ap (λ (p : Placed). p ∷ c.self.inside.places) c.placed.ensures)
    c.self.invariant.own c.self.invariant.free (ap (λ (l : LogicalZone). is_among c.args.vio.at.0 l.retired) c.self.view_is ∙ c.requires.alive) c.get.result.now.at (ap (λ (v : Vio). v.at) c.get.ensures) c.args.self.now c.self.view_is
    c.ask.result.1 c.ask.ensures.taken c.ask.ensures.waits).waits
