use Rattle.std.proofs.Common.{rules, ◌≡◌, ◌<◌, Some, length, slice_get, refl}
use Rattle.std.proofs.lemmas.Option.{slice_get_read}
use Rattle.vdo_core.proofs.PlayLaws.{step_of}
use Rattle.vdo_core.proofs.events.step.Goals as goal

pub step_with-requires-clause-can : goal.step_with-requires-clause-can
step_with-requires-clause-can g c =
    let item = c.in-Some.ensures.item in
    let within : c.args.number < length c.zones.inside.zones.items = search rules in
    let had : slice_get c.zones.inside.zones.items c.args.number ≡ Some c.in-Some.zone.now = slice_get_read _ _ _ _ refl within item.1 in
    c.requires.can c.args.number c.in-Some.zone.now (rw (← c.zones.view_is) had)

pub returns-in-Some-clause-steps : goal.returns-in-Some-clause-steps
returns-in-Some-clause-steps g c =
    let item = c.in-Some.ensures.item in
    let within : c.args.number < length c.zones.inside.zones.items = search rules in
    let had : slice_get c.zones.inside.zones.items c.args.number ≡ Some c.in-Some.zone.now = slice_get_read _ _ _ _ refl within item.1 in
    rw (← c.zones.view_is) (step_of g.D.Disk.trust c.args.sizes.now c.args.number c.zones.inside.zones.items c.in-Some.zone.now c.step_with.new.zone _ _ c.step_with.result had c.step_with.ensures.steps)
