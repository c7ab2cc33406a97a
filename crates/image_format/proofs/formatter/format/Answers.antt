use Rattle.std.proofs.Common.{arith, refl, subst, ap}
use Rattle.blk_base.specs.Limits.{IsGeometry}
use Rattle.image_format.specs.Calls.{format_calls}
use Rattle.image_format.proofs.FormatLaws.{failed_stops, made_leaves, made_stops, refused_stops}
use Rattle.image_format.proofs.RunLaws.{failed_as, made_as}
use Rattle.image_format.proofs.formatter.format.Goals as goal

pub returns-in_err-layout-clause-stops : goal.returns-in_err-layout-clause-stops
returns-in_err-layout-clause-stops g c = λ told. refused_stops c.args.wanted.now (g.D.Disk.seen c.args.device.now) (g.D.Disk.seen c.args.device.now) refl

pub returns-in_err-make-clause-stops : goal.returns-in_err-make-clause-stops
returns-in_err-make-clause-stops g c = λ told.
    let planned = c.in_ok-layout.ensures.planned in
    failed_stops _ c.args.wanted.now _ _ (subst IsGeometry planned.0 c.in_ok-layout.layout.sizes) (omega arith) (g.met.D.Disk.told c.args.device.now told)
    (let room = c.in_ok-layout.ensures.room in let size = c.blocks-2.ensures in omega (arith, room, size)) told
    (failed_as _ _ _ _ _ (ap format_calls planned.0) c.in_err-make.ensures)

pub returns-clause-stops : goal.returns-clause-stops
returns-clause-stops g c = λ told.
    let planned = c.in_ok-layout.ensures.planned in
    made_stops _ c.args.wanted.now _ _ (subst IsGeometry planned.0 c.in_ok-layout.layout.sizes) (omega arith) (g.met.D.Disk.told c.args.device.now told)
    (let room = c.in_ok-layout.ensures.room in let size = c.blocks-2.ensures in omega (arith, room, size)) told
    (made_as _ _ _ _ _ (ap format_calls planned.0) c.in_ok-make.ensures)

pub returns-clause-made : goal.returns-clause-made
returns-clause-made g c = λ told.
    let planned = c.in_ok-layout.ensures.planned in
    made_leaves _ c.args.wanted.now _ _ (subst IsGeometry planned.0 c.in_ok-layout.layout.sizes) (omega arith) (g.met.D.Disk.told c.args.device.now told)
    (let room = c.in_ok-layout.ensures.room in let size = c.blocks-2.ensures in omega (arith, room, size)) told
    (made_as _ _ _ _ _ (ap format_calls planned.0) c.in_ok-make.ensures)
