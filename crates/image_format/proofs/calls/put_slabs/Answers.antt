use Rattle.std.proofs.Common.{arith}
use Rattle.image_format.specs.Calls.{slab_calls}
use Rattle.image_format.proofs.RunLaws.{is_failed, turn_failed}
use Rattle.image_format.proofs.calls.put_slabs.Goals as goal

pub put_slab-requires-clause-room : goal.put_slab-requires-clause-room
put_slab-requires-clause-room g c = omega (arith, c.requires, c.loop-slab.invariant.stays.size)

pub returns-in_err-put_slab : goal.returns-in_err-put_slab
returns-in_err-put_slab g c =
    let sizes = c.args.layout.now.geometry in
    is_failed _ _ _ _ c.from_residual.result c.from_residual.ensures.0
    (turn_failed _ _ _ _ (slab_calls sizes) c.loop-slab.slab sizes.slabs c.loop-slab-test.true c.loop-slab.invariant c.in_err-put_slab.ensures)
