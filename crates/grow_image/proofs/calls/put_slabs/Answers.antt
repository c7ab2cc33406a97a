use Rattle.std.proofs.Common.{ℕ, ◌+◌, ◌-◌, arith}
use Rattle.image_format.specs.Calls.{slab_calls}
use Rattle.image_format.proofs.RunLaws.{is_failed, turn_failed, none_made, turn_made}
use Rattle.grow_image.specs.Calls.{new_slabs}
use Rattle.grow_image.proofs.calls.put_slabs.Goals as goal

pub put_slab-requires-clause-room : goal.put_slab-requires-clause-room
put_slab-requires-clause-room g c = omega (arith, c.requires.room, c.loop-i.invariant.stays.size)

pub loop-i-init : goal.loop-i-init
unfolding new_slabs
loop-i-init g c = none_made _ _

pub loop-i-preserved : goal.loop-i-preserved
unfolding new_slabs
loop-i-preserved g c =
    turn_made _ _ _ _ (λ (i : ℕ). slab_calls c.args.layout.now.geometry (c.args.first + i)) c.loop-i.i _ (omega arith) c.loop-i.invariant c.in_ok-put_slab.ensures

pub returns-in_err-put_slab : goal.returns-in_err-put_slab
unfolding new_slabs
returns-in_err-put_slab g c =
    let sizes = c.args.layout.now.geometry in
    is_failed _ _ _ _ c.from_residual.result c.from_residual.ensures.0
    (turn_failed _ _ _ _ (λ (i : ℕ). slab_calls sizes (c.args.first + i)) c.loop-i.i (sizes.slabs - c.args.first) c.loop-i-test.true c.loop-i.invariant c.in_err-put_slab.ensures)
