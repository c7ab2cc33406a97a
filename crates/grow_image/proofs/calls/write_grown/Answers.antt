use Rattle.std.proofs.Common.{◌-◌, arith}
use Rattle.image_format.specs.Calls.{closing_calls}
use Rattle.image_format.proofs.RunLaws.{failed_before, is_failed, then_made}
use Rattle.grow_image.specs.Calls.{new_slabs}
use Rattle.grow_image.proofs.calls.write_grown.Goals as goal

pub returns-in_err-put_slabs : goal.returns-in_err-put_slabs
returns-in_err-put_slabs g c =
    let sizes = c.args.layout.now.geometry in
    is_failed _ _ _ _ c.from_residual.result c.from_residual.ensures.0
    (failed_before _ _ _ (new_slabs sizes c.args.first (sizes.slabs - c.args.first)) (closing_calls sizes c.args.start) c.in_err-put_slabs.ensures)

pub returns : goal.returns
returns g c =
    let sizes = c.args.layout.now.geometry in
    then_made _ _ _ _ (new_slabs sizes c.args.first (sizes.slabs - c.args.first)) (closing_calls sizes c.args.start) c.close.result c.in_ok-put_slabs.ensures c.close.ensures

pub close-requires : goal.close-requires
close-requires g c = let size = c.in_ok-put_slabs.ensures.stays.size in let room = c.requires.room in omega (arith, size, room)
