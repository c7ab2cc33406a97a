use Rattle.std.proofs.Common.{◌≡◌, ◌+◌, ◌<◌, length, arith}
use Rattle.blk_base.specs.Regions.{references_of}
use Rattle.slab_reading.proofs.TakeLaws.{slot_more}
use Rattle.slab_reading.proofs.slab_parts.push_updates.Goals as goal

pub loop-slot-preserved : goal.loop-slot-preserved
loop-slot-preserved c =
    let g = c.args.layout.now.geometry in
    let place : c.references-references.result + c.loop-slot.slot ≡ references_of g + c.loop-slot.slot = omega (arith, c.references-references.ensures) in
    let inside : c.references-references.result + c.loop-slot.slot < length c.args.read.now = omega (arith, place, c.requires.all, c.loop-slot-test.true) in
    slot_more g _ c.args.read.now c.loop-slot.slot _ c.index-read-references.result _ _ _ place inside c.index-read-references.is c.loop-slot.invariant c.in_ok-push_block.ensures
