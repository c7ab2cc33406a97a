use Rattle.std.proofs.Common.{arith, refl}
use Rattle.slab_reading.proofs.TakeLaws.{one_point, sector_read}
use Rattle.slab_reading.proofs.slab_parts.push_points.Goals as goal

pub loop-n-preserved : goal.loop-n-preserved
loop-n-preserved c =
    let inside = sector_read c.args.layout.now.geometry c.loop-n.n _ (omega (arith, c.loop-n-test.true, c.sectors_per_slab-n-end.ensures)) c.requires in
    rw c.in_ok-push.ensures.items (one_point c.args.read.now c.loop-n.n _ _ c.index-read-n.result c.reference_sector-sector.result _ _ refl refl
    inside c.index-read-n.is (omega (arith, c.reference_sector-sector.type_inv)) c.reference_sector-sector.ensures c.loop-n.invariant)
