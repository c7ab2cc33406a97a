use Rattle.std.proofs.Common.{◌≡◌, ◌<◌, length, arith, refl}
use Rattle.blk_base.specs.Counters.{sectors_per_slab}
use Rattle.slab_reading.proofs.TakeLaws.{more_counters, sector_read}
use Rattle.slab_reading.proofs.slab_parts.push_counters.Goals as goal

pub loop-n-preserved : goal.loop-n-preserved
loop-n-preserved c =
    let was = c.loop-n.invariant in
    let g = c.args.layout.now.geometry in
    let below : c.loop-n.n < sectors_per_slab g = omega (arith, c.loop-n-test.true, c.sectors_per_slab-n-end.ensures) in
    let width : length c.reference_sector-sector.result.counters ≡ 504 = omega (arith, c.reference_sector-sector.type_inv) in
    let inside = sector_read g c.loop-n.n _ below c.requires in
    record {
      left = omega (arith, was.left, c.min-count.ensures, width);
      adds = rw c.in_ok-extend_from_slice.ensures.items (more_counters g c.args.read.now c.loop-n.n _ _ c.min-count.result _ _ c.index-read-n.result c.reference_sector-sector.result _ _
          refl refl inside c.index-read-n.is c.reference_sector-sector.ensures (omega (arith, c.min-count.ensures, width)) (omega (arith, c.min-count.ensures, width))
          (omega (arith, was.left, below)) (omega (arith, was.left, c.min-count.ensures, width)) was.adds);
    }
