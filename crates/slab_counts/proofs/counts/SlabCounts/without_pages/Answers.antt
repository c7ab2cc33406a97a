use Rattle.std.proofs.Common.{refl, arith, ap, ◌≡◌}
use Rattle.blk_base.specs.Regions.{slab_start_of}
use Rattle.blk_base.specs.declared.geometry.Geometry.{Geometry}
use Rattle.slab_counts.proofs.OpeningLaws.{none_yet}
use Rattle.slab_counts.proofs.counts.SlabCounts.without_pages.Goals as goal

pub returns-clause-opening : goal.returns-clause-opening
returns-clause-opening c = record {
  geometry = c.of-layout.ensures;
  slab = refl;
  counters = c.in_ok-counters.ensures;
  claims = c.in_ok-claims.ensures;
  pages = λ at here.
      let start : c.data_block-start.result.0 ≡ slab_start_of c.of-layout.result.geometry c.args.slab = omega (arith, c.data_block-start.ensures.block) in
      let size = ap (λ (g : Geometry). g.slab_blocks) c.of-layout.ensures in
      none_yet c.in_ok-pages.pages.items c.args.geometry.now.slab_blocks _ at c.in_ok-pages.ensures (omega (arith, start, size, here));
}
