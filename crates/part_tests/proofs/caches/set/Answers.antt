use Rattle.std.proofs.Common.{◌+◌, ◌%◌, sym, subst, arith}
use Rattle.blk_base.specs.declared.geometry.Geometry.{Geometry}
use Rattle.blk_base.specs.Regions.{IsDataBlock}
use Rattle.part_tests.proofs.caches.set.Goals as goal

pub set-requires-clause-held : goal.set-requires-clause-held
set-requires-clause-held c = (
  subst (λ (g : Geometry). IsDataBlock g (85 + c.args.block % 64)) (sym c.requires)
      (record { slab = 0; offset = c.args.block % 64; inside = (omega arith, omega arith); stands = omega arith }),
  omega arith,
)
