use Rattle.std.proofs.Common.{ℕ, ◌*◌, ap, arith}
use Rattle.std.proofs.lemmas.Nat.{row_fits}
use Rattle.blk_base.specs.Regions.{slab_stride_of}
use Rattle.blk_base.proofs.layout.Layout.slab_start.Goals as goal

pub returns-clause-inside : goal.returns-clause-inside
returns-clause-inside c =
    let g = c.args.self.now.geometry in
    let stride = ap (λ (t : ℕ). c.args.slab * t) c.slab_stride.ensures.stride in
    omega (arith, stride, row_fits c.args.slab (slab_stride_of g) g.slabs (slab_stride_of g) (omega arith) (omega arith))
