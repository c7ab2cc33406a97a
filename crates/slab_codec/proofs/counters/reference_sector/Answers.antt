use Rattle.std.proofs.Common.{ℕ, ◌≡◌, ◌∙◌, ◌+◌, ◌*◌, ◌-◌, take, drop, ap, sym, arith}
use Rattle.blk_base.specs.Sectors.{sector}
use Rattle.slab_codec.proofs.counters.reference_sector.Goals as goal

pub returns : goal.returns
returns c =
    let start = 512 * c.args.i in
    let width : start + 512 - start ≡ 512 = omega arith in
    ap (sector c.args.i) (sym c.block.view_is) ∙ sym (ap (λ (n : ℕ). take n (drop start c.block.inside.bytes)) width) ∙ c.read_reference.ensures
