use Rattle.std.proofs.Common.{List, ℕ, ◌∙◌, ◌-◌, ◌*◌, ◌++◌, take, drop, ap, ap₂, arith}
use borrow.Rule.Slice.PartMut.{Post-is}
use Rattle.blk_base.specs.declared.point.Point.{Point}
use Rattle.reference_blocks.proofs.image.keep_sectors.Goals as goal

pub returns : goal.returns
returns c =
    let first = 8 * c.args.block in
    let points = c.args.points.now in
    let old = c.args.into.now in
    ap₂ (λ (ys zs : List Point). take first old ++ (ys ++ zs)) c.copy_from_slice.ensures.after (Post-is first c.min-end.result old (omega arith))
    ∙ ap (λ (end : ℕ). take first old ++ (take (end - first) (drop first points) ++ drop end old)) c.min-end.ensures
