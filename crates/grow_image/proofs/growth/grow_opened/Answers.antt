use Rattle.std.proofs.Common.{ℕ, ap, inl, inr, refl}
use Rattle.grow_image.proofs.OpenedLaws.{all_made, call_failed, passed_as}
use Rattle.grow_image.proofs.growth.grow_opened.Goals as goal

pub returns-in_err-layout : goal.returns-in_err-layout
returns-in_err-layout g c =
    passed_as _ c.args.opened.now c.args.logical c.args.slabs _ _ c.in_err-layout.field-0.0 c.from_residual.result c.from_residual.ensures.1
    (inl (rw c.blocks-2.ensures at c.in_err-layout.ensures.fault, refl))

pub returns-in_err-check_unmapped : goal.returns-in_err-check_unmapped
returns-in_err-check_unmapped g c =
    passed_as _ c.args.opened.now c.args.logical c.args.slabs _ _ c.in_err-check_unmapped.field-0.0 c.from_residual-in_err-check_unmapped.result
    c.from_residual-in_err-check_unmapped.ensures.1
    (inr (inl (rw c.blocks-2.ensures at c.in_ok-layout.ensures.can, c.in_err-check_unmapped.ensures.fault, c.check_unmapped.ensures.untouched)))

pub returns-in_default : goal.returns-in_default
returns-in_default g c =
    call_failed _ c.args.opened.now c.args.logical c.args.slabs _ _ (g.D.Disk.seen c.check_unmapped.new.device) c.in_ok-layout.layout.geometry c.in_ok-layout.ensures.planned
    (rw c.blocks-2.ensures at c.in_ok-layout.ensures.can) c.in_ok-check_unmapped.ensures.none (record {}) c.in_default.ensures

pub returns : goal.returns
returns g c =
    all_made _ c.args.opened.now c.args.logical c.args.slabs _ _ (g.D.Disk.seen c.check_unmapped.new.device) c.in_ok-layout.layout.geometry c.in_ok-layout.ensures.planned
    (rw c.blocks-2.ensures at c.in_ok-layout.ensures.can) c.in_ok-check_unmapped.ensures.none _ c.in-Ok.ensures
    (ap (λ (blocks : ℕ). record { blocks = blocks; slabs = c.args.slabs; slab_blocks = c.in_ok-layout.layout.geometry.slab_blocks; logical = c.args.logical }) c.needed.ensures)
