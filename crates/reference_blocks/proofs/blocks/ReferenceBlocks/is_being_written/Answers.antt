use Rattle.std.proofs.Common.{◌∙◌, ap, is_some}
use Rattle.dirty_pages.specs.declared.dirty_points.DirtyPoints.{DirtyPoints}
use Rattle.dirty_pages.specs.DirtyPoints.{dirty_points_at}
use Rattle.reference_blocks.specs.References.{References}
use Rattle.reference_blocks.proofs.OutLaws.{writing_tells}
use Rattle.reference_blocks.proofs.blocks.ReferenceBlocks.is_being_written.Goals as goal

pub returns-then-block-from : goal.returns-then-block-from
returns-then-block-from c =
    let same = c.dirty_points.ensures ∙ ap (λ (r : References). dirty_points_at r.blocks c.args.block) c.self.view_is in
    writing_tells (dirty_points_at c.args.self.now.blocks c.args.block) c.is_some.result (c.is_some.ensures ∙ ap (λ (m : DirtyPoints). is_some m.writing) same)
