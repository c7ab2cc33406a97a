use Rattle.std.proofs.Common.{sym, ◌∙◌}
use Rattle.lane_kernels.proofs.ZeroLaws.{zero_block-of, All-zero_block}
use Rattle.lane_kernels.proofs.is_zero.Goals as goal

pub returns-clause-block : goal.returns-clause-block
returns-clause-block c = (
  (λ yes. sym c.block.view_is ∙ zero_block-of c.block.inside.bytes c.block.told (c.are_all_zeros.ensures.0 yes)),
  (λ same. c.are_all_zeros.ensures.1 (All-zero_block c.block.inside.bytes (c.block.view_is ∙ same))),
)
