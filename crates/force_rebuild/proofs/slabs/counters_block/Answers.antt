use Rattle.std.proofs.Common.{ap, ◌∙◌}
use Rattle.slab_codec.specs.Reference.{reference_bytes}
use Rattle.force_rebuild.specs.Written.{counted_block}
use Rattle.force_rebuild.proofs.slabs.counters_block.Goals as goal

pub returns : goal.returns
unfolding counted_block
returns c = c.encode_reference.ensures.bytes ∙ ap reference_bytes c.sectors_of-sectors.ensures
