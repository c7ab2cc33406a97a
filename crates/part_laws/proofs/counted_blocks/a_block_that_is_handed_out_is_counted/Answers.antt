use Rattle.std.proofs.Common.{refl}
use Rattle.reference_blocks.specs.Updates.{updates_of}
use Rattle.part_laws.proofs.TakenLaws.{block_counted}
use Rattle.part_laws.proofs.counted_blocks.a_block_that_is_handed_out_is_counted.Goals as goal

pub returns : goal.returns
returns c = λ opened entries slab points first calls old new bytes block sized lead has in_slab runs low did.
    block_counted opened entries slab points first (updates_of calls) has in_slab runs low calls old new bytes block sized lead refl did
