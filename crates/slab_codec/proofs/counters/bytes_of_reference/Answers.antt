use Rattle.slab_codec.specs.Reference.{reference_sector_bytes}
use Rattle.std.proofs.lemmas.Grind.{common_steps}
use Rattle.std.proofs.Common.{arith}
use Rattle.slab_codec.proofs.counters.bytes_of_reference.Goals as goal

pub returns : goal.returns
unfolding reference_sector_bytes
returns c = grind (arith, common_steps)
