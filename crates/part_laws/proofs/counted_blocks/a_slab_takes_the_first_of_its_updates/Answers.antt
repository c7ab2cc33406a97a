use Rattle.part_laws.proofs.StreamLaws.{taken_of_stream}
use Rattle.part_laws.proofs.counted_blocks.a_slab_takes_the_first_of_its_updates.Goals as goal

pub returns : goal.returns
returns c = taken_of_stream
