use Rattle.blk_base.specs.Counters.{counters_per_sector}
use Rattle.slab_codec.proofs.CounterLaws.{counter_at}
use Rattle.slab_codec.proofs.laws.a_counter_stands_at_its_place.Goals as goal

pub returns : goal.returns
returns c g counters n k lt = counter_at (counters_per_sector g) counters n k lt
