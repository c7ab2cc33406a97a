use Rattle.slab_codec.proofs.ReadLaws.{one_reading}
use Rattle.slab_codec.proofs.CounterLaws.{sector_injective}
use Rattle.slab_codec.proofs.laws.bytes_have_one_reading.Goals as goal

pub returns-clause-counters : goal.returns-clause-counters
returns-clause-counters c = sector_injective

pub returns-clause-entries : goal.returns-clause-entries
returns-clause-entries c = one_reading
