use Rattle.sector_records.proofs.SectorLaws.{all_records}
use Rattle.slab_codec.proofs.ReadLaws.{written}
use Rattle.slab_codec.proofs.CounterLaws.{written_counters}
use Rattle.slab_codec.proofs.laws.what_is_written_is_read.Goals as goal

pub returns-clause-counters : goal.returns-clause-counters
returns-clause-counters c = written_counters

pub returns-clause-sectors : goal.returns-clause-sectors
returns-clause-sectors c nonce slab slab_blocks s es i holds lt = written nonce slab slab_blocks s es i holds lt

pub returns-clause-entries : goal.returns-clause-entries
returns-clause-entries c es few = all_records 40 es few
