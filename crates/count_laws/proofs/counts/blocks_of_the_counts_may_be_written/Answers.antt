use Rattle.count_laws.proofs.MayLaws.{may_write_counters, may_write_journal}
use Rattle.count_laws.proofs.counts.blocks_of_the_counts_may_be_written.Goals as goal

pub returns : goal.returns
returns c = record {
  counters = may_write_counters;
  journal = may_write_journal;
}
