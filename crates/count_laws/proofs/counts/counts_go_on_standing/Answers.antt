use Rattle.count_laws.proofs.KeepLaws.{counts_after_write, counts_begin, counts_grow, counts_kept, counts_with_more, counts_with_window}
use Rattle.count_laws.proofs.counts.counts_go_on_standing.Goals as goal

pub returns : goal.returns
returns c = record {
  begin = λ opening log opened room one closed. counts_begin opening log opened room one closed.updates;
  newer = λ opening log opened newer entries window from pointed before stand. counts_grow opening log opened newer entries window from pointed before stand;
  more = counts_with_more;
  other = counts_with_window;
  missed = counts_kept;
  written = λ opening log opened entries window at bytes ok may stand. counts_after_write opening log opened entries window at bytes ok may stand;
}
