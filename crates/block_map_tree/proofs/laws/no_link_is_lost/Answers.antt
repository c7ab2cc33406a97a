use Rattle.block_map_tree.proofs.HistoryLaws.{not_below, not_written, kept}
use Rattle.block_map_tree.proofs.laws.no_link_is_lost.Goals as goal

pub returns-clause-low : goal.returns-clause-low
returns-clause-low c = not_below

pub returns-clause-some : goal.returns-clause-some
returns-clause-some c = not_written

pub returns-clause-kept : goal.returns-clause-kept
returns-clause-kept c = kept
