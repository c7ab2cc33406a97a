use Rattle.block_map_tree.proofs.HistoryLaws.{still_out}
use Rattle.block_map_tree.proofs.laws.a_page_is_out_until_it_is_written.Goals as goal

pub returns-clause-kept : goal.returns-clause-kept
returns-clause-kept c = still_out
