use Rattle.block_map_tree.proofs.HistoryLaws.{missing_linkable}
use Rattle.block_map_tree.proofs.laws.a_missing_page_may_be_linked.Goals as goal

pub returns : goal.returns
returns c = missing_linkable
