use Rattle.block_map_tree.proofs.HistoryLaws.{link_here, link_others}
use Rattle.block_map_tree.proofs.laws.a_link_adds_one_page.Goals as goal

pub returns-clause-here : goal.returns-clause-here
returns-clause-here c = link_here

pub returns-clause-others : goal.returns-clause-others
returns-clause-others c = link_others
