use Rattle.block_map_tree.proofs.OneLaws.{call_one, out_one, page_or_none}
use Rattle.block_map_tree.proofs.laws.a_call_has_one_result.Goals as goal

pub returns-clause-after : goal.returns-clause-after
returns-clause-after c = call_one

pub returns-clause-out : goal.returns-clause-out
returns-clause-out c = out_one

pub returns-clause-none : goal.returns-clause-none
returns-clause-none c = page_or_none
