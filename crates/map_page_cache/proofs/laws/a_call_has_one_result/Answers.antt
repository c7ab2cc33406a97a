use Rattle.map_page_cache.proofs.OneLaws.{call_one, frame_or_none, out_one, page_or_none}
use Rattle.map_page_cache.proofs.laws.a_call_has_one_result.Goals as goal

pub returns-clause-after : goal.returns-clause-after
returns-clause-after c = call_one

pub returns-clause-out : goal.returns-clause-out
returns-clause-out c = out_one

pub returns-clause-none : goal.returns-clause-none
returns-clause-none c = page_or_none

pub returns-clause-refused : goal.returns-clause-refused
returns-clause-refused c = frame_or_none
