use Rattle.map_zone.proofs.OneLaws.{call_one, looked_one, low_one, out_one, page_or_none}
use Rattle.map_zone.proofs.laws.a_call_has_one_result.Goals as goal

pub returns-clause-after : goal.returns-clause-after
returns-clause-after c = call_one

pub returns-clause-looked : goal.returns-clause-looked
returns-clause-looked c = looked_one

pub returns-clause-out : goal.returns-clause-out
returns-clause-out c = out_one

pub returns-clause-none : goal.returns-clause-none
returns-clause-none c = page_or_none

pub returns-clause-low : goal.returns-clause-low
returns-clause-low c = low_one
