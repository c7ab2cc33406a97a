use Rattle.zone_counts.proofs.FitLaws.{gives_or_none}
use Rattle.zone_counts.proofs.FreeBlocks.{can_ask, can_begin, can_change, can_withdraw}
use Rattle.zone_counts.proofs.laws.each_call_has_a_result.Goals as goal

pub returns-clause-begun : goal.returns-clause-begun
returns-clause-begun c = can_begin

pub returns-clause-given : goal.returns-clause-given
returns-clause-given c = gives_or_none

pub returns-clause-asked : goal.returns-clause-asked
returns-clause-asked c = can_ask

pub returns-clause-withdrawn : goal.returns-clause-withdrawn
returns-clause-withdrawn c = can_withdraw

pub returns-clause-changed : goal.returns-clause-changed
returns-clause-changed c = can_change
