use Rattle.std.proofs.Common.{arith}
use Rattle.core_limits.proofs.DeskLimits.{answers_few, log_before, log_few, under_way_before, under_way_few}
use Rattle.core_limits.proofs.Rooms.{under_way}
use Rattle.core_limits.proofs.laws.a_desk_log_is_bounded.Goals as goal

pub returns-clause-under_way : goal.returns-clause-under_way
returns-clause-under_way c = λ depth script log right. let few = under_way depth script log right in omega (arith, few)

pub returns-clause-fewer : goal.returns-clause-fewer
returns-clause-fewer c = under_way_before

pub returns-clause-fewer_of_each : goal.returns-clause-fewer_of_each
returns-clause-fewer_of_each c = under_way_few

pub returns-clause-answered : goal.returns-clause-answered
returns-clause-answered c = answers_few

pub returns-clause-lines : goal.returns-clause-lines
returns-clause-lines c = log_few

pub returns-clause-more_lines : goal.returns-clause-more_lines
returns-clause-more_lines c = log_before
