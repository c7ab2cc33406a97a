use Rattle.core_limits.proofs.FullLogs.{answered_when_full, full_when_answered}
use Rattle.core_limits.proofs.laws.a_desk_log_is_full_when_all_are_answered.Goals as goal

pub returns : goal.returns
returns c = λ depth script log right. (answered_when_full depth script log right, full_when_answered depth script log right)
