use Rattle.format_guards.proofs.RecoveryFacts.{stops_keep}
use Rattle.format_guards.proofs.recovery.a_stop_of_recovery_leaves_each_value.Goals as goal

pub returns : goal.returns
returns g c = stops_keep _ _ _ c.recover.result c.recover.ensures
