use Rattle.format_guards.proofs.RecoveryFacts.{stops_still}
use Rattle.format_guards.proofs.recovery.a_stop_with_a_wrong_count_leaves_each_value.Goals as goal

pub returns : goal.returns
returns g c = stops_still _ _ _ c.recover.result c.recover.ensures
