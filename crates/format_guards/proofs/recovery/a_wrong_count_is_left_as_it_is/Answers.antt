use Rattle.format_guards.proofs.RecoveryFacts.{count_stays}
use Rattle.format_guards.proofs.recovery.a_wrong_count_is_left_as_it_is.Goals as goal

pub returns : goal.returns
returns g c = count_stays _ _ _ c.recover.result c.recover.ensures
