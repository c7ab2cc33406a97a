use Rattle.format_guards.proofs.RecoveryFacts.{two_behind}
use Rattle.format_guards.proofs.recovery.the_next_session_begins_two_behind_the_last.Goals as goal

pub returns : goal.returns
returns g c = two_behind _ _ _ c.recover.result c.recover.ensures
