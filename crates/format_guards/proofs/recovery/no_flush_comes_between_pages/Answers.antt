use Rattle.format_guards.proofs.RecoveryFacts.{no_flush}
use Rattle.format_guards.proofs.recovery.no_flush_comes_between_pages.Goals as goal

pub returns : goal.returns
returns g c = no_flush _ _ _ _ _ _ c.put_pages.result c.put_pages.ensures
