use Rattle.format_guards.proofs.RecoveryFacts.{unclean_not_opened}
use Rattle.format_guards.proofs.recovery.an_unclean_image_is_not_opened.Goals as goal

pub returns : goal.returns
returns g c = unclean_not_opened _ _ _ c.open_clean.result c.open_clean.ensures
