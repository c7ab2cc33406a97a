use Rattle.format_guards.proofs.FormatFacts.{made_all}
use Rattle.format_guards.proofs.formats.the_superblock_stands_between_two_flushes.Goals as goal

pub returns : goal.returns
returns g c = made_all _ _ _ _ c.close.result c.close.ensures
