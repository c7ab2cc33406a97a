use Rattle.zone_counts.proofs.BlockLaws.{home_is, foreign_is}
use Rattle.zone_counts.proofs.laws.a_block_has_one_home.Goals as goal

pub returns-clause-home : goal.returns-clause-home
returns-clause-home c = home_is

pub returns-clause-elsewhere : goal.returns-clause-elsewhere
returns-clause-elsewhere c = foreign_is
