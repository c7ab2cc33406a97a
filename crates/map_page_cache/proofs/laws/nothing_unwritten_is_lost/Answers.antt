use Rattle.map_page_cache.proofs.RunLaws.{owed_is_there, owed_from_low, owed_not_clean}
use Rattle.map_page_cache.proofs.laws.nothing_unwritten_is_lost.Goals as goal

pub returns-clause-there : goal.returns-clause-there
returns-clause-there c = owed_is_there

pub returns-clause-low : goal.returns-clause-low
returns-clause-low c = owed_from_low

pub returns-clause-some : goal.returns-clause-some
returns-clause-some c = owed_not_clean
