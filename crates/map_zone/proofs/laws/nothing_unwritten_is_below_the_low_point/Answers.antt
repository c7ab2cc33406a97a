use Rattle.map_zone.proofs.OperationLaws.{owed_from_low, owed_not_clean}
use Rattle.map_zone.proofs.laws.nothing_unwritten_is_below_the_low_point.Goals as goal

pub returns-clause-low : goal.returns-clause-low
returns-clause-low c = owed_from_low

pub returns-clause-some : goal.returns-clause-some
returns-clause-some c = owed_not_clean
