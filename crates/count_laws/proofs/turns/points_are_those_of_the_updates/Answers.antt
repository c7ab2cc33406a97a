use Rattle.count_laws.proofs.PointLaws.{has_update, points_rise, updates_has}
use Rattle.count_laws.proofs.turns.points_are_those_of_the_updates.Goals as goal

pub returns : goal.returns
returns c = record {
  rise = points_rise;
  each = has_update;
  all = updates_has;
}
