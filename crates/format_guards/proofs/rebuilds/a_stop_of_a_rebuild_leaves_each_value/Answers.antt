use Rattle.format_guards.proofs.RebuildFacts.{stops_keep}
use Rattle.format_guards.proofs.rebuilds.a_stop_of_a_rebuild_leaves_each_value.Goals as goal

pub returns : goal.returns
returns g c = stops_keep _ _ _ c.force.result c.force.ensures
