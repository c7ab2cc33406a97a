use Rattle.zone_counts.proofs.BlockLaws.{dropped_is, removed_is, added_none}
use Rattle.zone_counts.proofs.FitLaws.{quiet_change}
use Rattle.zone_counts.proofs.laws.what_is_served_is_what_became_free.Goals as goal

pub returns-clause-dropped : goal.returns-clause-dropped
returns-clause-dropped c = dropped_is

pub returns-clause-removed : goal.returns-clause-removed
returns-clause-removed c = removed_is

pub returns-clause-added : goal.returns-clause-added
returns-clause-added c = added_none

pub returns-clause-quiet : goal.returns-clause-quiet
returns-clause-quiet c = quiet_change
