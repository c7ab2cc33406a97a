use Rattle.zone_counts.proofs.OperationLaws.{calls_keep}
use Rattle.zone_counts.proofs.laws.zones_stay_settled.Goals as goal

pub returns : goal.returns
returns c = calls_keep
