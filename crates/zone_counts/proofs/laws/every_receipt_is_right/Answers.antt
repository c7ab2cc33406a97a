use Rattle.zone_counts.proofs.OperationLaws.{zone_receipt}
use Rattle.zone_counts.proofs.laws.every_receipt_is_right.Goals as goal

pub returns : goal.returns
returns c = zone_receipt
