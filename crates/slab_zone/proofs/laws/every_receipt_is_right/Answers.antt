use Rattle.slab_zone.proofs.ZoneLaws.{whole_receipt}
use Rattle.slab_zone.proofs.laws.every_receipt_is_right.Goals as goal

pub returns : goal.returns
returns c = whole_receipt
