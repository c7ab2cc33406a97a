use Rattle.slab_zone.proofs.SizeLaws.{calls_whole}
use Rattle.slab_zone.proofs.laws.zones_stay_settled.Goals as goal

pub returns : goal.returns
returns c = calls_whole
