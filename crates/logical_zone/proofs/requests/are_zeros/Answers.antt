use Rattle.logical_zone.proofs.ZeroLaws.{zeros_tell}
use Rattle.logical_zone.proofs.requests.are_zeros.Goals as goal

pub returns : goal.returns
returns c = zeros_tell c.is_zero.result c.args.bytes.now c.is_zero.ensures.bytes
