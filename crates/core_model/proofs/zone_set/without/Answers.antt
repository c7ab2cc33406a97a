use Rattle.std.proofs.Common.{arith}
use Rattle.core_model.proofs.ZoneSetLaws.{takes_out}
use Rattle.core_model.proofs.zone_set.without.Goals as goal

pub returns : goal.returns
returns c = takes_out c.args.bits c.args.number (omega (arith, c.ranges.bits.fits)) c.requires
