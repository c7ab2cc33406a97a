use Rattle.std.proofs.Common.{◌<◌, ◌^◌, arith}
use Rattle.core_model.proofs.ZoneSetLaws.{takes_first}
use Rattle.core_model.proofs.zone_set.ZoneSet.take_first.Goals as goal

pub returns-clause-some : goal.returns-clause-some
returns-clause-some c =
    let fits : c.self.inside.bits < 2 ^ 32 = omega arith in
    rw (← c.self.view_is) (takes_first c.self.inside.bits c.if-self-eq0.false fits)
