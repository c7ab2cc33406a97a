use Rattle.vdo_core.specs.declared.numbers.TheConstants.{MOST_ZONES}
use Rattle.std.proofs.Common.{◌≤◌, length, arith}
use Rattle.vdo_core.proofs.SessionLaws.{few_zones}
use Rattle.vdo_core.proofs.cores.Core.zone_count.Goals as goal

pub overflow_cast-result : goal.overflow_cast-result
overflow_cast-result c =
    let few = few_zones c.self.inside.sizes c.self.inside.zones c.self.invariant.whole.reached in
    let same = c.as_slice.ensures in
    let here : length c.as_slice.result.now ≤ MOST_ZONES = rw same few in
    omega (arith, here)

pub returns-clause-few : goal.returns-clause-few
returns-clause-few c =
    let few = few_zones c.self.inside.sizes c.self.inside.zones c.self.invariant.whole.reached in
    let same = c.as_slice.ensures in
    rw same few
