use Rattle.std.proofs.Common.{arith}
use Rattle.core_model.specs.declared.zones.ZoneData.TheVariants as at
use Rattle.vdo_core.proofs.StartLaws.{numbered}
use Rattle.vdo_core.proofs.start.add_logical.Goals as goal

pub loop-zone-preserved : goal.loop-zone-preserved
loop-zone-preserved c =
    let count = c.loop-zone.invariant.count in
    let longer = c.in_ok-add.ensures.count in
    record {
      count = omega (arith, longer, count);
      first = λ s sizes links each.
          (let first = numbered s _ c.logical_number-number.result (at.Logical c.in_ok-logical.logical) c.logical_number-number.ensures (c.in_ok-logical.ensures s sizes links) in
          c.in_ok-add.ensures.first s sizes first (c.loop-zone.invariant.first s sizes links each));
    }
