use Rattle.std.proofs.Common.{arith, ◌∙◌, ap, sym}
use Rattle.core_model.specs.declared.zones.ZoneData.TheVariants as at
use Rattle.data_vio.specs.Zones.{physical_number}
use Rattle.data_vio.specs.declared.sizes.Sizes.{Sizes}
use Rattle.vdo_core.proofs.StartLaws.{numbered}
use Rattle.vdo_core.proofs.start.add_physical.Goals as goal

pub loop-zone-preserved : goal.loop-zone-preserved
loop-zone-preserved c =
    let count = c.loop-zone.invariant.count in
    let longer = c.in_ok-add.ensures.count in
    record {
      count = omega (arith, longer, count);
      first = λ s sizes counters each.
          (let number = c.physical_number-number.ensures ∙ ap (λ (z : Sizes). physical_number z c.loop-zone.zone) (sym sizes) in
          let first = numbered s _ c.physical_number-number.result (at.Physical c.in_ok-physical.physical) number (c.in_ok-physical.ensures s sizes counters) in
          c.in_ok-add.ensures.first s sizes first (c.loop-zone.invariant.first s sizes counters each));
    }
