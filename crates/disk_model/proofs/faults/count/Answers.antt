use Rattle.std.proofs.lemmas.Grind.{common_steps}
use Rattle.std.proofs.Common.{◌-◌, arith, ap, sym, ◌∙◌, not}
use Rattle.disk_model.specs.Plans.{strikes, counted_down}
use Rattle.disk_model.specs.declared.faults.FaultAt.{FaultAt}
use Rattle.disk_model.proofs.RetainLaws.{retain_mut-stays}
use Rattle.disk_model.proofs.faults.count.Goals as goal

pub loop-rest-preserved : goal.loop-rest-preserved
loop-rest-preserved c =
    let kept = c.loop-rest.invariant in
    record {
      within = omega arith;
      so_far = retain_mut-stays (λ (fault : FaultAt). not (strikes fault c.args.kind c.args.at.0)) (λ (fault : FaultAt). counted_down fault c.args.kind c.args.at.0)
          c.args.plan.now.items c.loop-rest.plan.items c.loop-rest.rest (c.loop-rest.rest - 1) c.index.result.now c.counted_down.result
          (omega arith) kept.within kept.so_far c.index.ensures (ap not (sym c.strikes.ensures ∙ c.if-strikes.false)) c.counted_down.ensures;
    }

pub loop-rest-preserved-then-strikes : goal.loop-rest-preserved-then-strikes
loop-rest-preserved-then-strikes c = grind (arith, common_steps)
