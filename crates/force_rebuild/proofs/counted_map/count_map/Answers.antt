use Rattle.std.proofs.Common.{subst}
use Rattle.blk_base.specs.declared.geometry.Geometry.{Geometry}
use Rattle.slab_reading.proofs.FoundLaws.{passed_on}
use Rattle.force_rebuild.proofs.ForceLaws.{counts_refused, map_refused}
use Rattle.force_rebuild.specs.Counted.{CountersFail}
use Rattle.force_rebuild.specs.ForcedRebuild.{CountingFails}
use Rattle.force_rebuild.proofs.counted_map.count_map.Goals as goal

pub returns-in_err-map-clause-fault : goal.returns-in_err-map-clause-fault
returns-in_err-map-clause-fault g c =
    passed_on c.from_residual.result (CountingFails g.D.Disk.trust c.args.head.now.geometry c.args.window.now.entries (g.D.Disk.seen c.args.device.now) (g.D.Disk.seen c.replay_with.new.device))
    c.in_err-map.field-0.0 c.from_residual.ensures.1 (map_refused _ _ c.args.window.now _ _ c.in_err-map.field-0.0 c.in_err-map.ensures.fault)

pub returns-in_err-counters-clause-fault : goal.returns-in_err-counters-clause-fault
returns-in_err-counters-clause-fault g c =
    passed_on c.from_residual-in_err-counters.result (CountingFails g.D.Disk.trust c.args.head.now.geometry c.args.window.now.entries (g.D.Disk.seen c.args.device.now) (g.D.Disk.seen c.replay_with.new.device))
    c.in_err-counters.field-0.0 c.from_residual-in_err-counters.ensures.1
    (counts_refused _ c.args.head.now.geometry c.args.window.now c.in_ok-map.map _ _ c.in_err-counters.field-0.0 c.requires.sizes c.in_ok-map.ensures.map
    (subst (λ (h : Geometry). CountersFail h c.in_ok-map.map c.in_err-counters.field-0.0) c.of.ensures c.in_err-counters.ensures.refused))
