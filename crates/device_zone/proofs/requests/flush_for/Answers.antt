use Rattle.std.proofs.Common.{rules, true, false, [], ◌∷◌, refl}
use Rattle.disk_model.specs.declared.call.Call.TheVariants as call
use Rattle.core_model.specs.DeviceRules.DeviceServes.{flushes, flush_fails}
use Rattle.core_model.specs.Trace.{Calls, Fails}
use Rattle.device_zone.proofs.ActLaws.{durable_now}
use Rattle.device_zone.proofs.requests.flush_for.Goals as goal

pub returns-in_default-clause-serves : goal.returns-in_default-clause-serves
returns-in_default-clause-serves g c =
    let failed = c.in_default.ensures.err in (
      Fails c.args.vio.request (call.Flush false) failed.0 ∷ [],
      flush_fails failed.0 c.requires.phase (search rules) (durable_now c.args.zone.now (search rules) c.requires.ready) c.halt.ensures.zone refl (search rules),
      failed.1 c.args.vio.request,
    )

pub returns-clause-serves : goal.returns-clause-serves
returns-clause-serves g c = (
  Calls (call.Flush true) ∷ [],
  flushes (search rules) (search rules) (durable_now c.args.zone.now (search rules) c.requires.ready) (search rules) refl (search rules),
  search rules,
)
