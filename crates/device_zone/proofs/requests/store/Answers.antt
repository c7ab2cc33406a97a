use Rattle.std.proofs.Common.{rules, true, false, [], ◌∷◌, refl}
use Rattle.disk_model.specs.declared.call.Call.TheVariants as call
use Rattle.core_model.specs.DeviceRules.{stored}
use Rattle.core_model.specs.DeviceRules.DeviceServes.{stores, store_fails}
use Rattle.core_model.specs.Trace.{Calls, Fails}
use Rattle.device_zone.proofs.requests.store.Goals as goal

pub returns-in_default-clause-serves : goal.returns-in_default-clause-serves
returns-in_default-clause-serves g c =
    let failed = c.in_default.ensures.err in (
      Fails c.args.vio.request (call.Write c.args.block (stored c.args.sizes.now c.args.vio c.args.block) false) failed.0 ∷ [],
      store_fails c.args.block failed.0 c.requires.phase c.requires.block c.requires.runs c.requires.durable c.requires.inside c.halt.ensures.zone refl (search rules),
      rw c.get.ensures at (failed.1 c.args.vio.request),
    )

pub returns-clause-serves : goal.returns-clause-serves
returns-clause-serves g c = (
  Calls (call.Write c.args.block (stored c.args.sizes.now c.args.vio c.args.block) true) ∷ [],
  stores c.args.block c.requires.phase c.requires.block c.requires.runs c.requires.durable c.requires.inside (search rules) refl (search rules),
  rw c.get.ensures at c.in-Ok.ensures.ok,
)
