use Rattle.std.proofs.Common.{rules, true, false, [], ◌∷◌, refl}
use Rattle.disk_model.specs.declared.call.Call.TheVariants as call
use Rattle.core_model.specs.DeviceRules.DeviceServes.{loads, load_fails}
use Rattle.core_model.specs.Trace.{Calls, Fails}
use Rattle.device_zone.proofs.requests.load.Goals as goal

pub returns-in_default-clause-serves : goal.returns-in_default-clause-serves
returns-in_default-clause-serves g c =
    let failed = c.in_default.ensures.err in (
      Fails c.args.vio.request (call.Read c.args.block c.read_block.new.into false) failed.0 ∷ [],
      load_fails c.args.block c.read_block.new.into failed.0 c.requires.phase c.requires.block c.requires.ready c.requires.inside refl refl (search rules),
      failed.1 c.args.vio.request,
    )

pub returns-clause-serves : goal.returns-clause-serves
returns-clause-serves g c = (
  Calls (call.Read c.args.block c.read_block.new.into true) ∷ [],
  loads c.args.block c.read_block.new.into c.requires.phase c.requires.block c.requires.ready c.requires.inside (search rules) refl (search rules),
  c.in-Ok.ensures.ok,
)
