use Rattle.std.proofs.Common.{[], ◌∷◌, refl, ap}
use Rattle.core_model.specs.DeviceRules.{counted}
use Rattle.core_model.specs.DeviceRules.Announces.{succeeds, fails}
use Rattle.core_model.specs.Trace.{Calls, Fails}
use Rattle.core_model.specs.declared.zones.SuperblockStage.{SuperblockStage}
use Rattle.device_zone.proofs.superblock.announce.Goals as goal

pub returns-in_default-clause-announces : goal.returns-in_default-clause-announces
returns-in_default-clause-announces g c = λ w.
    let failed = c.in_default.ensures.err in
    (Fails w failed.0 failed.2.0 ∷ [], fails failed.0 failed.2.0 failed.1 c.requires.runs c.halt.ensures.zone refl c.halt.ensures.posts, failed.2.1 w)

pub returns-clause-announces : goal.returns-clause-announces
returns-clause-announces g c = λ w.
    let made = c.in-Ok.ensures.ok in
    let zone = c.args.zone.now in (
      Calls made.0 ∷ [],
      succeeds made.0 made.1 c.requires.runs
          (ap (λ (now : SuperblockStage). record (counted zone) { superblock = now }) c.next_stage-zone.ensures) refl c.first.ensures,
      made.2,
    )
