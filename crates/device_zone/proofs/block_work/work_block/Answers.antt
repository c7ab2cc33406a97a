use Rattle.std.proofs.Common.{false, [], ◌∷◌, refl, ap, ◌∙◌, rules}
use Rattle.data_vio.specs.declared.items.Stage.{Stage}
use Rattle.data_vio.specs.Vios.{staged}
use Rattle.core_model.specs.DeviceRules.DeviceWorks.{makes, fails, unmade}
use Rattle.core_model.specs.Trace.{Calls, Fails}
use Rattle.device_zone.proofs.Calls.{some_call, block_post}
use Rattle.step_parts.proofs.SilentLaws.{unchanged}
use Rattle.device_zone.proofs.ActLaws.{announced_block, durable_now}
use Rattle.device_zone.proofs.Calls.{oldest_of}
use Rattle.device_zone.proofs.block_work.work_block.Goals as goal

pub returns-then-waits-clause-works : goal.returns-then-waits-clause-works
returns-then-waits-clause-works g c =
    let first = oldest_of c.args.block.vios c.requires.some in
    announced_block _ _ _ _ c.args.block first.0 first.1 _ _ _ first.2 c.requires.needed (c.announce.ensures.announces first.0.request)

pub returns-then-zone-clause-works : goal.returns-then-zone-clause-works
returns-then-zone-clause-works g c =
    let first = oldest_of c.args.block.vios c.requires.some in
    let some = some_call c.args.sizes.now c.args.block c.journal_slot-slot.result false c.args.block.stage c.requires.needed in (
      [],
      unmade some.0 c.journal_slot-slot.result first.0 first.1 first.2 some.1 c.if-zone.true refl refl (block_post _ _ _ _ _ _ c.first.ensures refl c.staged-unmade.ensures),
      unchanged _ _,
    )

pub returns-in_default-clause-works : goal.returns-in_default-clause-works
returns-in_default-clause-works g c =
    let first = oldest_of c.args.block.vios c.requires.some in
    let failed = c.in_default.ensures.err in (
      Fails first.0.request failed.0 failed.2.0 ∷ [],
      fails failed.0 c.journal_slot-slot.result failed.2.0 first.0 first.1 first.2 (rw c.of.ensures at c.journal_slot-slot.ensures.block) failed.1 c.if-zone.false (durable_now c.args.zone.now c.if-zone.false (c.waits.ensures.no c.if-waits.false)) c.halt.ensures.zone refl
          (block_post _ _ _ _ _ _ c.halt.ensures.posts refl c.staged-failed.ensures),
      failed.2.1 first.0.request,
    )

pub returns-clause-works : goal.returns-clause-works
returns-clause-works g c =
    let first = oldest_of c.args.block.vios c.requires.some in
    let made = c.in-Ok.ensures.ok in (
      Calls made.0 ∷ [],
      makes made.0 c.journal_slot-slot.result first.0 first.1 first.2 (rw c.of.ensures at c.journal_slot-slot.ensures.block) made.1 c.if-zone.false (durable_now c.args.zone.now c.if-zone.false (c.waits.ensures.no c.if-waits.false)) (search rules) refl
          (block_post _ _ _ _ _ _ c.first-2.ensures c.next_zone-to.ensures (c.staged.ensures ∙ ap (λ (s : Stage). staged s c.args.block) c.next_stage-stage.ensures)),
      made.2,
    )
