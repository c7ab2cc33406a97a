use Rattle.std.proofs.Common.{arith, subst, sym, ap, ◌≡◌, ◌+◌, length, List}
use Rattle.std.proofs.lemmas.List.{length-set}
use Rattle.blk_base.specs.declared.place.Mapping.{Mapping}
use Rattle.blk_base.specs.declared.sizes.TheConstants.{PAGE_SLOTS}
use Rattle.replay_map.specs.Pages.{AreSaid, IsRefused}
use Rattle.replay_map.proofs.PageLaws.{said_more, refused_at}
use Rattle.journal_window.proofs.AnswerLaws.{passed_on}
use Rattle.replay_map.proofs.pages.read_one_by_one.Goals as goal

pub returns-in_err-mapping-clause-fault : goal.returns-in_err-mapping-clause-fault
returns-in_err-mapping-clause-fault c =
    passed_on c.from_residual.result (IsRefused c.args.want.now c.args.block.now c.args.changes.now) c.in_err-mapping.field-0.0 c.from_residual.ensures.1
    (refused_at c.args.want.now c.args.block.now c.args.changes.now c.loop-slot.slot c.loop-slot.into c.in_err-mapping.field-0.0 c.loop-slot-test.true
    c.loop-slot.invariant c.in_err-mapping.ensures.fault)

pub loop-slot-preserved : goal.loop-slot-preserved
loop-slot-preserved c =
    let set = c.set.ensures in
    let size : length c.set.new.self ≡ PAGE_SLOTS = set.size in
    let same = length-set c.loop-slot.into c.loop-slot.slot c.in_ok-mapping.mapping in
    let inside = c.loop-slot-test.true in
    subst (λ (mappings : List Mapping). AreSaid c.args.want.now c.args.block.now c.args.changes.now (c.loop-slot.slot + 1) mappings) (sym set.after)
    (said_more c.args.want.now c.args.block.now c.args.changes.now c.loop-slot.slot c.loop-slot.into c.in_ok-mapping.mapping
    (omega (arith, ap length set.after, size, same, inside)) c.loop-slot.invariant c.in_ok-mapping.ensures.ok)
