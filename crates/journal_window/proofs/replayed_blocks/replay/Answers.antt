use Rattle.std.proofs.Common.{reverse, arith}
use Rattle.journal_window.specs.Replays.{IsStopped}
use Rattle.journal_window.proofs.AnswerLaws.{passed_on}
use Rattle.journal_window.proofs.ReplayLaws.{one_replayed, stopped}
use Rattle.journal_window.proofs.replayed_blocks.replay.Goals as goal

pub returns-in_err-add_block-clause-fault : goal.returns-in_err-add_block-clause-fault
returns-in_err-add_block-clause-fault c =
    let g = c.args.layout.now.geometry in
    let inside = c.loop-sequence-test.true in
    let from = c.loop-sequence.auto.sequence in
    passed_on c.from_residual.result (IsStopped g c.args.journal.now c.args.span.last c.args.span.first) c.in_err-add_block.field-0.0 c.from_residual.ensures.1
    (stopped g c.args.journal.now c.args.span.last c.args.span.first c.loop-sequence.sequence (reverse c.loop-sequence.entries.items) c.in_err-add_block.field-0.0
    c.loop-sequence.invariant (omega (arith, from)) (omega (arith, inside, c.loop-sequence.auto.sequence-end)) c.in_err-add_block.ensures.err)

pub loop-sequence-preserved : goal.loop-sequence-preserved
loop-sequence-preserved c = let ok = c.in_ok-add_block.ensures.ok in one_replayed _ _ _ _ _ _ _ ok.0 c.loop-sequence.invariant ok.1 ok.2
