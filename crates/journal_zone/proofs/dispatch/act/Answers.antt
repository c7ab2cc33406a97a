use Rattle.journal_zone.proofs.ActLaws.{acts, ended, ends_block, enters_now, hears}
use Rattle.journal_zone.proofs.dispatch.act.Goals as goal

pub returns-in-Request : goal.returns-in-Request
returns-in-Request c = rw c.in-Request.is (acts _ _ _ _ _ c.enter.ensures)

pub enter-requires-clause-phase : goal.enter-requires-clause-phase
enter-requires-clause-phase c = enters_now _ _ _ (rw c.in-Request.is at c.requires.rule)

pub returns-in-Block : goal.returns-in-Block
returns-in-Block c = rw c.in-Block.is (ends_block _ _ _ _ _ c.end_block.ensures)

pub end_block-requires-clause-rule : goal.end_block-requires-clause-rule
end_block-requires-clause-rule c = ended _ _ _ (rw c.in-Block.is at c.requires.rule)

pub returns-in-StopNotice : goal.returns-in-StopNotice
returns-in-StopNotice c = rw c.in-StopNotice.is (hears _ _ _ _ c.hear_stop.ensures.zone c.hear_stop.ensures.posts)
