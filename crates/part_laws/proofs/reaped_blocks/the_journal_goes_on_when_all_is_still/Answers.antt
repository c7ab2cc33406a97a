use Rattle.part_laws.proofs.ReapLaws.{slot_when_still}
use Rattle.part_laws.proofs.reaped_blocks.the_journal_goes_on_when_all_is_still.Goals as goal

pub returns : goal.returns
returns c = slot_when_still
