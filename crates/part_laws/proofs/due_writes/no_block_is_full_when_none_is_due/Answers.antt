use Rattle.part_laws.proofs.DueLaws.{room_still}
use Rattle.part_laws.proofs.due_writes.no_block_is_full_when_none_is_due.Goals as goal

pub returns : goal.returns
returns c = room_still
