use Rattle.part_laws.proofs.StillLaws.{entry_still, head_still, slot_still, asks_for}
use Rattle.part_laws.proofs.watermarks.no_entry_waits_for_ever.Goals as goal

pub returns-clause-entries : goal.returns-clause-entries
returns-clause-entries c = entry_still

pub returns-clause-head : goal.returns-clause-head
returns-clause-head c = head_still

pub returns-clause-slot : goal.returns-clause-slot
returns-clause-slot c = slot_still

pub returns-clause-asks : goal.returns-clause-asks
returns-clause-asks c = asks_for
