use Rattle.part_laws.proofs.DueLaws.{pages_still}
use Rattle.part_laws.proofs.due_writes.no_page_is_dirty_when_none_is_due.Goals as goal

pub returns : goal.returns
returns c = pages_still
