use Rattle.slab_reading.proofs.TakeLaws.{sector_some}
use Rattle.slab_reading.proofs.slab_parts.push_sector.Goals as goal

pub returns-in_ok-push_entries-in-Some : goal.returns-in_ok-push_entries-in-Some
returns-in_ok-push_entries-in-Some c = sector_some _ _ _ _ _ _ _ _ c.in-Some.ensures.some (rw c.as_slice.ensures.value at c.in_ok-push_entries-in-Some.ensures)
