use Rattle.part_laws.proofs.DueZoneLaws.{zone_still}
use Rattle.part_laws.proofs.due_zones.no_slab_is_dirty_when_none_is_due.Goals as goal

pub returns : goal.returns
returns c = zone_still
