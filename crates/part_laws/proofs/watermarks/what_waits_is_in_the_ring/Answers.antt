use Rattle.part_laws.proofs.StillLaws.{waits_in_ring}
use Rattle.part_laws.proofs.watermarks.what_waits_is_in_the_ring.Goals as goal

pub returns : goal.returns
returns c = waits_in_ring
