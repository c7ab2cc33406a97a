use Rattle.reference_blocks.proofs.UpdateLaws.{newest_is}
use Rattle.reference_blocks.proofs.laws.commit_points_are_of_updates.Goals as goal

pub returns : goal.returns
returns c = newest_is
