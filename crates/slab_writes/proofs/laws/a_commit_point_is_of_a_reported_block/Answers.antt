use Rattle.slab_writes.proofs.CommitLaws.{commit_reported}
use Rattle.slab_writes.proofs.laws.a_commit_point_is_of_a_reported_block.Goals as goal

pub returns : goal.returns
returns c = λ g slab commits calls new sector sizes. commit_reported g sizes slab commits calls new sector
