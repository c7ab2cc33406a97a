use Rattle.slab_writes.proofs.CommitLaws.{no_commit_falls}
use Rattle.slab_writes.proofs.HandedLaws.{no_handed_falls}
use Rattle.slab_writes.proofs.laws.commit_points_do_not_fall.Goals as goal

pub returns-clause-journal : goal.returns-clause-journal
returns-clause-journal c = no_commit_falls

pub returns-clause-handed : goal.returns-clause-handed
returns-clause-handed c = λ g slab commits calls call old new sector sizes size lead rising did. no_handed_falls g slab commits sizes size calls call old new sector lead rising did
