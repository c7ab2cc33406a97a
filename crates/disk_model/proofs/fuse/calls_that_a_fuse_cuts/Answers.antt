use Rattle.disk_model.proofs.FuseLaws.{cut_exactly, burnt-spent}
use Rattle.disk_model.proofs.fuse.calls_that_a_fuse_cuts.Goals as goal

pub returns-clause-cut : goal.returns-clause-cut
returns-clause-cut c = cut_exactly

pub returns-clause-kept : goal.returns-clause-kept
returns-clause-kept c = burnt-spent
