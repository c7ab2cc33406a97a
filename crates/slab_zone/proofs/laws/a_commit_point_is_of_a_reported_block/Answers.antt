use Rattle.slab_zone.proofs.ZoneLaws.{commit_told}
use Rattle.slab_zone.proofs.laws.a_commit_point_is_of_a_reported_block.Goals as goal

pub returns : goal.returns
returns c = λ opened_as zone zones room first new calls slab sector opened is many lead inside mine.
    commit_told opened_as zone zones room first opened is slab inside mine new calls sector many lead
