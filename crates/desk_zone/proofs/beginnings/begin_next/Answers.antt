use Rattle.desk_zone.proofs.ActLaws.{begins}
use Rattle.desk_zone.proofs.beginnings.begin_next.Goals as goal

pub returns-in-Some-clause-begun : goal.returns-in-Some-clause-begun
returns-in-Some-clause-begun c = λ yes. begins _ _ _ _ c.begin_one.ensures
