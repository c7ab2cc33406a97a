use Rattle.slab_zone.proofs.DueLaws.{due_or_none_in, one_due_in, one_slab}
use Rattle.slab_zone.proofs.laws.due_takes_the_first_slab.Goals as goal

pub returns-clause-slab : goal.returns-clause-slab
returns-clause-slab c = λ need old new new' bytes bytes' work work' one other.
    one_slab need old.counts.slabs old.writes new.writes new'.writes bytes bytes' work work' one.due other.due

pub returns-clause-one : goal.returns-clause-one
returns-clause-one c = one_due_in

pub returns-clause-some : goal.returns-clause-some
returns-clause-some c = λ need old new bytes work due. due_or_none_in need old.counts.slabs old.writes new.writes bytes work due.due
