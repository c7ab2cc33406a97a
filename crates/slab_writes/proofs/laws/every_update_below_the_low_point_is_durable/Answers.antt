use Rattle.slab_writes.proofs.DurableLaws.{below_low, none_left}
use Rattle.slab_writes.proofs.laws.every_update_below_the_low_point_is_durable.Goals as goal

pub returns-clause-some : goal.returns-clause-some
returns-clause-some c = below_low

pub returns-clause-none : goal.returns-clause-none
returns-clause-none c = none_left
