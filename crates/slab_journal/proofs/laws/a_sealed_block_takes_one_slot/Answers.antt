use Rattle.slab_journal.proofs.SealLaws.{sealed_here, other_slots, one_sealed}
use Rattle.slab_journal.proofs.laws.a_sealed_block_takes_one_slot.Goals as goal

pub returns-clause-here : goal.returns-clause-here
returns-clause-here c = sealed_here

pub returns-clause-others : goal.returns-clause-others
returns-clause-others c = other_slots

pub returns-clause-one : goal.returns-clause-one
returns-clause-one c = one_sealed
