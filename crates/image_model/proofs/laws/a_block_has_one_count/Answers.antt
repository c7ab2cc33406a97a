use Rattle.image_model.proofs.CountLaws.{one_stored, one_number, stored_is_sum}
use Rattle.image_model.proofs.laws.a_block_has_one_count.Goals as goal

pub returns-clause-stored : goal.returns-clause-stored
returns-clause-stored c = one_stored

pub returns-clause-mapped : goal.returns-clause-mapped
returns-clause-mapped c = one_number

pub returns-clause-sum : goal.returns-clause-sum
returns-clause-sum c = stored_is_sum
