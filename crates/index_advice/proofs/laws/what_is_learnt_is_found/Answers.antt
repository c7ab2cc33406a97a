use Rattle.index_advice.proofs.BookLaws.{own_found, others_found}
use Rattle.index_advice.proofs.laws.what_is_learnt_is_found.Goals as goal

pub returns-clause-own : goal.returns-clause-own
returns-clause-own c = own_found

pub returns-clause-others : goal.returns-clause-others
returns-clause-others c = λ one name book apart room. others_found one name book apart room
