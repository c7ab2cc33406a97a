use Rattle.index_advice.proofs.AdviceLaws.{one_book, one_book_of_lists}
use Rattle.index_advice.proofs.laws.advice_leads_to_one_book.Goals as goal

pub returns-clause-one : goal.returns-clause-one
returns-clause-one c = one_book

pub returns-clause-lists : goal.returns-clause-lists
returns-clause-lists c = one_book_of_lists
