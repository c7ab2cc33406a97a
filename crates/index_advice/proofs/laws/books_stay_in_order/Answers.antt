use Rattle.index_advice.proofs.AdviceLaws.{stay_in_order}
use Rattle.index_advice.proofs.laws.books_stay_in_order.Goals as goal

pub returns : goal.returns
returns c = stay_in_order
