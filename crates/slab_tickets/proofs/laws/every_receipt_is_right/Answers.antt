use Rattle.slab_tickets.proofs.ReceiptLaws.{calls_tell, right_receipt}
use Rattle.slab_tickets.proofs.laws.every_receipt_is_right.Goals as goal

pub returns-clause-last : goal.returns-clause-last
returns-clause-last c = calls_tell

pub returns-clause-right : goal.returns-clause-right
returns-clause-right c = right_receipt
