use Rattle.slab_tickets.proofs.ReceiptLaws.{opened_behind, call_keeps, behind_receipt}
use Rattle.slab_tickets.proofs.laws.tickets_ask_behind_the_last_free_step.Goals as goal

pub returns-clause-opened : goal.returns-clause-opened
returns-clause-opened c = opened_behind

pub returns-clause-kept : goal.returns-clause-kept
returns-clause-kept c = call_keeps

pub returns-clause-receipt : goal.returns-clause-receipt
returns-clause-receipt c = behind_receipt
