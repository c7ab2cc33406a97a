use Rattle.slab_tickets.proofs.NumberLaws.{out_withdrawn, out_no_longer, has_place, out_place}
use Rattle.slab_tickets.proofs.ReceiptLaws.{out_issued, out_given}
use Rattle.slab_tickets.proofs.laws.a_ticket_is_out_until_it_is_withdrawn.Goals as goal

pub returns-clause-issued : goal.returns-clause-issued
returns-clause-issued c = out_issued

pub returns-clause-given : goal.returns-clause-given
returns-clause-given c = out_given

pub returns-clause-others : goal.returns-clause-others
returns-clause-others c = out_withdrawn

pub returns-clause-withdrawn : goal.returns-clause-withdrawn
returns-clause-withdrawn c = out_no_longer

pub returns-clause-said : goal.returns-clause-said
returns-clause-said c = has_place

pub returns-clause-out : goal.returns-clause-out
returns-clause-out c = out_place
