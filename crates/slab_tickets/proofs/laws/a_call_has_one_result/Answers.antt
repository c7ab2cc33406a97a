use Rattle.slab_tickets.proofs.OneAnswer.{one_issued, one_given, one_withdrawn}
use Rattle.slab_tickets.proofs.laws.a_call_has_one_result.Goals as goal

pub returns-clause-issued : goal.returns-clause-issued
returns-clause-issued c = one_issued

pub returns-clause-given : goal.returns-clause-given
returns-clause-given c = one_given

pub returns-clause-withdrawn : goal.returns-clause-withdrawn
returns-clause-withdrawn c = one_withdrawn
