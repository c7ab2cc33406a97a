use Rattle.slab_tickets.proofs.NumberLaws.{issues_tickets, gives_tickets, gives_oldest, withdraws_tickets, worth_is}
use Rattle.slab_tickets.proofs.laws.a_call_changes_one_ticket.Goals as goal

pub returns-clause-issued : goal.returns-clause-issued
returns-clause-issued c = λ old new writer ticket k numbered did. (issues_tickets old new writer ticket did numbered).0 k

pub returns-clause-given : goal.returns-clause-given
returns-clause-given c = λ old new block k numbered gives. (gives_tickets old new block gives numbered).0 k

pub returns-clause-oldest : goal.returns-clause-oldest
returns-clause-oldest c = λ old new block k numbered gives. let o = gives_oldest old new block 0 gives numbered in (o.0, o.1 k)

pub returns-clause-withdrawn : goal.returns-clause-withdrawn
returns-clause-withdrawn c = λ old new ticket result k numbered did. (withdraws_tickets old new ticket result did numbered).0 k

pub returns-clause-worth : goal.returns-clause-worth
returns-clause-worth c = λ old new ticket result numbered did. worth_is old new ticket result did numbered
