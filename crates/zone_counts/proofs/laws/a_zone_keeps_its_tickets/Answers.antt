use Rattle.zone_counts.proofs.TicketLaws.{begun_behind, begun_counted, begun_next, begun_numbered, begun_out, begun_slabs, changed_behind, changed_counted, changed_next, changed_numbered, counted_is_out, dropped_none_waits, dropped_served, free_none_waits, issued_behind, issued_counted, issued_next, issued_number, issued_numbered, issued_slabs, issued_tickets, issued_zone, receipt_behind, removed_none_waits, removed_served, served_tickets, unserved_tickets, withdrawn_behind, withdrawn_block, withdrawn_counted, withdrawn_next, withdrawn_nothing, withdrawn_numbered, withdrawn_slabs, withdrawn_tickets}
use Rattle.zone_counts.proofs.laws.a_zone_keeps_its_tickets.Goals as goal

pub returns-clause-begun : goal.returns-clause-begun
returns-clause-begun c = λ old new step did. (begun_out old new step did, begun_next old new step did, begun_slabs old new step did)

pub returns-clause-issued : goal.returns-clause-issued
returns-clause-issued c = issued_tickets

pub returns-clause-next : goal.returns-clause-next
returns-clause-next c = λ old new writer ticket did. (issued_number old new writer ticket did, issued_next old new writer ticket did, issued_zone old new writer ticket did, issued_slabs old new writer ticket did)

pub returns-clause-withdrawn : goal.returns-clause-withdrawn
returns-clause-withdrawn c = withdrawn_tickets

pub returns-clause-had_block : goal.returns-clause-had_block
returns-clause-had_block c = withdrawn_block

pub returns-clause-had_none : goal.returns-clause-had_none
returns-clause-had_none c = withdrawn_nothing

pub returns-clause-kept : goal.returns-clause-kept
returns-clause-kept c = λ old new ticket result did. (withdrawn_next old new ticket result did, withdrawn_slabs old new ticket result did)

pub returns-clause-unserved : goal.returns-clause-unserved
returns-clause-unserved c = unserved_tickets

pub returns-clause-served : goal.returns-clause-served
returns-clause-served c = served_tickets

pub returns-clause-same_next : goal.returns-clause-same_next
returns-clause-same_next c = changed_next

pub returns-clause-begun_numbered : goal.returns-clause-begun_numbered
returns-clause-begun_numbered c = begun_numbered

pub returns-clause-issued_numbered : goal.returns-clause-issued_numbered
returns-clause-issued_numbered c = issued_numbered

pub returns-clause-withdrawn_numbered : goal.returns-clause-withdrawn_numbered
returns-clause-withdrawn_numbered c = withdrawn_numbered

pub returns-clause-changed_numbered : goal.returns-clause-changed_numbered
returns-clause-changed_numbered c = changed_numbered

pub returns-clause-begun_behind : goal.returns-clause-begun_behind
returns-clause-begun_behind c = begun_behind

pub returns-clause-issued_behind : goal.returns-clause-issued_behind
returns-clause-issued_behind c = issued_behind

pub returns-clause-withdrawn_behind : goal.returns-clause-withdrawn_behind
returns-clause-withdrawn_behind c = withdrawn_behind

pub returns-clause-changed_behind : goal.returns-clause-changed_behind
returns-clause-changed_behind c = changed_behind

pub returns-clause-receipt : goal.returns-clause-receipt
returns-clause-receipt c = receipt_behind

pub returns-clause-free : goal.returns-clause-free
returns-clause-free c = free_none_waits

pub returns-clause-dropped : goal.returns-clause-dropped
returns-clause-dropped c = dropped_served

pub returns-clause-removed : goal.returns-clause-removed
returns-clause-removed c = removed_served

pub returns-clause-dropped_unserved : goal.returns-clause-dropped_unserved
returns-clause-dropped_unserved c = dropped_none_waits

pub returns-clause-removed_unserved : goal.returns-clause-removed_unserved
returns-clause-removed_unserved c = removed_none_waits

pub returns-clause-begun_counted : goal.returns-clause-begun_counted
returns-clause-begun_counted c = begun_counted

pub returns-clause-issued_counted : goal.returns-clause-issued_counted
returns-clause-issued_counted c = issued_counted

pub returns-clause-withdrawn_counted : goal.returns-clause-withdrawn_counted
returns-clause-withdrawn_counted c = withdrawn_counted

pub returns-clause-changed_counted : goal.returns-clause-changed_counted
returns-clause-changed_counted c = changed_counted

pub returns-clause-out : goal.returns-clause-out
returns-clause-out c = λ zone ticket. counted_is_out zone.desk ticket
