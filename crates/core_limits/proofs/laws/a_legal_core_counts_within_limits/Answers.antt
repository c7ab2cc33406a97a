use Rattle.core_limits.proofs.Bounds.{sequence_within, next_within, calls_within, held_within, entered_within, committed_within, slots_within, retired_within}
use Rattle.core_limits.proofs.laws.a_legal_core_counts_within_limits.Goals as goal

pub returns-clause-next : goal.returns-clause-next
returns-clause-next c = λ s core n z l legal had. next_within s core legal n z had l

pub returns-clause-calls : goal.returns-clause-calls
returns-clause-calls c = λ s core n z d legal had. calls_within s core legal n z had d

pub returns-clause-held : goal.returns-clause-held
returns-clause-held c = λ s core n z l legal had. held_within s core legal n z had l

pub returns-clause-entered : goal.returns-clause-entered
returns-clause-entered c = λ s core n z j session legal had. entered_within s core legal n z had session j

pub returns-clause-sequence : goal.returns-clause-sequence
returns-clause-sequence c = λ s core n z j session legal had. sequence_within s core legal n z had session j

pub returns-clause-committed : goal.returns-clause-committed
returns-clause-committed c = λ s core n z j session legal had. committed_within s core legal n z had session j

pub returns-clause-slots : goal.returns-clause-slots
returns-clause-slots c = λ s core n z l session legal had. slots_within s core legal n z had session l

pub returns-clause-retired : goal.returns-clause-retired
returns-clause-retired c = λ s core n z l session legal had. retired_within s core legal n z had session l
