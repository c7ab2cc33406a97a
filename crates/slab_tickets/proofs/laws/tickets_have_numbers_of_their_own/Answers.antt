use Rattle.slab_tickets.proofs.NumberLaws.{opened_numbers, call_numbers, same_place, below_next}
use Rattle.slab_tickets.proofs.laws.tickets_have_numbers_of_their_own.Goals as goal

pub returns-clause-opened : goal.returns-clause-opened
returns-clause-opened c = opened_numbers

pub returns-clause-kept : goal.returns-clause-kept
returns-clause-kept c = call_numbers

pub returns-clause-differ : goal.returns-clause-differ
returns-clause-differ c = λ desk i j one other numbered. same_place 0 desk.out desk.issued i j one other numbered

pub returns-clause-below : goal.returns-clause-below
returns-clause-below c = λ desk place waiting numbered. below_next 0 desk.out desk.issued place waiting numbered
