use Rattle.std.proofs.Common.{sym, ◌∙◌}
use Rattle.core_laws.proofs.Common.{durable}
use Rattle.core_laws.proofs.kept.FreeBlocks.{counter_limit, counter_mapped, counter_taken, updates_order}
use Rattle.core_laws.proofs.kept.SoleWriter.{physical, physical_here}
use Rattle.core_laws.proofs.trace.EntriesInTurn.{pointed_said}
use Rattle.core_laws.proofs.block_laws.counters_have_the_updates_that_were_taken.Goals as goal

pub returns-clause-home : goal.returns-clause-home
returns-clause-home c = λ s core x session legal.
    let some = session.zones.1 in
    let sits = physical s core legal x some in
    (_, sits.zone, sits.it, sits.had, sits.keeps, physical_here s core legal x some)

pub returns-clause-counters : goal.returns-clause-counters
returns-clause-counters c = λ s core n z p x legal had keeps is_data here. counter_taken s core legal n z p had keeps x is_data here

pub returns-clause-limit : goal.returns-clause-limit
returns-clause-limit c = λ s core n z p x legal had keeps. counter_limit s core legal n z p had keeps x

pub returns-clause-order : goal.returns-clause-order
returns-clause-order c = λ s core zone legal below. updates_order s core legal zone below

pub returns-clause-mapped : goal.returns-clause-mapped
returns-clause-mapped c = λ s core n z p x entries session legal fair had keeps is_data here all said.
    counter_mapped s core legal n z p had keeps x entries session fair is_data here all (sym (pointed_said (durable core.trace)) ∙ said)
