use Rattle.core_stops.proofs.SequenceLaws.{both_late, can_less, can_recover, can_serve, late_both, may_begin, next_run, recovered_can, sound_alike, values_alike}
use Rattle.core_stops.proofs.sequences.a_run_leaves_what_the_next_one_needs.Goals as goal

pub returns-clause-alike : goal.returns-clause-alike
returns-clause-alike c = sound_alike

pub returns-clause-image : goal.returns-clause-image
returns-clause-image c = may_begin

pub returns-clause-next : goal.returns-clause-next
returns-clause-next c = next_run

pub returns-clause-serves : goal.returns-clause-serves
returns-clause-serves c = can_serve

pub returns-clause-recovers : goal.returns-clause-recovers
returns-clause-recovers c = can_recover

pub returns-clause-values : goal.returns-clause-values
returns-clause-values c = values_alike

pub returns-clause-recovered : goal.returns-clause-recovered
returns-clause-recovered c = recovered_can

pub returns-clause-less : goal.returns-clause-less
returns-clause-less c = can_less

pub returns-clause-late : goal.returns-clause-late
returns-clause-late c = late_both

pub returns-clause-both_late : goal.returns-clause-both_late
returns-clause-both_late c = both_late
