use Rattle.map_zone.proofs.OutLaws.{not_out, stays_out, taken_out}
use Rattle.map_zone.proofs.laws.a_page_is_out_until_it_is_written.Goals as goal

pub returns-clause-taken : goal.returns-clause-taken
returns-clause-taken c = taken_out

pub returns-clause-kept : goal.returns-clause-kept
returns-clause-kept c = stays_out

pub returns-clause-idle : goal.returns-clause-idle
returns-clause-idle c = not_out
