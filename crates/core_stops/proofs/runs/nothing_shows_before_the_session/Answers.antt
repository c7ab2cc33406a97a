use Rattle.core_stops.proofs.EarlyLaws.{early_shows, reads_show}
use Rattle.core_stops.proofs.runs.nothing_shows_before_the_session.Goals as goal

pub returns-clause-recovered : goal.returns-clause-recovered
returns-clause-recovered c = λ opening blocks first sound most logical few calls reads only served. early_shows opening blocks first sound most logical few calls reads only served

pub returns-clause-read : goal.returns-clause-read
returns-clause-read c = λ opening blocks first sound most logical few reads only one. reads_show opening blocks first sound most logical few reads only one
