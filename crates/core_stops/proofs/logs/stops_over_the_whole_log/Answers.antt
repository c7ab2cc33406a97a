use Rattle.core_stops.proofs.LogLaws.{length_at_from, marks_within, stops_back, stops_right}
use Rattle.core_stops.specs.Sequences.{ShowsValues}
use Rattle.core_stops.proofs.logs.stops_over_the_whole_log.Goals as goal

pub returns-clause-whole : goal.returns-clause-whole
returns-clause-whole c = λ g most blocks entry earlier session logical opening report within early stops. stops_right (ShowsValues g most) blocks entry earlier session logical opening report within early stops

pub returns-clause-session : goal.returns-clause-session
returns-clause-session c = λ g most blocks entry earlier session logical opening report within right. stops_back (ShowsValues g most) blocks entry earlier session logical opening report within right

pub returns-clause-marks : goal.returns-clause-marks
returns-clause-marks c = marks_within

pub returns-clause-lengths : goal.returns-clause-lengths
returns-clause-lengths c = length_at_from
