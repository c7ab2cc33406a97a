use Rattle.core_stops.proofs.SequenceLaws.{base_next, closed_values, closing_values, opened_next, opened_values, recovered_next, rest_next, rest_values, served, torn_next, torn_values}
use Rattle.core_stops.proofs.sequences.how_far_sequences_rise.Goals as goal

pub returns-clause-recovered : goal.returns-clause-recovered
returns-clause-recovered c = recovered_next

pub returns-clause-base : goal.returns-clause-base
returns-clause-base c = λ base to. base_next base to

pub returns-clause-opened : goal.returns-clause-opened
returns-clause-opened c = λ base to image is. opened_next base to image is

pub returns-clause-rest : goal.returns-clause-rest
returns-clause-rest c = λ base to opening log blocks image is rest entries shows. rest_next base to opening log blocks image is rest entries shows

pub returns-clause-torn : goal.returns-clause-torn
returns-clause-torn c = λ base to opening log blocks image is block way entries shows. torn_next base to opening log blocks image is block way entries shows

pub returns-clause-served : goal.returns-clause-served
returns-clause-served c = λ opening blocks first sound calls one stops. served opening blocks first sound one calls stops

pub returns-clause-opened_values : goal.returns-clause-opened_values
returns-clause-opened_values c = λ base to image is. opened_values base to image is

pub returns-clause-rest_values : goal.returns-clause-rest_values
returns-clause-rest_values c = λ base to opening log blocks image is rest entries shows. rest_values base to opening log blocks image is rest entries shows

pub returns-clause-torn_values : goal.returns-clause-torn_values
returns-clause-torn_values c = λ base to opening log blocks image is block way entries shows. torn_values base to opening log blocks image is block way entries shows

pub returns-clause-closing_values : goal.returns-clause-closing_values
returns-clause-closing_values c = λ base to opening log blocks now all is. closing_values base to opening log blocks now all is

pub returns-clause-closed_values : goal.returns-clause-closed_values
returns-clause-closed_values c = λ base to opening log blocks now all is. closed_values base to opening log blocks now all is
