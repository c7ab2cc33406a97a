use Rattle.journal_stops.proofs.EntryLaws.{window_split, window_of_all, shown_at_rest, shown_under_way}
use Rattle.journal_stops.proofs.ShownLaws.{window_at_rest, window_under_way, rest_of_its_time, way_of_its_time}
use Rattle.journal_stops.proofs.shown.a_stop_shows_committed_and_a_prefix.Goals as goal

pub returns-clause-rest : goal.returns-clause-rest
returns-clause-rest c = window_at_rest

pub returns-clause-torn : goal.returns-clause-torn
returns-clause-torn c = window_under_way

pub returns-clause-all : goal.returns-clause-all
returns-clause-all c = window_of_all

pub returns-clause-shown : goal.returns-clause-shown
returns-clause-shown c = shown_at_rest

pub returns-clause-between : goal.returns-clause-between
returns-clause-between c = shown_under_way

pub returns-clause-timely : goal.returns-clause-timely
returns-clause-timely c = rest_of_its_time

pub returns-clause-timely_torn : goal.returns-clause-timely_torn
returns-clause-timely_torn c = way_of_its_time

pub returns-clause-split : goal.returns-clause-split
returns-clause-split c = window_split
