use Rattle.session_stops.proofs.CallSteps.{rest_counts, rest_data, rest_page, rest_quiet, way_counts, way_data, way_page, way_quiet}
use Rattle.session_stops.proofs.sessions.calls_that_keep_a_session_standing.Goals as goal

pub returns-clause-rest_quiet : goal.returns-clause-rest_quiet
returns-clause-rest_quiet c = rest_quiet

pub returns-clause-torn_quiet : goal.returns-clause-torn_quiet
returns-clause-torn_quiet c = way_quiet

pub returns-clause-rest_data : goal.returns-clause-rest_data
returns-clause-rest_data c = rest_data

pub returns-clause-torn_data : goal.returns-clause-torn_data
returns-clause-torn_data c = way_data

pub returns-clause-rest_page : goal.returns-clause-rest_page
returns-clause-rest_page c = rest_page

pub returns-clause-torn_page : goal.returns-clause-torn_page
returns-clause-torn_page c = way_page

pub returns-clause-rest_counts : goal.returns-clause-rest_counts
returns-clause-rest_counts c = rest_counts

pub returns-clause-torn_counts : goal.returns-clause-torn_counts
returns-clause-torn_counts c = way_counts
