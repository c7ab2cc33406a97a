use Rattle.session_stops.proofs.PointedBlocks.{blocks_pointed}
use Rattle.session_stops.proofs.SoundImages.{running}
use Rattle.session_stops.proofs.sessions.the_counts_of_a_session_go_well.Goals as goal

pub returns-clause-points : goal.returns-clause-points
returns-clause-points c = λ start blocks few. (blocks_pointed start blocks few).0

pub returns-clause-next : goal.returns-clause-next
returns-clause-next c = λ start blocks few. (blocks_pointed start blocks few).1

pub returns-clause-running : goal.returns-clause-running
returns-clause-running c = λ base to opening log blocks head behind place there. running base to opening log blocks head behind place there
