use Rattle.journal_stops.proofs.ReopenLaws.{reopened, sound_at_rest, closed_at_rest}
use Rattle.journal_stops.proofs.ShownLaws.{begins_anew, anew_at_rest, anew_under_way}
use Rattle.journal_stops.proofs.StepLaws.{opened}
use Rattle.journal_stops.proofs.ring.a_journal_begins_at_rest.Goals as goal

pub returns-clause-empty : goal.returns-clause-empty
returns-clause-empty c = begins_anew

pub returns-clause-opened : goal.returns-clause-opened
returns-clause-opened c = opened

pub returns-clause-rest : goal.returns-clause-rest
returns-clause-rest c = anew_at_rest

pub returns-clause-torn : goal.returns-clause-torn
returns-clause-torn c = anew_under_way

pub returns-clause-reopened : goal.returns-clause-reopened
returns-clause-reopened c = reopened

pub returns-clause-sound : goal.returns-clause-sound
returns-clause-sound c = sound_at_rest

pub returns-clause-closed : goal.returns-clause-closed
returns-clause-closed c = closed_at_rest
