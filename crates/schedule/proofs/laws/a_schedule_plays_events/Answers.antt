use Rattle.schedule.proofs.TurnLaws.{driven_leads, driven_plays}
use Rattle.schedule.proofs.laws.a_schedule_plays_events.Goals as goal

pub returns-clause-plays : goal.returns-clause-plays
returns-clause-plays c = driven_plays

pub returns-clause-leads : goal.returns-clause-leads
returns-clause-leads c = driven_leads
