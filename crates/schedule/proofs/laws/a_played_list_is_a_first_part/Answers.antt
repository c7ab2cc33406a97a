use Rattle.schedule.proofs.TurnLaws.{part_leads, part_plays}
use Rattle.schedule.proofs.laws.a_played_list_is_a_first_part.Goals as goal

pub returns-clause-plays : goal.returns-clause-plays
returns-clause-plays c = part_plays

pub returns-clause-leads : goal.returns-clause-leads
returns-clause-leads c = part_leads
