use Rattle.schedule.proofs.TurnLaws.{turn_once}
use Rattle.schedule.proofs.laws.a_turn_takes_one_event.Goals as goal

pub returns : goal.returns
returns c = turn_once
