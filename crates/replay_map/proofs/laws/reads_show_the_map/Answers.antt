use Rattle.replay_map.proofs.HonestLaws.{fault_of_map, map_shown}
use Rattle.replay_map.proofs.laws.reads_show_the_map.Goals as goal

pub returns-clause-map : goal.returns-clause-map
returns-clause-map c trust before now image head map told fair one room accepted is = map_shown trust image told fair before now head one room accepted map is

pub returns-clause-fault : goal.returns-clause-fault
returns-clause-fault c trust before now image head why told fair one room accepted fails =
    fault_of_map trust image told fair before now head one room accepted why fails
