use Rattle.image_opening.proofs.HeadLaws.{head_fault, head_shown}
use Rattle.image_opening.proofs.laws.a_read_shows_the_superblock.Goals as goal

pub returns-clause-head : goal.returns-clause-head
returns-clause-head c = λ trust before now image head told fair one read. head_shown trust before now image told fair one head read

pub returns-clause-fault : goal.returns-clause-fault
returns-clause-fault c = λ trust before now image why told fair opening one fails. head_fault trust before now image told fair one why opening fails
