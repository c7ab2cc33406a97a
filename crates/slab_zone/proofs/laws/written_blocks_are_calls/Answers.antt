use Rattle.slab_zone.proofs.WrittenLaws.{due_does, settle_does}
use Rattle.slab_zone.proofs.laws.written_blocks_are_calls.Goals as goal

pub returns-clause-due : goal.returns-clause-due
returns-clause-due c = due_does

pub returns-clause-durable : goal.returns-clause-durable
returns-clause-durable c = settle_does
