use Rattle.part_laws.proofs.FlowLaws.{next_heard, flows_heard, flows_moved, flows_told, flows_still}
use Rattle.part_laws.proofs.watermarks.the_journal_hears_in_order.Goals as goal

pub returns-clause-next : goal.returns-clause-next
returns-clause-next c = next_heard

pub returns-clause-heard : goal.returns-clause-heard
returns-clause-heard c = flows_heard

pub returns-clause-moved : goal.returns-clause-moved
returns-clause-moved c = flows_moved

pub returns-clause-told : goal.returns-clause-told
returns-clause-told c = flows_told

pub returns-clause-still : goal.returns-clause-still
returns-clause-still c = flows_still
