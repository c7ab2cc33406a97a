use Rattle.uds_index.proofs.ListLaws.{closed_to_list}
use Rattle.uds_index.proofs.uds.UdsAdvisor.finish.Goals as goal

pub list_newest-requires : goal.list_newest-requires
list_newest-requires c =
    closed_to_list c.finish.result c.self.inside.volume c.finish.new.self c.self.inside.tags c.if-finish.true c.finish.ensures.closed c.self.invariant.listed
