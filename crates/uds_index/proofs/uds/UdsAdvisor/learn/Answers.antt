use Rattle.uds_index.proofs.ListLaws.{closed_to_list}
use Rattle.uds_index.proofs.uds.UdsAdvisor.learn.Goals as goal

pub list_newest-requires : goal.list_newest-requires
list_newest-requires c =
    closed_to_list c.learn.result c.self.inside.volume c.learn.new.self c.self.inside.tags c.if-learn.true c.learn.ensures.closed c.self.invariant.listed
