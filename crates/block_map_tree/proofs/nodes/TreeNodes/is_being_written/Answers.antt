use Rattle.block_map_tree.proofs.StepLaws.{out_so}
use Rattle.block_map_tree.specs.contracts.nodes.TreeNodes.{the_view}
use Rattle.block_map_tree.proofs.nodes.TreeNodes.is_being_written.Goals as goal

pub returns-then-number-len : goal.returns-then-number-len
returns-then-number-len c =
    out_so c.args.self.now (the_view c.self.inside) c.args.page c.number-number.result c.dirty_points.result c.is_some.result c.self.view_is (c.is_inner.ensures.0 c.if-not-is_inner.false)
    c.number-number.ensures c.dirty_points.ensures c.is_some.ensures
