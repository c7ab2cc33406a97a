use Rattle.block_map_tree.proofs.StepLaws.{writing}
use Rattle.block_map_tree.proofs.nodes.TreeNodes.written.Goals as goal

pub returns : goal.returns
returns c = writing _ _ _ _ _ c.self.view_is c.self.invariant c.requires c.number.ensures c.written.ensures

pub invariant_of-self : goal.invariant_of-self
invariant_of-self c = (returns c).form
