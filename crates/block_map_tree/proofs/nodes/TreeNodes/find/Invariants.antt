use Rattle.block_map_tree.proofs.FindLaws.{IsWalked}
use Rattle.block_map_tree.proofs.nodes.TreeNodes.find.Given as goal

abbrev pub invariant-loop-depth : goal.invariant-loop-depth
invariant-loop-depth l = IsWalked l.self l.path l.depth l.index l.found
