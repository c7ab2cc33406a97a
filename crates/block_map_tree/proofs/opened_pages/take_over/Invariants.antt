use Rattle.block_map_tree.specs.OpenedTree.{IsTakenOver}
use Rattle.block_map_tree.proofs.opened_pages.take_over.Given as goal

abbrev pub invariant-loop-page : goal.invariant-loop-page
invariant-loop-page l = IsTakenOver l.forest l.opened l.page-index l.fn.pages.items l.pages.items
