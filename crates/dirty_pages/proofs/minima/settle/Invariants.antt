use Rattle.std.proofs.Common.{◌≡◌, ◌<◌, drop}
use Rattle.dirty_pages.specs.Minima.{IsTreeBut}
use Rattle.dirty_pages.proofs.minima.settle.Given as goal

abbrev pub invariant-loop-at : goal.invariant-loop-at
invariant-loop-at l = record {
  inside : l.at < l.leaves;
  tree : IsTreeBut l.leaves l.at l.nodes;
  kept : drop l.leaves l.nodes ≡ drop l.leaves l.initial.nodes;
}

abbrev pub decreases-loop-at : goal.decreases-loop-at
decreases-loop-at l = l.at
