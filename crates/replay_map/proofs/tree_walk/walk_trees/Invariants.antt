use Rattle.disk_model.specs.Since.{IsUntouched}
use Rattle.replay_map.specs.Forms.{AddsForm, IsRootPage}
use Rattle.replay_map.specs.Reads.{IsShown}
use Rattle.replay_map.specs.Walks.{IsInTrees, WalkedTrees}
use Rattle.replay_map.proofs.tree_walk.walk_trees.Given as goal

abbrev pub invariant-loop-tree : goal.invariant-loop-tree
invariant-loop-tree g l =
    let disk = g.D.Disk in
    record {
      shown : IsShown disk.trust l.layout.geometry l.changes (disk.seen l.fn.device) (disk.seen l.device)
          (λ image. WalkedTrees image l.tree l.fn.found l.found);
      form : AddsForm l.layout.geometry (IsRootPage l.layout.geometry) (IsInTrees l.tree) l.fn.found l.found;
      untouched : IsUntouched disk.trust.tells (disk.seen l.fn.device) (disk.seen l.device);
    }
