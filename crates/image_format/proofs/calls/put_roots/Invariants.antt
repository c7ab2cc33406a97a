use Rattle.image_format.specs.Calls.{roots_below}
use Rattle.image_format.specs.Runs.{WereMade}
use Rattle.image_format.proofs.calls.put_roots.Given as goal

abbrev pub invariant-loop-tree : goal.invariant-loop-tree
invariant-loop-tree g l =
    let disk = g.D.Disk in
    WereMade disk.trust.tells (disk.seen l.fn.device) (disk.seen l.device) (roots_below l.layout.geometry l.tree)
