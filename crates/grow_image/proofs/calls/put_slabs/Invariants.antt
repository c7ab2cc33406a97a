use Rattle.image_format.specs.Runs.{WereMade}
use Rattle.grow_image.specs.Calls.{new_slabs}
use Rattle.grow_image.proofs.calls.put_slabs.Given as goal

abbrev pub invariant-loop-i : goal.invariant-loop-i
invariant-loop-i g l =
    let disk = g.D.Disk in
    WereMade disk.trust.tells (disk.seen l.fn.device) (disk.seen l.device) (new_slabs l.layout.geometry l.first l.i)
