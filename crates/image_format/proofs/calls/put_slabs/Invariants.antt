use Rattle.image_format.specs.Calls.{slabs_below}
use Rattle.image_format.specs.Runs.{WereMade}
use Rattle.image_format.proofs.calls.put_slabs.Given as goal

abbrev pub invariant-loop-slab : goal.invariant-loop-slab
invariant-loop-slab g l =
    let disk = g.D.Disk in
    WereMade disk.trust.tells (disk.seen l.fn.device) (disk.seen l.device) (slabs_below l.layout.geometry l.slab)
