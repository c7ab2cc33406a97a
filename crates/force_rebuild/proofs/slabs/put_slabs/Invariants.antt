use Rattle.image_format.specs.Runs.{WereMade}
use Rattle.force_rebuild.specs.Calls.{slab_calls}
use Rattle.image_format.specs.Calls.{calls_below}
use Rattle.force_rebuild.proofs.slabs.put_slabs.Given as goal

abbrev pub invariant-loop-slab : goal.invariant-loop-slab
invariant-loop-slab g l =
    let disk = g.D.Disk in
    WereMade disk.trust.tells (disk.seen l.fn.device) (disk.seen l.device) (calls_below (slab_calls l.layout.geometry l.commit.0 l.counters) l.slab)
