use Rattle.image_format.specs.Runs.{WereMade}
use Rattle.force_rebuild.specs.Calls.{counters_below}
use Rattle.force_rebuild.proofs.slabs.put_counters.Given as goal

abbrev pub invariant-loop-i : goal.invariant-loop-i
invariant-loop-i g l =
    let disk = g.D.Disk in
    WereMade disk.trust.tells (disk.seen l.fn.device) (disk.seen l.device) (counters_below l.layout.geometry l.commit.0 l.slab l.own l.i)
