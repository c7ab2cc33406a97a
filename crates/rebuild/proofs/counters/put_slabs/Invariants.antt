use Rattle.std.proofs.Common.{Ok}
use Rattle.rebuild.specs.Acts.{Acts, recovery}
use Rattle.rebuild.specs.Done.{AreSlabsDone, HasTheseCounts}
use Rattle.rebuild.proofs.counters.put_slabs.Given as goal

abbrev pub invariant-loop-slab : goal.invariant-loop-slab
invariant-loop-slab g l =
    let disk = g.D.Disk in
    Acts disk.trust.tells (recovery disk.trust) (disk.seen l.fn.device) (disk.seen l.device) (HasTheseCounts l.layout.geometry l.counts.counts.items l.counts.sectors.items)
    (AreSlabsDone l.layout.geometry l.counts.sectors.items l.slab) (Ok tt)
