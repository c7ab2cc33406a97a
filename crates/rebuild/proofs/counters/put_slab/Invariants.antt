use Rattle.std.proofs.Common.{Ok}
use Rattle.rebuild.specs.Acts.{Acts, recovery}
use Rattle.rebuild.specs.Done.{HasTheseCounts, IsSlabDone}
use Rattle.rebuild.proofs.counters.put_slab.Given as goal

abbrev pub invariant-loop-i : goal.invariant-loop-i
invariant-loop-i g l =
    let disk = g.D.Disk in
    Acts disk.trust.tells (recovery disk.trust) (disk.seen l.fn.device) (disk.seen l.device) (HasTheseCounts l.layout.geometry l.counts.counts.items l.counts.sectors.items)
    (IsSlabDone l.layout.geometry l.counts.sectors.items l.slab l.i) (Ok tt)
