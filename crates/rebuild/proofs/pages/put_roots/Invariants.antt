use Rattle.std.proofs.Common.{Ok}
use Rattle.rebuild.specs.Acts.{Acts, page_writing}
use Rattle.rebuild.specs.Done.{AreRootsDone, HasRoots}
use Rattle.rebuild.proofs.pages.put_roots.Given as goal

abbrev pub invariant-loop-tree : goal.invariant-loop-tree
invariant-loop-tree g l =
    let disk = g.D.Disk in
    Acts disk.trust.tells (page_writing disk.trust.honest) (disk.seen l.fn.device) (disk.seen l.device) (HasRoots l.layout.geometry l.changes) (AreRootsDone l.layout.geometry l.changes l.tree) (Ok tt)
