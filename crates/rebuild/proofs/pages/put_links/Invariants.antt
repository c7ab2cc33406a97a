use Rattle.std.proofs.Common.{Ok, take}
use Rattle.rebuild.specs.Acts.{Acts, page_writing}
use Rattle.rebuild.specs.Done.{AreLinksDone, HasLinks}
use Rattle.rebuild.proofs.pages.put_links.Given as goal

abbrev pub invariant-loop-link : goal.invariant-loop-link
invariant-loop-link g l =
    let disk = g.D.Disk in
    Acts disk.trust.tells (page_writing disk.trust.honest) (disk.seen l.fn.device) (disk.seen l.device) (HasLinks l.changes l.links) (AreLinksDone l.changes (take l.link-index l.links)) (Ok tt)
