use Rattle.std.proofs.Common.{Err, arith}
use Rattle.rebuild.proofs.ActLaws.{acts_as, still_failed}
use Rattle.rebuild.proofs.PageLaws.{recovers_pages}
use Rattle.rebuild.proofs.TurnLaws.{both_done, links_inside, page_list_stays}
use Rattle.rebuild.specs.Done.{ArePagesDone, HasContents}
use Rattle.rebuild.proofs.unclean.write_blocks.Goals as goal

pub returns-in_err-put_pages : goal.returns-in_err-put_pages
returns-in_err-put_pages g c =
    let contents = c.args.contents.now in
    let sizes = c.args.layout.now.geometry in
    still_failed _ _ _ _ _ _ _ _ c.from_residual.result c.from_residual.ensures.0
    (acts_as _ _ _ _ _ (HasContents sizes c.args.changes.now contents.map.links.items contents.counts.counts.items contents.counts.sectors.items) _ ArePagesDone (Err _)
    (recovers_pages _ _ _ _ _ (Err _) (rw c.deref.ensures.value at c.in_err-put_pages.ensures) page_list_stays)
    (λ image has. (has.newest, has.sizes, has.links)) (λ image calls has is. is))

pub returns : goal.returns
returns g c =
    both_done _ _ _ _ _ _ _ _ _ c.put_slabs.result (rw c.deref.ensures.value at c.in_ok-put_pages.ensures) c.put_slabs.ensures

pub put_slabs-requires-clause-room : goal.put_slabs-requires-clause-room
put_slabs-requires-clause-room g c = let size = c.in_ok-put_pages.ensures.stays.size in let room = c.requires.room in omega (arith, size, room)

pub put_pages-requires-clause-inside : goal.put_pages-requires-clause-inside
put_pages-requires-clause-inside g c =
    links_inside c.args.layout.now.geometry c.args.contents.now.map.links.items c.args.contents.now.map.slots.items _ c.deref.result.now c.deref.ensures.value c.requires.room c.requires.form
