use Rattle.std.proofs.Common.{arith}
use Rattle.rebuild.proofs.TurnLaws.{links_inside}
use Rattle.rebuild.specs.Done.{HasPages}
use Rattle.force_rebuild.proofs.EndLaws.{all_written, pages_failed}
use Rattle.force_rebuild.specs.Outcomes.{HasContents}
use Rattle.force_rebuild.proofs.forced_rebuild.write_image.Goals as goal

pub returns-in_err-put_pages : goal.returns-in_err-put_pages
returns-in_err-put_pages g c =
    let sizes = c.args.layout.now.geometry in
    let links = c.args.map.now.links.items in
    pages_failed _ _ _ (HasContents sizes c.args.changes.now links c.args.counters.now) (HasPages sizes c.args.changes.now links) c.args.last _ c.from_residual.result c.from_residual.ensures.0
    (λ image has. (has.newest, has.sizes, has.links)) (rw c.deref.ensures.value at c.in_err-put_pages.ensures)

pub returns : goal.returns
returns g c =
    let sizes = c.args.layout.now.geometry in
    let links = c.args.map.now.links.items in
    all_written _ _ _ _ (HasContents sizes c.args.changes.now links c.args.counters.now) (HasPages sizes c.args.changes.now links) c.args.last sizes c.args.counters.now c.write_counted.result
    (λ image has. (has.newest, has.sizes, has.links)) (λ image has. has.sizes) (λ image has. has.mappings) (rw c.deref.ensures.value at c.in_ok-put_pages.ensures)
    c.write_counted.ensures

pub write_counted-requires-clause-room : goal.write_counted-requires-clause-room
write_counted-requires-clause-room g c = let size = c.in_ok-put_pages.ensures.stays.size in let room = c.requires.room in omega (arith, size, room)

pub put_pages-requires-clause-inside : goal.put_pages-requires-clause-inside
put_pages-requires-clause-inside g c =
    links_inside c.args.layout.now.geometry c.args.map.now.links.items c.args.map.now.slots.items _ c.deref.result.now c.deref.ensures.value c.requires.room c.requires.form
