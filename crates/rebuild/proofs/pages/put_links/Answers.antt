use Rattle.std.proofs.Common.{◌<◌, List, Ok, Err, length, arith, subst}
use Rattle.std.proofs.lemmas.List.{take_all}
use Rattle.replay_map.specs.declared.links.Link.{Link}
use Rattle.rebuild.proofs.ActLaws.{still_failed}
use Rattle.rebuild.proofs.TurnLaws.{no_links, one_link_more}
use Rattle.rebuild.specs.Acts.{Acts, page_writing}
use Rattle.rebuild.specs.Done.{AreLinksDone, HasLinks}
use Rattle.rebuild.proofs.pages.put_links.Goals as goal

pub loop-link-init : goal.loop-link-init
loop-link-init g c = no_links _ _ _ _

pub loop-link-preserved : goal.loop-link-preserved
loop-link-preserved g c =
    let inside : c.loop-link.link-index < length c.args.links.now = omega arith in
    one_link_more _ _ _ _ _ _ c.loop-link.link-index _ (Ok tt) inside c.loop-link.invariant c.in_ok-put_page.ensures

pub returns-in_err-put_page : goal.returns-in_err-put_page
returns-in_err-put_page g c =
    let inside : c.loop-link.link-index < length c.args.links.now = omega arith in
    still_failed _ _ _ _ _ _ _ _ c.from_residual.result c.from_residual.ensures.0
    (one_link_more _ _ _ _ _ _ c.loop-link.link-index _ (Err _) inside c.loop-link.invariant c.in_err-put_page.ensures)

pub returns : goal.returns
returns g c =
    let disk = g.D.Disk in
    subst (λ (links : List Link). Acts disk.trust.tells (page_writing disk.trust.honest) (disk.seen c.args.device.now) (disk.seen c.loop-link.device) (HasLinks c.args.changes.now c.args.links.now)
    (AreLinksDone c.args.changes.now links) (Ok tt)) (take_all c.loop-link.link-index c.args.links.now c.loop-link-test.false) c.loop-link.invariant

pub put_page-requires : goal.put_page-requires
put_page-requires g c =
    let size = c.loop-link.invariant.stays.size in
    let inside : c.loop-link.link-index < length c.args.links.now = omega arith in
    let first : Link = record { page = record { tree = 0; level = 0; index = 0 }; at = record { 0 = 0 } } in
    let here = c.requires c.loop-link.link-index first inside in
    omega (arith, here, size)
