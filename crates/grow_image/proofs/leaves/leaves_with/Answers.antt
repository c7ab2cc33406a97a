use Rattle.std.proofs.Common.{◌<◌, List, [], length, sym, subst, arith}
use Rattle.std.proofs.lemmas.List.{take_all}
use Rattle.blk_base.specs.declared.opened.OpenedPage.{OpenedPage}
use Rattle.replay_map.specs.declared.links.Link.{Link}
use Rattle.grow_image.proofs.LeafLaws.{no_pages, pages_more}
use Rattle.grow_image.specs.NewAddresses.{AreNewLeaves}
use Rattle.grow_image.proofs.leaves.leaves_with.Goals as goal

pub loop-page-init : goal.loop-page-init
loop-page-init c = subst (λ (xs : List Link). AreNewLeaves c.args.range [] xs) (sym c.new-leaves.ensures.items) (no_pages c.args.range)

pub loop-page-preserved : goal.loop-page-preserved
loop-page-preserved c =
    let inside : c.loop-page.page-index < length c.args.pages.now = omega arith in
    pages_more c.args.range c.args.pages.now c.loop-page.page-index c.page-item.result _ _ inside c.page-item.is c.loop-page.invariant c.in_ok-push_leaves.ensures

pub returns : goal.returns
returns c =
    subst (λ (pages : List OpenedPage). AreNewLeaves c.args.range pages c.loop-page.leaves.items) (take_all c.loop-page.page-index c.args.pages.now c.loop-page-test.false) c.loop-page.invariant
