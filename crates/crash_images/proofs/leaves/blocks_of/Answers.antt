use Rattle.std.proofs.Common.{List, ◌<◌, length, get_or, take, subst, sym, arith}
use Rattle.std.proofs.lemmas.List.{take_all, take_more}
use Rattle.std.specs.BTreeMap.{get}
use Rattle.blk_base.specs.Pages.{page_order}
use Rattle.replay_map.specs.declared.links.Link.{Link}
use Rattle.crash_images.specs.Values.{LinkTo}
use Rattle.crash_images.proofs.LeafLaws.{linked_more}
use Rattle.crash_images.proofs.leaves.blocks_of.Goals as goal

pub loop-link-preserved : goal.loop-link-preserved
loop-link-preserved c page =
    let links = c.args.links.now in
    let i = c.loop-link.link-index in
    let none : Link = record { page = record { tree = 0; level = 0; index = 0 }; at = record { 0 = 0 } } in
    let inside : i < length links = omega arith in
    subst (λ (so_far : List Link). LinkTo so_far page (get page_order c.insert.new.self page)) (sym (take_more links i none inside))
    (linked_more (take i links) (get_or links i none) (get page_order c.loop-link.blocks) (get page_order c.insert.new.self) c.in_ok-insert.ensures.updates.0 c.loop-link.invariant page)

pub returns : goal.returns
returns c page = subst (λ (links : List Link). LinkTo links page (get page_order c.loop-link.blocks page)) (take_all c.loop-link.link-index c.args.links.now (omega arith)) (c.loop-link.invariant page)
