use Rattle.std.proofs.Common.{List, length, subst, rules, ap, ◌≡◌, ◌∙◌}
use Rattle.std.proofs.lemmas.List.{length-replicate}
use Rattle.blk_base.specs.declared.opened.OpenedPage.{OpenedPage}
use Rattle.block_map_tree.specs.OpenedTree.{forest_of, IsTakenOver, blank}
use Rattle.block_map_tree.proofs.OpeningLaws.{opening}
use Rattle.block_map_tree.proofs.nodes.TreeNodes.from_opened.Goals as goal

pub take_over-requires-clause-inside : goal.take_over-requires-clause-inside
unfolding blank
take_over-requires-clause-inside c =
    let size : length c.in_ok-pages.pages.items ≡ c.count_pages-count.result =
    ap length (c.in_ok-pages.ensures blank (λ f g made called. search rules)) ∙ length-replicate c.count_pages-count.result blank in
    rw (c.deref-2.ensures.value, ← c.deref.ensures.value, size) c.count_pages-count.ensures.opened

pub returns : goal.returns
unfolding blank
returns c =
    let f = forest_of c.args.opened.now c.args.zone c.args.zones in
    opening f c.args.opened.now.pages.items c.count_pages-count.result c.in_ok-pages.pages.items c.take_over.new.pages.items c.in_ok-dirty_points.dirty_points
    (record { sizes = c.requires.sizes; zone = c.requires.zone; zones = c.requires.zones }) c.requires.opened c.count_pages-count.ensures.most c.count_pages-count.ensures.paths
    (c.in_ok-pages.ensures blank (λ f g made called. search rules))
    (subst (λ (os : List OpenedPage). IsTakenOver f os (length os) c.in_ok-pages.pages.items c.take_over.new.pages.items) c.deref-2.ensures.value c.take_over.ensures)
    c.in_ok-dirty_points.ensures

pub invariant_of-result : goal.invariant_of-result
invariant_of-result c = (returns c).form
