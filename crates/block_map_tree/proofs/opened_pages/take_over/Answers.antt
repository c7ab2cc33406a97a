use Rattle.std.proofs.Common.{◌<◌, ◌∙◌, length, ap, subst, arith}
use Rattle.blk_base.specs.declared.opened.OpenedPage.{OpenedPage}
use Rattle.block_map_tree.specs.Pages.{IsTreeOf}
use Rattle.block_map_tree.specs.Tree.{number_of}
use Rattle.block_map_tree.proofs.OpeningLaws.{taken_more, taken_past}
use Rattle.block_map_tree.proofs.opened_pages.take_over.Goals.{then-has_tree, else-has_tree}
use Rattle.block_map_tree.proofs.opened_pages.take_over.Goals as goal

pub index_mut-requires : goal.index_mut-requires
index_mut-requires c =
    let own = subst (λ (o : OpenedPage). IsTreeOf c.args.forest.now o.page.tree) c.page-item.is (c.has_tree.ensures.0 c.if-has_tree.true) in
    let small = c.requires.inside c.loop-page.page-index c.page-item.result c.loop-page-test.true own in
    let number = c.number.ensures ∙ ap (λ (o : OpenedPage). number_of c.args.forest.now o.page) c.page-item.is in
    let size = c.loop-page.invariant.size in
    omega (arith, c.loop-page.pages.ok)

pub loop-page-preserved : goal.loop-page-preserved
loop-page-preserved c =
    let f = c.args.forest.now in
    let opened = c.args.opened.now in
    let k = c.loop-page.page-index in
    let old = c.args.pages.now.items in
    let o = c.page-item.result in
    elim c.if-has_tree.branch [
      | then-has_tree w ↦
          let own = c.has_tree.ensures.0 w.if-has_tree.true in
          let own' = subst (λ (q : OpenedPage). IsTreeOf f q.page.tree) c.page-item.is own in
          let small = c.requires.inside k o c.loop-page-test.true own' in
          let number = w.number.ensures ∙ ap (λ (q : OpenedPage). number_of f q.page) c.page-item.is in
          let size = c.loop-page.invariant.size in
          let place : w.number.result < length c.loop-page.pages.items = omega arith in
          rw w.pages-is
          (taken_more f k w.number.result opened old c.loop-page.pages.items o w.copy_from.new.self c.requires.opened c.loop-page.invariant c.page-item.is
          c.loop-page-test.true own w.number.ensures place w.copy_from.ensures)
      | else-has_tree w ↦ rw w.pages-is
          (taken_past f k opened old c.loop-page.pages.items o c.loop-page.invariant c.page-item.is c.loop-page-test.true
          (λ own. let is = c.has_tree.ensures.1 own in let is_not = w.if-has_tree.false in cc))
    ]
