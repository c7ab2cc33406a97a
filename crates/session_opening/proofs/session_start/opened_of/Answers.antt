use Rattle.std.proofs.Common.{reverse, refl, sym, subst}
use Rattle.blk_base.specs.Limits.{IsGeometry}
use Rattle.blk_base.specs.declared.geometry.Geometry.{Geometry}
use Rattle.session_opening.proofs.FormedLaws.{led_to, opened_all}
use Rattle.session_opening.proofs.StartLaws.{is_start}
use Rattle.session_opening.specs.Pages.{ArePages}
use Rattle.session_opening.proofs.session_start.opened_of.Goals as goal

pub returns-clause-start : goal.returns-clause-start
returns-clause-start c image same has_map has_counts =
    is_start image (subst IsGeometry (sym same) c.requires.sizes) c.args.head.now c.args.counts.now.counts.items c.args.counts.now.sectors.items c.args.map.now _ has_map has_counts refl
    (subst (λ (g : Geometry). ArePages g (reverse c.args.map.now.links.items) c.in_ok-pages.pages.items) (sym same)
    (rw (c.of-layout.ensures, c.deref.ensures.value) at c.in_ok-pages.ensures))
    (rw c.deref-2.ensures.value at c.in_ok-counters.ensures) (rw c.deref-3.ensures.value at c.in_ok-commits.ensures) (rw c.deref-4.ensures.value at c.in_ok-tree_pages.ensures)

pub returns-clause-pages : goal.returns-clause-pages
returns-clause-pages c =
    opened_all c.args.head.now.geometry c.requires.sizes c.args.map.now.links.items c.args.map.now.slots.items c.requires.form c.in_ok-pages.pages.items
    (rw (c.of-layout.ensures, c.deref.ensures.value) at c.in_ok-pages.ensures)

pub returns-clause-tree_pages : goal.returns-clause-tree_pages
returns-clause-tree_pages c =
    led_to c.args.head.now.geometry c.requires.sizes c.args.map.now.links.items c.args.map.now.slots.items c.requires.form c.in_ok-pages.pages.items
    (rw (c.of-layout.ensures, c.deref.ensures.value) at c.in_ok-pages.ensures) _ (rw c.deref-4.ensures.value at c.in_ok-tree_pages.ensures)
