use Rattle.std.proofs.Common.{[], sym, subst}
use Rattle.block_map_tree.specs.Tree.{Tree}
use Rattle.core_model.specs.PageLinks.{opened_page}
use Rattle.core_model.specs.PageTrees.{IsMapTree}
use Rattle.block_map_tree.proofs.OpeningLaws.{opened_in_zone}
use Rattle.logical_zone.proofs.TreeLaws.{opened_here}
use Rattle.logical_zone.proofs.trees.opened_trees.Goals as goal

pub from_opened-requires-clause-opened : goal.from_opened-requires-clause-opened
from_opened-requires-clause-opened c =
    opened_in_zone (record { geometry = c.args.opened.now.head.geometry; zone = c.from.result; zones = c.from-2.result }) c.args.opened.now.pages.items c.requires.pages

pub returns : goal.returns
returns c =
    let g = c.args.opened.now.head.geometry in
    let pages = c.args.opened.now.pages.items in
    subst (λ (t : Tree). IsMapTree g c.args.zone c.args.zones (opened_page pages) [] t) (sym c.new.ensures)
    (opened_here g c.args.zone c.args.zones c.from.result c.from-2.result pages c.in_ok-nodes.nodes c.from.ensures c.from-2.ensures c.in_ok-nodes.ensures)
