use Rattle.std.proofs.Common.{ℕ, ◌≡◌, ◌<◌, ◌≤◌, ◌-◌, ◌/◌, ◌%◌, ◌∙◌, ap, sym, subst, arith}
use Rattle.blk_base.specs.declared.place.PageId.{PageId}
use Rattle.blk_base.specs.Regions.{IsDataBlock}
use Rattle.blk_base.specs.Pages.{above, page_above}
use Rattle.block_map_tree.specs.declared.forms.Forest.{Forest}
use Rattle.block_map_tree.specs.declared.forms.Path.{Path}
use Rattle.block_map_tree.specs.declared.forms.Found.TheVariants.{Missing}
use Rattle.block_map_tree.specs.Pages.{IsTreeOf, page_on}
use Rattle.block_map_tree.specs.Tree.{Tree, IsTree, IsThere, IsFound, IsLinkable}
use Rattle.block_map_tree.proofs.HistoryLaws.{missing_linkable}
use Rattle.part_tests.specs.declared.trees.TheConstants.{FOREST}
use Rattle.part_tests.proofs.trees.link_next.Goals as goal

own_tree : (tree : Tree) (t : ℕ) → tree.forest ≡ FOREST → t < 60 → t % 30 ≡ 0 → IsTreeOf tree.forest t
own_tree tree t sizes small own = subst (λ (f : Forest). IsTreeOf f t) (sym sizes) (record { inside = small; own = own })

linkable : (tree : Tree) (path : Path) (address level : ℕ) (page : PageId) → IsTree tree → tree.forest ≡ FOREST → address < 40000000
    → address / 812 % 60 % 30 ≡ 0 → path.tree ≡ address / 812 % 60
    → ((l : ℕ) → l < 3 → page_on path 3 l ≡ page_above l address) → IsFound tree path (Missing level) → page ≡ page_above level address
    → IsLinkable tree page × IsThere tree (above page)
linkable tree path address level page form sizes inside own tree_is leads found is =
    let logical : tree.forest.geometry.logical ≡ 40000000 = ap (λ (f : Forest). f.geometry.logical) sizes in
    subst (λ (p : PageId). IsLinkable tree p × IsThere tree (above p)) (sym is)
    (missing_linkable tree path address level form (omega arith) (own_tree tree path.tree sizes (omega arith) (ap (λ (t : ℕ). t % 30) tree_is ∙ own))
    (subst (λ (f : Forest). (l : ℕ) → l < f.geometry.height → page_on path f.geometry.height l ≡ page_above l address) (sym sizes) leads) found)

data_block : (tree : Tree) (block : ℕ) → tree.forest ≡ FOREST → 85 ≤ block → block < 149 → IsDataBlock tree.forest.geometry block
data_block tree block sizes low high =
    subst (λ (f : Forest). IsDataBlock f.geometry block) (sym sizes) (record { slab = 0; offset = block - 85; inside = (omega arith, omega arith); stands = omega arith })

pub link-requires : goal.link-requires
link-requires c =
    let both = linkable _ _ _ _ _ c.requires.form c.requires.sizes c.requires.inside c.requires.own (ap (λ (p : Path). p.tree) c.path.ensures.path)
    c.path.ensures.leads c.in-Missing.ensures c.page_at-page.ensures in
    record { page = both.0; above = both.1; at = data_block c.args.tree.now c.args.block.0 c.requires.sizes c.requires.block.0 c.requires.block.1 }

pub find-requires-clause-tree : goal.find-requires-clause-tree
find-requires-clause-tree c =
    let tree_is = ap (λ (p : Path). p.tree) c.path.ensures.path in
    own_tree c.args.tree.now c.path.result.tree c.requires.sizes (omega arith) (ap (λ (t : ℕ). t % 30) tree_is ∙ c.requires.own)
