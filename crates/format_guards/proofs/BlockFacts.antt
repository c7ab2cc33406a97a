-- The roots are among the pages of all trees.
use Rattle.std.proofs.Common.{ℕ, ◌<◌, List, refl, arith}
use Rattle.blk_base.specs.Limits.{IsGeometry}
use Rattle.blk_base.specs.Pages.{root_page}
use Rattle.blk_base.specs.declared.geometry.Geometry.{Geometry}
use Rattle.blk_base.specs.declared.opened.OpenedPage.{OpenedPage}
use Rattle.blk_base.specs.declared.sizes.TheConstants.{TREES}
use Rattle.block_map_tree.specs.OpenedTree.{IsListed, IsOpened, all_trees}

pub root_listed : (g : Geometry) (pages : List OpenedPage) → IsGeometry g → IsOpened (all_trees g) pages → (tree : ℕ) → tree < TREES → IsListed pages (root_page g tree)
root_listed g pages sizes is tree below =
    let some = sizes.height.0 in
    is.roots (root_page g tree) (record { tree = record { inside = below; own = omega arith }; level = omega (arith, some); index = refl })
