use Rattle.std.proofs.Common.{ℕ, ◌≡◌, ◌<◌, ◌≤◌, ◌+◌, ◌-◌, ◌/◌, slice_index_or}
use Rattle.blk_base.specs.declared.opened.OpenedPage.{OpenedPage}
use Rattle.block_map_tree.specs.Pages.{IsTreeOf}
use Rattle.block_map_tree.proofs.opened_pages.count_rows.Given as goal

abbrev pub invariant-loop-page : goal.invariant-loop-page
invariant-loop-page l = record {
  logical : (l.forest.geometry.logical - 1) / 812 / 60 / 812 + 1 < l.rows;
  most : l.rows ≤ 813;
  opened : (k : ℕ) (d : OpenedPage) → k < l.page-index → IsTreeOf l.forest (slice_index_or l.opened k d).page.tree
      → (slice_index_or l.opened k d).page.level ≡ 1 → (slice_index_or l.opened k d).page.index + 1 < l.rows;
}
