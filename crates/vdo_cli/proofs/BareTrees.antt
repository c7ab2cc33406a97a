-- The trees of the one logical zone of a session over an image that links no page: their roots alone.
use Rattle.std.specs.Prelude.{ℕ, ◌≡◌, ◌<◌, ◌≤◌, ◌-◌, ◌*◌, ◌^◌, Option, None, List, [], length, replicate, slice_index_or, refl}
use Rattle.std.proofs.Common.{sym, ◌∙◌, ap, subst, inl, inr, arith}
use Rattle.std.proofs.lemmas.Bool.Decides.{leb_tells}
use Rattle.std.proofs.lemmas.List.{length-replicate, get_or-replicate}
use Rattle.std.proofs.lemmas.List.Elements.{All-replicate}
use Rattle.std.proofs.Math.ListN.{get_or-eq_default}
use Rattle.blk_base.specs.Limits.{IsGeometry}
use Rattle.blk_base.specs.declared.geometry.Geometry.{Geometry}
use Rattle.blk_base.specs.declared.place.Mapping.{Mapping}
use Rattle.blk_base.specs.declared.place.Mapping.TheVariants.{Unmapped}
use Rattle.blk_base.specs.declared.place.PageId.{PageId}
use Rattle.blk_base.specs.declared.place.Pbn.{Pbn}
use Rattle.blk_base.proofs.Example.{blank}
use Rattle.page_codec.specs.Grammar.{AreHeld}
use Rattle.page_codec.proofs.HeldLaws.{held_unmapped}
use Rattle.dirty_pages.specs.DirtyPoints.{HasPoint, clean}
use Rattle.dirty_pages.specs.declared.dirty_points.DirtyPoints.{DirtyPoints}
use Rattle.dirty_pages.proofs.PageLists.{replicate_at}
use Rattle.block_map_tree.proofs.PageLaws.{in_row, root_or_lower, row_lower, row_root}
use Rattle.block_map_tree.specs.Pages.{IsForest, IsOnPath}
use Rattle.block_map_tree.specs.Tree.{Tree, most_rows, row_of, trees_of}
use Rattle.block_map_tree.specs.OpenedTree.{all_trees}
use Rattle.core_model.specs.PageLinks.{block_in}
use Rattle.core_model.specs.PageTrees.{IsMapTree}

abbrev count : Geometry → ℕ
count g = most_rows g.height * trees_of (all_trees g)

unfoldable pub bare : Geometry → Tree
bare g = record { forest = all_trees g; pages = replicate (count g) blank; dirty_points = replicate (count g) clean }

blank_slot : (n place slot : ℕ) → slice_index_or (slice_index_or (replicate n blank) place []) slot Unmapped ≡ Unmapped
blank_slot n place slot = elim (leb_tells n place) [
  | inl past ↦ ap (λ (r : List Mapping). slice_index_or r slot Unmapped)
      (get_or-eq_default (replicate n blank) [] (let p = past.1 in let size = length-replicate n blank in omega arith))
  | inr inside ↦ ap (λ (r : List Mapping). slice_index_or r slot Unmapped) (get_or-replicate n place blank [] inside.1) ∙ replicate_at 812 slot Unmapped
]

few_rows : (g : Geometry) (page : PageId) → IsForest (all_trees g) → IsOnPath (all_trees g) page → 1 ≤ page.level → row_of (all_trees g) page < most_rows g.height
few_rows g page is_forest on level =
    let heights = is_forest.sizes.height in
    elim (root_or_lower (all_trees g) page is_forest on) [
      | inl root ↦ let row = row_root (all_trees g) page root in omega (arith, row)
      | inr lower ↦
          let row = row_lower (all_trees g) page lower in
          let low = lower.level in
          let three : g.height ≡ 3 = omega (arith, level, low, heights) in
          let wide : page.index < 812 ^ 1 = subst (λ (n : ℕ). page.index < 812 ^ n) (let e : g.height - 1 - page.level ≡ 1 = omega (arith, level, low, three) in e) lower.index in
          let most : most_rows g.height ≡ 813 = ap most_rows three in
          omega (arith, row, wide, most)
    ]

pub bare_is : (g : Geometry) (links : PageId → Option Pbn) → IsGeometry g → ((page : PageId) → links page ≡ None) → IsMapTree g 0 1 links [] (bare g)
unfolding bare
bare_is g links sizes unlinked =
    let n = count g in
    let is_forest : IsForest (all_trees g) = record { sizes = sizes; zone = omega arith; zones = omega arith } in
    let wide : length (replicate n blank) ≡ n = length-replicate n blank in
    let marked : length (replicate n clean) ≡ n = length-replicate n clean in
    record {
      forest_is = refl;
      form = record {
        forest = is_forest;
        room = λ page on level. let place = in_row (all_trees g) page (most_rows g.height) is_forest on.tree (few_rows g page is_forest on level) in omega (arith, place, wide);
        most = omega (arith, wide);
        held = All-replicate (AreHeld g 1) n blank (held_unmapped g 1);
        dirty_points = marked ∙ sym wide;
        there = λ page point inner has. absurd (elim (subst (λ (m : DirtyPoints). HasPoint m point) (replicate_at n _ clean) has) [ inl dirty ↦ cc | inr writing ↦ cc ]);
      };
      linked = λ page linkable. ap block_in (blank_slot n _ _) ∙ sym (unlinked page);
    }
