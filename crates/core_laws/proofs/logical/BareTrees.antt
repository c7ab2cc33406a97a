-- Trees of two levels in which no page is linked.
use Rattle.std.specs.Prelude.{None, ℕ, ◌≡◌, ◌<◌, ◌≤◌, ◌+◌, List, [], length, replicate, slice_index_or, refl}
use Rattle.std.proofs.Common.{sym, ◌∙◌, ap, subst, inl, inr, arith}
use Rattle.std.proofs.lemmas.Bool.{eq-eqb}
use Rattle.std.proofs.lemmas.Bool.Decides.{leb_tells}
use Rattle.std.proofs.lemmas.List.{length-replicate, get_or-replicate}
use Rattle.std.proofs.lemmas.List.Elements.{All-replicate}
use Rattle.std.proofs.Math.ListN.{get_or-eq_default}
use Rattle.blk_base.specs.Limits.{IsGeometry}
use Rattle.blk_base.specs.declared.geometry.Geometry.{Geometry}
use Rattle.blk_base.specs.declared.place.Mapping.{Mapping}
use Rattle.blk_base.specs.declared.place.Mapping.TheVariants.{Unmapped}
use Rattle.blk_base.specs.declared.place.PageId.{PageId}
use Rattle.blk_base.proofs.Example.{blank}
use Rattle.page_codec.specs.Grammar.{AreHeld}
use Rattle.page_codec.proofs.HeldLaws.{held_unmapped}
use Rattle.dirty_pages.specs.DirtyPoints.{HasPoint, clean}
use Rattle.dirty_pages.specs.declared.dirty_points.DirtyPoints.{DirtyPoints}
use Rattle.dirty_pages.proofs.PageLists.{replicate_at}
use Rattle.block_map_tree.proofs.PageLaws.{in_row}
use Rattle.block_map_tree.specs.Pages.{IsForest}
use Rattle.block_map_tree.specs.Tree.{Tree, trees_of, row_of}
use Rattle.block_map_tree.specs.declared.forms.Forest.{Forest}
use Rattle.core_model.specs.PageLinks.{block_in}
use Rattle.core_model.specs.PageTrees.{IsMapTree}

abbrev forest : Geometry → ℕ → ℕ → Forest
forest g zone zones = record { geometry = g; zone = zone; zones = zones }

-- the roots alone
unfoldable pub bare : Geometry → ℕ → ℕ → Tree
bare g zone zones = record {
  forest = forest g zone zones;
  pages = replicate (trees_of (forest g zone zones)) blank;
  dirty_points = replicate (trees_of (forest g zone zones)) clean;
}

blank_slot : (count n slot : ℕ) → slice_index_or (slice_index_or (replicate count blank) n []) slot Unmapped ≡ Unmapped
blank_slot count n slot = elim (leb_tells count n) [
  | inl past ↦ ap (λ (r : List Mapping). slice_index_or r slot Unmapped)
      (get_or-eq_default (replicate count blank) [] (let p = past.1 in let size = length-replicate count blank in omega arith))
  | inr inside ↦ ap (λ (r : List Mapping). slice_index_or r slot Unmapped) (get_or-replicate count n blank [] inside.1) ∙ replicate_at 812 slot Unmapped
]

row_none : (f : Forest) (page : PageId) → page.level + 1 ≡ f.geometry.height → row_of f page ≡ 0
row_none f page top = rw (eq-eqb (page.level + 1) f.geometry.height top) refl

pub bare_is : (g : Geometry) (zone zones : ℕ) → IsGeometry g → zone < zones → zones ≤ 60 → g.height ≡ 2 → IsMapTree g zone zones (λ page. None) [] (bare g zone zones)
unfolding bare
bare_is g zone zones sizes below few height =
    let f = forest g zone zones in
    let count = trees_of f in
    let is_forest : IsForest f = record { sizes = sizes; zone = below; zones = few } in
    let wide : length (replicate count blank) ≡ count = length-replicate count blank in
    let marked : length (replicate count clean) ≡ count = length-replicate count clean in
    record {
      forest_is = refl;
      form = record {
        forest = is_forest;
        room = λ page on level.
            let low = on.level in
            let row : row_of f page ≡ 0 = row_none f page (omega (arith, level, low, height)) in
            let place = in_row f page 1 is_forest on.tree (omega (arith, row)) in
            omega (arith, place, wide);
        most = omega (arith, wide, height);
        held = All-replicate (AreHeld g 1) count blank (held_unmapped g 1);
        dirty_points = marked ∙ sym wide;
        there = λ page point inner has. absurd (elim (subst (λ (m : DirtyPoints). HasPoint m point) (replicate_at count _ clean) has) [ inl dirty ↦ cc | inr writing ↦ cc ]);
      };
      linked = λ page linkable. ap block_in (blank_slot count _ _);
    }
