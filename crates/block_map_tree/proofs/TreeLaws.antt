-- What the calls keep of a tree.
use Rattle.std.specs.Prelude.{ℕ, ◌<◌, List, [], length, slice_index_or, slice_set, refl}
use Rattle.std.proofs.Common.{sym, ◌∙◌, ap, subst, inl, inr, arith}
use Rattle.std.proofs.lemmas.List.{length-set}
use Rattle.std.proofs.lemmas.List.Elements.{All-set}
use Rattle.blk_base.specs.declared.place.PageId.{PageId}
use Rattle.blk_base.specs.declared.place.Pbn.{Pbn}
use Rattle.blk_base.specs.declared.place.Mapping.{Mapping}
use Rattle.blk_base.specs.declared.place.Mapping.TheVariants.{Unmapped, At}
use Rattle.blk_base.specs.declared.point.Point.{Point}
use Rattle.blk_base.specs.Regions.{IsDataBlock}
use Rattle.page_codec.specs.Grammar.{AreHeld}
use Rattle.page_codec.proofs.HeldLaws.{held-set, holds_block}
use Rattle.dirty_pages.specs.declared.dirty_points.DirtyPoints.{DirtyPoints}
use Rattle.dirty_pages.specs.DirtyPoints.{HasPoint, dirty_points_at, changed_at}
use Rattle.blk_base.specs.Pages.{above, slot_of}
use Rattle.block_map_tree.specs.Tree.{Tree, IsTree, IsAt, as_root, by_link, IsThere, IsLinkable, Links, number_of, mappings_of, dirty_points_of, with_change, with_mapping}
use Rattle.dirty_pages.proofs.PageLists.{at_set}
use Rattle.block_map_tree.proofs.PageLaws.{one_number, lower_on_path, above_on_path, above_inner}

-- other dirty points move no page
pub dirty_points_move_none : (tree : Tree) (dirty_points : List DirtyPoints) (page : PageId) (at : Pbn) → IsAt tree page at → IsAt (record tree { dirty_points = dirty_points }) page at
dirty_points_move_none tree dirty_points page at (as_root r e) = as_root r e
dirty_points_move_none tree dirty_points page at (by_link l e) = by_link l e

pub dirty_points_move_none_back : (tree : Tree) (dirty_points : List DirtyPoints) (page : PageId) (at : Pbn) → IsAt (record tree { dirty_points = dirty_points }) page at → IsAt tree page at
dirty_points_move_none_back tree dirty_points page at (as_root r e) = as_root r e
dirty_points_move_none_back tree dirty_points page at (by_link l e) = by_link l e

-- other dirty points for one page, that have a point only where there was one
pub dirty_points_keep : (tree : Tree) (n : ℕ) (dirty_points : DirtyPoints) → IsTree tree → n < length tree.dirty_points
    → ((point : Point) → HasPoint dirty_points point → (before : Point) × HasPoint (dirty_points_at tree.dirty_points n) before)
    → IsTree (record tree { dirty_points = slice_set tree.dirty_points n dirty_points })
dirty_points_keep tree n dirty_points form inside had = record {
  forest = form.forest;
  room = form.room;
  most = form.most;
  held = form.held;
  dirty_points = length-set tree.dirty_points n dirty_points ∙ form.dirty_points;
  there = λ page point inner has.
      let m = number_of tree.forest page in
      let there : IsThere tree page = elim (at_set tree.dirty_points n m dirty_points (dirty_points_at [] 0) inside) [
        | inl same ↦
            let before = had point (subst (λ (k : DirtyPoints). HasPoint k point) same.1 has) in
            form.there page before.0 inner (subst (λ (k : ℕ). HasPoint (dirty_points_at tree.dirty_points k) before.0) (sym same.0) before.1)
        | inr other ↦ form.there page point inner (subst (λ (k : DirtyPoints). HasPoint k point) other.1 has)
      ] in
      record { at = there.at; stands = dirty_points_move_none tree _ page there.at there.stands };
}

-- pages that were there stay so over a link
pub link_keeps : (tree : Tree) (n slot : ℕ) (at : Pbn) (dirty_points : List DirtyPoints) (page : PageId) → n < length tree.pages
    → slot < length (slice_index_or tree.pages n []) → IsThere tree page
    → IsThere (record tree { pages = slice_set tree.pages n (slice_set (slice_index_or tree.pages n []) slot (At at)); dirty_points = dirty_points }) page
link_keeps tree n slot at dirty_points page inside within there =
    elim there.stands [
      | as_root r e ↦ record { at = there.at; stands = as_root r e }
      | by_link l e ↦
          let m = number_of tree.forest (above page) in
          let row = slice_index_or tree.pages n [] in
          elim (at_set tree.pages n m (slice_set row slot (At at)) [] inside) [
            | inl same ↦ elim (at_set row slot (slot_of page) (At at) Unmapped within) [
              | inl hit ↦ record { at = at; stands = by_link l (ap (λ (r : List Mapping). slice_index_or r (slot_of page) Unmapped) same.1 ∙ hit.1) }
              | inr miss ↦ record {
                at = there.at;
                stands = by_link l (ap (λ (r : List Mapping). slice_index_or r (slot_of page) Unmapped) same.1 ∙ miss.1
                    ∙ ap (λ (k : ℕ). slice_index_or (slice_index_or tree.pages k []) (slot_of page) Unmapped) (sym same.0) ∙ e);
              }
            ]
            | inr other ↦ record {
              at = there.at;
              stands = by_link l (ap (λ (r : List Mapping). slice_index_or r (slot_of page) Unmapped) other.1 ∙ e);
            }
          ]
    ]

-- there is a place for the page above a page that may be linked
pub record HasPlace (tree : Tree) (page : PageId) : Type 0 where
  pub level : page.level < 255
  pub page_inside : number_of tree.forest (above page) < length tree.pages
  pub dirty_points_inside : number_of tree.forest (above page) < length tree.dirty_points
  pub slot_inside : slot_of page < length (mappings_of tree (above page))

pub place_above : (tree : Tree) (page : PageId) → IsTree tree → IsLinkable tree page → HasPlace tree page
place_above tree page form linkable =
    let lower = lower_on_path tree.forest page form.forest linkable.path linkable.lower in
    let room = form.room (above page) (above_on_path tree.forest page form.forest linkable.path lower) (omega arith) in
    let heights = form.forest.sizes.height in
    let level = lower.level in
    let dirty_points = form.dirty_points in
    let held = form.held (number_of tree.forest (above page)) [] room in
    let width = held.count in
    record { level = omega arith; page_inside = room; dirty_points_inside = omega arith; slot_inside = omega (arith, width) }

-- a link leaves a tree
pub links : (tree : Tree) (page : PageId) (at : Pbn) (point : Point) → IsTree tree → IsLinkable tree page → IsThere tree (above page) → IsDataBlock tree.forest.geometry at.0
    → Links tree (with_change (with_mapping tree (above page) (slot_of page) (At at)) (above page) (changed_at point)) page at point
links tree page at point form linkable parent data_block =
    let place = place_above tree page form linkable in
    let n = number_of tree.forest (above page) in
    let row = slice_set (mappings_of tree (above page)) (slot_of page) (At at) in
    let dirty_points = changed_at point (dirty_points_of tree (above page)) in
    let result : Tree = with_change (with_mapping tree (above page) (slot_of page) (At at)) (above page) (changed_at point) in
    let kept : (other : PageId) → IsThere tree other → IsThere result other =
    λ other there. link_keeps tree n (slot_of page) at (slice_set tree.dirty_points n dirty_points) other place.page_inside place.slot_inside there in
    let size = length-set tree.pages n row in
    record {
      set = refl;
      form = record {
        forest = form.forest;
        room = λ other on level. let r = form.room other on level in omega arith;
        most = let m = form.most in omega arith;
        held = All-set (AreHeld tree.forest.geometry 1) tree.pages n row
            (held-set tree.forest.geometry 1 (slot_of page) (mappings_of tree (above page)) (At at) (form.held n [] place.page_inside) (holds_block tree.forest.geometry 1 at form.forest.sizes data_block)) form.held;
        dirty_points = length-set tree.dirty_points n dirty_points ∙ form.dirty_points ∙ sym size;
        there = λ other later inner has. elim (at_set tree.dirty_points n (number_of tree.forest other) dirty_points (dirty_points_at [] 0) place.dirty_points_inside) [
          | inl same ↦
              let inner_above = above_inner tree.forest page form.forest (lower_on_path tree.forest page form.forest linkable.path linkable.lower) in
              kept other (subst (λ (p : PageId). IsThere tree p) (one_number tree.forest (above page) other form.forest inner_above inner (sym same.0)) parent)
          | inr elsewhere ↦ kept other (form.there other later inner (subst (λ (k : DirtyPoints). HasPoint k later) elsewhere.1 has))
        ];
      };
    }
