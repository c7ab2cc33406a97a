-- A walk down a path, one link after the other.
use Rattle.std.specs.Prelude.{ℕ, ◌≡◌, ◌<◌, ◌≤◌, ◌+◌, ◌-◌, ◌*◌, List, [], ◌∷◌, ◌++◌, length, take, slice_index_or, refl}
use Rattle.std.proofs.Common.{sym, ◌∙◌, ap, subst, inl, inr, arith, add-one}
use Rattle.std.proofs.Math.Seq.{take-suc}
use Rattle.std.proofs.lemmas.Bool.Decides.{eqb_tells}
use Rattle.blk_base.specs.declared.place.PageId.{PageId}
use Rattle.blk_base.specs.declared.place.Pbn.{Pbn}
use Rattle.blk_base.specs.Regions.{Root, block_of}
use Rattle.block_map_tree.specs.declared.forms.Path.{Path}
use Rattle.block_map_tree.specs.declared.forms.Found.TheVariants.{Leaf, Missing}
use Rattle.block_map_tree.specs.Pages.{spelled_behind, IsPath, IsTreeOf, page_on}
use Rattle.block_map_tree.specs.Tree.{Tree, IsTree, IsAt, as_root, IsThere, IsFound}
use Rattle.blk_base.proofs.PageIdLaws.{same_page}

-- the walk has followed so many links, to this page, and all on the way are there
pub record IsWalked (tree : Tree) (path : Path) (depth index : ℕ) (found : Pbn) : Type 0 where
  pub spelled : index ≡ spelled_behind 0 (take depth path.slots)
  pub small : (depth ≡ 0 → index ≡ 0) × (depth ≡ 1 → index < 812) × (depth ≡ 2 → index < 659344)
  pub here : IsAt tree (page_on path tree.forest.geometry.height (tree.forest.geometry.height - 1 - depth)) found
  pub passed : (level : ℕ) → tree.forest.geometry.height - 1 - depth ≤ level → level < tree.forest.geometry.height → IsThere tree (page_on path tree.forest.geometry.height level)

spelled-append : (n : ℕ) (xs : List ℕ) (digit : ℕ) → spelled_behind n (xs ++ digit ∷ []) ≡ spelled_behind n xs * 812 + digit
spelled-append n [] digit = refl
spelled-append n (x ∷ xs) digit = spelled-append (n * 812 + x) xs digit

spelled_more : (digits : List ℕ) (k : ℕ) → k < length digits
    → spelled_behind 0 (take (k + 1) digits) ≡ spelled_behind 0 (take k digits) * 812 + slice_index_or digits k 0
spelled_more digits k inside =
    ap (λ (n : ℕ). spelled_behind 0 (take n digits)) (add-one k)
    ∙ ap (spelled_behind 0) (take-suc digits k 0 inside)
    ∙ spelled-append 0 (take k digits) (slice_index_or digits k 0)

-- the page so far down a path
page_down : (path : Path) (height level depth index : ℕ) → height - 1 - level ≡ depth → index ≡ spelled_behind 0 (take depth path.slots)
    → record { tree = path.tree; level = level; index = index } ≡ page_on path height level
page_down path height level depth index place spelled =
    same_page (record { tree = path.tree; level = level; index = index }) (page_on path height level) refl refl
    (spelled ∙ ap (λ (n : ℕ). spelled_behind 0 (take n path.slots)) (sym place))

pub walk_begins : (tree : Tree) (path : Path) (at : Pbn) → IsTree tree → IsTreeOf tree.forest path.tree
    → at.0 ≡ block_of tree.forest.geometry (Root path.tree) → IsWalked tree path 0 0 at
walk_begins tree path at form own block =
    let height = tree.forest.geometry.height in
    let heights = form.forest.sizes.height in
    let root : (level : ℕ) → level ≡ height - 1 → IsAt tree (page_on path height level) at =
    λ level top.
    let place : height - 1 - level ≡ 0 = omega arith in
    subst (λ (p : PageId). IsAt tree p at) (page_down path height level 0 0 place refl)
    (as_root (record { tree = own; level = omega arith; index = refl }) block) in
    record {
      spelled = refl;
      small = ((λ e. refl), (λ e. omega arith), (λ e. omega arith));
      here = root (height - 1 - 0) (omega arith);
      passed = λ level low high. record { at = at; stands = root level (omega arith) };
    }

-- a slot of the path, and the page below that it leads to
pub slot_small : (height : ℕ) (path : Path) (depth slot : ℕ) → IsPath height path → depth < height → slot ≡ slice_index_or path.slots depth 0 → slot < 812
slot_small height path depth slot is_path inside is =
    subst (λ (n : ℕ). n < 812) (sym is) (is_path.slots depth 0 (let c = is_path.count in omega arith))

pub index_small : (tree : Tree) (path : Path) (depth index slot : ℕ) (found : Pbn) → IsTree tree → IsPath tree.forest.geometry.height path → IsWalked tree path depth index found
    → depth < tree.forest.geometry.height - 1 → slot ≡ slice_index_or path.slots depth 0
    → (depth ≡ 0 → index * 812 + slot < 812) × (depth ≡ 1 → index * 812 + slot < 659344) × (index * 812 + slot < 659344) × (depth < 2)
index_small tree path depth index slot found form is_path walked below is =
    let low = slot_small tree.forest.geometry.height path depth slot is_path (omega arith) is in
    let heights = form.forest.sizes.height in
    let first : depth ≡ 0 → index * 812 + slot < 812 = λ e. let i = walked.small.0 e in omega arith in
    let second : depth ≡ 1 → index * 812 + slot < 659344 = λ e. let i = walked.small.1 e in omega arith in
    let few : depth < 2 = omega arith in (
      first,
      second,
      elim (eqb_tells depth 0) [
        | inl none ↦ let f = first none.1 in omega arith
        | inr some ↦ second (let s = some.1 in omega arith)
      ],
      few,
    )

pub walk_goes : (tree : Tree) (path : Path) (height depth index slot : ℕ) (found at : Pbn) → IsTree tree → IsPath tree.forest.geometry.height path
    → height ≡ tree.forest.geometry.height → IsWalked tree path depth index found → depth < height - 1 → slot ≡ slice_index_or path.slots depth 0
    → IsAt tree (record { tree = path.tree; level = height - 2 - depth; index = index * 812 + slot }) at
    → IsWalked tree path (depth + 1) (index * 812 + slot) at
walk_goes tree path height depth index slot found at form is_path same walked below is stands =
    let h = tree.forest.geometry.height in
    let count = is_path.count in
    let small = index_small tree path depth index slot found form is_path walked (omega arith) is in
    let spelled : index * 812 + slot ≡ spelled_behind 0 (take (depth + 1) path.slots) =
    let more = spelled_more path.slots depth (omega arith) in let s = walked.spelled in omega arith in
    let there : (level : ℕ) → level ≡ h - 1 - (depth + 1) → IsAt tree (page_on path h level) at =
    λ level place. subst (λ (p : PageId). IsAt tree p at) (page_down path h level (depth + 1) (index * 812 + slot) (omega arith) spelled)
    (subst (λ (l : ℕ). IsAt tree (record { tree = path.tree; level = l; index = index * 812 + slot }) at) (omega arith) stands) in
    record {
      spelled = spelled;
      small = ((λ e. absurd (omega arith)), (λ e. small.0 (omega arith)), (λ e. small.1 (omega arith)));
      here = there (h - 1 - (depth + 1)) refl;
      passed = λ level low high. elim (eqb_tells level (h - 1 - (depth + 1))) [
        | inl last ↦ record { at = at; stands = there level last.1 }
        | inr before ↦ walked.passed level (let b = before.1 in omega arith) high
      ];
    }

pub walk_ends : (tree : Tree) (path : Path) (depth index : ℕ) (found : Pbn) → IsWalked tree path depth index found → tree.forest.geometry.height - 1 ≤ depth
    → IsFound tree path (Leaf found)
walk_ends tree path depth index found walked end =
    let none : tree.forest.geometry.height - 1 - depth ≡ 0 = omega arith in (
      subst (λ (l : ℕ). IsAt tree (page_on path tree.forest.geometry.height l) found) none walked.here,
      λ level inside. walked.passed level (omega arith) inside,
    )

pub walk_misses : (tree : Tree) (path : Path) (height depth index slot : ℕ) (found : Pbn) → IsTree tree → IsPath tree.forest.geometry.height path
    → height ≡ tree.forest.geometry.height → IsWalked tree path depth index found → depth < height - 1 → slot ≡ slice_index_or path.slots depth 0
    → ((at : Pbn) → IsAt tree (record { tree = path.tree; level = height - 2 - depth; index = index * 812 + slot }) at → ⊥)
    → IsFound tree path (Missing (height - 2 - depth))
walk_misses tree path height depth index slot found form is_path same walked below is misses =
    let h = tree.forest.geometry.height in
    let count = is_path.count in
    let spelled : index * 812 + slot ≡ spelled_behind 0 (take (depth + 1) path.slots) =
    let more = spelled_more path.slots depth (omega arith) in let s = walked.spelled in omega arith in
    let page = page_down path h (height - 2 - depth) (depth + 1) (index * 812 + slot) (omega arith) spelled in (
      omega arith,
      (λ there. misses there.at (subst (λ (p : PageId). IsAt tree p there.at) (sym page) there.stands)),
      λ level low high. walked.passed level (omega arith) high,
    )
