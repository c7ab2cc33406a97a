-- Pages by their numbers, and the pages above an address.
use Rattle.std.specs.Prelude.{ℕ, zero, suc, ◌≡◌, ◌≢◌, ◌<◌, ◌≤◌, ◌+◌, ◌-◌, ◌*◌, ◌/◌, ◌%◌, ◌^◌, ◌⊎◌, refl}
use Rattle.std.proofs.Common.{sym, ◌∙◌, ap, ap₂, subst, inl, inr, arith, zero-add}
use Rattle.std.proofs.Math.Nat.{mul-div-le, mul-le-mul_left, mul-le-mul_right, add-mul-mod_self_left, mod-eq_of_lt, mod-lt, add-mul-div_left, div-eq_of_lt, div-lt_iff_lt-mul}
use Rattle.std.proofs.lemmas.Nat.{div-add-mod', le-div, div-mul-add, mod-mul-add}
use Rattle.std.proofs.lemmas.Bool.Decides.{eqb_tells}
use Rattle.blk_base.specs.declared.place.PageId.{PageId}
use Rattle.blk_base.proofs.PageIdLaws.{same_page}
use Rattle.blk_base.specs.Pages.{above, slot_of, page_above}
use Rattle.block_map_tree.specs.declared.forms.Forest.{Forest}
use Rattle.block_map_tree.specs.Pages.{IsForest, IsTreeOf, IsOnPath, IsRoot, IsLower, IsInner}
use Rattle.block_map_tree.specs.Tree.{trees_of, row_of, number_of, most_rows}

-- the trees of a zone, and their numbers there
pub trees_some : (f : Forest) → (1 ≤ trees_of f)
trees_some f = omega arith

pub place_small : (f : Forest) (tree : ℕ) → IsForest f → IsTreeOf f tree → tree / f.zones < trees_of f
place_small f tree forest own =
    let zone = forest.zone in
    let inside = own.inside in
    let rest = own.own in
    let whole = div-add-mod' tree f.zones in
    let low = le-div (tree / f.zones) (59 - f.zone) f.zones (omega arith) (omega arith) in
    omega arith

one_tree : (f : Forest) (s t : ℕ) → IsTreeOf f s → IsTreeOf f t → s / f.zones ≡ t / f.zones → s ≡ t
one_tree f s t own own' same =
    sym (div-add-mod' s f.zones) ∙ ap₂ (λ (q r : ℕ). q * f.zones + r) same (own.own ∙ sym own'.own) ∙ div-add-mod' t f.zones

pub tree_at : (f : Forest) (place : ℕ) → IsForest f → place < trees_of f
    → IsTreeOf f (f.zone + f.zones * place) × ((f.zone + f.zones * place) / f.zones ≡ place)
tree_at f place forest small =
    let zone = forest.zone in
    let zones = forest.zones in
    let most = mul-le-mul_left {m = place} {n = (59 - f.zone) / f.zones} f.zones (omega arith) in
    let whole = mul-div-le (59 - f.zone) f.zones in (
      record { inside = omega arith; own = add-mul-mod_self_left f.zone f.zones place ∙ mod-eq_of_lt zone },
      add-mul-div_left f.zone place (omega arith) ∙ ap (λ (n : ℕ). n + place) (div-eq_of_lt zone) ∙ zero-add place,
    )

-- the row of a page and its place there, from its number
pub row_root : (f : Forest) (page : PageId) → IsRoot f page → row_of f page ≡ 0
row_root f page root = elim (eqb_tells (page.level + 1) f.geometry.height) [ inl same ↦ rw same.0 | inr other ↦ absurd (other.1 root.level) ]

pub row_lower : (f : Forest) (page : PageId) → IsLower f page → row_of f page ≡ page.index + 1
row_lower f page lower =
    elim (eqb_tells (page.level + 1) f.geometry.height) [ inl same ↦ absurd (let low = lower.level in omega (arith, same.1)) | inr other ↦ rw other.0 ]

pub inner_tree : (f : Forest) (page : PageId) → IsInner f page → IsTreeOf f page.tree
inner_tree f page inner = elim inner.there [ inl root ↦ root.tree | inr lower ↦ lower.tree ]

row_by_number : (f : Forest) (page : PageId) → IsForest f → IsTreeOf f page.tree → number_of f page / trees_of f ≡ row_of f page
row_by_number f page forest own = div-mul-add (row_of f page) (trees_of f) (page.tree / f.zones) (place_small f page.tree forest own)

place_by_number : (f : Forest) (page : PageId) → IsForest f → IsTreeOf f page.tree → number_of f page % trees_of f ≡ page.tree / f.zones
place_by_number f page forest own = mod-mul-add (row_of f page) (trees_of f) (page.tree / f.zones) (place_small f page.tree forest own)

-- a number in a row that there is room for
pub in_row : (f : Forest) (page : PageId) (rows : ℕ) → IsForest f → IsTreeOf f page.tree → row_of f page < rows → number_of f page < rows * trees_of f
in_row f page rows forest own below =
    let most = mul-le-mul_right {m = row_of f page + 1} {n = rows} (trees_of f) (omega arith) in
    let place = place_small f page.tree forest own in
    omega arith

-- a page below a root that is no leaf: of height 3 the middle level
pub middle : (f : Forest) (page : PageId) → IsForest f → 1 ≤ page.level → IsLower f page
    → (f.geometry.height ≡ 3) × (page.level ≡ 1) × (page.index < 812)
middle f page sizes level lower =
    let height : f.geometry.height ≡ 3 = let h = sizes.sizes.height in let l = lower.level in omega arith in
    let here : page.level ≡ 1 = let l = lower.level in omega arith in
    let one : f.geometry.height - 1 - page.level ≡ 1 = omega arith in
    (height, here, subst (λ (n : ℕ). page.index < 812 ^ n) one lower.index)

-- pages that are no leaves have different numbers
pub one_number : (f : Forest) (p q : PageId) → IsForest f → IsInner f p → IsInner f q → number_of f p ≡ number_of f q → p ≡ q
one_number f p q forest inner inner' same =
    let own = inner_tree f p inner in
    let own' = inner_tree f q inner' in
    let row : row_of f p ≡ row_of f q = sym (row_by_number f p forest own) ∙ ap (λ (n : ℕ). n / trees_of f) same ∙ row_by_number f q forest own' in
    let tree : p.tree ≡ q.tree = one_tree f p.tree q.tree own own'
    (sym (place_by_number f p forest own) ∙ ap (λ (n : ℕ). n % trees_of f) same ∙ place_by_number f q forest own') in
    elim inner.there [
      | inl root ↦ elim inner'.there [
        | inl root' ↦ same_page p q tree (let a = root.level in let b = root'.level in omega arith) (root.index ∙ sym root'.index)
        | inr lower' ↦ absurd (let a = row_root f p root in let b = row_lower f q lower' in omega arith)
      ]
      | inr lower ↦ elim inner'.there [
        | inl root' ↦ absurd (let a = row_root f q root' in let b = row_lower f p lower in omega arith)
        | inr lower' ↦
            let a = row_lower f p lower in
            let b = row_lower f q lower' in
            let m = middle f p forest inner.level lower in
            let m' = middle f q forest inner'.level lower' in
            same_page p q tree (omega arith) (omega arith)
      ]
    ]

-- the leaf number of an address in its tree
leaf_small : (f : Forest) (address : ℕ) → IsForest f → address < f.geometry.logical
    → ((f.geometry.height ≡ 2) × (address / 812 / 60 < 812)) ⊎ ((f.geometry.height ≡ 3) × (address / 812 / 60 < 659344))
leaf_small f address sizes inside =
    elim (eqb_tells f.geometry.height 2) [
      | inl two ↦
          let most : f.geometry.logical ≤ 39560640 = subst (λ (n : ℕ). f.geometry.logical ≤ n) (rw two.0) sizes.sizes.logical.1 in
          inl (two.1, omega arith)
      | inr other ↦
          let most : f.geometry.logical ≤ 4000000000 = subst (λ (n : ℕ). f.geometry.logical ≤ n) (rw other.0) sizes.sizes.logical.1 in
          inr (let h = sizes.sizes.height in omega (arith, other.1), omega arith)
    ]

pub above_at : (level address : ℕ) → level < 2 → above (page_above level address) ≡ page_above (level + 1) address
above_at zero address small = same_page (above (page_above 0 address)) (page_above 1 address) refl refl (omega arith)
above_at (suc zero) address small = same_page (above (page_above 1 address)) (page_above 2 address) refl refl (omega arith)
above_at (suc (suc level)) address small = absurd (omega arith)

-- the number of a page on its level of the tree
index_on_path : (page : PageId) (address : ℕ) → page ≡ page_above page.level address
    → (page.level ≡ 0 → page.index ≡ address / 812 / 60) × (page.level ≡ 1 → page.index ≡ address / 812 / 60 / 812)
    × (page.level ≡ 2 → page.index ≡ address / 812 / 60 / 659344)
index_on_path page address there =
    let index : page.index ≡ address / 812 / 60 / 812 ^ page.level = ap (λ (p : PageId). p.index) there in (
      (λ zero'. let one : 812 ^ page.level ≡ 1 = ap (λ (l : ℕ). 812 ^ l) zero' in
          index ∙ ap (λ (n : ℕ). address / 812 / 60 / n) one ∙ omega arith),
      (λ one'. index ∙ ap (λ (l : ℕ). address / 812 / 60 / 812 ^ l) one'),
      (λ two'. index ∙ ap (λ (l : ℕ). address / 812 / 60 / 812 ^ l) two'),
    )

width_at : (k l : ℕ) → k ≡ l → 812 ^ k ≡ 812 ^ l
width_at k l same = ap (λ (n : ℕ). 812 ^ n) same

-- a page on a path is the root or below it
pub root_or_lower : (f : Forest) (page : PageId) → IsForest f → IsOnPath f page → IsRoot f page ⊎ IsLower f page
root_or_lower f page sizes on =
    let index = index_on_path page on.address on.there in
    let tree = on.tree in
    let below = on.level in
    elim (leaf_small f on.address sizes on.inside) [
      | inl two ↦ elim (eqb_tells page.level 1) [
        | inl top ↦ inl (record { tree = tree; level = omega arith; index = let i = index.1 top.1 in omega arith })
        | inr under ↦
            let zero' : page.level ≡ 0 = let u = under.1 in omega arith in
            let width : 812 ^ (f.geometry.height - 1 - page.level) ≡ 812 = width_at (f.geometry.height - 1 - page.level) 1 (omega arith) in
            inr (record { tree = tree; level = omega arith; index = let i = index.0 zero' in omega arith })
      ]
      | inr three ↦ elim (eqb_tells page.level 2) [
        | inl top ↦ inl (record { tree = tree; level = omega arith; index = let i = index.2 top.1 in omega arith })
        | inr under ↦ elim (eqb_tells page.level 1) [
          | inl one ↦
              let width : 812 ^ (f.geometry.height - 1 - page.level) ≡ 812 = width_at (f.geometry.height - 1 - page.level) 1 (omega arith) in
              inr (record { tree = tree; level = omega arith; index = let i = index.1 one.1 in omega arith })
          | inr lowest ↦
              let zero' : page.level ≡ 0 = let u = under.1 in let v = lowest.1 in omega arith in
              let width : 812 ^ (f.geometry.height - 1 - page.level) ≡ 659344 = width_at (f.geometry.height - 1 - page.level) 2 (omega arith) in
              inr (record { tree = tree; level = omega arith; index = let i = index.0 zero' in omega arith })
        ]
      ]
    ]

pub lower_on_path : (f : Forest) (page : PageId) → IsForest f → IsOnPath f page → (IsRoot f page → ⊥) → IsLower f page
lower_on_path f page sizes on no_root = elim (root_or_lower f page sizes on) [ inl root ↦ absurd (no_root root) | inr lower ↦ lower ]

-- the page above a page on a path is on it too
pub above_on_path : (f : Forest) (page : PageId) → IsForest f → IsOnPath f page → IsLower f page → IsOnPath f (above page)
above_on_path f page sizes on lower = record {
  address = on.address;
  inside = on.inside;
  level = lower.level;
  tree = on.tree;
  there =
      let small : page.level < 2 = let h = sizes.sizes.height in let l = lower.level in omega arith in
      ap above on.there ∙ above_at page.level on.address small;
}

-- the page above a page is no leaf
pub above_inner : (f : Forest) (page : PageId) → IsForest f → IsLower f page → IsInner f (above page)
above_inner f page sizes lower =
    let heights = sizes.sizes.height in
    let level = lower.level in
    let index = lower.index in
    record {
      level = omega arith;
      there = elim (eqb_tells (page.level + 2) f.geometry.height) [
        | inl top ↦
            let width : 812 ^ (f.geometry.height - 1 - page.level) ≡ 812 = width_at (f.geometry.height - 1 - page.level) 1 (let t = top.1 in omega arith) in
            inl (record { tree = lower.tree; level = let t = top.1 in omega arith; index = omega arith })
        | inr under ↦
            let zero' : page.level ≡ 0 = let u = under.1 in omega arith in
            let three : f.geometry.height ≡ 3 = let u = under.1 in omega arith in
            let width : 812 ^ (f.geometry.height - 1 - page.level) ≡ 659344 = width_at (f.geometry.height - 1 - page.level) 2 (omega arith) in
            let width' : 812 ^ (f.geometry.height - 1 - (page.level + 1)) ≡ 812 = width_at (f.geometry.height - 1 - (page.level + 1)) 1 (omega arith) in
            inr (record { tree = lower.tree; level = omega arith; index = omega arith })
      ];
    }

-- each number is that of a page
numbered_root : (f : Forest) (page : PageId) (n : ℕ) → IsForest f → n / trees_of f ≡ 0 → page.tree ≡ f.zone + f.zones * (n % trees_of f)
    → page.level ≡ f.geometry.height - 1 → page.index ≡ 0 → IsInner f page × (number_of f page ≡ n)
numbered_root f page n forest row tree level index =
    let heights = forest.sizes.height in
    let at = tree_at f (n % trees_of f) forest (mod-lt n (trees_some f)) in
    let root : IsRoot f page = record { tree = subst (λ (t : ℕ). IsTreeOf f t) (sym tree) at.0; level = omega arith; index = index } in (
      record { level = omega arith; there = inl root },
      ap₂ (λ (r t : ℕ). r * trees_of f + t) (row_root f page root ∙ sym row) (ap (λ (t : ℕ). t / f.zones) tree ∙ at.1) ∙ div-add-mod' n (trees_of f),
    )

numbered_lower : (f : Forest) (page : PageId) (n : ℕ) → IsForest f → n < most_rows f.geometry.height * trees_of f → n / trees_of f ≡ page.index + 1
    → page.tree ≡ f.zone + f.zones * (n % trees_of f) → page.level ≡ 1 → IsInner f page × (number_of f page ≡ n)
numbered_lower f page n forest inside row tree level =
    let heights = forest.sizes.height in
    let few = (div-lt_iff_lt-mul {k = trees_of f} {x = n} {y = most_rows f.geometry.height} (trees_some f)).1 inside in
    let three : f.geometry.height ≡ 3 = omega arith in
    let width : 812 ^ (f.geometry.height - 1 - page.level) ≡ 812 = width_at (f.geometry.height - 1 - page.level) 1 (omega arith) in
    let at = tree_at f (n % trees_of f) forest (mod-lt n (trees_some f)) in
    let lower : IsLower f page = record { tree = subst (λ (t : ℕ). IsTreeOf f t) (sym tree) at.0; level = omega arith; index = omega arith } in (
      record { level = omega arith; there = inr lower },
      ap₂ (λ (r t : ℕ). r * trees_of f + t) (row_lower f page lower ∙ sym row) (ap (λ (t : ℕ). t / f.zones) tree ∙ at.1) ∙ div-add-mod' n (trees_of f),
    )

pub numbered : (f : Forest) (n trees : ℕ) → IsForest f → trees ≡ trees_of f → n / trees ≡ 0
    → let page : PageId = record { tree = f.zone + f.zones * (n % trees); level = f.geometry.height - 1; index = 0 } in IsInner f page × (number_of f page ≡ n)
numbered f n trees forest is row =
    numbered_root f (record { tree = f.zone + f.zones * (n % trees); level = f.geometry.height - 1; index = 0 }) n forest (ap (λ (t : ℕ). n / t) (sym is) ∙ row)
    (ap (λ (t : ℕ). f.zone + f.zones * (n % t)) is) refl refl

pub numbered_below : (f : Forest) (n trees : ℕ) → IsForest f → trees ≡ trees_of f → n < most_rows f.geometry.height * trees_of f → n / trees ≢ 0
    → let page : PageId = record { tree = f.zone + f.zones * (n % trees); level = 1; index = n / trees - 1 } in IsInner f page × (number_of f page ≡ n)
numbered_below f n trees forest is inside row =
    let index : n / trees_of f ≡ n / trees - 1 + 1 = ap (λ (t : ℕ). n / t) (sym is) ∙ omega arith in
    numbered_lower f (record { tree = f.zone + f.zones * (n % trees); level = 1; index = n / trees - 1 }) n forest inside index
    (ap (λ (t : ℕ). f.zone + f.zones * (n % t)) is) refl

-- two pages that the same slot of the same page leads to are the same
pub one_below : (f : Forest) (p q : PageId) → IsForest f → IsLower f p → IsLower f q
    → number_of f (above p) ≡ number_of f (above q) → slot_of p ≡ slot_of q → p ≡ q
one_below f p q sizes lower lower' number slot =
    let parents = one_number f (above p) (above q) sizes (above_inner f p sizes lower) (above_inner f q sizes lower') number in
    let tree : p.tree ≡ q.tree = ap (λ (a : PageId). a.tree) parents in
    let level : p.level + 1 ≡ q.level + 1 = ap (λ (a : PageId). a.level) parents in
    let index : p.index / 812 ≡ q.index / 812 = ap (λ (a : PageId). a.index) parents in
    same_page p q tree (omega arith) (omega arith)
