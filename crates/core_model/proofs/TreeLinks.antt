-- The trees of a logical zone: which pages of a path a walk finds, and what a link changes.
use Rattle.std.proofs.Common.{ℕ, zero, suc, ◌+◌, ◌-◌, ◌<◌, ◌≡◌, ◌==◌, ◌&&◌, true, false, Option, None, Some, is_some, if◌then◌else◌, refl, ap, sym, ◌∙◌, subst, inl, inr, arith}
use Rattle.std.proofs.lemmas.Bool.{and_parts, cases_Bool, eq-eqb, eqb-true}
use Rattle.std.proofs.lemmas.Bool.Decides.{eqb_tells}
use Rattle.std.proofs.lemmas.Option.{same_Some}
use Rattle.blk_base.specs.Pages.{above, slot_of, page_above}
use Rattle.blk_base.specs.declared.place.Mapping.{Mapping}
use Rattle.blk_base.specs.declared.place.Mapping.TheVariants.{Unmapped, Zero, At}
use Rattle.blk_base.specs.declared.place.PageId.{PageId}
use Rattle.blk_base.specs.declared.place.Pbn.{Pbn}
use Rattle.blk_base.specs.declared.point.Point.{Point}
use Rattle.block_map_tree.proofs.HistoryLaws.{link_here, link_others}
use Rattle.block_map_tree.proofs.PageLaws.{lower_on_path, root_or_lower}
use Rattle.block_map_tree.specs.Pages.{IsLower, IsOnPath, IsRoot, page_on}
use Rattle.block_map_tree.specs.Tree.{Tree, IsAt, IsFound, IsLinkable, IsThere, IsTree, Links, as_root, by_link, mapping_of}
use Rattle.block_map_tree.specs.declared.forms.Found.TheVariants.{Leaf, Missing}
use Rattle.block_map_tree.specs.declared.forms.Forest.{Forest}
use Rattle.block_map_tree.specs.declared.forms.Path.{Path}
use Rattle.image_model.specs.Pages.{is_page}
use Rattle.core_model.specs.PageLinks.{block_in}
use Rattle.core_model.specs.PageTrees.{HasPath, leaf_at, link_at, missing_at, missing_from}

-- two names of one page
pub page_is : (p q : PageId) → is_page p q ≡ true → p ≡ q
page_is p q is =
    let first = and_parts (p.tree == q.tree && p.level == q.level) (p.index == q.index) is in
    let both = and_parts (p.tree == q.tree) (p.level == q.level) first.0 in
    ap {B = PageId} (λ n. record { tree = n; level = p.level; index = p.index }) (eqb-true p.tree q.tree both.0)
    ∙ ap {B = PageId} (λ n. record { tree = q.tree; level = n; index = p.index }) (eqb-true p.level q.level both.1)
    ∙ ap {B = PageId} (λ n. record { tree = q.tree; level = q.level; index = n }) (eqb-true p.index q.index first.1)

pub page_itself : (page : PageId) → is_page page page ≡ true
page_itself page = rw (eq-eqb page.tree page.tree refl, eq-eqb page.level page.level refl, eq-eqb page.index page.index refl) refl

-- a page that is no root stands where the page above leads to it
pub at_block : (m : Mapping) (b : Pbn) → block_in m ≡ Some b → m ≡ At b
at_block (At x) b is = ap At (same_Some x b is)
at_block Unmapped b is = absurd cc
at_block Zero b is = absurd cc

pub linked_at : (tree : Tree) (page : PageId) (b : Pbn) → (IsRoot tree.forest page → ⊥) → IsAt tree page b → link_at tree page ≡ Some b
linked_at tree page b low (as_root root e) = absurd (low root)
linked_at tree page b low (by_link lower e) = ap block_in e

pub at_linked : (tree : Tree) (page : PageId) (b : Pbn) → IsLower tree.forest page → link_at tree page ≡ Some b → IsAt tree page b
at_linked tree page b lower is = by_link lower (at_block (mapping_of tree (above page) (slot_of page)) b is)

pub there_linked : (tree : Tree) (page : PageId) → (IsRoot tree.forest page → ⊥) → IsThere tree page → is_some (link_at tree page) ≡ true
there_linked tree page low there = ap is_some (linked_at tree page there.at low there.stands)

some_there : (tree : Tree) (page : PageId) (o : Option Pbn) → IsLower tree.forest page → link_at tree page ≡ o → is_some o ≡ true → IsThere tree page
some_there tree page (Some b) lower is some = record { at = b; stands = at_linked tree page b lower is }
some_there tree page None lower is some = absurd cc

pub linked_there : (tree : Tree) (page : PageId) → IsLower tree.forest page → is_some (link_at tree page) ≡ true → IsThere tree page
linked_there tree page lower some = some_there tree page (link_at tree page) lower refl some

-- What a link changes: that page's, and no other's.
same_options : (o p : Option Pbn) → ((b : Pbn) → o ≡ Some b → p ≡ Some b) → ((b : Pbn) → p ≡ Some b → o ≡ Some b) → o ≡ p
same_options None None f g = refl
same_options (Some x) p f g = sym (f x refl)
same_options None (Some y) f g = g y refl

pub lower_of : (tree : Tree) (page : PageId) → IsTree tree → IsLinkable tree page → IsLower tree.forest page
lower_of tree page form linkable = lower_on_path tree.forest page form.forest linkable.path linkable.lower

pub link_over : (old new : Tree) (page : PageId) (at : Pbn) (point : Point) (q : PageId) → IsTree old → IsLinkable old page → Links old new page at point → IsLinkable old q
    → link_at new q ≡ (if is_page page q then Some at else link_at old q)
link_over old new page at point q form linkable links other =
    let forest : new.forest ≡ old.forest = ap (λ (t : Tree). t.forest) links.set in
    let low : IsRoot new.forest q → ⊥ = λ root. other.lower (subst (λ (f : Forest). IsRoot f q) forest root) in
    let lower_old = lower_of old q form other in
    let lower_new : IsLower new.forest q = subst (λ (f : Forest). IsLower f q) (sym forest) lower_old in
    elim (cases_Bool (is_page page q)) [
      | inl same ↦
          let here : IsAt new q at = subst (λ (p : PageId). IsAt new p at) (page_is page q same) (link_here old new page at point form linkable links) in
          rw same (linked_at new q at low here)
      | inr apart ↦
          let differs : q ≡ page → ⊥ = λ is. (let again : is_page page page ≡ false = subst (λ (p : PageId). is_page page p ≡ false) is apart in let itself = page_itself page in absurd (let both = sym again ∙ itself in cc)) in
          rw apart (same_options (link_at new q) (link_at old q)
          (λ b is. linked_at old q b other.lower ((link_others old new page at point form linkable links q b differs).1 (at_linked new q b lower_new is)))
          (λ b is. linked_at new q b low ((link_others old new page at point form linkable links q b differs).0 (at_linked old q b lower_old is))))
    ]

-- What a walk finds.
pub on_path : (tree : Tree) (a level : ℕ) → HasPath tree a → level < tree.forest.geometry.height → IsOnPath tree.forest (page_above level a)
on_path tree a level path low = record { address = a; inside = path.inside; level = low; there = refl; tree = path.own }

not_root : (tree : Tree) (a level : ℕ) → level + 1 < tree.forest.geometry.height → IsRoot tree.forest (page_above level a) → ⊥
not_root tree a level low root = let top = root.level in omega (arith, top, low)

all_there : (n : ℕ) (tree : Tree) (a : ℕ) → n < tree.forest.geometry.height → ((level : ℕ) → level < n → IsThere tree (page_above level a)) → missing_from n tree a ≡ None
all_there zero tree a low there = refl
all_there (suc level) tree a low there =
    rw (there_linked tree (page_above level a) (not_root tree a level (omega (arith, low))) (there level (omega arith)))
    (all_there level tree a (omega (arith, low)) (λ l below. there l (omega (arith, below))))

first_missing : (n : ℕ) (tree : Tree) (a missing : ℕ) → IsTree tree → HasPath tree a → n < tree.forest.geometry.height → missing < n → (IsThere tree (page_above missing a) → ⊥)
    → ((level : ℕ) → missing < level → level < n → IsThere tree (page_above level a)) → missing_from n tree a ≡ Some (page_above missing a)
first_missing zero tree a missing form path low below none there = absurd (omega (arith, below))
first_missing (suc level) tree a missing form path low below none there = elim (eqb_tells missing level) [
  | inl here ↦
      let same : missing ≡ level = here.1 in
      let low' : level + 1 < tree.forest.geometry.height = omega (arith, low) in
      let lower = lower_on_path tree.forest (page_above level a) form.forest (on_path tree a level path (omega (arith, low))) (not_root tree a level low') in
      elim (cases_Bool (is_some (link_at tree (page_above level a)))) [
        | inl some ↦ absurd (none (subst (λ (l : ℕ). IsThere tree (page_above l a)) (sym same) (linked_there tree (page_above level a) lower some)))
        | inr nothing ↦ rw nothing (ap (λ (l : ℕ). Some (page_above l a)) (sym same))
      ]
  | inr apart ↦
      let above_it : missing < level = let no = apart.1 in omega (arith, below, no) in
      rw (there_linked tree (page_above level a) (not_root tree a level (omega (arith, low))) (there level above_it (omega arith)))
      (first_missing level tree a missing form path (omega (arith, low)) above_it none (λ l up under. there l up (omega (arith, under))))
]

-- where the path is that of the address
abbrev IsPathOf : Tree → Path → ℕ → Type 0
IsPathOf tree path a = (level : ℕ) → level < tree.forest.geometry.height → page_on path tree.forest.geometry.height level ≡ page_above level a

pub leaf_found : (tree : Tree) (path : Path) (a : ℕ) (at : Pbn) → IsTree tree → IsPathOf tree path a → IsFound tree path (Leaf at) → missing_at tree a ≡ None
leaf_found tree path a at form leads found =
    let height = form.forest.sizes.height in
    all_there (tree.forest.geometry.height - 1) tree a (omega (arith, height))
    (λ level below. subst (IsThere tree) (leads level (omega (arith, below))) (found.1 level (omega (arith, below))))

pub page_missed : (tree : Tree) (path : Path) (a missing : ℕ) → IsTree tree → HasPath tree a → IsPathOf tree path a → IsFound tree path (Missing missing)
    → (missing + 1 < tree.forest.geometry.height) × (missing_at tree a ≡ Some (page_above missing a))
page_missed tree path a missing form has leads found =
    let height = form.forest.sizes.height in
    let inside = found.0 in
    let none : IsThere tree (page_above missing a) → ⊥ = λ there. found.1 (subst (IsThere tree) (sym (leads missing inside)) there) in
    let below : missing + 1 < tree.forest.geometry.height = elim (eqb_tells (missing + 1) tree.forest.geometry.height) [
      | inl top ↦ absurd (elim (root_or_lower tree.forest (page_above missing a) form.forest (on_path tree a missing has inside)) [
        | inl root ↦ none (record { at = _; stands = as_root root refl })
        | inr lower ↦ let low = lower.level in let is = top.1 in omega (arith, low, is)
      ])
      | inr other ↦ let no = other.1 in omega (arith, inside, no)
    ] in (
      below,
      first_missing (tree.forest.geometry.height - 1) tree a missing form has (omega (arith, height)) (omega (arith, below)) none
          (λ level up under. subst (IsThere tree) (leads level (omega (arith, under))) (found.2 level up (omega (arith, under)))),
    )

-- So of the trees as a caller knows them.
leads_by : (tree : Tree) (path : Path) (a height : ℕ) → height ≡ tree.forest.geometry.height → ((level : ℕ) → level < height → page_on path height level ≡ page_above level a) → IsPathOf tree path a
leads_by tree path a height is leads = subst (λ (h : ℕ). (level : ℕ) → level < h → page_on path h level ≡ page_above level a) is leads

pub leaf_here : (known tree : Tree) (path : Path) (a height : ℕ) (at : Pbn) → tree ≡ known → IsTree tree → height ≡ tree.forest.geometry.height
    → ((level : ℕ) → level < height → page_on path height level ≡ page_above level a) → IsFound tree path (Leaf at) → None ≡ missing_at known a
leaf_here known tree path a height at same form is leads found =
    sym (subst (λ (t : Tree). missing_at t a ≡ None) same (leaf_found tree path a at form (leads_by tree path a height is leads) found))

pub missed_here : (known tree : Tree) (path : Path) (a height missing : ℕ) → tree ≡ known → IsTree tree → height ≡ tree.forest.geometry.height → HasPath known a
    → ((level : ℕ) → level < height → page_on path height level ≡ page_above level a) → IsFound tree path (Missing missing)
    → (missing < 2) × (Some (page_above missing a) ≡ missing_at known a)
missed_here known tree path a height missing same form is has leads found =
    let both = page_missed tree path a missing form (subst (λ (t : Tree). HasPath t a) (sym same) has) (leads_by tree path a height is leads) found in
    let most = form.forest.sizes.height in
    let below = both.0 in
    (omega (arith, below, most), sym (subst (λ (t : Tree). missing_at t a ≡ Some (page_above missing a)) same both.1))

-- and the leaf that it finds, or none
pub leaf_known : (known tree : Tree) (path : Path) (a height : ℕ) (at : Pbn) → tree ≡ known → IsTree tree → height ≡ tree.forest.geometry.height → HasPath known a
    → ((level : ℕ) → level < height → page_on path height level ≡ page_above level a) → IsFound tree path (Leaf at) → Some at ≡ leaf_at known a
leaf_known known tree path a height at same form is has leads found =
    let tall = form.forest.sizes.height in
    let none : missing_at known a ≡ None = sym (leaf_here known tree path a height at same form is leads found) in
    let stands : IsAt tree (page_above 0 a) at = subst (λ (p : PageId). IsAt tree p at) (leads_by tree path a height is leads 0 (omega (arith, tall))) found.0 in
    rw none (sym (subst (λ (t : Tree). link_at t (page_above 0 a) ≡ Some at) same (linked_at tree (page_above 0 a) at (not_root tree a 0 (omega (arith, tall))) stands)))

pub leaf_unknown : (known tree : Tree) (path : Path) (a height missing : ℕ) → tree ≡ known → IsTree tree → height ≡ tree.forest.geometry.height → HasPath known a
    → ((level : ℕ) → level < height → page_on path height level ≡ page_above level a) → IsFound tree path (Missing missing) → None ≡ leaf_at known a
leaf_unknown known tree path a height missing same form is has leads found =
    rw (sym (missed_here known tree path a height missing same form is has leads found).1) refl
