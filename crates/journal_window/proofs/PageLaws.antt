-- Which pages may be linked: by the first address below a page.
use Rattle.std.proofs.Common.{ℕ, zero, suc, ◌≡◌, ◌+◌, ◌*◌, ◌/◌, ◌%◌, ◌<◌, ◌≤◌, ◌^◌, ◌⊎◌, refl, sym, ap, ap₂, subst, inl, inr, arith}
use Rattle.std.specs.Prelude.{◌↔◌, IsTrue, nat_lt}
use Rattle.std.proofs.lemmas.Bool.{ltb-true, lt-ltb}
use Rattle.blk_base.specs.declared.geometry.Geometry.{Geometry}
use Rattle.blk_base.specs.declared.place.PageId.{PageId}
use Rattle.blk_base.specs.declared.sizes.TheConstants.{PAGE_SLOTS, TREES}
use Rattle.image_model.specs.Pages.{IsBelowRoot}

-- a level that is no root's
low : (level height : ℕ) → level + 1 < height → height ≤ 3 → (level ≡ 0) ⊎ (level ≡ 1)
low zero height below few = inl refl
low (suc zero) height below few = inr refl
low (suc (suc n)) height below few = absurd (omega (arith, below, few))

-- the first address below a page
abbrev pub first_below : ℕ → ℕ → ℕ → ℕ
first_below tree level index = (index * PAGE_SLOTS ^ level * TREES + tree) * PAGE_SLOTS

-- the page of its level above that address is the page itself
parts_of_first : (tree index : ℕ) → tree < TREES → (first_below tree 0 index / PAGE_SLOTS % TREES ≡ tree) × (first_below tree 0 index / PAGE_SLOTS / TREES / PAGE_SLOTS ^ 0 ≡ index)
parts_of_first tree index small = (omega (arith, small), omega (arith, small))

parts_of_second : (tree index : ℕ) → tree < TREES → (first_below tree 1 index / PAGE_SLOTS % TREES ≡ tree) × (first_below tree 1 index / PAGE_SLOTS / TREES / PAGE_SLOTS ^ 1 ≡ index)
parts_of_second tree index small = (omega (arith, small), omega (arith, small))

-- no address below a page is before the first one
not_before_first : (address : ℕ) → first_below (address / PAGE_SLOTS % TREES) 0 (address / PAGE_SLOTS / TREES / PAGE_SLOTS ^ 0) ≤ address
not_before_first address = omega arith

not_before_second : (address : ℕ) → first_below (address / PAGE_SLOTS % TREES) 1 (address / PAGE_SLOTS / TREES / PAGE_SLOTS ^ 1) ≤ address
not_before_second address = omega arith

-- both levels
parts : (level tree index : ℕ) → (level ≡ 0) ⊎ (level ≡ 1) → tree < TREES
    → (first_below tree level index / PAGE_SLOTS % TREES ≡ tree) × (first_below tree level index / PAGE_SLOTS / TREES / PAGE_SLOTS ^ level ≡ index)
parts level tree index (inl leaf) small =
    subst (λ (l : ℕ). (first_below tree l index / PAGE_SLOTS % TREES ≡ tree) × (first_below tree l index / PAGE_SLOTS / TREES / PAGE_SLOTS ^ l ≡ index))
    (sym leaf) (parts_of_first tree index small)
parts level tree index (inr inner) small =
    subst (λ (l : ℕ). (first_below tree l index / PAGE_SLOTS % TREES ≡ tree) × (first_below tree l index / PAGE_SLOTS / TREES / PAGE_SLOTS ^ l ≡ index))
    (sym inner) (parts_of_second tree index small)

not_before : (level address : ℕ) → (level ≡ 0) ⊎ (level ≡ 1) → first_below (address / PAGE_SLOTS % TREES) level (address / PAGE_SLOTS / TREES / PAGE_SLOTS ^ level) ≤ address
not_before level address (inl leaf) =
    subst (λ (l : ℕ). first_below (address / PAGE_SLOTS % TREES) l (address / PAGE_SLOTS / TREES / PAGE_SLOTS ^ l) ≤ address) (sym leaf) (not_before_first address)
not_before level address (inr inner) =
    subst (λ (l : ℕ). first_below (address / PAGE_SLOTS % TREES) l (address / PAGE_SLOTS / TREES / PAGE_SLOTS ^ l) ≤ address) (sym inner) (not_before_second address)

-- a page that may be linked is one with an address below it
pub has_address : (g : Geometry) (page : PageId) → g.height ≤ 3 → page.level + 1 < g.height → page.tree < TREES
    → first_below page.tree page.level page.index < g.logical → IsBelowRoot g page
has_address g page few inner small below =
    let same = parts page.level page.tree page.index (low page.level g.height inner few) small in
    record {
      address = first_below page.tree page.level page.index;
      inside = below;
      level = inner;
      there = ap₂ (λ (tree index : ℕ). record { tree = tree; level = page.level; index = index }) (sym same.0) (sym same.1);
    }

pub address_of : (g : Geometry) (page : PageId) → g.height ≤ 3 → IsBelowRoot g page → first_below page.tree page.level page.index < g.logical
address_of g page few is =
    let tree = ap (λ (p : PageId). p.tree) is.there in
    let index = ap (λ (p : PageId). p.index) is.there in
    let before = not_before page.level is.address (low page.level g.height is.level few) in
    let same = ap₂ (λ (t i : ℕ). first_below t page.level i) tree index in
    let inside = is.inside in
    omega (arith, same, before, inside)

-- by a first address and a logical size
pub below_root_is : (g : Geometry) (page : PageId) (first logical : ℕ) → g.height ≤ 3 → page.level + 1 < g.height → page.tree < TREES
    → first ≡ first_below page.tree page.level page.index → logical ≡ g.logical → IsTrue (nat_lt first logical) ↔ IsBelowRoot g page
below_root_is g page first logical few inner small is size = (
  λ yes. let below = ltb-true first logical yes in has_address g page few inner small (omega (arith, is, size, below)),
  λ there. let below = address_of g page few there in lt-ltb first logical (omega (arith, is, size, below)),
)
