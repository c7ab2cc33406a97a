-- The pages below a page, and which of them a walk comes to before others.
use Rattle.std.proofs.Common.{ℕ, zero, suc, ◌≡◌, ◌⊎◌, ◌+◌, ◌-◌, ◌*◌, ◌/◌, ◌%◌, ◌^◌, ◌<◌, ◌≤◌, refl, sym, ◌∙◌, ap, ap₂, subst, inl, inr, arith}
use Rattle.std.proofs.Math.Nat.{div-div-eq-div-mul, div-mul-le_self, div-one, pow-succ'}
use Rattle.std.proofs.lemmas.Bool.{cases_lt}
use Rattle.std.proofs.lemmas.Nat.{le-div, pow-add}
use Rattle.blk_base.specs.declared.place.PageId.{PageId}
use Rattle.blk_base.specs.declared.sizes.TheConstants.{PAGE_SLOTS}
use Rattle.image_model.specs.Pages.{IsAhead}
use Rattle.blk_base.specs.Pages.{page_below}
use Rattle.replay_map.specs.Walks.{IsUnder, IsUpTo}

-- Levels up.

pub up_on : (index a b : ℕ) → index / PAGE_SLOTS ^ (a + b) ≡ index / PAGE_SLOTS ^ a / PAGE_SLOTS ^ b
up_on index a b = ap (λ (n : ℕ). index / n) (pow-add PAGE_SLOTS a b) ∙ sym (div-div-eq-div-mul index (PAGE_SLOTS ^ a) (PAGE_SLOTS ^ b))

up_one : (index a : ℕ) → index / PAGE_SLOTS ^ suc a ≡ index / PAGE_SLOTS ^ a / PAGE_SLOTS
up_one index a =
    let one_more : suc a ≡ a + 1 = omega arith in
    ap (λ (n : ℕ). index / PAGE_SLOTS ^ n) one_more ∙ up_on index a 1

pub up_none : (index : ℕ) → index / PAGE_SLOTS ^ 0 ≡ index
up_none index = div-one index

pub page_is : (page other : PageId) → page.tree ≡ other.tree → page.level ≡ other.level → page.index ≡ other.index → page ≡ other
page_is page other tree level index =
    ap (λ (t : ℕ). record { tree = t; level = page.level; index = page.index }) tree
    ∙ ap₂ (λ (l i : ℕ). record { tree = other.tree; level = l; index = i }) level index

-- The pages below.

pub under_itself : (top : PageId) → IsUnder top top
under_itself top = (0, refl, omega arith, up_none top.index)

-- a page that isn't below another one by a level is that one
pub same_under : (top page : PageId) (under : IsUnder top page) → under.0 ≡ 0 → page ≡ top
same_under top page under none =
    let level = under.2 in
    page_is page top under.1 (omega (arith, level, none))
    (sym (up_none page.index) ∙ ap (λ (n : ℕ). page.index / PAGE_SLOTS ^ n) (sym none) ∙ under.3)

-- a page is that of the slots of the page above it, or below it
pub by_slots : (top page : PageId) → IsUnder top page → IsUpTo top PAGE_SLOTS page
by_slots top page (zero, tree, level, index) = inl (same_under top page (0, tree, level, index) refl)
by_slots top page (suc n, tree, level, index) =
    let child = page.index / PAGE_SLOTS ^ n in
    let up : child / PAGE_SLOTS ≡ top.index = sym (up_one page.index n) ∙ index in
    inr (child % PAGE_SLOTS, omega arith, omega arith, (n, tree, omega (arith, level), omega (arith, up)))

pub under_slots : (top page : PageId) (slots : ℕ) → 0 < top.level → IsUpTo top slots page → IsUnder top page
under_slots top page slots inner (inl same) = subst (λ (p : PageId). IsUnder top p) (sym same) (under_itself top)
under_slots top page slots inner (inr (slot, before, inside, (n, tree, level, index))) =
    let up : (top.index * PAGE_SLOTS + slot) / PAGE_SLOTS ≡ top.index = omega (arith, inside) in
    (suc n, tree, omega (arith, level, inner), up_one page.index n ∙ ap (λ (i : ℕ). i / PAGE_SLOTS) index ∙ up)

-- of no slots there are none
pub no_slots_yet : (top page : PageId) → IsUpTo top 0 page → page ≡ top
no_slots_yet top page (inl same) = same
no_slots_yet top page (inr (slot, before, inside, under)) = absurd (omega (arith, before))

-- of a leaf there are none
pub leaf_alone : (top page : PageId) → top.level ≡ 0 → IsUnder top page → page ≡ top
leaf_alone top page leaf under = let level = under.2 in same_under top page under (omega (arith, level, leaf))

-- one slot more
pub one_slot_more : (top page : PageId) (slot : ℕ) → IsUpTo top (slot + 1) page → (IsUpTo top slot page) ⊎ IsUnder (page_below top slot) page
one_slot_more top page slot (inl same) = inl (inl same)
one_slot_more top page slot (inr (own, before, inside, under)) = split own before inside under
  where
    split : (own : ℕ) → own < slot + 1 → own < PAGE_SLOTS → IsUnder (page_below top own) page → (IsUpTo top slot page) ⊎ IsUnder (page_below top slot) page
    split own before inside under = elim (cases_lt own slot) [
      | inl less ↦ inl (inr (own, less, inside, under))
      | inr most ↦ let same : own ≡ slot = omega (arith, before, most) in inr (subst (λ (s : ℕ). IsUnder (page_below top s) page) same under)
    ]

pub up_to_more : (top page : PageId) (slot : ℕ) → slot < PAGE_SLOTS → (IsUpTo top slot page) ⊎ IsUnder (page_below top slot) page → IsUpTo top (slot + 1) page
up_to_more top page slot inside (inl (inl same)) = inl same
up_to_more top page slot inside (inl (inr (own, before, within, under))) = inr (own, omega (arith, before), within, under)
up_to_more top page slot inside (inr under) = inr (slot, omega arith, inside, under)

-- Order.

-- a page of any level has pages below it
pub some_pages : (levels : ℕ) → 0 < PAGE_SLOTS ^ levels
some_pages zero = omega arith
some_pages (suc n) =
    let fewer = some_pages n in
    let step : PAGE_SLOTS ^ suc n ≡ PAGE_SLOTS * PAGE_SLOTS ^ n = pow-succ' PAGE_SLOTS n in
    omega (arith, fewer, step)

-- division keeps the order
div_keeps : (a b levels : ℕ) → a ≤ b → a / PAGE_SLOTS ^ levels ≤ b / PAGE_SLOTS ^ levels
div_keeps a b levels less =
    let most = div-mul-le_self a (PAGE_SLOTS ^ levels) in
    le-div (a / PAGE_SLOTS ^ levels) b (PAGE_SLOTS ^ levels) (some_pages levels) (omega (arith, most, less))

-- what is ahead isn't behind it on a level above both
pub not_behind : (a b : PageId) (m n : ℕ) → a.tree ≡ b.tree → a.level + m ≡ b.level + n → IsAhead a b → a.index / PAGE_SLOTS ^ m ≤ b.index / PAGE_SLOTS ^ n
not_behind a b m n tree level (inl earlier) = absurd (omega (arith, tree, earlier))
not_behind a b m n tree level (inr (inl (same, upper, index))) =
    let levels : n ≡ (a.level - b.level) + m = omega (arith, level, upper) in
    let here = div_keeps a.index (b.index / PAGE_SLOTS ^ (a.level - b.level)) m index in
    let there : b.index / PAGE_SLOTS ^ n ≡ b.index / PAGE_SLOTS ^ (a.level - b.level) / PAGE_SLOTS ^ m =
    ap (λ (k : ℕ). b.index / PAGE_SLOTS ^ k) levels ∙ up_on b.index (a.level - b.level) m in
    omega (arith, here, there)
not_behind a b m n tree level (inr (inr (same, lower, index))) =
    let levels : m ≡ (b.level - a.level) + n = omega (arith, level, lower) in
    let least : a.index / PAGE_SLOTS ^ (b.level - a.level) ≤ b.index = omega (arith, index) in
    let here = div_keeps (a.index / PAGE_SLOTS ^ (b.level - a.level)) b.index n least in
    let there : a.index / PAGE_SLOTS ^ m ≡ a.index / PAGE_SLOTS ^ (b.level - a.level) / PAGE_SLOTS ^ n =
    ap (λ (k : ℕ). a.index / PAGE_SLOTS ^ k) levels ∙ up_on a.index (b.level - a.level) n in
    omega (arith, here, there)

-- no page below another one is ahead of it
pub none_ahead_of_top : (top page : PageId) → IsUnder top page → IsAhead page top → ⊥
none_ahead_of_top top page under (inl earlier) = let tree = under.1 in absurd (omega (arith, tree, earlier))
none_ahead_of_top top page under (inr (inl (same, upper, index))) = let level = under.2 in absurd (omega (arith, level, upper))
none_ahead_of_top top page under (inr (inr (same, lower, index))) =
    let level = under.2 in
    let levels : top.level - page.level ≡ under.0 = omega (arith, level) in
    let here : page.index / PAGE_SLOTS ^ (top.level - page.level) ≡ top.index = ap (λ (k : ℕ). page.index / PAGE_SLOTS ^ k) levels ∙ under.3 in
    omega (arith, here, index)

-- of the pages of a slot or below it none of a later slot is ahead
pub none_ahead_of_slot : (top page other : PageId) (slot later : ℕ) → slot < later → IsUnder (page_below top slot) page → IsUnder (page_below top later) other → IsAhead other page → ⊥
none_ahead_of_slot top page other slot later less under under' ahead =
    let tree : other.tree ≡ page.tree = under'.1 ∙ sym under.1 in
    let least = not_behind other page under'.0 under.0 tree (under'.2 ∙ sym under.2) ahead in
    let there = under'.3 in
    let here = under.3 in
    omega (arith, less, least, there, here)
