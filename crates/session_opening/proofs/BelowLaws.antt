-- The linked pages below a page: they stand together in the order of pages, and are put into its slots one after the other.
use Rattle.std.proofs.Common.{ℕ, suc, ◌≡◌, ◌⊎◌, ◌+◌, ◌-◌, ◌*◌, ◌^◌, ◌<◌, ◌≤◌, ◌&&◌, Bool, true, false, not, Some, None, List, [], ◌∷◌, All, length, min, replicate, slice_index_or, slice_set, refl, sym, ◌∙◌, ap, subst, inl, inr, arith}
use Rattle.std.specs.BTreeMap.{get, is_at}
use Rattle.std.specs.BTreeMap.Range.{IsEntryInRange, IsInRange, entries_between, range_contains}
use Rattle.std.specs.Cmp.{nat_cmp_is}
use Rattle.std.specs.Map.{lookup}
use Rattle.std.specs.Ordering.{nat_cmp, ordering_then, is_gt, is_le, is_lt}
use Rattle.std.specs.declared.cmp.Ordering.{Ordering}
use Rattle.std.specs.declared.cmp.Ordering.TheVariants.{Less, Equal, Greater}
use Rattle.std.specs.declared.ops.Bound.TheVariants.{Included}
use Rattle.std.proofs.lemmas.Bool.{both_ways, cases_order, cond-false}
use Rattle.std.proofs.lemmas.Bool.Decides.{eqb_tells}
use Rattle.std.proofs.lemmas.List.{get_or-replicate, get_or-set_same, get_or-set_other, length-replicate}
use Rattle.std.proofs.lemmas.Map.Entries.{lookup-filter-keys}
use Rattle.blk_base.proofs.PageIdLaws.{same_page}
use Rattle.blk_base.specs.declared.place.Mapping.{Mapping}
use Rattle.blk_base.specs.declared.place.Mapping.TheVariants.{Unmapped, At}
use Rattle.blk_base.specs.declared.place.PageId.{PageId}
use Rattle.blk_base.specs.declared.place.Pbn.{Pbn}
use Rattle.blk_base.specs.declared.sizes.TheConstants.{PAGE_SLOTS}
use Rattle.blk_base.specs.Pages.{page_below, page_order, slot_of}
use Rattle.image_model.specs.Pages.{is_page}
use Rattle.replay_map.proofs.OwnLaws.{page_tells}
use Rattle.replay_map.specs.declared.links.Link.{Link}
use Rattle.session_opening.proofs.PlaceLaws.{alike}
use Rattle.session_opening.specs.declared.places.Places.{Places}
use Rattle.session_opening.specs.Places.{AreLeading, ArePlaces, mapping_to}

-- The order of pages of one level.

compares : (x y : ℕ) → ((x ≡ y) × (nat_cmp x y ≡ Equal)) ⊎ (((x < y) × (nat_cmp x y ≡ Less)) ⊎ ((y < x) × (nat_cmp x y ≡ Greater)))
compares x y = elim (cases_order x y) [
  | inl same ↦ inl (same, sym (nat_cmp_is x y Equal same))
  | inr differs ↦ elim differs [
    | inl less ↦ inr (inl (less, sym (nat_cmp_is x y Less less)))
    | inr more ↦ inr (inr (more, sym (nat_cmp_is x y Greater more)))
  ]
]

not_above : (x y : ℕ) → is_gt (nat_cmp x y) ≡ false → x ≤ y
not_above x y is = elim (compares x y) [
  | inl same ↦ let one = same.0 in omega (arith, one)
  | inr differs ↦ elim differs [
    | inl less ↦ let below = less.0 in omega (arith, below)
    | inr more ↦ absurd (both_ways (is_gt (nat_cmp x y)) is (ap is_gt more.1))
  ]
]

first_parts : (x y : ℕ) (o : Ordering) → is_gt (ordering_then (nat_cmp x y) o) ≡ false → (x ≤ y) × (x ≡ y → is_gt o ≡ false)
first_parts x y o is = elim (compares x y) [
  | inl same ↦ let one = same.0 in (omega (arith, one), λ again. sym (ap (λ (p : Ordering). is_gt (ordering_then p o)) same.1) ∙ is)
  | inr differs ↦ elim differs [
    | inl less ↦ let below = less.0 in (omega (arith, below), λ again. absurd (omega (arith, below, again)))
    | inr more ↦ absurd (both_ways (is_gt (ordering_then (nat_cmp x y) o)) is (ap (λ (p : Ordering). is_gt (ordering_then p o)) more.1))
  ]
]

-- what lies between two pages of a level lies on it
between : (first last page : PageId) → first.tree ≡ last.tree → first.level ≡ last.level → IsInRange page_order (Included first) (Included last) page
    → (page.tree ≡ first.tree) × (page.level ≡ first.level) × (first.index ≤ page.index) × (page.index ≤ last.index)
between first last page tree level is =
    let low = first_parts first.tree page.tree (ordering_then (nat_cmp first.level page.level) (nat_cmp first.index page.index)) is.0 in
    let high = first_parts page.tree last.tree (ordering_then (nat_cmp page.level last.level) (nat_cmp page.index last.index)) is.1 in
    let low_tree = low.0 in
    let high_tree = high.0 in
    let low_level = first_parts first.level page.level (nat_cmp first.index page.index) (low.1 (omega (arith, low_tree, high_tree, tree))) in
    let high_level = first_parts page.level last.level (nat_cmp page.index last.index) (high.1 (omega (arith, low_tree, high_tree, tree))) in
    let from_level = low_level.0 in
    let to_level = high_level.0 in (
      omega (arith, low_tree, high_tree, tree),
      omega (arith, from_level, to_level, level),
      not_above first.index page.index (low_level.1 (omega (arith, from_level, to_level, level))),
      not_above page.index last.index (high_level.1 (omega (arith, from_level, to_level, level))),
    )

one_level : (a b : PageId) → a.tree ≡ b.tree → a.level ≡ b.level → page_order a b ≡ nat_cmp a.index b.index
one_level a b tree level =
    ap (λ (o : Ordering). ordering_then o (ordering_then (nat_cmp a.level b.level) (nat_cmp a.index b.index))) (sym (nat_cmp_is a.tree b.tree Equal tree))
    ∙ ap (λ (o : Ordering). ordering_then o (nat_cmp a.index b.index)) (sym (nat_cmp_is a.level b.level Equal level))

from_first : (x y : ℕ) → x ≤ y → is_le (nat_cmp x y) ≡ true
from_first x y most = elim (compares x y) [
  | inl same ↦ ap is_le same.1
  | inr differs ↦ elim differs [
    | inl less ↦ ap is_le less.1
    | inr more ↦ let above = more.0 in absurd (omega (arith, above, most))
  ]
]

up_to_last : (x y : ℕ) → y ≤ x → not (is_lt (nat_cmp x y)) ≡ true
up_to_last x y most = elim (compares x y) [
  | inl same ↦ ap (λ (o : Ordering). not (is_lt o)) same.1
  | inr differs ↦ elim differs [
    | inl less ↦ let below = less.0 in absurd (omega (arith, below, most))
    | inr more ↦ ap (λ (o : Ordering). not (is_lt o)) more.1
  ]
]

inside : (first last page : PageId) → first.tree ≡ page.tree → first.level ≡ page.level → last.tree ≡ page.tree → last.level ≡ page.level
    → first.index ≤ page.index → page.index ≤ last.index → range_contains page_order (Included first) (Included last) page ≡ true
inside first last page tree level tree' level' low high =
    ap (λ (o : Ordering). is_le o && not (is_lt (page_order last page))) (one_level first page tree level)
    ∙ ap (λ (o : Ordering). is_le (nat_cmp first.index page.index) && not (is_lt o)) (one_level last page tree' level')
    ∙ ap (λ (b : Bool). b && not (is_lt (nat_cmp last.index page.index))) (from_first first.index page.index low)
    ∙ up_to_last last.index page.index high

-- a test for a page passes that page
one_passes : (page other : PageId) → is_at (page_order page) other ≡ true → other ≡ page
one_passes page other is = elim (page_tells other page) [
  | inl same ↦ same.1
  | inr differs ↦ absurd (both_ways (is_page other page) differs.0 (sym (alike page other) ∙ is))
]

-- Pages are put into the slots of the page above them.

module _ (page : PageId) where
  -- the last page that may be below it, behind the first
  pub record IsLastBelow (last : PageId) : Type 0 where
    pub tree : last.tree ≡ page.tree
    pub level : last.level ≡ page.level - 1
    pub most : last.index < page.index * PAGE_SLOTS + PAGE_SLOTS
    pub least : (slot : ℕ) → slot < PAGE_SLOTS → page.index * PAGE_SLOTS + slot < 2 ^ 32 → page.index * PAGE_SLOTS + slot ≤ last.index

  pub ends_below : (first last : PageId) → first ≡ page_below page 0 → last.tree ≡ first.tree → last.level ≡ first.level
      → last.index ≡ min (first.index + 811) (2 ^ 32 - 1) → IsLastBelow last
  ends_below first last begins tree level index =
      let start : first.index ≡ page.index * PAGE_SLOTS + 0 = ap (λ (p : PageId). p.index) begins in record {
        tree = tree ∙ ap (λ (p : PageId). p.tree) begins;
        level = level ∙ ap (λ (p : PageId). p.level) begins;
        most = omega (arith, start, index);
        least = λ slot within fits. omega (arith, start, index, within, fits);
      }

module _ (places : Places) (page : PageId) where
  -- a linked page below it
  pub record IsBelow (entry : PageId × Pbn) : Type 0 where
    pub named : entry.0 ≡ page_below page (slot_of entry.0)
    pub has : get page_order places.blocks entry.0 ≡ Some entry.1

  -- these are still to be put, and each other slot is right
  pub record AreFilled (left : List (PageId × Pbn)) (mappings : List Mapping) : Type 0 where
    pub size : length mappings ≡ PAGE_SLOTS
    pub below : All IsBelow left
    pub each : (slot : ℕ) → slot < PAGE_SLOTS → page.index * PAGE_SLOTS + slot < 2 ^ 32 → lookup (is_at (page_order (page_below page slot))) left ≡ None
        → slice_index_or mappings slot Unmapped ≡ mapping_to (get page_order places.blocks (page_below page slot))

  is_below : (last : PageId) (entry : PageId × Pbn) → IsLastBelow page last
      → IsEntryInRange page_order (Included (page_below page 0)) (Included last) places.blocks entry → IsBelow entry
  is_below last entry ends is =
      let stands = between (page_below page 0) last entry.0 (sym ends.tree) (sym ends.level) is.0 in
      let low = stands.2 in
      let high = stands.3 in
      let most = ends.most in record {
        named = same_page entry.0 (page_below page (slot_of entry.0)) stands.0 stands.1 (omega (arith, low, high, most));
        has = is.1;
      }

  none_left : (last : PageId) (left : List (PageId × Pbn)) (slot : ℕ) → IsLastBelow page last
      → left ≡ entries_between page_order (Included (page_below page 0)) (Included last) places.blocks.entries
      → slot < PAGE_SLOTS → page.index * PAGE_SLOTS + slot < 2 ^ 32 → lookup (is_at (page_order (page_below page slot))) left ≡ None
      → get page_order places.blocks (page_below page slot) ≡ None
  none_left last left slot ends are within fits none =
      let below = page_below page slot in
      let contains = range_contains page_order (Included (page_below page 0)) (Included last) in
      let least = ends.least slot within fits in
      let kept : contains below ≡ true = inside (page_below page 0) last below refl refl ends.tree ends.level (omega arith) least in
      sym (lookup-filter-keys (is_at (page_order below)) contains true (λ k passes. ap contains (one_passes below k passes) ∙ kept) places.blocks.entries)
      ∙ ap (λ (es : List (PageId × Pbn)). lookup (is_at (page_order below)) es) (sym are) ∙ none

  pub none_filled : (first last : PageId) (left : List (PageId × Pbn)) (mappings : List Mapping) → first ≡ page_below page 0 → IsLastBelow page last
      → left ≡ entries_between page_order (Included first) (Included last) places.blocks.entries
      → All (IsEntryInRange page_order (Included first) (Included last) places.blocks) left → mappings ≡ replicate PAGE_SLOTS Unmapped → AreFilled left mappings
  none_filled first last left mappings begins ends are in_range blank =
      let own = subst (λ (p : PageId). left ≡ entries_between page_order (Included p) (Included last) places.blocks.entries) begins are in
      let each = subst (λ (p : PageId). All (IsEntryInRange page_order (Included p) (Included last) places.blocks) left) begins in_range in record {
        size = ap length blank ∙ length-replicate PAGE_SLOTS Unmapped;
        below = λ k d within. is_below last (slice_index_or left k d) ends (each k d within);
        each = λ slot within fits none.
            ap (λ (ms : List Mapping). slice_index_or ms slot Unmapped) blank ∙ get_or-replicate PAGE_SLOTS slot Unmapped Unmapped within
            ∙ sym (ap mapping_to (none_left last left slot ends own within fits none));
      }

  pub one_filled : (entry : PageId × Pbn) (left all : List (PageId × Pbn)) (old new : List Mapping) → all ≡ entry ∷ left → AreFilled all old
      → new ≡ slice_set old (slot_of entry.0) (At entry.1) → length new ≡ PAGE_SLOTS → AreFilled left new
  one_filled entry left all old new first were grown size =
      let below_all = subst (λ (es : List (PageId × Pbn)). All IsBelow es) first were.below in
      let here : IsBelow entry = below_all 0 entry (omega arith) in record {
        size = size;
        below = λ k d within. below_all (suc k) d (omega (arith, within));
        each = λ slot within fits none. elim (eqb_tells slot (slot_of entry.0)) [
          | inl same ↦
              let one : page_below page slot ≡ entry.0 = ap (λ (n : ℕ). page_below page n) same.1 ∙ sym here.named in
              let old_size = were.size in
              let place = same.1 in
              ap (λ (ms : List Mapping). slice_index_or ms slot Unmapped) grown
              ∙ ap (λ (n : ℕ). slice_index_or (slice_set old (slot_of entry.0) (At entry.1)) n Unmapped) same.1
              ∙ get_or-set_same old (slot_of entry.0) (At entry.1) Unmapped (omega (arith, within, place, old_size))
              ∙ sym (ap mapping_to (ap (λ (p : PageId). get page_order places.blocks p) one ∙ here.has))
          | inr differs ↦
              let below = page_below page slot in
              let apart : is_at (page_order below) entry.0 ≡ false = elim (page_tells entry.0 below) [
                | inl same ↦
                    let index = ap (λ (p : PageId). p.index) same.1 in
                    absurd (differs.1 (omega (arith, index, within)))
                | inr other ↦ alike below entry.0 ∙ other.0
              ] in
              let before : lookup (is_at (page_order below)) all ≡ None =
              ap (λ (es : List (PageId × Pbn)). lookup (is_at (page_order below)) es) first
              ∙ cond-false (is_at (page_order below) entry.0) (Some entry.1) (lookup (is_at (page_order below)) left) apart ∙ none in
              ap (λ (ms : List Mapping). slice_index_or ms slot Unmapped) grown
              ∙ get_or-set_other old (slot_of entry.0) slot (At entry.1) Unmapped differs.1
              ∙ were.each slot within fits before
        ];
      }

-- all were put
pub filled_leads : (links : List Link) (places : Places) (page : PageId) (left : List (PageId × Pbn)) (mappings : List Mapping) → ArePlaces links places
    → left ≡ [] → AreFilled places page left mappings → AreLeading links page PAGE_SLOTS mappings
filled_leads links places page left mappings are none filled = record {
  size = filled.size;
  each = λ slot within fits.
      filled.each slot within fits (ap (λ (es : List (PageId × Pbn)). lookup (is_at (page_order (page_below page slot))) es) none)
      ∙ ap mapping_to (are.blocks (page_below page slot));
}

-- no number of a page below it fits
pub none_fits : (links : List Link) (page : PageId) (mappings : List Mapping) → 2 ^ 32 ≤ page.index * PAGE_SLOTS → mappings ≡ replicate PAGE_SLOTS Unmapped
    → AreLeading links page PAGE_SLOTS mappings
none_fits links page mappings many blank = record {
  size = ap length blank ∙ length-replicate PAGE_SLOTS Unmapped;
  each = λ slot within fits. absurd (omega (arith, many, fits));
}
