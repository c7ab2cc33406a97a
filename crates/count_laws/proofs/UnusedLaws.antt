-- A block without mappings is unused: no address leads to it, whatever its number.
use Rattle.std.proofs.Common.{ℕ, zero, suc, ◌≡◌, ◌⊎◌, ◌+◌, ◌-◌, ◌/◌, ◌^◌, ◌<◌, ◌==◌, Bool, if◌then◌else◌, Option, Some, None, List, refl, ap, inl, inr, arith}
use Rattle.std.proofs.Math.Nat.{pow-succ'}
use Rattle.std.proofs.lemmas.Bool.Decides.{eqb_tells}
use Rattle.blk_base.specs.Regions.{Root, block_of}
use Rattle.blk_base.specs.declared.journal_entry.CommittedEntry.{CommittedEntry}
use Rattle.blk_base.specs.declared.place.Mapping.TheVariants.{At}
use Rattle.blk_base.specs.declared.place.PageId.{PageId}
use Rattle.blk_base.specs.declared.place.Pbn.{Pbn}
use Rattle.blk_base.specs.declared.sizes.TheConstants.{PAGE_SLOTS, TREES}
use Rattle.blk_base.specs.Pages.{above, slot_of, leaf_of, slot_of_address}
use Rattle.image_model.specs.Counts.{leads_to, mapped_below}
use Rattle.image_model.specs.Maps.{Image, target_of}
use Rattle.image_model.specs.Pages.{address_count}
use Rattle.journal_stops.specs.Mapped.{linked_after, mapping_after, page_after, slot_after}
use Rattle.journal_stops.proofs.GrowLaws.{by_leaf, by_link, in_range}
use Rattle.plain_laws.specs.Sums.{bit}
use Rattle.count_laws.specs.Turns.{HasMappingsAfter, IsPageAfter, IsUnusedAfter}
use Rattle.count_laws.proofs.BelowLaws.{counts_none, counts_one, leads_there}

-- A linked page has a number within its level.

root_index : (page : PageId) (root at : Pbn) → (if page.index == 0 then Some root else None) ≡ Some at → page.index ≡ 0
root_index page root at is = elim (eqb_tells page.index 0) [
  | inl none ↦ none.1
  | inr some ↦ let gone = rw some.0 at is in absurd (cc gone)
]

pub linked_index : (opened : Image) (entries : List CommittedEntry) (links : ℕ) (page : PageId) (at : Pbn) → linked_after opened entries links page ≡ Some at → page.index < PAGE_SLOTS ^ links
linked_index opened entries zero page at is =
    let none = root_index page (record { 0 = block_of opened.geometry (Root page.tree) }) at is in omega (arith, none)
linked_index opened entries (suc links) page at is = through (linked_after opened entries links (above page)) refl (λ up linked. linked_index opened entries links (above page) up linked) is
  where
    through : (o : Option Pbn) → linked_after opened entries links (above page) ≡ o
        → ((up : Pbn) → linked_after opened entries links (above page) ≡ Some up → page.index / PAGE_SLOTS < PAGE_SLOTS ^ links)
        → by_link (λ up. target_of (slot_after opened entries (above page) (slot_of page))) o ≡ Some at → page.index < PAGE_SLOTS ^ suc links
    through (Some up) linked before is =
        let below = before up linked in
        let level = pow-succ' PAGE_SLOTS links in
        omega (arith, below, level)
    through None linked before is = absurd (cc is)

-- An address that is mapped is one of all addresses.

leaf_there : (opened : Image) (entries : List CommittedEntry) (a : ℕ) (block : Pbn) → mapping_after opened entries a ≡ At block → (at : Pbn) × (page_after opened entries (leaf_of a) ≡ Some at)
leaf_there opened entries a block is = through (page_after opened entries (leaf_of a)) refl is
  where
    through : (o : Option Pbn) → page_after opened entries (leaf_of a) ≡ o → by_leaf (λ at. slot_after opened entries (leaf_of a) (slot_of_address a)) o ≡ At block
        → (at : Pbn) × (page_after opened entries (leaf_of a) ≡ Some at)
    through (Some at) there is = (at, there)
    through None there is = absurd (cc is)

pub mapped_inside : (opened : Image) (entries : List CommittedEntry) (a : ℕ) (block : Pbn) → mapping_after opened entries a ≡ At block → a < address_count opened.geometry
unfolding address_count
mapped_inside opened entries a block is =
    let leaf = leaf_there opened entries a block is in
    let range = in_range opened entries (leaf_of a) leaf.0 leaf.1 in
    let below : a / PAGE_SLOTS / TREES / PAGE_SLOTS ^ 0 < PAGE_SLOTS ^ (opened.geometry.height - 1 - 0) =
    linked_index opened entries (opened.geometry.height - 1 - 0) (leaf_of a) leaf.0 range.2 in
    let some = range.1 in
    let level = pow-succ' PAGE_SLOTS (opened.geometry.height - 1 - 0) in
    let height : PAGE_SLOTS ^ suc (opened.geometry.height - 1 - 0) ≡ PAGE_SLOTS ^ opened.geometry.height = ap (λ (n : ℕ). PAGE_SLOTS ^ n) (omega (arith, some)) in
    omega (arith, below, level, height)

-- No mappings: unused, and the other way round.

no_page : (P : Type 0) (n m : ℕ) → ((n ≡ 1) × P) ⊎ ((n ≡ 0) × (P → ⊥)) → 0 ≡ m + n → P → ⊥
no_page P n m (inl one) sum is = let pages = one.0 in omega (arith, pages, sum)
no_page P n m (inr none) sum is = none.1 is

pub none_is_unused : (opened : Image) (entries : List CommittedEntry) (block : Pbn) → HasMappingsAfter opened entries block 0 → IsUnusedAfter opened entries block
none_is_unused opened entries block has = record {
  unmapped = λ a is.
      let one = counts_one (mapping_after opened entries) block a (address_count opened.geometry) (mapped_inside opened entries a block is) in
      let leads : bit (leads_to block (mapping_after opened entries a)) ≡ 1 = ap (λ (b : Bool). bit b) (leads_there block (mapping_after opened entries a) is) in
      let sum = has.sum in
      omega (arith, one, leads, sum);
  no_page = no_page (IsPageAfter opened entries block) has.pages (mapped_below (mapping_after opened entries) block (address_count opened.geometry)) has.one_page has.sum;
}

pub unused_has_none : (opened : Image) (entries : List CommittedEntry) (block : Pbn) → IsUnusedAfter opened entries block → HasMappingsAfter opened entries block 0
unused_has_none opened entries block unused = record {
  pages = 0;
  one_page = inr (refl, unused.no_page);
  sum = let none = counts_none (mapping_after opened entries) block (address_count opened.geometry) unused.unmapped in omega (arith, none);
}
