-- What a walk over all trees found is the map of the image, or the least shared block is its fault.
use Rattle.std.proofs.Common.{ℕ, zero, suc, ◌≡◌, ◌-◌, ◌/◌, ◌^◌, ◌<◌, ◌≤◌, ◌==◌, true, false, List, [], ◌∷◌, Option, Some, None, Contains, refl, sym, ◌∙◌, ap, inl, inr, arith}
use Rattle.std.proofs.lemmas.Bool.{cases_lt}
use Rattle.std.proofs.lemmas.Bool.Decides.{eqb_tells}
use Rattle.std.proofs.lemmas.List.Folds.{Any-from_list_any, list_any-from_Any}
use Rattle.std.proofs.lemmas.Nat.{le-div}
use Rattle.blk_base.specs.Pages.{leaf_of, slot_of_address}
use Rattle.blk_base.specs.declared.place.Mapping.{Mapping}
use Rattle.blk_base.specs.declared.place.Mapping.TheVariants.{Unmapped, Zero, At}
use Rattle.blk_base.specs.declared.place.Pbn.{Pbn}
use Rattle.blk_base.specs.declared.sizes.TheConstants.{PAGE_SLOTS, TREES}
use Rattle.image_model.specs.Counts.{leads_to}
use Rattle.image_model.specs.Faults.{IsShareFault}
use Rattle.image_model.specs.Maps.{Image, ArePagesGood, IsTreePage, mapping_of, page_at, says}
use Rattle.image_model.specs.Pages.{address_count}
use Rattle.image_model.specs.Sound.{AreUnshared}
use Rattle.plain_laws.specs.Sums.{bit}
use Rattle.replay_map.proofs.SumLaws.{mapped_sum, sum_has, sum_some}
use Rattle.replay_map.proofs.TreeLaws.{all_changes, all_good, all_links, all_mapped, under_root}
use Rattle.replay_map.proofs.UnderLaws.{some_pages, up_none}
use Rattle.replay_map.proofs.WholeSumLaws.{count_by_leaves}
use Rattle.replay_map.specs.FoundPages.{map_with}
use Rattle.replay_map.specs.Replayed.{AreAllLinks, AreAllMapped, HasMap, times}
use Rattle.replay_map.specs.Shares.{IsLeastShared, has_page}
use Rattle.replay_map.specs.Walks.{WalkedTrees}
use Rattle.replay_map.specs.declared.found.Found.{Found}
use Rattle.replay_map.specs.declared.links.Link.{Link}

-- What stands in a list stands there once or more often.

one_bit : (a b : ℕ) → a ≡ b → bit (a == b) ≡ 1
one_bit a b same = elim (eqb_tells a b) [
  | inl is ↦ ap bit is.0
  | inr other ↦ absurd (other.1 same)
]

eqb_refl : (a : ℕ) → (a == a) ≡ true
eqb_refl a = elim (eqb_tells a a) [
  | inl is ↦ is.0
  | inr other ↦ absurd (other.1 refl)
]

eqb_same : (a b : ℕ) → (a == b) ≡ true → a ≡ b
eqb_same a b is = elim (eqb_tells a b) [
  | inl same ↦ same.1
  | inr other ↦ let both : true ≡ false = sym is ∙ other.0 in absurd (cc both)
]

same_block : (a b : Pbn) → a.0 ≡ b.0 → a ≡ b
same_block a b same = ap (λ (n : ℕ). record { 0 = n }) same

has_times : (blocks : List Pbn) (block : Pbn) → Contains blocks block → 1 ≤ times block blocks
has_times [] block (k, inside, is) = absurd (omega (arith, inside))
has_times (other ∷ blocks) block (zero, inside, is) = let one = one_bit other.0 block.0 (ap (λ (p : Pbn). p.0) is) in omega (arith, one)
has_times (other ∷ blocks) block (suc k, inside, is) = let more = has_times blocks block (k, omega (arith, inside), is) in omega (arith, more)

times_has : (blocks : List Pbn) (block : Pbn) → 1 ≤ times block blocks → Contains blocks block
times_has [] block some = absurd (omega (arith, some))
times_has (other ∷ blocks) block some = elim (eqb_tells other.0 block.0) [
  | inl same ↦ (0, omega arith, same_block other block same.1)
  | inr differ ↦
      let none = ap bit differ.0 in
      let later = times_has blocks block (omega (arith, none, some)) in
      let inside = later.1 in
      (suc later.0, omega (arith, inside), later.2)
]

-- Mappings that lead to a block.

leads_is : (block : Pbn) (mapping : Mapping) → 1 ≤ bit (leads_to block mapping) → mapping ≡ At block
leads_is block Unmapped some = absurd (omega (arith, some))
leads_is block Zero some = absurd (omega (arith, some))
leads_is block (At other) some = elim (eqb_tells other.0 block.0) [
  | inl same ↦ ap (λ (p : Pbn). At p) (same_block other block same.1)
  | inr differ ↦ let none = ap bit differ.0 in absurd (omega (arith, none, some))
]

leads_at : (block : Pbn) (mapping : Mapping) → mapping ≡ At block → 1 ≤ bit (leads_to block mapping)
leads_at block mapping is =
    let same = ap (λ (m : Mapping). bit (leads_to block m)) is in
    let one = one_bit block.0 block.0 refl in
    omega (arith, same, one)

module _ (image : Image) (some : 1 ≤ image.geometry.height) where
  leaf_there : (address : ℕ) (block : Pbn) → mapping_of image address ≡ At block → (at : Pbn) × (page_at image (leaf_of address) ≡ Some at)
  leaf_there address block = told (page_at image (leaf_of address))
    where
      told : (o : Option Pbn) → (elim o as (λ (o' : Option Pbn). Mapping) [ Some at ↦ says image (leaf_of address) at (slot_of_address address) | None ↦ Unmapped ]) ≡ At block
          → (at : Pbn) × (o ≡ Some at)
      told (Some at) is = (at, refl)
      told None is = absurd (cc is)

  -- an address that is mapped is one of the slots of all leaves
  address_inside : (address : ℕ) (block : Pbn) → mapping_of image address ≡ At block → address < address_count image.geometry
  address_inside address block is =
      let leaf = leaf_there address block is in
      let under = under_root image some (leaf_of address) leaf.0 leaf.1 in
      let level = under.2 in
      let levels : under.0 ≡ image.geometry.height - 1 = omega (arith, level) in
      let size : ℕ = PAGE_SLOTS ^ (image.geometry.height - 1) in
      let row : ℕ = address / PAGE_SLOTS / TREES in
      let top : row / size ≡ 0 = ap (λ (n : ℕ). n / size) (sym (up_none row)) ∙ ap (λ (n : ℕ). row / PAGE_SLOTS ^ 0 / PAGE_SLOTS ^ n) (sym levels) ∙ under.3 in
      let count = count_by_leaves image.geometry some in
      elim (cases_lt row size) [
        | inl below ↦ omega (arith, below, count)
        | inr above ↦ let one = le-div 1 row size (some_pages (image.geometry.height - 1)) (omega (arith, above)) in absurd (omega (arith, one, top))
      ]

  module _ (links : List Link) (mapped : List Pbn) (all : AreAllLinks image links) (maps : AreAllMapped image mapped) where
    maps_to : (block : Pbn) (address : ℕ) → mapping_of image address ≡ At block → Contains mapped block
    maps_to block address is =
        let count : ℕ = address_count image.geometry in
        let sum = sum_has (λ a. bit (leads_to block (mapping_of image a))) count address (address_inside address block is) (leads_at block (mapping_of image address) is) in
        let same = maps block in
        let as_sum = mapped_sum (mapping_of image) block count in
        times_has mapped block (omega (arith, sum, same, as_sum))

    mapped_by : (block : Pbn) → Contains mapped block → (address : ℕ) × (mapping_of image address ≡ At block)
    mapped_by block has =
        let count : ℕ = address_count image.geometry in
        let often = has_times mapped block has in
        let same = maps block in
        let as_sum = mapped_sum (mapping_of image) block count in
        let one = sum_some (λ a. bit (leads_to block (mapping_of image a))) count (omega (arith, often, same, as_sum)) in
        (one.0, leads_is block (mapping_of image one.0) one.2)

    -- pages by their links

    page_has : (link : Link) → Contains links link → has_page links link.at.0 ≡ true
    page_has link has =
        let own = eqb_refl link.at.0 in
        list_any-from_Any (λ (l : Link). l.at.0 == link.at.0) links (has.0, link, has.1, has.2, own)

    has_link : (at : Pbn) → has_page links at.0 ≡ true → IsTreePage image at
    has_link at has =
        let any = Any-from_list_any (λ (l : Link). l.at.0 == at.0) links has in
        let link = any.1 in
        let found = (all link).0 (any.0, any.2, any.3) in
        (link.page, found.0, found.1 ∙ ap (λ (p : Pbn). Some p) (same_block link.at at (eqb_same link.at.0 at.0 any.4)))

    pub unshared : IsLeastShared links mapped None → AreUnshared image
    unshared none at address page is = none at (maps_to at address is) (page_has (record { page = page.0; at = at }) ((all (record { page = page.0; at = at })).1 (page.1, page.2)))

    pub share_fault : (at : Pbn) → IsLeastShared links mapped (Some at) → IsShareFault image at
    share_fault at is =
        let address = mapped_by at is.0 in
        record {
          page = has_link at is.1;
          address = address.0;
          mapped = address.1;
          first = λ other mapped_too less page stands.
              let most = is.2 other (maps_to other mapped_too stands) (page_has (record { page = page.0; at = other }) ((all (record { page = page.0; at = other })).1 (page.1, page.2))) in
              omega (arith, less, most);
        }

-- All of it.

module _ (image : Image) (some : 1 ≤ image.geometry.height) (found none : Found) (empty : (none.links.items ≡ []) × (none.slots.items ≡ []) × (none.mapped.items ≡ []))
    (walked : WalkedTrees image TREES none found) where
  links_found : AreAllLinks image found.links.items
  links_found = all_links image found none empty walked

  maps_found : AreAllMapped image found.mapped.items
  maps_found = all_mapped image found none empty walked some

  pub map_found : IsLeastShared found.links.items found.mapped.items None → (last entries : ℕ) → HasMap image (map_with found last entries)
  map_found least last entries = record {
    pages = all_good image found none empty walked;
    unshared = unshared image some found.links.items found.mapped.items links_found maps_found least;
    links = links_found;
    slots = all_changes image found none empty walked;
    mapped = maps_found;
  }

  pub share_found : (at : Pbn) → IsLeastShared found.links.items found.mapped.items (Some at) → ArePagesGood image × IsShareFault image at
  share_found at least = (
    all_good image found none empty walked,
    share_fault image some found.links.items found.mapped.items links_found maps_found at least,
  )
