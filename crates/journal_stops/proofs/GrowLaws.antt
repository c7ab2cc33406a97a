-- What newer entries change on the map that older ones give.
use Rattle.std.proofs.Common.{ℕ, zero, suc, ◌≡◌, ◌+◌, ◌-◌, ◌<◌, ◌&&◌, nat_lt, Bool, true, false, if◌then◌else◌, Option, Some, None, List, ◌++◌, refl, ◌∙◌, ap, inl, inr, arith}
use Rattle.std.proofs.lemmas.Bool.{lt-ltb, ltb-true, cases_Bool}
use Rattle.blk_base.specs.declared.journal_entry.CommittedEntry.{CommittedEntry}
use Rattle.blk_base.specs.declared.place.Mapping.{Mapping}
use Rattle.blk_base.specs.declared.place.Mapping.TheVariants.{Unmapped, At}
use Rattle.blk_base.specs.declared.place.PageId.{PageId}
use Rattle.blk_base.specs.declared.place.Pbn.{Pbn}
use Rattle.blk_base.specs.declared.sizes.TheConstants.{TREES}
use Rattle.blk_base.specs.Pages.{above, slot_of, leaf_of, slot_of_address}
use Rattle.image_model.specs.Maps.{Image, put_last, or_else, target_of, slot_in}
use Rattle.journal_stops.specs.Mapped.{slot_after, linked_after, page_after, mapping_after, newest_for, newest_page}
use Rattle.journal_stops.proofs.MapLaws.{both, put_append}
use Rattle.journal_stops.proofs.NewestLaws.{newest_same, newest_page_same, newest_is_block}

-- a page of a level stands so many links below its root
pub after_level : (opened : Image) (entries : List CommittedEntry) (page : PageId) (links : ℕ) → page.tree < TREES → page.level + links + 1 ≡ opened.geometry.height
    → page_after opened entries page ≡ linked_after opened entries links page
after_level opened entries page links tree level =
    let in_tree : nat_lt page.tree TREES ≡ true = lt-ltb page.tree TREES tree in
    let in_height : nat_lt page.level opened.geometry.height ≡ true = lt-ltb page.level opened.geometry.height (omega (arith, level)) in
    let count : opened.geometry.height - 1 - page.level ≡ links = omega (arith, level) in
    rw (in_tree, in_height, count) refl

guarded : (t : Bool) (o : Option Pbn) (at : Pbn) → (if t then o else None) ≡ Some at → (t ≡ true) × (o ≡ Some at)
guarded true o at is = (refl, is)
guarded false o at is = absurd (cc is)

-- a page that is linked is of a tree, and so many links below its root
pub in_range : (opened : Image) (entries : List CommittedEntry) (page : PageId) (at : Pbn) → page_after opened entries page ≡ Some at
    → (page.tree < TREES) × (page.level < opened.geometry.height) × (linked_after opened entries (opened.geometry.height - 1 - page.level) page ≡ Some at)
in_range opened entries page at is =
    let within = guarded (nat_lt page.tree TREES && nat_lt page.level opened.geometry.height) (linked_after opened entries (opened.geometry.height - 1 - page.level) page) at is in
    let parts = both (nat_lt page.tree TREES) (nat_lt page.level opened.geometry.height) within.0 in
    (ltb-true page.tree TREES parts.0, ltb-true page.level opened.geometry.height parts.1, within.1)

-- what is found through a page
abbrev pub by_link : (Pbn → Option Pbn) → Option Pbn → Option Pbn
by_link f (Some at) = f at
by_link f None = None

abbrev pub by_leaf : (Pbn → Mapping) → Option Pbn → Mapping
by_leaf f (Some at) = f at
by_leaf f None = Unmapped

abbrev pub by_put : Mapping → Option Mapping → Mapping
by_put before (Some m) = m
by_put before None = before

module _ (opened : Image) (newer older : List CommittedEntry) where
  abbrev all : List CommittedEntry
  all = newer ++ older

  -- A slot has what the newest of the newer entries puts there, or what it had.

  pub slot_put : (page : PageId) (slot : ℕ) (m : Mapping) → put_last newer page slot ≡ Some m → slot_after opened all page slot ≡ m
  slot_put page slot m is = ap (by_put (slot_in opened page slot)) (put_append newer older page slot ∙ ap (λ (o : Option Mapping). or_else o (put_last older page slot)) is)

  pub slot_left : (page : PageId) (slot : ℕ) → put_last newer page slot ≡ None → slot_after opened all page slot ≡ slot_after opened older page slot
  slot_left page slot is = ap (by_put (slot_in opened page slot)) (put_append newer older page slot ∙ ap (λ (o : Option Mapping). or_else o (put_last older page slot)) is)

  -- A page that was linked stays linked.

  link_after : (page : PageId) (newest : Option Mapping) → newest_page newer page ≡ newest → (at : Pbn) → target_of (slot_after opened older (above page) (slot_of page)) ≡ Some at
      → (now : Pbn) × (target_of (slot_after opened all (above page) (slot_of page)) ≡ Some now)
  link_after page (Some m) newest at is =
      let block = newest_is_block newer page m newest in
      (block.0, ap target_of (slot_put (above page) (slot_of page) m (newest_page_same newer page ∙ newest) ∙ block.1))
  link_after page None newest at is = (at, ap target_of (slot_left (above page) (slot_of page) (newest_page_same newer page ∙ newest)) ∙ is)

  links_stay : (links : ℕ) (page : PageId) (at : Pbn) → linked_after opened older links page ≡ Some at → (now : Pbn) × (linked_after opened all links page ≡ Some now)
  links_stay zero page at is = (at, is)
  links_stay (suc links) page at is = through (linked_after opened older links (above page)) refl (λ up linked. links_stay links (above page) up linked) is
    where
      through : (o : Option Pbn) → linked_after opened older links (above page) ≡ o
          → ((up : Pbn) → linked_after opened older links (above page) ≡ Some up → (now : Pbn) × (linked_after opened all links (above page) ≡ Some now))
          → by_link (λ up. target_of (slot_after opened older (above page) (slot_of page))) o ≡ Some at → (now : Pbn) × (linked_after opened all (suc links) page ≡ Some now)
      through (Some up) linked before is =
          let still = before up linked in
          let here = link_after page (newest_page newer page) refl at is in
          (here.0, ap (by_link (λ up. target_of (slot_after opened all (above page) (slot_of page)))) still.1 ∙ here.1)
      through None linked before is = absurd (cc is)

  pub page_stays : (page : PageId) (at : Pbn) → page_after opened older page ≡ Some at → (now : Pbn) × (page_after opened all page ≡ Some now)
  page_stays page at is =
      let found = in_range opened older page at is in
      let links = opened.geometry.height - 1 - page.level in
      let now = links_stay links page at found.2 in
      (now.0, after_level opened all page links found.0 (let below = found.1 in omega (arith, below)) ∙ now.1)

  -- An address has the mapping of the newest of the newer entries for it, a page its block.

  pub mapping_new : (a : ℕ) (at : Pbn) (m : Mapping) → page_after opened all (leaf_of a) ≡ Some at → newest_for newer a ≡ Some m → mapping_after opened all a ≡ m
  mapping_new a at m there newest =
      ap (by_leaf (λ at. slot_after opened all (leaf_of a) (slot_of_address a))) there
      ∙ slot_put (leaf_of a) (slot_of_address a) m (newest_same newer a ∙ newest)

  pub page_new : (page : PageId) (up at : Pbn) → page.level + 1 < opened.geometry.height → page_after opened all (above page) ≡ Some up → newest_page newer page ≡ Some (At at)
      → page_after opened all page ≡ Some at
  page_new page up at below there newest =
      let found = in_range opened all (above page) up there in
      let links = opened.geometry.height - 1 - (page.level + 1) in
      after_level opened all page (suc links) found.0 (omega (arith, below))
      ∙ ap (by_link (λ up. target_of (slot_after opened all (above page) (slot_of page)))) found.2
      ∙ ap target_of (slot_put (above page) (slot_of page) (At at) (newest_page_same newer page ∙ newest))

  -- .. and where there is none what it had, if nothing is put into pages that aren't linked.
  module _ (unlinked : (page : PageId) (slot : ℕ) → page_after opened older page ≡ None → slot_after opened older page slot ≡ Unmapped) where
    pub mapping_old : (a : ℕ) → newest_for newer a ≡ None → mapping_after opened all a ≡ mapping_after opened older a
    mapping_old a none = with_pages (page_after opened all (leaf_of a)) (page_after opened older (leaf_of a)) refl refl
      where
        with_pages : (now was : Option Pbn) → page_after opened all (leaf_of a) ≡ now → page_after opened older (leaf_of a) ≡ was
            → by_leaf (λ at. slot_after opened all (leaf_of a) (slot_of_address a)) now ≡ by_leaf (λ at. slot_after opened older (leaf_of a) (slot_of_address a)) was
        with_pages (Some now) (Some was) is was_is = slot_left (leaf_of a) (slot_of_address a) (newest_same newer a ∙ none)
        with_pages (Some now) None is was_is = slot_left (leaf_of a) (slot_of_address a) (newest_same newer a ∙ none) ∙ unlinked (leaf_of a) (slot_of_address a) was_is
        with_pages None (Some was) is was_is = let still = page_stays (leaf_of a) was was_is in absurd (cc (still.1, is))
        with_pages None None is was_is = refl

    pub page_old : (page : PageId) → newest_page newer page ≡ None → page_after opened all page ≡ page_after opened older page
    page_old page none = elim (cases_Bool (nat_lt page.tree TREES && nat_lt page.level opened.geometry.height)) [
      | inl within ↦
          let parts = both (nat_lt page.tree TREES) (nat_lt page.level opened.geometry.height) within in
          let below = ltb-true page.level opened.geometry.height parts.1 in
          rw within (by_links (opened.geometry.height - 1 - page.level) (ltb-true page.tree TREES parts.0) (omega (arith, below)))
      | inr outside ↦ rw outside refl
    ]
      where
        by_up : (links : ℕ) → page.tree < TREES → page.level + suc links + 1 ≡ opened.geometry.height → (now was : Option Pbn)
            → linked_after opened all links (above page) ≡ now → linked_after opened older links (above page) ≡ was
            → by_link (λ up. target_of (slot_after opened all (above page) (slot_of page))) now ≡ by_link (λ up. target_of (slot_after opened older (above page) (slot_of page))) was
        by_up links tree level (Some now) (Some was) is was_is = ap target_of (slot_left (above page) (slot_of page) (newest_page_same newer page ∙ none))
        by_up links tree level (Some now) None is was_is =
            let gone : page_after opened older (above page) ≡ None = after_level opened older (above page) links tree (omega (arith, level)) ∙ was_is in
            ap target_of (slot_left (above page) (slot_of page) (newest_page_same newer page ∙ none) ∙ unlinked (above page) (slot_of page) gone)
        by_up links tree level None (Some was) is was_is = let still = links_stay links (above page) was was_is in absurd (cc (still.1, is))
        by_up links tree level None None is was_is = refl

        by_links : (links : ℕ) → page.tree < TREES → page.level + links + 1 ≡ opened.geometry.height → linked_after opened all links page ≡ linked_after opened older links page
        by_links zero tree level = refl
        by_links (suc links) tree level = by_up links tree level (linked_after opened all links (above page)) (linked_after opened older links (above page)) refl refl
