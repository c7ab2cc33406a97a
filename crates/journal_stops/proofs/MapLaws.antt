-- What the map of an image is that shows a list of entries.
use Rattle.std.proofs.Common.{ℕ, zero, suc, ◌≡◌, ◌+◌, ◌-◌, ◌<◌, ◌&&◌, nat_lt, Bool, true, false, Option, Some, None, List, [], ◌∷◌, ◌++◌, refl, sym, ◌∙◌, ap, inl, inr, arith}
use Rattle.std.proofs.lemmas.Bool.{lt-ltb, ltb-true, cases_Bool}
use Rattle.std.proofs.Math.Nat.{mod-lt}
use Rattle.blk_base.specs.declared.journal_entry.CommittedEntry.{CommittedEntry}
use Rattle.blk_base.specs.declared.place.Mapping.{Mapping}
use Rattle.blk_base.specs.declared.place.Mapping.TheVariants.{Unmapped}
use Rattle.blk_base.specs.declared.place.PageId.{PageId}
use Rattle.blk_base.specs.declared.place.Pbn.{Pbn}
use Rattle.blk_base.specs.declared.sizes.TheConstants.{TREES, PAGE_SLOTS}
use Rattle.blk_base.specs.Pages.{above, slot_of, leaf_of, slot_of_address}
use Rattle.disk_model.specs.Log.{Blocks}
use Rattle.image_model.specs.Maps.{Image, put_by, put_last, or_else, says, target_of, linked_at, page_at, mapping_of}
use Rattle.journal_stops.specs.Mapped.{slot_after, linked_after, page_after, mapping_after, ArePagesShown, ShowsEntries}
use Rattle.journal_stops.specs.Shown.{HasInWindow}

-- Lists of entries, one before the other.

pub or_assoc : (x y z : Option Mapping) → or_else (or_else x y) z ≡ or_else x (or_else y z)
or_assoc (Some m) y z = refl
or_assoc None y z = refl

pub put_append : (newer older : List CommittedEntry) (page : PageId) (slot : ℕ) → put_last (newer ++ older) page slot ≡ or_else (put_last newer page slot) (put_last older page slot)
put_append [] older page slot = refl
put_append (c ∷ newer) older page slot =
    ap (or_else (put_by c.entry page slot)) (put_append newer older page slot) ∙ sym (or_assoc (put_by c.entry page slot) (put_last newer page slot) (put_last older page slot))

pub both : (b c : Bool) → (b && c) ≡ true → (b ≡ true) × (c ≡ true)
both true c is = (refl, is)
both false c is = absurd (cc is)

-- The map of an image whose pages show the entries.
module _ (opened : Image) (entries : List CommittedEntry) (blocks : Blocks) (window reaped : List CommittedEntry) (all : entries ≡ window ++ reaped)
    (pages : ArePagesShown opened entries blocks window) where
  abbrev image : Image
  image = record { geometry = opened.geometry; blocks = blocks; window = window }

  says_with : (page : PageId) (at : Pbn) (slot : ℕ) (put : Option Mapping) → page_after opened entries page ≡ Some at → slot < PAGE_SLOTS → put_last window page slot ≡ put
      → says image page at slot ≡ slot_after opened entries page slot
  says_with page at slot (Some m) linked small put =
      let last : put_last entries page slot ≡ Some m =
      ap (λ (list : List CommittedEntry). put_last list page slot) all ∙ put_append window reaped page slot ∙ ap (λ (o : Option Mapping). or_else o (put_last reaped page slot)) put in
      rw (put, slot_after, last) refl
  says_with page at slot None linked small put = let here = pages page at slot linked small put in rw put here

  says_after : (page : PageId) (at : Pbn) (slot : ℕ) → page_after opened entries page ≡ Some at → slot < PAGE_SLOTS → says image page at slot ≡ slot_after opened entries page slot
  says_after page at slot linked small = says_with page at slot (put_last window page slot) linked small refl

  linked_same : (links : ℕ) (page : PageId) → page.tree < TREES → page.level + links + 1 ≡ opened.geometry.height → linked_at image links page ≡ linked_after opened entries links page
  linked_same zero page tree level = refl
  linked_same (suc links) page tree level =
      let before : linked_at image links (above page) ≡ linked_after opened entries links (above page) = linked_same links (above page) tree (omega (arith, level)) in
      rw before (next (linked_after opened entries links (above page)) refl)
    where
      next : (o : Option Pbn) → linked_after opened entries links (above page) ≡ o
          → (elim o as (λ (o : Option Pbn). Option Pbn) [ Some at ↦ target_of (says image (above page) at (slot_of page)) | None ↦ None ])
          ≡ (elim o as (λ (o : Option Pbn). Option Pbn) [ Some at ↦ target_of (slot_after opened entries (above page) (slot_of page)) | None ↦ None ])
      next (Some at) is =
          let in_tree : nat_lt page.tree TREES ≡ true = lt-ltb page.tree TREES tree in
          let in_height : nat_lt (page.level + 1) opened.geometry.height ≡ true = lt-ltb (page.level + 1) opened.geometry.height (omega (arith, level)) in
          let count : opened.geometry.height - 1 - (page.level + 1) ≡ links = omega (arith, level) in
          let there : page_after opened entries (above page) ≡ Some at = rw (in_tree, in_height, count) is in
          ap target_of (says_after (above page) at (slot_of page) there (mod-lt page.index (omega arith)))
      next None is = refl

  page_same : (page : PageId) → page_at image page ≡ page_after opened entries page
  page_same page = elim (cases_Bool (nat_lt page.tree TREES && nat_lt page.level opened.geometry.height)) [
    | inl within ↦
        let parts = both (nat_lt page.tree TREES) (nat_lt page.level opened.geometry.height) within in
        let tree = ltb-true page.tree TREES parts.0 in
        let level = ltb-true page.level opened.geometry.height parts.1 in
        rw within (linked_same (opened.geometry.height - 1 - page.level) page tree (omega (arith, level)))
    | inr outside ↦ rw outside refl
  ]

  abbrev by_page : (Pbn → Mapping) → Option Pbn → Mapping
  by_page f (Some at) = f at
  by_page f None = Unmapped

  by_page_same : (address : ℕ) (o : Option Pbn) → page_after opened entries (leaf_of address) ≡ o
      → by_page (λ at. says image (leaf_of address) at (slot_of_address address)) o ≡ by_page (λ at. slot_after opened entries (leaf_of address) (slot_of_address address)) o
  by_page_same address (Some at) is = says_after (leaf_of address) at (slot_of_address address) is (mod-lt address (omega arith))
  by_page_same address None is = refl

  mapping_same : (address : ℕ) → mapping_of image address ≡ mapping_after opened entries address
  mapping_same address =
      ap (by_page (λ at. says image (leaf_of address) at (slot_of_address address))) (page_same (leaf_of address))
      ∙ by_page_same address (page_after opened entries (leaf_of address)) refl

-- Where each page shows what the window leaves to it, the image shows the entries.
pub pages_show : (opened : Image) (start : ℕ) (blocks : Blocks) (entries : List CommittedEntry) (shown : HasInWindow opened.geometry start blocks entries)
    → ArePagesShown opened entries blocks shown.window → ShowsEntries opened start blocks entries
pages_show opened start blocks entries shown pages = record {
  shown = shown;
  pages = page_same opened entries blocks shown.window shown.reaped shown.all pages;
  mappings = mapping_same opened entries blocks shown.window shown.reaped shown.all pages;
}
