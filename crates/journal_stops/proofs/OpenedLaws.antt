-- What entries change on the map of the image that was opened, and which pages show them.
use Rattle.std.proofs.Common.{ℕ, zero, suc, ◌≡◌, ◌+◌, ◌-◌, ◌<◌, ◌&&◌, nat_lt, true, Option, Some, None, List, [], ◌∷◌, ◌++◌, refl, sym, ◌∙◌, ap, subst, inl, inr, arith}
use Rattle.std.proofs.lemmas.Bool.{lt-ltb, ltb-true, cases_Bool}
use Rattle.std.proofs.lemmas.List.{append-nil}
use Rattle.blk_base.specs.declared.journal_entry.CommittedEntry.{CommittedEntry}
use Rattle.blk_base.specs.declared.place.Mapping.{Mapping}
use Rattle.blk_base.specs.declared.place.Mapping.TheVariants.{Unmapped, At}
use Rattle.blk_base.specs.declared.place.PageId.{PageId}
use Rattle.blk_base.specs.declared.place.Pbn.{Pbn}
use Rattle.blk_base.specs.declared.sizes.TheConstants.{TREES}
use Rattle.blk_base.specs.Pages.{above, slot_of, leaf_of, slot_of_address}
use Rattle.disk_model.specs.Log.{Blocks, block_at}
use Rattle.image_model.specs.Maps.{Image, put_by, put_last, or_else, mapping_in, says, target_of, linked_at, page_at, mapping_of, slot_in}
use Rattle.journal_stops.specs.Mapped.{slot_after, linked_after, page_after, mapping_after, newest_for, newest_page, later_image, AreRooted, ArePagesShown, ArePagesMade, ShowsEntries}
use Rattle.journal_stops.proofs.MapLaws.{both, put_append}
use Rattle.journal_stops.proofs.NewestLaws.{newest_is_block, put_into}
use Rattle.journal_stops.proofs.GrowLaws.{by_link, by_leaf, after_level, in_range, slot_left, page_stays, mapping_new, mapping_old, page_new, page_old}

-- No entries change nothing.

module _ (opened : Image) where
  at_level : (page : PageId) (links : ℕ) → page.tree < TREES → page.level + links + 1 ≡ opened.geometry.height → page_at opened page ≡ linked_at opened links page
  at_level page links tree level =
      let in_tree : nat_lt page.tree TREES ≡ true = lt-ltb page.tree TREES tree in
      let in_height : nat_lt page.level opened.geometry.height ≡ true = lt-ltb page.level opened.geometry.height (omega (arith, level)) in
      let count : opened.geometry.height - 1 - page.level ≡ links = omega (arith, level) in
      rw (in_tree, in_height, count) refl

  pub slot_of_page : (page : PageId) (at : Pbn) (slot : ℕ) → page_at opened page ≡ Some at → slot_in opened page slot ≡ says opened page at slot
  slot_of_page page at slot is = rw (slot_in, is) refl

  slot_of_none : (page : PageId) (slot : ℕ) → page_at opened page ≡ None → slot_in opened page slot ≡ Unmapped
  slot_of_none page slot is = rw (slot_in, is) refl

  links_with_none : (links : ℕ) (page : PageId) → page.tree < TREES → page.level + links + 1 ≡ opened.geometry.height → linked_after opened [] links page ≡ linked_at opened links page
  links_with_none zero page tree level = refl
  links_with_none (suc links) page tree level =
      ap (by_link (λ up. target_of (slot_in opened (above page) (slot_of page)))) (links_with_none links (above page) tree (omega (arith, level)))
      ∙ through (linked_at opened links (above page)) refl
    where
      through : (o : Option Pbn) → linked_at opened links (above page) ≡ o
          → by_link (λ up. target_of (slot_in opened (above page) (slot_of page))) o ≡ by_link (λ up. target_of (says opened (above page) up (slot_of page))) o
      through (Some up) is =
          let there : page_at opened (above page) ≡ Some up = at_level (above page) links tree (omega (arith, level)) ∙ is in
          ap target_of (slot_of_page (above page) up (slot_of page) there)
      through None is = refl

  pub page_with_none : (page : PageId) → page_after opened [] page ≡ page_at opened page
  page_with_none page = elim (cases_Bool (nat_lt page.tree TREES && nat_lt page.level opened.geometry.height)) [
    | inl within ↦
        let parts = both (nat_lt page.tree TREES) (nat_lt page.level opened.geometry.height) within in
        let below = ltb-true page.level opened.geometry.height parts.1 in
        rw within (links_with_none (opened.geometry.height - 1 - page.level) page (ltb-true page.tree TREES parts.0) (omega (arith, below)))
    | inr outside ↦ rw outside refl
  ]

  mapping_with_none : (a : ℕ) → mapping_after opened [] a ≡ mapping_of opened a
  mapping_with_none a =
      ap (by_leaf (λ at. slot_in opened (leaf_of a) (slot_of_address a))) (page_with_none (leaf_of a)) ∙ through (page_at opened (leaf_of a)) refl
    where
      through : (o : Option Pbn) → page_at opened (leaf_of a) ≡ o
          → by_leaf (λ at. slot_in opened (leaf_of a) (slot_of_address a)) o ≡ by_leaf (λ at. says opened (leaf_of a) at (slot_of_address a)) o
      through (Some at) is = slot_of_page (leaf_of a) at (slot_of_address a) is
      through None is = refl

  -- Nothing is put into pages that aren't linked.

  unlinked_with_none : (page : PageId) (slot : ℕ) → page_after opened [] page ≡ None → slot_after opened [] page slot ≡ Unmapped
  unlinked_with_none page slot gone = slot_of_none page slot (sym (page_with_none page) ∙ gone)

  pub unlinked : (entries : List CommittedEntry) → AreRooted opened entries → (page : PageId) (slot : ℕ) → page_after opened entries page ≡ None → slot_after opened entries page slot ≡ Unmapped
  unlinked [] rooted page slot gone = unlinked_with_none page slot gone
  unlinked (c ∷ older) rooted page slot gone =
      through (page_after opened older page) (put_by c.entry page slot) refl refl (unlinked older rooted.1 page slot)
    where
      through : (was : Option Pbn) (put : Option Mapping) → page_after opened older page ≡ was → put_by c.entry page slot ≡ put
          → (page_after opened older page ≡ None → slot_after opened older page slot ≡ Unmapped) → slot_after opened (c ∷ older) page slot ≡ Unmapped
      through (Some at) put was put_is before = let still = page_stays opened (c ∷ []) older page at was in absurd (cc (still.1, gone))
      through None (Some m) was put_is before =
          let there : page_after opened older page ≡ Some rooted.0.0 = subst (λ (p : PageId). page_after opened older p ≡ Some rooted.0.0) (sym (put_into c.entry page slot m put_is)) rooted.0.1 in absurd (cc (there, was))
      through None None was put_is before =
          slot_left opened (c ∷ []) older page slot (ap (λ (o : Option Mapping). or_else o None) put_is) ∙ before was

-- All entries over the opened image.

module _ (opened : Image) (entries : List CommittedEntry) where
  with_all : (P : List CommittedEntry → Type 0) → P (entries ++ []) → P entries
  with_all P holds = subst P (append-nil entries) holds

  over_none : (P : List CommittedEntry → Type 0) → P entries → P (entries ++ [])
  over_none P holds = subst P (sym (append-nil entries)) holds

  pub all_new : (a : ℕ) (at : Pbn) (m : Mapping) → page_after opened entries (leaf_of a) ≡ Some at → newest_for entries a ≡ Some m → mapping_after opened entries a ≡ m
  all_new a at m there newest = with_all (λ list. mapping_after opened list a ≡ m) (mapping_new opened entries [] a at m (over_none (λ list. page_after opened list (leaf_of a) ≡ Some at) there) newest)

  pub all_old : (a : ℕ) → newest_for entries a ≡ None → mapping_after opened entries a ≡ mapping_of opened a
  all_old a none = with_all (λ list. mapping_after opened list a ≡ mapping_of opened a) (mapping_old opened entries [] (unlinked_with_none opened) a none ∙ mapping_with_none opened a)

  pub all_new_page : (page : PageId) (up at : Pbn) → page.level + 1 < opened.geometry.height → page_after opened entries (above page) ≡ Some up → newest_page entries page ≡ Some (At at)
      → page_after opened entries page ≡ Some at
  all_new_page page up at below there newest =
      with_all (λ list. page_after opened list page ≡ Some at) (page_new opened entries [] page up at below (over_none (λ list. page_after opened list (above page) ≡ Some up) there) newest)

  pub all_old_page : (page : PageId) → newest_page entries page ≡ None → page_after opened entries page ≡ page_at opened page
  all_old_page page none = with_all (λ list. page_after opened list page ≡ page_at opened page) (page_old opened entries [] (unlinked_with_none opened) page none ∙ page_with_none opened page)

-- The same of an image that shows them.

module _ (opened : Image) (start : ℕ) (blocks : Blocks) (entries : List CommittedEntry) (s : ShowsEntries opened start blocks entries) where
  abbrev image : Image
  image = later_image opened blocks s.shown.window

  pub shows_new : (a : ℕ) (at : Pbn) (m : Mapping) → page_at image (leaf_of a) ≡ Some at → newest_for entries a ≡ Some m → mapping_of image a ≡ m
  shows_new a at m there newest = s.mappings a ∙ all_new opened entries a at m (sym (s.pages (leaf_of a)) ∙ there) newest

  pub shows_old : (a : ℕ) → newest_for entries a ≡ None → mapping_of image a ≡ mapping_of opened a
  shows_old a none = s.mappings a ∙ all_old opened entries a none

  pub shows_new_page : (page : PageId) (up at : Pbn) → page.level + 1 < opened.geometry.height → page_at image (above page) ≡ Some up → newest_page entries page ≡ Some (At at)
      → page_at image page ≡ Some at
  shows_new_page page up at below there newest = s.pages page ∙ all_new_page opened entries page up at below (sym (s.pages (above page)) ∙ there) newest

  pub shows_old_page : (page : PageId) → newest_page entries page ≡ None → page_at image page ≡ page_at opened page
  shows_old_page page none = s.pages page ∙ all_old_page opened entries page none

-- What newer entries leave as it was.

pub rooted_old : (opened : Image) (newer older : List CommittedEntry) (a : ℕ) → AreRooted opened older → newest_for newer a ≡ None
    → mapping_after opened (newer ++ older) a ≡ mapping_after opened older a
rooted_old opened newer older a rooted none = mapping_old opened newer older (unlinked opened older rooted) a none

pub rooted_old_page : (opened : Image) (newer older : List CommittedEntry) (page : PageId) → AreRooted opened older → newest_page newer page ≡ None
    → page_after opened (newer ++ older) page ≡ page_after opened older page
rooted_old_page opened newer older page rooted none = page_old opened newer older (unlinked opened older rooted) page none

-- Which pages show entries.

pub no_first : (x y : Option Mapping) → or_else x y ≡ None → (x ≡ None) × (y ≡ None)
no_first (Some m) y is = absurd (cc is)
no_first None y is = (refl, is)

-- what is left to the pages by a window is left by one that has less
pub pages_keep : (opened : Image) (entries : List CommittedEntry) (blocks : Blocks) (window behind : List CommittedEntry)
    → ArePagesShown opened entries blocks window → ArePagesShown opened entries blocks (window ++ behind)
pages_keep opened entries blocks window behind shown page at slot linked small left =
    shown page at slot linked small (no_first (put_last window page slot) (put_last behind page slot) (sym (put_append window behind page slot) ∙ left)).0

-- a page that is linked below a root has a page above it
pub above_linked : (opened : Image) (entries : List CommittedEntry) (page : PageId) (at : Pbn) → page.level + 1 < opened.geometry.height → page_after opened entries page ≡ Some at
    → (up : Pbn) × (page_after opened entries (above page) ≡ Some up)
above_linked opened entries page at below is =
    let found = in_range opened entries page at is in
    let links = opened.geometry.height - 1 - (page.level + 1) in
    let level : page.level + suc links + 1 ≡ opened.geometry.height = omega (arith, below) in
    let up = through links (linked_after opened entries links (above page)) refl (sym (after_level opened entries page (suc links) found.0 level) ∙ is) in
    (up.0, after_level opened entries (above page) links found.0 (omega (arith, level)) ∙ up.1)
  where
    through : (links : ℕ) (o : Option Pbn) → linked_after opened entries links (above page) ≡ o
        → by_link (λ up. target_of (slot_after opened entries (above page) (slot_of page))) o ≡ Some at → (up : Pbn) × (linked_after opened entries links (above page) ≡ Some up)
    through links (Some up) linked is = (up, linked)
    through links None linked is = absurd (cc is)

pub same_block : (x y : Pbn) → Some x ≡ Some y → x ≡ y
same_block x y is = cc is

-- the pages that show older entries show newer ones too that the window has, where those that these make say nothing yet
pub pages_go_on : (opened : Image) (newer older : List CommittedEntry) (blocks : Blocks) (window : List CommittedEntry) → AreRooted opened older → ArePagesMade opened older newer blocks
    → ArePagesShown opened older blocks window → ArePagesShown opened (newer ++ older) blocks (newer ++ window)
pages_go_on opened newer older blocks window rooted made shown page at slot linked small left = by_newest (newest_page newer page) refl
  where
    by_newest : (newest : Option Mapping) → newest_page newer page ≡ newest → mapping_in (block_at blocks at.0) slot ≡ slot_after opened (newer ++ older) page slot
    by_newest None newest =
        let parts = no_first (put_last newer page slot) (put_last window page slot) (sym (put_append newer window page slot) ∙ left) in
        let there : page_after opened older page ≡ Some at = sym (rooted_old_page opened newer older page rooted newest) ∙ linked in
        shown page at slot there small parts.1 ∙ sym (slot_left opened newer older page slot parts.0)
    by_newest (Some m) newest =
        let parts = no_first (put_last newer page slot) (put_last window page slot) (sym (put_append newer window page slot) ∙ left) in
        let block = newest_is_block newer page m newest in
        let put : newest_page newer page ≡ Some (At block.0) = newest ∙ ap (λ (m : Mapping). Some m) block.1 in
        let new = made page block.0 put in
        let up = above_linked opened (newer ++ older) page at new.0 linked in
        let now = page_new opened newer older page up.0 block.0 new.0 up.1 put in
        subst (λ (x : Pbn). mapping_in (block_at blocks x.0) slot ≡ Unmapped) (same_block block.0 at (sym now ∙ linked)) (new.2 slot)
        ∙ sym (slot_left opened newer older page slot parts.0 ∙ unlinked opened older rooted page slot new.1)
