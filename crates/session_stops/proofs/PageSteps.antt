-- What keeps the pages standing, and what grows with them.
use Rattle.std.proofs.Common.{ℕ, ◌≡◌, ◌⊎◌, ◌+◌, ◌-◌, ◌<◌, List, [], ◌∷◌, ◌++◌, length, replicate, Option, Some, None, refl, sym, ◌∙◌, ap, subst, inl, inr, arith, Bool, IsTrue}
use Rattle.std.specs.List.{AllByRecursion}
use Rattle.std.proofs.lemmas.Bool.{cases_Bool}
use Rattle.std.proofs.lemmas.List.{get_or-replicate}
use Rattle.blk_base.specs.Regions.{Root, DataBlock, IsDataBlock, block_of}
use Rattle.blk_base.proofs.RegionLaws.{apart}
use Rattle.blk_base.specs.declared.journal_entry.CommittedEntry.{CommittedEntry}
use Rattle.blk_base.specs.declared.journal_entry.Entry.{Entry}
use Rattle.blk_base.specs.declared.journal_entry.Entry.TheVariants.{Remap, NewPage}
use Rattle.blk_base.specs.declared.place.Mapping.{Mapping}
use Rattle.blk_base.specs.declared.place.Mapping.TheVariants.{Unmapped, At}
use Rattle.blk_base.specs.declared.place.PageId.{PageId}
use Rattle.blk_base.specs.declared.place.Pbn.{Pbn}
use Rattle.blk_base.specs.declared.sizes.TheConstants.{PAGE_SLOTS, TREES}
use Rattle.disk_model.specs.declared.call.Call.{Call}
use Rattle.disk_model.specs.declared.call.Call.TheVariants.{Read, Write, Flush}
use Rattle.disk_model.specs.Log.{Blocks, Misses, block_at, contents}
use Rattle.disk_model.proofs.ImageLaws.{all_weaker}
use Rattle.disk_model.specs.OneImages.{HasOneImageIn}
use Rattle.image_model.specs.Maps.{Image, ArePagesGood, head_of, or_else, page_at, put_last}
use Rattle.image_model.specs.Pages.{is_page}
use Rattle.page_codec.proofs.ReadLaws.{slots}
use Rattle.page_codec.specs.Grammar.{HasHead, IsPage, IsSlot}
use Rattle.page_codec.specs.declared.forms.PageHead.{PageHead}
use Rattle.plain_laws.proofs.OptionLaws.{option_cases}
use Rattle.recovery_laws.proofs.OldLaws.{own_slot}
use Rattle.recovery_laws.specs.Kept.{PutsOnly}
use Rattle.vdo_model.specs.Journals.{Surely}
use Rattle.journal_stops.specs.Mapped.{AreRooted, newest_page, page_after, put_page, slot_after}
use Rattle.journal_stops.proofs.GrowLaws.{page_new, page_stays, slot_left}
use Rattle.journal_stops.proofs.MapLaws.{put_append}
use Rattle.journal_stops.proofs.NewestLaws.{newest_is_block, page_equal}
use Rattle.journal_stops.proofs.OpenedLaws.{page_with_none, rooted_old_page, slot_of_page, unlinked, above_linked, no_first, same_block}
use Rattle.session_stops.specs.Pages.{EmptyPageStands, NewPagesStand, PageStands, PagesStand, SaysTheRest, SlotStands}
use Rattle.session_stops.proofs.NewPages.{AreMadeNew, MakesNew}
use Rattle.count_laws.specs.Turns.{IsPageAfter}
use Rattle.session_stops.proofs.PagePlaces.{block_put}
use Rattle.session_stops.proofs.SurelyLaws.{goes_on}

-- A page by its contents.

module _ (P : List ℕ → Type 0) (Q : ℕ → List ℕ → Type 0) (R : List ℕ → Type 0) (join : (bytes : List ℕ) → P bytes → ((slot : ℕ) → Q slot bytes) → R bytes) where
  pub all_both : (options : List (List ℕ)) → AllByRecursion P options → ((slot : ℕ) → AllByRecursion (Q slot) options) → AllByRecursion R options
  all_both [] front each = tt
  all_both (bytes ∷ others) front each = (join bytes front.0 (λ slot. (each slot).0), all_both others front.1 (λ slot. (each slot).1))

module _ (opening : Blocks) (log : List Call) (opened : Image) (entries window : List CommittedEntry) (page : PageId) (at : Pbn) where
  abbrev Rest : List ℕ → Type 0
  Rest = SaysTheRest opened entries window page at

  -- a page stands exactly where each content says what is left to it
  pub page_of_contents : Surely opening log at.0 (SaysTheRest opened entries window page at) → PageStands opening log opened entries window page at
  page_of_contents all = record {
    headed = all_weaker Rest (HasHead (head_of opened page at)) (contents opening log at.0) (λ content rest. rest.headed) all;
    slots = λ slot small left.
        all_weaker Rest (λ content. IsSlot (head_of opened page at) content slot (slot_after opened entries page slot)) (contents opening log at.0) (λ content rest. rest.slots slot small left) all;
  }

  abbrev Slot : ℕ → List ℕ → Type 0
  Slot slot bytes = slot < PAGE_SLOTS → put_last window page slot ≡ None → IsSlot (head_of opened page at) bytes slot (slot_after opened entries page slot)

  allowed : (slot : ℕ) (options : List (List ℕ))
      → (slot < PAGE_SLOTS → put_last window page slot ≡ None → AllByRecursion (λ content. IsSlot (head_of opened page at) content slot (slot_after opened entries page slot)) options)
      → AllByRecursion (Slot slot) options
  allowed slot [] each = tt
  allowed slot (bytes ∷ others) each = ((λ small left. (each small left).0), allowed slot others (λ small left. (each small left).1))

  pub contents_of_page : PageStands opening log opened entries window page at → Surely opening log at.0 (SaysTheRest opened entries window page at)
  contents_of_page stands =
      all_both (HasHead (head_of opened page at)) Slot Rest (λ bytes headed each. record { headed = headed; slots = each }) (contents opening log at.0) stands.headed
      (λ slot. allowed slot (contents opening log at.0) (stands.slots slot))

  -- it stays so over each call that writes nothing else to its block
  pub page_stays_so : (call : Call) → PutsOnly at.0 (SaysTheRest opened entries window page at) call
      → PageStands opening log opened entries window page at → PageStands opening (call ∷ log) opened entries window page at
  page_stays_so call puts stands = record {
    headed = goes_on (HasHead (head_of opened page at)) opening log at.0 call (narrow call puts) stands.headed;
    slots = λ slot small left.
        goes_on (λ content. IsSlot (head_of opened page at) content slot (slot_after opened entries page slot)) opening log at.0 call (narrow_slot slot small left call puts) (stands.slots slot small left);
  }
    where
      narrow : (call : Call) → PutsOnly at.0 Rest call → PutsOnly at.0 (HasHead (head_of opened page at)) call
      narrow (Read b bytes ok) puts = tt
      narrow (Flush ok) puts = tt
      narrow (Write b bytes ok) puts = λ same. (puts same).headed

      narrow_slot : (slot : ℕ) → slot < PAGE_SLOTS → put_last window page slot ≡ None → (call : Call) → PutsOnly at.0 Rest call
          → PutsOnly at.0 (λ content. IsSlot (head_of opened page at) content slot (slot_after opened entries page slot)) call
      narrow_slot slot small left (Read b bytes ok) puts = tt
      narrow_slot slot small left (Flush ok) puts = tt
      narrow_slot slot small left (Write b bytes ok) puts = λ same. (puts same).slots slot small left

-- All pages.

module _ (opening : Blocks) (log : List Call) (opened : Image) (entries window : List CommittedEntry) (stand : PagesStand opening log opened entries window) where
  pub pages_stay_so : (call : Call) → ((page : PageId) (at : Pbn) → page_after opened entries page ≡ Some at → PutsOnly at.0 (SaysTheRest opened entries window page at) call)
      → PagesStand opening (call ∷ log) opened entries window
  pages_stay_so call puts page at linked = page_stays_so opening log opened entries window page at call (puts page at linked) (stand page at linked)

  misses_puts : (P : List ℕ → Type 0) (b : ℕ) (call : Call) → Misses call b → PutsOnly b P call
  misses_puts P b (Read at bytes ok) misses = tt
  misses_puts P b (Flush ok) misses = tt
  misses_puts P b (Write at bytes ok) misses = λ same. absurd (misses same)

  pub pages_missed : (call : Call) → ((page : PageId) (at : Pbn) → page_after opened entries page ≡ Some at → Misses call at.0) → PagesStand opening (call ∷ log) opened entries window
  pages_missed call misses = pages_stay_so call (λ page at linked. misses_puts (SaysTheRest opened entries window page at) at.0 call (misses page at linked))

-- The head.

-- with more in the window less is asked of the pages
pub less : (opening : Blocks) (log : List Call) (opened : Image) (entries window behind : List CommittedEntry)
    → PagesStand opening log opened entries window → PagesStand opening log opened entries (window ++ behind)
less opening log opened entries window behind stand page at linked = record {
  headed = (stand page at linked).headed;
  slots = λ slot small left. (stand page at linked).slots slot small (no_first (put_last window page slot) (put_last behind page slot) (sym (put_append window behind page slot) ∙ left)).0;
}

-- what is put behind a window that puts nothing there
pub put_behind_none : (window behind : List CommittedEntry) (page : PageId) (slot : ℕ) (mapping : Mapping) → put_last window page slot ≡ None → put_last behind page slot ≡ Some mapping
    → put_last (window ++ behind) page slot ≡ Some mapping
put_behind_none window behind page slot mapping left put =
    put_append window behind page slot ∙ ap (λ (o : Option Mapping). or_else o (put_last behind page slot)) left ∙ put

-- and the head may rise over entries whose slots stand, each with the mapping of the newest of them
pub rises : (opening : Blocks) (log : List Call) (opened : Image) (entries window behind older : List CommittedEntry) → entries ≡ window ++ (behind ++ older)
    → ((page : PageId) (at : Pbn) (slot : ℕ) (mapping : Mapping) → page_after opened entries page ≡ Some at → slot < PAGE_SLOTS → put_last window page slot ≡ None
    → put_last behind page slot ≡ Some mapping → SlotStands opening log (head_of opened page at) slot mapping)
    → PagesStand opening log opened entries (window ++ behind) → PagesStand opening log opened entries window
rises opening log opened entries window behind older all each stand page at linked = record {
  headed = (stand page at linked).headed;
  slots = λ slot small left. elim (option_cases (put_last behind page slot)) [
    | inl none ↦ (stand page at linked).slots slot small (put_append window behind page slot ∙ ap (λ (o : Option Mapping). or_else o (put_last behind page slot)) left ∙ none)
    | inr (mapping, put) ↦
        let newest : put_last entries page slot ≡ Some mapping =
        ap (λ (list : List CommittedEntry). put_last list page slot) all ∙ put_append window (behind ++ older) page slot
        ∙ ap (λ (o : Option Mapping). or_else o (put_last (behind ++ older) page slot)) left
        ∙ put_append behind older page slot ∙ ap (λ (o : Option Mapping). or_else o (put_last older page slot)) put in
        let says_it : slot_after opened entries page slot ≡ mapping = rw (slot_after, newest) refl in
        subst (SlotStands opening log (head_of opened page at) slot) (sym says_it) (each page at slot mapping linked small left put)
  ];
}

-- The beginning.

-- Where nothing is pending in the blocks that are looked at, and the image's pages are among these and can be read, they
-- stand: the window leaves the rest to them.
pub begins : (looked : ℕ → Bool) (opening : Blocks) (log : List Call) (opened : Image) → HasOneImageIn looked opening log opened.blocks → ArePagesGood opened
    → ((page : PageId) (at : Pbn) → page_at opened page ≡ Some at → (at.0 < length opening) × IsTrue (looked at.0)) → PagesStand opening log opened [] opened.window
begins looked opening log opened one good on_it page at linked =
    let there : page_at opened page ≡ Some at = sym (page_with_none opened page) ∙ linked in
    let seen = on_it page at there in
    let only = one.only at.0 seen.0 seen.1 in
    let is_good = good page at there in
    record {
      headed = all_weaker (λ content. content ≡ block_at opened.blocks at.0) (HasHead (head_of opened page at)) (contents opening log at.0)
          (λ content same. subst (HasHead (head_of opened page at)) (sym same) is_good.headed) only;
      slots = λ slot small left.
          let own : IsSlot (head_of opened page at) (block_at opened.blocks at.0) slot (slot_after opened [] page slot) =
          subst (IsSlot (head_of opened page at) (block_at opened.blocks at.0) slot) (sym (slot_of_page opened page at slot there))
          (own_slot opened page at slot (is_good.slots slot small) left) in
          all_weaker (λ content. content ≡ block_at opened.blocks at.0) (λ content. IsSlot (head_of opened page at) content slot (slot_after opened [] page slot)) (contents opening log at.0)
          (λ content same. subst (λ (bytes : List ℕ). IsSlot (head_of opened page at) bytes slot (slot_after opened [] page slot)) (sym same) own) only;
    }

-- New pages.

no_page_yet : (o : Option Pbn) → ((at : Pbn) → o ≡ Some at → ⊥) → o ≡ None
no_page_yet (Some at) never = absurd (never at refl)
no_page_yet None never = refl

module _ (opened : Image) (older : List CommittedEntry) where
  -- What is so of each entry that makes a page is so of the newest one for a page.
  newest_of : (Q : PageId → Pbn → Type 0) (made : PageId) (block : Pbn) (rest : Option Mapping) (page : PageId) (at : Pbn) → Q made block
      → (rest ≡ Some (At at) → Q page at) → or_else (put_page (NewPage made block) page) rest ≡ Some (At at) → Q page at
  newest_of Q made block rest page at here later is = elim (cases_Bool (is_page page made)) [
    | inl taken ↦
        let put = rw taken at is in
        let same_page = page_equal page made taken in
        let same = block_put block at put in
        subst (λ (p : PageId). Q p at) (sym same_page) (subst (Q made) same here)
    | inr passed ↦ later (rw passed at is)
  ]

  abbrev pub New : PageId → Pbn → Type 0
  New page at = (page.level + 1 < opened.geometry.height) × (page_after opened older page ≡ None)

  new_first : (e : Entry) (newer : List CommittedEntry) (page : PageId) (at : Pbn) → MakesNew opened (newer ++ older) e → (newest_page newer page ≡ Some (At at) → New page at)
      → or_else (put_page e page) (newest_page newer page) ≡ Some (At at) → New page at
  new_first (Remap x was becomes) newer page at made later is = later is
  new_first (NewPage new block) newer page at made later is =
      newest_of New new block (newest_page newer page) page at
      (made.0, no_page_yet (page_after opened older new) (λ x linked. let still = page_stays opened newer older new x linked in let gone = made.1 in absurd (cc (still.1, gone))))
      later is

  pub newest_is_new : (newer : List CommittedEntry) (page : PageId) (at : Pbn) → AreMadeNew opened older newer → newest_page newer page ≡ Some (At at) → New page at
  newest_is_new [] page at made is = absurd (cc is)
  newest_is_new (c ∷ newer) page at made is = new_first c.entry newer page at made.0 (λ later. newest_is_new newer page at made.1 later) is

  -- a page that is made wasn't linked
  pub newest_of_any : (newer : List CommittedEntry) (page : PageId) (m : Mapping) → AreMadeNew opened older newer → newest_page newer page ≡ Some m → page_after opened older page ≡ None
  newest_of_any newer page m made newest =
      let block = newest_is_block newer page m newest in
      (newest_is_new newer page block.0 made (newest ∙ ap (λ (m : Mapping). Some m) block.1)).1

  -- a linked page at a data block that no page has
  pub root_or_not : (page : PageId) (at : Pbn) → ((page.level + 1 ≡ opened.geometry.height) × (page.tree < TREES) × (block_of opened.geometry (Root page.tree) ≡ at.0)) ⊎ (page.level + 1 < opened.geometry.height)
      → page_after opened older page ≡ Some at → (x : Pbn) → at.0 ≡ x.0 → IsDataBlock opened.geometry x.0 → (IsPageAfter opened older x → ⊥) → ⊥
  root_or_not page at (inl root) linked x same stands none =
      let is = apart opened.geometry (Root page.tree) (DataBlock stands.slab stands.offset) root.1 stands.inside (root.2 ∙ same ∙ sym stands.stands) in absurd (cc is)
  root_or_not page at (inr below) linked x same stands none =
      none (page, below, linked ∙ ap (λ (n : ℕ). Some (record { 0 = n })) same)

module _ (opening : Blocks) (log : List Call) (opened : Image) where
  abbrev pub Empty : PageId → Pbn → Type 0
  Empty page at = Surely opening log at.0 (λ content. IsPage (head_of opened page at) content (replicate PAGE_SLOTS Unmapped))

  stands_first : (e : Entry) (rest : Option Mapping) (page : PageId) (at : Pbn) → EmptyPageStands opening log opened e → (rest ≡ Some (At at) → Empty page at)
      → or_else (put_page e page) rest ≡ Some (At at) → Empty page at
  stands_first (Remap x was becomes) rest page at stands later is = later is
  stands_first (NewPage new block) rest page at stands later is = newest_of opened [] Empty new block rest page at stands later is

  pub newest_stands : (newer : List CommittedEntry) (page : PageId) (at : Pbn) → NewPagesStand opening log opened newer → newest_page newer page ≡ Some (At at) → Empty page at
  newest_stands [] page at stand is = absurd (cc is)
  newest_stands (c ∷ newer) page at stand is = stands_first c.entry (newest_page newer page) page at stand.0 (λ later. newest_stands newer page at stand.1 later) is

page_begins : (head : PageHead) (bytes : List ℕ) → IsPage head bytes (replicate PAGE_SLOTS Unmapped) → HasHead head bytes
page_begins head bytes is = (slots head bytes (replicate PAGE_SLOTS Unmapped) 0 is (omega arith)).headed

slot_blank : (head : PageHead) (bytes : List ℕ) (slot : ℕ) → slot < PAGE_SLOTS → IsPage head bytes (replicate PAGE_SLOTS Unmapped) → IsSlot head bytes slot Unmapped
slot_blank head bytes slot small is =
    subst (IsSlot head bytes slot) (get_or-replicate 812 slot Unmapped Unmapped small) (slots head bytes (replicate PAGE_SLOTS Unmapped) slot is small)

-- The pages that stand go on with newer entries that the window has, where those that these make are new, and stand empty.
pub grows : (opening : Blocks) (log : List Call) (opened : Image) (newer older window : List CommittedEntry) → AreRooted opened older → AreMadeNew opened older newer
    → NewPagesStand opening log opened newer → PagesStand opening log opened older window → PagesStand opening log opened (newer ++ older) (newer ++ window)
grows opening log opened newer older window rooted made new stand page at linked = by_newest (newest_page newer page) refl
  where
    by_newest : (newest : Option Mapping) → newest_page newer page ≡ newest → PageStands opening log opened (newer ++ older) (newer ++ window) page at
    by_newest None newest =
        let there : page_after opened older page ≡ Some at = sym (rooted_old_page opened newer older page rooted newest) ∙ linked in record {
          headed = (stand page at there).headed;
          slots = λ slot small left.
              let parts = no_first (put_last newer page slot) (put_last window page slot) (sym (put_append newer window page slot) ∙ left) in
              subst (SlotStands opening log (head_of opened page at) slot) (sym (slot_left opened newer older page slot parts.0)) ((stand page at there).slots slot small parts.1);
        }
    by_newest (Some m) newest =
        let block = newest_is_block newer page m newest in
        let put : newest_page newer page ≡ Some (At block.0) = newest ∙ ap (λ (m : Mapping). Some m) block.1 in
        let is_new = newest_is_new opened older newer page block.0 made put in
        let up = above_linked opened (newer ++ older) page at is_new.0 linked in
        let now = page_new opened newer older page up.0 block.0 is_new.0 up.1 put in
        let same : block.0 ≡ at = same_block block.0 at (sym now ∙ linked) in
        let empty = subst (λ (x : Pbn). Surely opening log x.0 (λ content. IsPage (head_of opened page x) content (replicate PAGE_SLOTS Unmapped))) same
        (newest_stands opening log opened newer page block.0 new put) in record {
          headed = all_weaker (λ content. IsPage (head_of opened page at) content (replicate PAGE_SLOTS Unmapped)) (HasHead (head_of opened page at)) (contents opening log at.0)
              (λ content is. page_begins (head_of opened page at) content is) empty;
          slots = λ slot small left.
              let parts = no_first (put_last newer page slot) (put_last window page slot) (sym (put_append newer window page slot) ∙ left) in
              let blank : slot_after opened (newer ++ older) page slot ≡ Unmapped =
              slot_left opened newer older page slot parts.0 ∙ unlinked opened older rooted page slot is_new.1 in
              subst (SlotStands opening log (head_of opened page at) slot) (sym blank)
              (all_weaker (λ content. IsPage (head_of opened page at) content (replicate PAGE_SLOTS Unmapped)) (λ content. IsSlot (head_of opened page at) content slot Unmapped)
              (contents opening log at.0) (λ content is. slot_blank (head_of opened page at) content slot small is) empty);
        }
