-- Where the pages of an image that was opened lead, as a session knows it.
use Rattle.std.proofs.Common.{◌≡◌, ◌⊎◌, ◌+◌, ◌<◌, nat_lt, Bool, if◌then◌else◌, true, Some, None, List, [], ◌∷◌, Contains, slice_index_or, refl, sym, ◌∙◌, ap, subst, inl, inr, arith, mod-lt}
use Rattle.std.proofs.lemmas.Bool.{cases_Bool}
use Rattle.blk_base.specs.Pages.{above, slot_of}
use Rattle.blk_base.specs.declared.opened.OpenedPage.{OpenedPage}
use Rattle.blk_base.specs.declared.place.Mapping.{Mapping}
use Rattle.blk_base.specs.declared.place.Mapping.TheVariants.{Unmapped, Zero, At}
use Rattle.blk_base.specs.declared.place.PageId.{PageId}
use Rattle.blk_base.specs.declared.place.Pbn.{Pbn}
use Rattle.core_model.proofs.TreeLinks.{page_is, page_itself}
use Rattle.core_model.specs.PageLinks.{block_in, led_by, opened_page}
use Rattle.blk_base.specs.declared.sizes.TheConstants.{TREES}
use Rattle.image_model.proofs.CountLaws.{is_behind, is_first, is_first_or_behind, none_in_nothing}
use Rattle.image_model.specs.Maps.{Image, page_at, says, target_of}
use Rattle.image_model.specs.Pages.{is_page}
use Rattle.plain_laws.proofs.OptionLaws.{option_cases}
use Rattle.replay_map.proofs.LinkLaws.{where_above_says}
use Rattle.replay_map.proofs.LinkedLaws.{above_linked}
use Rattle.session_opening.specs.Starts.{AreInnerPages}

block_is_target : (m : Mapping) → block_in m ≡ target_of m
block_is_target Unmapped = refl
block_is_target Zero = refl
block_is_target (At x) = refl

at_block : (m : Mapping) (x : Pbn) → block_in m ≡ Some x → m ≡ At x
at_block Unmapped x is = absurd cc
at_block Zero x is = absurd cc
at_block (At y) x is = cc

-- one of these pages is above a page, and leads to it
record IsFound (pages : List OpenedPage) (page : PageId) : Type 0 where
  parent : OpenedPage
  listed : Contains pages parent
  named : parent.page ≡ above page
  leads : led_by pages page ≡ block_in (slice_index_or parent.mappings (slot_of page) Unmapped)

-- or none is
record IsMissing (pages : List OpenedPage) (page : PageId) : Type 0 where
  none : led_by pages page ≡ None
  apart : (o : OpenedPage) → Contains pages o → o.page ≡ above page → ⊥

named_so : (o : OpenedPage) (page : PageId) → o.page ≡ above page → is_page o.page (above page) ≡ true
named_so o page named = subst (λ (p : PageId). is_page p (above page) ≡ true) (sym named) (page_itself (above page))

found_in : (pages : List OpenedPage) (page : PageId) → IsFound pages page ⊎ IsMissing pages page
found_in [] page = inr (record { none = refl; apart = λ o has named. none_in_nothing o has })
found_in (opened ∷ others) page = elim (cases_Bool (is_page opened.page (above page))) [
  | inl same ↦ inl (record { parent = opened; listed = is_first opened others; named = page_is opened.page (above page) same; leads = rw same refl })
  | inr differs ↦ elim (found_in others page) [
    | inl found ↦ inl (record { parent = found.parent; listed = is_behind opened others found.parent found.listed; named = found.named; leads = rw differs found.leads })
    | inr missing ↦ inr (record {
      none = rw differs missing.none;
      apart = λ o has named. elim (is_first_or_behind opened others o has) [
        | inl first ↦ let same = named_so opened page (ap (λ (x : OpenedPage). x.page) first ∙ named) in absurd (cc (same, differs))
        | inr behind ↦ missing.apart o behind named
      ];
    })
  ]
]

-- So it knows where each page stands that is no root.
led_are : (image : Image) (pages : List OpenedPage) → AreInnerPages image pages → (page : PageId) → page.level + 1 < image.geometry.height → led_by pages page ≡ page_at image page
led_are image pages are page below = elim (found_in pages page) [
  | inl found ↦
      let inner = are.each found.parent found.listed in
      let there : page_at image (above page) ≡ Some found.parent.at = subst (λ (p : PageId). page_at image p ≡ Some found.parent.at) found.named inner.stands in
      found.leads
      ∙ block_is_target (slice_index_or found.parent.mappings (slot_of page) Unmapped)
      ∙ ap target_of (inner.slots (slot_of page) (mod-lt page.index (omega arith)))
      ∙ ap (λ (p : PageId). target_of (says image p found.parent.at (slot_of page))) found.named
      ∙ sym (where_above_says image (above page) page found.parent.at there refl)
  | inr missing ↦ elim (option_cases (page_at image page)) [
    | inl none ↦ missing.none ∙ sym none
    | inr (at, stands) ↦
        let up = above_linked image page at below stands in
        let parent = are.every (above page) up.0 (omega arith) up.1 in
        absurd (missing.apart parent.0 parent.1 parent.2)
  ]
]

pub links_are : (image : Image) (pages : List OpenedPage) → AreInnerPages image pages → (page : PageId) → page.level + 1 < image.geometry.height → opened_page pages page ≡ page_at image page
links_are image pages are page below = elim (cases_Bool (nat_lt page.tree TREES)) [
  | inl inside ↦ ap (λ (b : Bool). if b then led_by pages page else None) inside ∙ led_are image pages are page below
  | inr outside ↦ rw outside refl
]
