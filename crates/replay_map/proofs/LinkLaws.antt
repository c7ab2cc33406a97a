-- A page is linked where the page above it leads to it.
use Rattle.std.specs.Prelude.{ℕ, suc, ◌≡◌, ◌+◌, ◌-◌, ◌*◌, ◌/◌, ◌%◌, ◌<◌, ◌&&◌, if◌then◌else◌, Bool, List, [], ◌∷◌, ◌++◌, Option, Some, None, Contains, slice_index_or, Result, Ok, Err, IfOk}
use Rattle.std.proofs.Common.{sym, ◌∙◌, ap, ap₂, subst, inl, inr, arith}
use Rattle.std.proofs.lemmas.Bool.{cases_lt, lt-ltb}
use Rattle.std.proofs.lemmas.List.Elements.{Contains-append_left, Contains-append_right, Contains-append_cases}
use Rattle.blk_base.specs.declared.place.Mapping.{Mapping}
use Rattle.blk_base.specs.declared.place.Mapping.TheVariants.{Unmapped, Zero, At}
use Rattle.blk_base.specs.declared.place.PageId.{PageId}
use Rattle.blk_base.specs.declared.place.Pbn.{Pbn}
use Rattle.blk_base.specs.declared.sizes.TheConstants.{PAGE_SLOTS, TREES}
use Rattle.image_model.proofs.MapLaws.{page_in_range}
use Rattle.image_model.specs.Maps.{Image, linked_at, page_at, says, target_of}
use Rattle.blk_base.specs.Pages.{above, page_below, slot_of}
use Rattle.page_codec.specs.declared.forms.PageHead.{PageHead}
use Rattle.replay_map.specs.Links.{AreLinks, AreOfSlots, link_of}
use Rattle.replay_map.specs.Pages.{IsReadAs}
use Rattle.replay_map.specs.declared.links.Link.{Link}

-- Slot by slot.

only_one : (x y : Link) → Contains (x ∷ []) y → x ≡ y
only_one x y (k, inside, is) = let first : k ≡ 0 = omega (arith, inside) in subst (λ (n : ℕ). slice_index_or (x ∷ []) n y ≡ y) first is

-- the link of a slot
link_is : (page : PageId) (slot : ℕ) (mapping : Mapping) (below : PageId) (at : Pbn) → Contains (link_of page slot mapping) (record { page = below; at = at })
    → (below ≡ page_below page slot) × (mapping ≡ At at)
link_is page slot Unmapped below at (k, inside, is) = absurd (omega (arith, inside))
link_is page slot Zero below at (k, inside, is) = absurd (omega (arith, inside))
link_is page slot (At block) below at has =
    let same = only_one (record { page = page_below page slot; at = block }) (record { page = below; at = at }) has in
    (sym (ap (λ (l : Link). l.page) same), ap (λ (l : Link). At l.at) same)

link_there : (page : PageId) (slot : ℕ) (mapping : Mapping) (below : PageId) (at : Pbn) → below ≡ page_below page slot → mapping ≡ At at
    → Contains (link_of page slot mapping) (record { page = below; at = at })
link_there page slot mapping below at here is =
    subst (λ (m : Mapping). Contains (link_of page slot m) (record { page = below; at = at })) (sym is)
    (0, omega arith, ap (λ (p : PageId). record { page = p; at = at }) (sym here))

pub none_of_slots : (page : PageId) (mappings : List Mapping) → AreOfSlots page mappings 0 []
none_of_slots page mappings below at = (λ has. let inside = has.1 in absurd (omega (arith, inside)), λ has. let inside = has.1 in absurd (omega (arith, inside)))

pub more_of_slots : (page : PageId) (mappings : List Mapping) (slot : ℕ) (old new : List Link) → AreOfSlots page mappings slot old
    → new ≡ old ++ link_of page slot (slice_index_or mappings slot Unmapped) → AreOfSlots page mappings (slot + 1) new
more_of_slots page mappings slot old new were grown below at =
    let mapping = slice_index_or mappings slot Unmapped in
    let item : Link = record { page = below; at = at } in (
      λ has. elim (Contains-append_cases old (link_of page slot mapping) item (subst (λ (links : List Link). Contains links item) grown has)) [
        | inl before ↦ let found = (were below at).0 before in let inside = found.1 in (found.0, omega (arith, inside), found.2, found.3)
        | inr own ↦ let found = link_is page slot mapping below at own in (slot, omega arith, found.0, found.1)
      ],
      λ found. subst (λ (links : List Link). Contains links item) (sym grown)
          (elim (cases_lt found.0 slot) [
            | inl earlier ↦ Contains-append_left old (link_of page slot mapping) item ((were below at).1 (found.0, earlier, found.2, found.3))
            | inr not_earlier ↦
                let inside = found.1 in
                let here : found.0 ≡ slot = omega (arith, inside, not_earlier) in
                Contains-append_right old (link_of page slot mapping) item
                (link_there page slot mapping below at (found.2 ∙ ap (page_below page) here)
                (ap (λ (n : ℕ). slice_index_or mappings n Unmapped) (sym here) ∙ found.3))
          ]),
    )

-- In an image.

module _ (image : Image) where
  -- the block of a page of the image's trees and levels
  pub at_links : (page : PageId) → page.tree < TREES → page.level < image.geometry.height → page_at image page ≡ linked_at image (image.geometry.height - 1 - page.level) page
  at_links page tree level =
      ap₂ (λ (b c : Bool). if b && c then linked_at image (image.geometry.height - 1 - page.level) page else None)
      (lt-ltb page.tree TREES tree) (lt-ltb page.level image.geometry.height level)

  -- a page stands where the page above it says
  pub where_above_says : (page below : PageId) (at : Pbn) → page_at image page ≡ Some at → above below ≡ page
      → page_at image below ≡ target_of (says image page at (slot_of below))
  where_above_says page below at there up =
      let range = page_in_range image page at there in
      let tree : below.tree ≡ page.tree = ap (λ (p : PageId). p.tree) up in
      let level : below.level + 1 ≡ page.level = ap (λ (p : PageId). p.level) up in
      let inner = range.0 in
      let high = range.1 in
      let links : image.geometry.height - 1 - below.level ≡ suc (image.geometry.height - 1 - page.level) = omega (arith, level, high) in
      let linked : linked_at image (image.geometry.height - 1 - page.level) page ≡ Some at = sym (at_links page inner high) ∙ there in
      at_links below (omega (arith, tree, inner)) (omega (arith, level, high))
      ∙ ap (λ (n : ℕ). linked_at image n below) links
      ∙ ap (λ (p : PageId). elim (linked_at image (image.geometry.height - 1 - page.level) p) as (λ (o : Option Pbn). Option Pbn) [
        | Some b ↦ target_of (says image p b (slot_of below))
        | None ↦ None
      ]) up
      ∙ ap (λ (o : Option Pbn). elim o as (λ (o' : Option Pbn). Option Pbn) [
        | Some b ↦ target_of (says image page b (slot_of below))
        | None ↦ None
      ]) linked

  pub leads : (mapping : Mapping) (at : Pbn) → target_of mapping ≡ Some at → mapping ≡ At at
  leads Unmapped at is = absurd (cc is)
  leads Zero at is = absurd (cc is)
  leads (At block) at is = cc is

  -- the pages to which a page leads are the linked ones just below it
  pub links_are : (head : PageHead) (mappings : List Mapping) (links : List Link) → 0 < head.page.level → page_at image head.page ≡ Some head.at
      → IsReadAs image head mappings → AreOfSlots head.page mappings PAGE_SLOTS links → AreLinks image head.page links
  links_are head mappings links inner there read are below at = (
    λ has.
        let found = (are below at).0 has in
        let slot = found.0 in
        let inside = found.1 in
        let up : above (page_below head.page slot) ≡ head.page = up_again head.page slot inner inside in
        let number : slot_of (page_below head.page slot) ≡ slot = omega (arith, inside) in (
          subst (λ (p : PageId). above p ≡ head.page) (sym found.2) up,
          subst (λ (p : PageId). page_at image p ≡ Some at) (sym found.2)
              (where_above_says head.page (page_below head.page slot) head.at there up
              ∙ ap (λ (n : ℕ). target_of (says image head.page head.at n)) number
              ∙ ap target_of (sym (read.each slot inside) ∙ found.3)),
        ),
    λ linked.
        let inside : slot_of below < PAGE_SLOTS = omega arith in
        (are below at).1 (
          slot_of below,
          inside,
          below_again head.page below linked.0,
          read.each (slot_of below) inside ∙ leads (says image head.page head.at (slot_of below)) at (sym (where_above_says head.page below head.at there linked.0) ∙ linked.1),
        ),
  )
    where
      up_again : (page : PageId) (slot : ℕ) → 0 < page.level → slot < PAGE_SLOTS → above (page_below page slot) ≡ page
      up_again page slot some inside =
          let level : page.level - 1 + 1 ≡ page.level = omega (arith, some) in
          let index : (page.index * PAGE_SLOTS + slot) / PAGE_SLOTS ≡ page.index = omega (arith, inside) in
          ap₂ (λ (l i : ℕ). record { tree = page.tree; level = l; index = i }) level index

      below_again : (page below : PageId) → above below ≡ page → below ≡ page_below page (slot_of below)
      below_again page below up =
          let tree : below.tree ≡ page.tree = ap (λ (p : PageId). p.tree) up in
          let above_level : below.level + 1 ≡ page.level = ap (λ (p : PageId). p.level) up in
          let above_index : below.index / PAGE_SLOTS ≡ page.index = ap (λ (p : PageId). p.index) up in
          let level : below.level ≡ page.level - 1 = omega (arith, above_level) in
          let index : below.index ≡ page.index * PAGE_SLOTS + below.index % PAGE_SLOTS = omega (arith, above_index) in
          ap (λ (t : ℕ). record { tree = t; level = below.level; index = below.index }) tree
          ∙ ap₂ (λ (l i : ℕ). record { tree = page.tree; level = l; index = i }) level index

  -- a leaf leads to none
  pub leaf_leads_nowhere : (page : PageId) → page.level ≡ 0 → AreLinks image page []
  leaf_leads_nowhere page leaf below at = (
    λ has. let inside = has.1 in absurd (omega (arith, inside)),
    λ linked. let level : below.level + 1 ≡ page.level = ap (λ (p : PageId). p.level) linked.0 in absurd (omega (arith, level, leaf)),
  )

-- what follows for a value follows for a result
pub where_ok : {T E : Type 0} {P Q : T → Type 0} (result : Result T E) → IfOk result P → ((x : T) → P x → Q x) → IfOk result Q
where_ok (Ok x) holds follows = follows x holds
where_ok (Err e) holds follows = tt
