-- Where the linked pages are: roots, and data blocks.
use Rattle.std.proofs.Common.{ℕ, zero, suc, ◌≡◌, ◌⊎◌, ◌+◌, ◌-◌, ◌<◌, ◌≤◌, ◌==◌, List, [], ◌∷◌, ◌++◌, All, Option, Some, None, refl, sym, ◌∙◌, ap, subst, inl, inr, arith}
use Rattle.std.proofs.lemmas.Bool.{cases_Bool, cases_lt}
use Rattle.blk_base.specs.Regions.{Root, DataBlock, IsDataBlock, block_of, needed_blocks}
use Rattle.blk_base.proofs.RegionLaws.{inside}
use Rattle.blk_base.specs.declared.geometry.Geometry.{Geometry}
use Rattle.blk_base.specs.declared.journal_entry.CommittedEntry.{CommittedEntry}
use Rattle.blk_base.specs.declared.journal_entry.Entry.{Entry}
use Rattle.blk_base.specs.declared.journal_entry.Entry.TheVariants.{Remap, NewPage}
use Rattle.blk_base.specs.declared.place.Mapping.{Mapping}
use Rattle.blk_base.specs.declared.place.Mapping.TheVariants.{Unmapped, At}
use Rattle.blk_base.specs.declared.place.PageId.{PageId}
use Rattle.blk_base.specs.declared.place.Pbn.{Pbn}
use Rattle.blk_base.specs.declared.sizes.TheConstants.{TREES}
use Rattle.blk_base.specs.Pages.{above, slot_of}
use Rattle.image_model.specs.Maps.{Image, ArePagesGood, linked_at, or_else, page_at, says, target_of, slot_in}
use Rattle.image_model.specs.Pages.{is_page}
use Rattle.plain_laws.proofs.OptionLaws.{option_cases}
use Rattle.recovery_laws.proofs.OldLaws.{page_stands, chosen}
use Rattle.recovery_laws.proofs.SameMapLaws.{at_links}
use Rattle.recovery_laws.proofs.WindowFacts.{IsKnown}
use Rattle.journal_stops.specs.Mapped.{linked_after, newest_page, page_after, put_page, slot_after}
use Rattle.journal_stops.proofs.GrowLaws.{by_link, in_range, by_put}
use Rattle.journal_stops.proofs.NewestLaws.{newest_is_block, newest_page_same}
use Rattle.session_stops.specs.Pages.{ArePagesOnIt}
use Rattle.session_stops.proofs.NewPages.{AreMadeNew, MakesNew}

pub block_put : (x y : Pbn) → Some (At x) ≡ Some (At y) → x ≡ y
block_put x y is = cc is

-- the block of the newest entry that makes a page is a data block
at_data_first : (opened : Image) (before : List CommittedEntry) (e : Entry) (rest : Option Mapping) (page : PageId) (at : Pbn) → MakesNew opened before e
    → (rest ≡ Some (At at) → IsDataBlock opened.geometry at.0) → or_else (put_page e page) rest ≡ Some (At at) → IsDataBlock opened.geometry at.0
at_data_first opened before (Remap x was becomes) rest page at made later is = later is
at_data_first opened before (NewPage new block) rest page at made later is = elim (cases_Bool (is_page page new)) [
  | inl taken ↦ let put = rw taken at is in subst (λ (x : Pbn). IsDataBlock opened.geometry x.0) (block_put block at put) made.2
  | inr passed ↦ later (rw passed at is)
]

pub made_at_data : (opened : Image) (older newer : List CommittedEntry) (page : PageId) (at : Pbn) → AreMadeNew opened older newer → newest_page newer page ≡ Some (At at) → IsDataBlock opened.geometry at.0
made_at_data opened older [] page at made is = absurd (cc is)
made_at_data opened older (c ∷ newer) page at made is =
    at_data_first opened (newer ++ older) c.entry (newest_page newer page) page at made.0 (λ later. made_at_data opened older newer page at made.1 later) is

followed : (o : Option Pbn) (f : Pbn → Option Pbn) (at : Pbn) → by_link f o ≡ Some at → (a : Pbn) × (o ≡ Some a) × (f a ≡ Some at)
followed (Some a) f at is = (a, refl, is)
followed None f at is = absurd (cc is)

-- a linked page is a root, at a root's block, or below one
pub root_or_below : (opened : Image) (entries : List CommittedEntry) (page : PageId) (at : Pbn) → page_after opened entries page ≡ Some at
    → ((page.level + 1 ≡ opened.geometry.height) × (page.tree < TREES) × (block_of opened.geometry (Root page.tree) ≡ at.0)) ⊎ (page.level + 1 < opened.geometry.height)
root_or_below opened entries page at linked =
    let found = in_range opened entries page at linked in
    let level = found.1 in
    elim (cases_lt (page.level + 1) opened.geometry.height) [
      | inl below ↦ inr below
      | inr high ↦
          let none : opened.geometry.height - 1 - page.level ≡ 0 = omega (arith, high, level) in
          let root = subst (λ (n : ℕ). linked_after opened entries n page ≡ Some at) none found.2 in
          inl (omega (arith, high, level), found.0, ap (λ (b : Pbn). b.0) (chosen (page.index == 0) (record { 0 = block_of opened.geometry (Root page.tree) }) at root))
    ]

module _ (opened : Image) (good : ArePagesGood opened) (last : ℕ) (known : All (IsKnown opened.geometry last) opened.window) (entries : List CommittedEntry) (made : AreMadeNew opened [] entries) where
  abbrev g : Geometry
  g = opened.geometry

  -- a slot of the opened image that leads to a page's block
  was_there : (links : ℕ) (page : PageId) (at : Pbn) → page.tree < TREES → page.level + suc links + 1 ≡ g.height → target_of (slot_in opened (above page) (slot_of page)) ≡ Some at → page_at opened page ≡ Some at
  was_there links page at tree level is = through (page_at opened (above page)) refl
    where
      number : g.height - 1 - page.level ≡ suc links
      number = omega (arith, level)

      number_above : g.height - 1 - (page.level + 1) ≡ links
      number_above = omega (arith, level)

      through : (o : Option Pbn) → page_at opened (above page) ≡ o → page_at opened page ≡ Some at
      through (Some up) there =
          let said : slot_in opened (above page) (slot_of page) ≡ says opened (above page) up (slot_of page) = rw (slot_in, there) refl in
          let linked : linked_at opened links (above page) ≡ Some up =
          ap (λ (n : ℕ). linked_at opened n (above page)) (sym number_above) ∙ sym (at_links opened (above page) tree (omega (arith, level))) ∙ there in
          at_links opened page tree (omega (arith, level)) ∙ ap (λ (n : ℕ). linked_at opened n page) number
          ∙ ap (by_link (λ (a : Pbn). target_of (says opened (above page) a (slot_of page)))) linked ∙ ap target_of (sym said) ∙ is
      through None gone =
          let said : slot_in opened (above page) (slot_of page) ≡ Unmapped = rw (slot_in, gone) refl in
          let none : None ≡ Some at = ap target_of (sym said) ∙ is in absurd (cc none)

  of_links : (links : ℕ) (page : PageId) (at : Pbn) → page.tree < TREES → page.level + links + 1 ≡ g.height → linked_after opened entries links page ≡ Some at
      → ((page.tree < TREES) × (block_of g (Root page.tree) ≡ at.0)) ⊎ IsDataBlock g at.0
  of_links zero page at tree level is = inl (tree, ap (λ (b : Pbn). b.0) (chosen (page.index == 0) (record { 0 = block_of g (Root page.tree) }) at is))
  of_links (suc links) page at tree level is =
      let link = followed (linked_after opened entries links (above page)) (λ a. target_of (slot_after opened entries (above page) (slot_of page))) at is in
      elim (option_cases (newest_page entries page)) [
        | inl none ↦
            let own : slot_after opened entries (above page) (slot_of page) ≡ slot_in opened (above page) (slot_of page) =
            ap (by_put (slot_in opened (above page) (slot_of page))) (newest_page_same entries page ∙ none) in
            elim (page_stands opened good last known page at (was_there links page at tree level (ap target_of (sym own) ∙ link.2))) [
              | inl root ↦ inl (root.1, root.2)
              | inr data_block ↦ inr data_block
            ]
        | inr (m, newest) ↦
            let block = newest_is_block entries page m newest in
            let put : slot_after opened entries (above page) (slot_of page) ≡ At block.0 =
            ap (by_put (slot_in opened (above page) (slot_of page))) (newest_page_same entries page ∙ newest) ∙ block.1 in
            let same : Some block.0 ≡ Some at = ap target_of (sym put) ∙ link.2 in
            let one : block.0 ≡ at = cc same in
            inr (subst (λ (x : Pbn). IsDataBlock g x.0) one (made_at_data opened [] entries page block.0 made (newest ∙ ap (λ (m : Mapping). Some m) block.1)))
      ]

  -- a linked page is a root, or stands at a data block
  pub page_stands_after : (page : PageId) (at : Pbn) → page_after opened entries page ≡ Some at → ((page.tree < TREES) × (block_of g (Root page.tree) ≡ at.0)) ⊎ IsDataBlock g at.0
  page_stands_after page at linked =
      let found = in_range opened entries page at linked in
      let high = found.1 in
      of_links (g.height - 1 - page.level) page at found.0 (omega (arith, high)) found.2

  pub pages_on_it : (size : ℕ) → needed_blocks g ≤ size → ArePagesOnIt opened entries size
  pages_on_it size enough page at linked = elim (page_stands_after page at linked) [
    | inl root ↦ let below = inside g (Root page.tree) root.0 in let is = root.1 in omega (arith, below, is, enough)
    | inr stands ↦ let below = inside g (DataBlock stands.slab stands.offset) stands.inside in let is = stands.stands in omega (arith, below, is, enough)
  ]
