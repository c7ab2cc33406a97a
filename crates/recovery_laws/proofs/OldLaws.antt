-- What is known of an image whose pages can be read: where its pages stand, and what its addresses are mapped to.
use Rattle.std.proofs.Common.{ℕ, zero, suc, ◌≡◌, ◌⊎◌, ◌+◌, ◌-◌, ◌<◌, ◌==◌, Bool, true, false, if◌then◌else◌, Option, Some, None, IsSome, All, refl, sym, ◌∙◌, ap, subst, inl, inr, arith}
use Rattle.std.proofs.Math.Nat.{mod-lt}
use Rattle.std.proofs.lemmas.Bool.{cases_lt}
use Rattle.blk_base.specs.Regions.{Place, Superblock, JournalSlot, Root, IndexBlock, DataBlock, ReferenceBlock, SlabJournalSlot, IsPlace, IsDataBlock, block_of}
use Rattle.blk_base.proofs.RegionLaws.{apart}
use Rattle.blk_base.specs.declared.geometry.Geometry.{Geometry}
use Rattle.blk_base.specs.declared.place.Mapping.{Mapping}
use Rattle.blk_base.specs.declared.place.Mapping.TheVariants.{Unmapped, Zero, At}
use Rattle.blk_base.specs.declared.place.PageId.{PageId}
use Rattle.blk_base.specs.declared.place.Pbn.{Pbn}
use Rattle.blk_base.specs.declared.sizes.TheConstants.{PAGE_SLOTS, TREES}
use Rattle.blk_base.specs.Pages.{above, slot_of, leaf_of, slot_of_address}
use Rattle.disk_model.specs.Log.{block_at}
use Rattle.image_model.proofs.MapLaws.{page_in_range, slot_says_its_mapping}
use Rattle.image_model.specs.Maps.{Image, ArePagesGood, IsGoodPage, IsReadable, head_of, linked_at, mapping_in, mapping_of, page_at, put_last, says, target_of}
use Rattle.image_model.specs.Sound.{AreUnshared}
use Rattle.image_model.specs.Windows.{LeadsToData}
use Rattle.page_codec.specs.Grammar.{HoldsMapping, IsSlot}
use Rattle.plain_laws.proofs.OptionLaws.{option_cases}
use Rattle.recovery_laws.specs.Written.{IsPageBlock, IsPartPage}
use Rattle.recovery_laws.proofs.SameMapLaws.{at_links}
use Rattle.recovery_laws.proofs.WindowFacts.{IsKnown, last_leads}

-- What a slot says.

pub says_put : (image : Image) (page : PageId) (at : Pbn) (slot : ℕ) (mapping : Mapping) → put_last image.window page slot ≡ Some mapping → says image page at slot ≡ mapping
says_put image page at slot mapping put = rw (says, put) refl

pub says_own : (image : Image) (page : PageId) (at : Pbn) (slot : ℕ) → put_last image.window page slot ≡ None → says image page at slot ≡ mapping_in (block_at image.blocks at.0) slot
says_own image page at slot none = rw (says, none) refl

pub no_some : (o : Option Mapping) → o ≡ None → IsSome o → ⊥
no_some (Some m) none some = absurd (cc none)
no_some None none some = absurd (cc some)

-- a slot of a page that can be read, into which the window puts nothing, has the mapping that it says
pub own_slot : (image : Image) (page : PageId) (at : Pbn) (slot : ℕ) → IsReadable image page at slot → put_last image.window page slot ≡ None
    → IsSlot (head_of image page at) (block_at image.blocks at.0) slot (says image page at slot)
own_slot image page at slot (inl some) none = absurd (no_some (put_last image.window page slot) none some)
own_slot image page at slot (inr (mapping, is)) none =
    let same : mapping ≡ says image page at slot =
    sym (slot_says_its_mapping (head_of image page at) (block_at image.blocks at.0) slot mapping is) ∙ sym (says_own image page at slot none) in
    subst (IsSlot (head_of image page at) (block_at image.blocks at.0) slot) same is

-- so a page that can be read says there what it says with the window
pub part_of_good : (image : Image) (page : PageId) (at : Pbn) → IsGoodPage image page at → IsPartPage image page at (block_at image.blocks at.0)
part_of_good image page at good = record { headed = good.headed; slots = λ slot below none. own_slot image page at slot (good.slots slot below) none }

holds_leads : (g : Geometry) (level : ℕ) (mapping : Mapping) → HoldsMapping g level mapping → LeadsToData g mapping
holds_leads g level Unmapped holds = tt
holds_leads g level Zero holds = tt
holds_leads g level (At block) holds = holds.0

-- a link that is followed
followed : (o : Option Pbn) (f : Pbn → Mapping) (at : Pbn) → ◌≡◌ {A = Option Pbn} (elim o [ Some a ↦ target_of (f a) | None ↦ None ]) (Some at) → (a : Pbn) × (o ≡ Some a) × (target_of (f a) ≡ Some at)
followed (Some a) f at is = (a, refl, is)
followed None f at is = absurd (cc is)

read_off : (o : Option Pbn) (f : Pbn → Mapping) (block : Pbn) → ◌≡◌ {A = Mapping} (elim o [ Some a ↦ f a | None ↦ Unmapped ]) (At block) → (a : Pbn) × (o ≡ Some a) × (f a ≡ At block)
read_off (Some a) f block is = (a, refl, is)
read_off None f block is = absurd (cc is)

pub chosen : (b : Bool) (x at : Pbn) → (if b then Some x else None) ≡ Some at → x ≡ at
chosen true x at is = cc is
chosen false x at is = absurd (cc is)

leads : (mapping : Mapping) (at : Pbn) → target_of mapping ≡ Some at → mapping ≡ At at
leads Unmapped at is = absurd (cc is)
leads Zero at is = absurd (cc is)
leads (At block) at is = cc is

module _ (image : Image) (good : ArePagesGood image) (last : ℕ) (known : All (IsKnown image.geometry last) image.window) where
  says_leads : (page : PageId) (at : Pbn) (slot : ℕ) → page_at image page ≡ Some at → slot < PAGE_SLOTS → LeadsToData image.geometry (says image page at slot)
  says_leads page at slot there below = elim (option_cases (put_last image.window page slot)) [
    | inr (mapping, put) ↦
        subst (LeadsToData image.geometry) (sym (says_put image page at slot mapping put)) (last_leads image.geometry last image.window page slot mapping known put)
    | inl none ↦ holds_leads image.geometry page.level (says image page at slot) (own_slot image page at slot ((good page at there).slots slot below) none).held
  ]

  -- a linked page is a root, or stands at a data block
  block_of_links : (links : ℕ) (page : PageId) (at : Pbn) → page.tree < TREES → page.level + links + 1 ≡ image.geometry.height → linked_at image links page ≡ Some at
      → ((page.level + 1 ≡ image.geometry.height) × (block_of image.geometry (Root page.tree) ≡ at.0)) ⊎ IsDataBlock image.geometry at.0
  block_of_links zero page at tree level is =
      inl (omega (arith, level), ap (λ (b : Pbn). b.0) (chosen (page.index == 0) (record { 0 = block_of image.geometry (Root page.tree) }) at is))
  block_of_links (suc links) page at tree level is =
      let link = followed (linked_at image links (above page)) (λ a. says image (above page) a (slot_of page)) at is in
      let number : image.geometry.height - 1 - (page.level + 1) ≡ links = omega (arith, level) in
      let there : page_at image (above page) ≡ Some link.0 =
      at_links image (above page) tree (omega (arith, level)) ∙ ap (λ (n : ℕ). linked_at image n (above page)) number ∙ link.1 in
      let to = leads (says image (above page) link.0 (slot_of page)) at link.2 in
      inr (subst (LeadsToData image.geometry) to (says_leads (above page) link.0 (slot_of page) there (mod-lt page.index (omega arith))))

  pub page_stands : (page : PageId) (at : Pbn) → page_at image page ≡ Some at
      → ((page.level + 1 ≡ image.geometry.height) × (page.tree < TREES) × (block_of image.geometry (Root page.tree) ≡ at.0)) ⊎ IsDataBlock image.geometry at.0
  page_stands page at there =
      let range = page_in_range image page at there in
      let high = range.1 in
      elim (block_of_links (image.geometry.height - 1 - page.level) page at range.0 (omega (arith, high)) (sym (at_links image page range.0 range.1) ∙ there)) [
        | inl root ↦ inl (root.0, range.0, root.1)
        | inr data_block ↦ inr data_block
      ]

  -- places at which no page stands, and which no data block is
  abbrev pub IsApart : Place → Type 0
  IsApart Superblock = Unit {0}
  IsApart (JournalSlot _) = Unit {0}
  IsApart (Root _) = ⊥
  IsApart (IndexBlock _) = Unit {0}
  IsApart (DataBlock _ _) = ⊥
  IsApart (ReferenceBlock _ _) = Unit {0}
  IsApart (SlabJournalSlot _ _) = Unit {0}

  pub no_page_there : (place : Place) → IsPlace image.geometry place → IsApart place → IsPageBlock image (block_of image.geometry place) → ⊥
  no_page_there place is other (page, at, there, same) = elim (page_stands page at there) [
    | inl root ↦ subst IsApart (apart image.geometry place (Root page.tree) is root.1 (sym same ∙ sym root.2)) other
    | inr stands ↦ subst IsApart (apart image.geometry place (DataBlock stands.slab stands.offset) is stands.inside (sym same ∙ sym stands.stands)) other
  ]

  -- an address is mapped to a data block at which no page stands
  pub mapped_is_data : (address : ℕ) (block : Pbn) → mapping_of image address ≡ At block → IsDataBlock image.geometry block.0
  mapped_is_data address block is =
      let leaf = read_off (page_at image (leaf_of address)) (λ a. says image (leaf_of address) a (slot_of_address address)) block is in
      subst (LeadsToData image.geometry) leaf.2 (says_leads (leaf_of address) leaf.0 (slot_of_address address) leaf.1 (mod-lt address (omega arith)))

  pub mapped_is_no_page : AreUnshared image → (address : ℕ) (block : Pbn) → mapping_of image address ≡ At block → IsPageBlock image block.0 → ⊥
  mapped_is_no_page apart_too address block is (page, at, there, same) =
      let one : at ≡ block = ap (λ (n : ℕ). record { 0 = n }) same in
      let range = page_in_range image page at there in
      elim (cases_lt (page.level + 1) image.geometry.height) [
        | inl below ↦ apart_too block address (page, below, there ∙ ap Some one) is
        | inr high ↦ elim (page_stands page at there) [
          | inl root ↦
              let stands = mapped_is_data address block is in
              let same_place = apart image.geometry (Root page.tree) (DataBlock stands.slab stands.offset) root.1 stands.inside (root.2 ∙ same ∙ sym stands.stands) in
              absurd (cc same_place)
          | inr data_block ↦
              -- a page at the level of the roots is one
              let level = range.1 in
              let number : image.geometry.height - 1 - page.level ≡ 0 = omega (arith, high, level) in
              let linked = sym (at_links image page range.0 range.1) ∙ there in
              let root = chosen (page.index == 0) (record { 0 = block_of image.geometry (Root page.tree) }) at (subst (λ (n : ℕ). linked_at image n page ≡ Some at) number linked) in
              let stands = mapped_is_data address block is in
              let same_place = apart image.geometry (Root page.tree) (DataBlock stands.slab stands.offset) range.0 stands.inside (ap (λ (b : Pbn). b.0) root ∙ same ∙ sym stands.stands) in
              absurd (cc same_place)
        ]
      ]
