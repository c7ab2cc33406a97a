-- What one page adds to what was found.
use Rattle.std.proofs.Common.{ℕ, ◌≡◌, ◌⊎◌, ◌+◌, ◌<◌, ◌==◌, ◌^◌, ◌↔◌, ◌++◌, List, [], ◌∷◌, Option, Some, None, Contains, slice_index_or, refl, sym, ◌∙◌, ap, subst, inl, inr, arith}
use Rattle.std.proofs.lemmas.Bool.{cases_lt}
use Rattle.std.proofs.lemmas.List.Elements.{Contains-append_left, Contains-append_right, Contains-append_cases}
use Rattle.blk_base.specs.declared.place.Mapping.{Mapping}
use Rattle.blk_base.specs.declared.place.Mapping.TheVariants.{Unmapped, Zero, At}
use Rattle.blk_base.specs.declared.place.PageId.{PageId}
use Rattle.blk_base.specs.declared.place.Pbn.{Pbn}
use Rattle.blk_base.specs.declared.sizes.TheConstants.{PAGE_SLOTS}
use Rattle.image_model.specs.Counts.{leads_to}
use Rattle.image_model.specs.Maps.{Image, page_at, put_last}
use Rattle.page_codec.specs.declared.forms.PageHead.{PageHead}
use Rattle.plain_laws.proofs.ListLaws.{total-append}
use Rattle.plain_laws.specs.Sums.{bit}
use Rattle.replay_map.proofs.LinkLaws.{leaf_leads_nowhere}
use Rattle.replay_map.proofs.MappedLaws.{leaf_maps, taken_inner, taken_leaf}
use Rattle.replay_map.proofs.SumLaws.{mapped_next, mapped_none}
use Rattle.replay_map.specs.Changes.{AreNewest, changed}
use Rattle.replay_map.specs.Links.{AreLinks}
use Rattle.replay_map.specs.Pages.{IsReadAs}
use Rattle.replay_map.specs.Replayed.{times}
use Rattle.replay_map.specs.Taken.{AreBelow, AreChanges, Gained, GainedMapped, block_in, change_in}
use Rattle.replay_map.specs.Walks.{Item, ALink, AChange, Has, Gives, HasTaken}
use Rattle.replay_map.specs.declared.changes.SlotId.{SlotId}
use Rattle.replay_map.specs.declared.found.Found.{Found}
use Rattle.replay_map.specs.declared.found.SlotChange.{SlotChange}
use Rattle.replay_map.specs.declared.links.Link.{Link}

pub gained_none : {T : Type 0} (xs : List T) (These : T → Type 0) → ((x : T) → These x → ⊥) → Gained xs xs These
gained_none xs These none x = (λ has. inl has, λ is. elim is [ inl has ↦ has | inr these ↦ absurd (none x these) ])

-- what stands in a list behind another one
pub gained_list : {T : Type 0} (old new more : List T) (These : T → Type 0) → new ≡ old ++ more → ((x : T) → Contains more x ↔ These x) → Gained old new These
gained_list {T} old new more These is are x = (
  λ has. elim (Contains-append_cases old more x (subst (λ (xs : List T). Contains xs x) is has)) [ inl before ↦ inl before | inr own ↦ inr ((are x).0 own) ],
  λ given. subst (λ (xs : List T). Contains xs x) (sym is)
      (elim given [ inl before ↦ Contains-append_left old more x before | inr these ↦ Contains-append_right old more x ((are x).1 these) ]),
)

pub gained_on : {T : Type 0} (old middle new : List T) (First Then All : T → Type 0) → ((x : T) → All x ↔ (First x ⊎ Then x)) → Gained old middle First → Gained middle new Then → Gained old new All
gained_on old middle new First Then All both first next x = (
  λ has. elim ((next x).0 has) [
    | inl before ↦ elim ((first x).0 before) [ inl had ↦ inl had | inr one ↦ inr ((both x).1 (inl one)) ]
    | inr other ↦ inr ((both x).1 (inr other))
  ],
  λ given. elim given [
    | inl had ↦ (next x).1 (inl ((first x).1 (inl had)))
    | inr these ↦ elim ((both x).0 these) [
      | inl one ↦ (next x).1 (inl ((first x).1 (inr one)))
      | inr other ↦ (next x).1 (inr other)
    ]
  ],
)

pub only_one : {T : Type 0} (x y : T) → Contains (x ∷ []) y → x ≡ y
only_one {T} x y (k, inside, is) = let first : k ≡ 0 = omega (arith, inside) in subst (λ (n : ℕ). slice_index_or (x ∷ []) n y ≡ y) first is

-- Mapped blocks.

block_times : (mapping : Mapping) (block : Pbn) → times block (block_in mapping) ≡ bit (leads_to block mapping)
block_times Unmapped block = refl
block_times Zero block = refl
block_times (At own) block = omega arith

pub mapped_yet : (mappings : List Mapping) (mapped : List Pbn) → GainedMapped mappings 0 mapped mapped
mapped_yet mappings mapped block = let none = mapped_none (λ slot. slice_index_or mappings slot Unmapped) block in omega (arith, none)

pub mapped_more : (mappings : List Mapping) (slot : ℕ) (first old new : List Pbn) → GainedMapped mappings slot first old
    → new ≡ old ++ block_in (slice_index_or mappings slot Unmapped) → GainedMapped mappings (slot + 1) first new
mapped_more mappings slot first old new were is block =
    let mapping = slice_index_or mappings slot Unmapped in
    let before = were block in
    let grown = ap (times block) is ∙ total-append (λ (other : Pbn). bit (other.0 == block.0)) old (block_in mapping) in
    let own = block_times mapping block in
    let next = mapped_next (λ s. slice_index_or mappings s Unmapped) block slot in
    omega (arith, before, grown, own, next)

-- Changes.

change_is : (page : PageId) (slot : ℕ) (put : Option Mapping) (change : SlotChange) → Contains (change_in page slot put) change
    ↔ ((change.page ≡ page) × (change.slot ≡ slot) × (put ≡ Some change.mapping))
change_is page slot None change = (λ has. let inside = has.1 in absurd (omega (arith, inside)), λ is. absurd (let none = is.2 in cc none))
change_is page slot (Some mapping) change =
    let own : SlotChange = record { page = page; slot = slot; mapping = mapping } in (
      λ has. let same = only_one own change has in
          (sym (ap (λ (c : SlotChange). c.page) same), sym (ap (λ (c : SlotChange). c.slot) same), ap (λ (c : SlotChange). Some c.mapping) same),
      λ is.
          let put : mapping ≡ change.mapping = some_same mapping change.mapping is.2 in
          (0, omega arith, all_same change.page change.slot change.mapping (sym is.0) (sym is.1) put),
    )
  where
    some_same : (a b : Mapping) → Some a ≡ Some b → a ≡ b
    some_same a b same = cc same

    all_same : (p : PageId) (s : ℕ) (m : Mapping) → page ≡ p → slot ≡ s → mapping ≡ m
        → ◌≡◌ {A = SlotChange} (record { page = page; slot = slot; mapping = mapping }) (record { page = p; slot = s; mapping = m })
    all_same p s m a b c = cc (a, b, c)

pub changes_none : (changes : List (SlotId × Mapping)) (page : PageId) (slots : List SlotChange) → Gained slots slots (AreChanges changes page 0)
changes_none changes page slots = gained_none slots (AreChanges changes page 0) (λ x has. let inside = has.1 in omega (arith, inside))

pub changes_more : (changes : List (SlotId × Mapping)) (page : PageId) (slot : ℕ) (first old new : List SlotChange) → Gained first old (AreChanges changes page slot)
    → new ≡ old ++ change_in page slot (changed changes page slot) → Gained first new (AreChanges changes page (slot + 1))
changes_more changes page slot first old new were is =
    gained_on first old new (AreChanges changes page slot) Own (AreChanges changes page (slot + 1)) both were
    (gained_list old new (change_in page slot (changed changes page slot)) Own is (change_is page slot (changed changes page slot)))
  where
    Own : SlotChange → Type 0
    Own change = (change.page ≡ page) × (change.slot ≡ slot) × (changed changes page slot ≡ Some change.mapping)

    both : (change : SlotChange) → AreChanges changes page (slot + 1) change ↔ (AreChanges changes page slot change ⊎ Own change)
    both change = (
      λ has. elim (cases_lt change.slot slot) [
        | inl less ↦ inl (has.0, less, has.2)
        | inr most ↦
            let inside = has.1 in
            let same : change.slot ≡ slot = omega (arith, inside, most) in
            inr (has.0, same, ap (λ (n : ℕ). changed changes page n) (sym same) ∙ has.2)
      ],
      λ is. elim is [
        | inl before ↦ let inside = before.1 in (before.0, omega (arith, inside), before.2)
        | inr own ↦ let same = own.1 in (own.0, omega (arith, same), ap (λ (n : ℕ). changed changes page n) same ∙ own.2)
      ],
    )

-- A page.

pub gained_as : {T : Type 0} (old new : List T) (These Those : T → Type 0) → ((x : T) → Those x ↔ These x) → Gained old new These → Gained old new Those
gained_as old new These Those same gained x = (
  λ has. elim ((gained x).0 has) [ inl before ↦ inl before | inr these ↦ inr ((same x).1 these) ],
  λ given. elim given [ inl before ↦ (gained x).1 (inl before) | inr those ↦ (gained x).1 (inr ((same x).0 those)) ],
)

-- the links that stand behind the old ones
pub links_gained : (image : Image) (page : PageId) (old new more : List Link) → new ≡ old ++ more → AreLinks image page more → Gained old new (AreBelow image page)
links_gained image page old new more is are = gained_list old new more (AreBelow image page) is (λ link. are link.page link.at)

module _ (image : Image) (head : PageHead) (mappings : List Mapping) (changes : List (SlotId × Mapping)) (low : head.page.level < 2 ^ 8)
    (newest : AreNewest image.window changes) (read : IsReadAs image head mappings) where
  abbrev Replaced : SlotChange → Type 0
  Replaced change = (change.page ≡ head.page) × (change.slot < PAGE_SLOTS) × (put_last image.window head.page change.slot ≡ Some change.mapping)

  replaced : (change : SlotChange) → Replaced change ↔ AreChanges changes head.page PAGE_SLOTS change
  replaced change = (
    λ is. (is.0, is.1, newest head.page change.slot low ∙ is.2),
    λ are. (are.0, are.1, sym (newest head.page change.slot low) ∙ are.2),
  )

  took : (old new : Found) → Gained old.links.items new.links.items (AreBelow image head.page) → Gained old.slots.items new.slots.items Replaced
      → (item : Item) → Has new item ↔ (Has old item ⊎ Gives image head.page item)
  took old new links slots (ALink link) = links link
  took old new links slots (AChange change) = slots change

  pub leaf_took : (old new : Found) → page_at image head.page ≡ Some head.at → head.page.level ≡ 0 → new.links.items ≡ old.links.items
      → Gained old.slots.items new.slots.items (AreChanges changes head.page PAGE_SLOTS)
      → GainedMapped mappings PAGE_SLOTS old.mapped.items new.mapped.items → HasTaken image head.page old new
  leaf_took old new there leaf links slots mapped = record {
    items = took old new
        (subst (λ (ls : List Link). Gained old.links.items ls (AreBelow image head.page)) (sym links)
        (gained_none old.links.items (AreBelow image head.page) (λ link below. let has = (leaf_leads_nowhere image head.page leaf link.page link.at).1 below in let inside = has.1 in omega (arith, inside))))
        (gained_as old.slots.items new.slots.items (AreChanges changes head.page PAGE_SLOTS) Replaced replaced slots);
    mapped = λ block.
        let added = mapped block in
        let own = leaf_maps image head.page head.at block mappings there read.each in
        let whole = taken_leaf image head.page block leaf in
        omega (arith, added, own, whole);
  }

  pub inner_took : (old new : Found) → 0 < head.page.level → new.mapped.items ≡ old.mapped.items → Gained old.slots.items new.slots.items (AreChanges changes head.page PAGE_SLOTS)
      → Gained old.links.items new.links.items (AreBelow image head.page) → HasTaken image head.page old new
  inner_took old new inner mapped slots links = record {
    items = took old new links (gained_as old.slots.items new.slots.items (AreChanges changes head.page PAGE_SLOTS) Replaced replaced slots);
    mapped = λ block. let same = ap (times block) mapped in let none = taken_inner image head.page block inner in omega (arith, same, none);
  }
