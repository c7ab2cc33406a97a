-- The search for mapped addresses, slot by slot and leaf by leaf.
use Rattle.std.proofs.Common.{ℕ, ◌≡◌, ◌⊎◌, ◌+◌, ◌*◌, ◌/◌, ◌%◌, ◌^◌, ◌<◌, ◌≤◌, Bool, List, [], ◌∷◌, ◌++◌, length, take, get_or, Contains, Option, Some, None, refl, sym, ◌∙◌, ap, ap₂, subst, inl, inr, arith}
use Rattle.std.proofs.Math.Nat.{mod-lt}
use Rattle.std.proofs.lemmas.Bool.{cases_lt}
use Rattle.std.proofs.lemmas.List.Elements.{Contains-append_left, Contains-append_right, Contains-append_cases, Contains-get_or}
use Rattle.blk_base.specs.Pages.{leaf_of, slot_of_address}
use Rattle.blk_base.specs.declared.geometry.Geometry.{Geometry}
use Rattle.blk_base.specs.declared.place.Lba.{Lba}
use Rattle.blk_base.specs.declared.place.Mapping.TheVariants.{Unmapped}
use Rattle.blk_base.specs.declared.place.PageId.{PageId}
use Rattle.blk_base.specs.declared.place.Pbn.{Pbn}
use Rattle.blk_base.specs.declared.sizes.TheConstants.{PAGE_SLOTS, TREES}
use Rattle.disk_model.specs.Log.{Blocks, block_at}
use Rattle.disk_model.specs.Seen.{Seen}
use Rattle.disk_model.specs.Trust.{Trust}
use Rattle.disk_model.specs.Since.{WereRead}
use Rattle.image_model.proofs.CountLaws.{none_in_nothing}
use Rattle.image_model.specs.declared.fault.ImageFault.{ImageFault}
use Rattle.image_model.specs.declared.fault.ImageFault.TheVariants.{Super, Window, Page, Counter, SharedPage, Counts, Device, Unclean, Memory}
use Rattle.page_codec.specs.Grammar.{IsSlot, IsSlotFault}
use Rattle.page_codec.specs.declared.fault.PageFault.{PageFault}
use Rattle.page_codec.specs.declared.forms.PageHead.{PageHead}
use Rattle.replay_map.proofs.ReadLaws.{blocks_on, newer_shown, older_shown}
use Rattle.replay_map.proofs.ShareLaws.{grown}
use Rattle.replay_map.proofs.TakenLaws.{only_one}
use Rattle.replay_map.specs.Reads.{IsPageBlock, ReadFails}
use Rattle.replay_map.specs.declared.links.Link.{Link}
use Rattle.grow_image.specs.Searches.{AreUnmappedBelow, IsMappedSlot, SearchFails}
use Rattle.grow_image.specs.NewAddresses.{HasUnreadable, IsBefore, IsFirstMapped, IsLeastMapped, IsMappedOf, IsShownBy, IsUnreadable, IsWithin, address_in, leaf_head}
use Rattle.grow_image.specs.declared.address_range.AddressRange.{AddressRange}

-- Addresses and slots.

-- an address is that of its slot in its leaf
pub address_is : (address : ℕ) (page : PageId) → leaf_of address ≡ page → address ≡ address_in page (slot_of_address address)
address_is address page own =
    let tree : address / PAGE_SLOTS % TREES ≡ page.tree = ap (λ (p : PageId). p.tree) own in
    let index : address / PAGE_SLOTS / TREES / PAGE_SLOTS ^ 0 ≡ page.index = ap (λ (p : PageId). p.index) own in
    omega (arith, tree, index)

-- and a slot's address has it in that leaf
pub slot_of_its : (page : PageId) (slot : ℕ) → slot < PAGE_SLOTS → slot_of_address (address_in page slot) ≡ slot
slot_of_its page slot inside = omega (arith, inside)

pub leaf_of_its : (page : PageId) (slot : ℕ) → page.level ≡ 0 → page.tree < TREES → slot < PAGE_SLOTS → leaf_of (address_in page slot) ≡ page
leaf_of_its page slot level tree inside =
    let number : address_in page slot / PAGE_SLOTS ≡ page.index * TREES + page.tree = omega (arith, inside) in
    let own_tree : address_in page slot / PAGE_SLOTS % TREES ≡ page.tree = omega (arith, number, tree) in
    let own_index : address_in page slot / PAGE_SLOTS / TREES / PAGE_SLOTS ^ 0 ≡ page.index = omega (arith, number, tree) in
    ap₂ (λ (t i : ℕ). record { tree = t; level = 0; index = i }) own_tree own_index ∙ ap (λ (l : ℕ). record { tree = page.tree; level = l; index = page.index }) (sym level)

-- One leaf, by its block.

module _ (head : PageHead) (range : AddressRange) (block : List ℕ) where
  pub slot_passed : (slot : ℕ) → AreUnmappedBelow head range block slot → IsMappedSlot head range block slot None → AreUnmappedBelow head range block (slot + 1)
  slot_passed slot before here number below within = elim (cases_lt number slot) [
    | inl less ↦ before number less within
    | inr not_less ↦
        let same : number ≡ slot = omega (arith, below, not_less) in
        subst (λ (n : ℕ). IsSlot head block n Unmapped) (sym same) (here (subst (λ (n : ℕ). IsWithin range (address_in head.page n)) same within))
  ]

  before_all : (count address : ℕ) → AreUnmappedBelow head range block count → leaf_of address ≡ head.page → IsWithin range address → slot_of_address address < count
      → IsSlot head block (slot_of_address address) Unmapped
  before_all count address below own within less = below (slot_of_address address) less (subst (IsWithin range) (address_is address head.page own) within)

  pub none_mapped : (count : ℕ) → PAGE_SLOTS ≤ count → AreUnmappedBelow head range block count → IsFirstMapped head range block None
  none_mapped count all below = record {
    found = λ at is. absurd (cc is);
    before = λ address own within tt_is. before_all count address below own within (let small : slot_of_address address < PAGE_SLOTS = mod-lt address (omega arith) in omega (arith, small, all));
  }

  pub first_found : (slot : ℕ) (at : Lba) → head.page.level ≡ 0 → head.page.tree < TREES → slot < PAGE_SLOTS → AreUnmappedBelow head range block slot
      → IsMappedSlot head range block slot (Some at) → IsFirstMapped head range block (Some at)
  first_found slot at level tree inside below (is, within, (mapping, stands, mapped)) =
      let number : slot_of_address at.0 ≡ slot = ap slot_of_address is ∙ slot_of_its head.page slot inside in
      let own : leaf_of at.0 ≡ head.page = ap leaf_of is ∙ leaf_of_its head.page slot level tree inside in
      let here : IsMappedOf head range block at.0 = record {
        within = within;
        own = own;
        mapping = mapping;
        says = subst (λ (n : ℕ). IsSlot head block n mapping) (sym number) stands;
        mapped = mapped;
      } in
      record {
        found = λ other same. let one : at ≡ other = cc same in subst (λ (a : Lba). IsMappedOf head range block a.0) one here;
        before = λ address own' within' less.
            let first_is = address_is address head.page own' in
            before_all slot address below own' within' (omega (arith, first_is, is, less));
      }

  pub unreadable_at : (slot : ℕ) (at : Lba) (fault : PageFault) → head.page.level ≡ 0 → head.page.tree < TREES → slot < PAGE_SLOTS → at.0 ≡ address_in head.page slot
      → IsWithin range at.0 → IsSlotFault head block slot fault → IsUnreadable head range block fault
  unreadable_at slot at fault level tree inside is within faulty = record {
    address = at.0;
    within = within;
    own = ap leaf_of is ∙ leaf_of_its head.page slot level tree inside;
    fault_is = subst (λ (n : ℕ). IsSlotFault head block n fault) (sym (ap slot_of_address is ∙ slot_of_its head.page slot inside)) faulty;
  }

-- Leaves, by blocks.

module _ (g : Geometry) (range : AddressRange) (blocks : Blocks) where
  pub no_leaves : IsLeastMapped g range [] blocks None
  no_leaves = record {
    found = λ at is. absurd (cc is);
    before = λ leaf address has own within before. absurd (none_in_nothing leaf has);
  }

  pub one_leaf : (leaf : Link) (first : Option Lba) → IsFirstMapped (leaf_head g leaf) range (block_at blocks leaf.at.0) first → IsLeastMapped g range (leaf ∷ []) blocks first
  one_leaf leaf first is = record {
    found = λ at same. record { leaf = leaf; listed = (0, omega arith, refl); is = is.found at same };
    before = λ other address has own within before.
        let same : leaf ≡ other = only_one leaf other has in
        subst (λ (l : Link). IsSlot (leaf_head g l) (block_at blocks l.at.0) (slot_of_address address) Unmapped) same
        (is.before address (own ∙ ap (λ (l : Link). l.page) (sym same)) within before);
  }

  more_leaves : (leaves more : List Link) (one other least : Option Lba) → (least ≡ one) ⊎ (least ≡ other) → ((address : ℕ) → IsBefore address least → IsBefore address one × IsBefore address other)
      → IsLeastMapped g range leaves blocks one → IsLeastMapped g range more blocks other → IsLeastMapped g range (leaves ++ more) blocks least
  more_leaves leaves more one other least is before first second = record {
    found = λ at same. elim is [
      | inl by_one ↦
          let has = first.found at (sym by_one ∙ same) in
          record { leaf = has.leaf; listed = Contains-append_left leaves more has.leaf has.listed; is = has.is }
      | inr by_other ↦
          let has = second.found at (sym by_other ∙ same) in
          record { leaf = has.leaf; listed = Contains-append_right leaves more has.leaf has.listed; is = has.is }
    ];
    before = λ leaf address has own within less. elim (Contains-append_cases leaves more leaf has) [
      | inl listed ↦ first.before leaf address listed own within (before address less).0
      | inr listed ↦ second.before leaf address listed own within (before address less).1
    ];
  }

  pub leaf_more : (leaves : List Link) (i : ℕ) (d : Link) (one other least : Option Lba) → i < length leaves → (least ≡ one) ⊎ (least ≡ other)
      → ((address : ℕ) → IsBefore address least → IsBefore address one × IsBefore address other)
      → IsLeastMapped g range (take i leaves) blocks one → IsLeastMapped g range (get_or leaves i d ∷ []) blocks other → IsLeastMapped g range (take (i + 1) leaves) blocks least
  leaf_more leaves i d one other least inside is before first second =
      subst (λ (list : List Link). IsLeastMapped g range list blocks least) (sym (grown leaves i d inside))
      (more_leaves (take i leaves) (get_or leaves i d ∷ []) one other least is before first second)

-- By the reads.

module _ (trust : Trust) (g : Geometry) where
  pub shown_yet : (seen : Seen) (Says : Blocks → Type 0) → ((blocks : Blocks) → Says blocks) → IsShownBy trust g seen seen Says
  shown_yet seen Says holds = ([], refl, λ blocks shows. holds blocks)

  pub shown_on : (before middle now : Seen) (Old New Both : Blocks → Type 0) → IsShownBy trust g before middle Old → IsShownBy trust g middle now New
      → ((blocks : Blocks) → Old blocks → New blocks → Both blocks) → IsShownBy trust g before now Both
  shown_on before middle now Old New Both old new together = (
    new.0 ++ old.0,
    blocks_on trust g before middle now old.0 new.0 old.1 new.1,
    λ blocks shows. together blocks (old.2 blocks (older_shown blocks new.0 old.0 shows)) (new.2 blocks (newer_shown blocks new.0 old.0 shows)),
  )

  pub shown_by_one : (before now : Seen) (at : Pbn) (bytes : List ℕ) (Says : Blocks → Type 0) → at.0 < before.size → IsPageBlock g at → WereRead trust at.0 before now (bytes ∷ [])
      → ((blocks : Blocks) → block_at blocks at.0 ≡ bytes → Says blocks) → IsShownBy trust g before now Says
  shown_by_one before now at bytes Says inside stands read says =
      (record { at = at; bytes = bytes } ∷ [], (before, refl, read, inside, stands), λ blocks shows. says blocks shows.0)

  fails_behind : (before middle now : Seen) (Old : Blocks → Type 0) → IsShownBy trust g before middle Old → ReadFails trust g middle now → ReadFails trust g before now
  fails_behind before middle now Old shown failed =
      (failed.0 ++ shown.0, failed.1, failed.2, blocks_on trust g before middle failed.1 shown.0 failed.0 shown.1 failed.3, failed.4, failed.5)

  -- a search that fails behind a part of it
  pub search_fails : (range : AddressRange) (leaves : List Link) (i : ℕ) (d : Link) (before middle now : Seen) (Old : Blocks → Type 0) (why : ImageFault) → i < length leaves
      → IsShownBy trust g before middle Old → SearchFails trust g range (get_or leaves i d ∷ []) middle now why → SearchFails trust g range leaves before now why
  search_fails range leaves i d before middle now Old (Page at fault) inside old fails =
      shown_on before middle now Old (λ blocks. HasUnreadable g range (get_or leaves i d ∷ []) blocks at fault) (λ blocks. HasUnreadable g range leaves blocks at fault) old fails
      (λ blocks earlier has. (has.0, subst (Contains leaves) (only_one (get_or leaves i d) has.0 has.1) (Contains-get_or leaves i d inside), has.2, has.3))
  search_fails range leaves i d before middle now Old Device inside old fails = fails_behind before middle now Old old fails
  search_fails range leaves i d before middle now Old Memory inside old fails = absurd fails
  search_fails range leaves i d before middle now Old (Super fault) inside old fails = absurd fails
  search_fails range leaves i d before middle now Old (Window sequence) inside old fails = absurd fails
  search_fails range leaves i d before middle now Old (Counter at point) inside old fails = absurd fails
  search_fails range leaves i d before middle now Old (SharedPage at) inside old fails = absurd fails
  search_fails range leaves i d before middle now Old (Counts at stored mapped) inside old fails = absurd fails
  search_fails range leaves i d before middle now Old Unclean inside old fails = absurd fails
