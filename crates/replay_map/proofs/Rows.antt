-- For each clause of this crate's definitions a small case that it accepts, and one that breaks it alone and is refused.
use Rattle.std.specs.Prelude.{ℕ, ◌≡◌, ◌<◌, if◌then◌else◌, Bool, true, false, List, [], ◌∷◌, Option, Some, None, length, get_or, replicate, slice_index_or, slice_set}
use Rattle.std.proofs.Common.{refl, sym, ◌∙◌, ap, inl, inr, arith}
use Rattle.std.proofs.lemmas.Bool.Decides.{eqb_tells}
use Rattle.std.proofs.lemmas.List.{get_or-set_other}
use Rattle.blk_base.specs.Sectors.{zero_block}
use Rattle.blk_base.specs.declared.geometry.Geometry.{Geometry}
use Rattle.blk_base.specs.declared.journal_entry.Entry.TheVariants.{NewPage}
use Rattle.blk_base.specs.declared.place.Mapping.{Mapping}
use Rattle.blk_base.specs.declared.place.Mapping.TheVariants.{Unmapped, Zero, At}
use Rattle.blk_base.specs.declared.sizes.TheConstants.{PAGE_SLOTS}
use Rattle.blk_base.specs.Forms.{page, pbn}
use Rattle.blk_base.proofs.Example.{root, blank}
use Rattle.image_model.proofs.Example.{small, head_of_root}
use Rattle.image_model.proofs.MapExample.{with_root, bad_head, logged}
use Rattle.image_model.specs.Maps.{or_else, says, target_of}
use Rattle.page_codec.proofs.ReadLaws.{slots}
use Rattle.page_codec.proofs.HeldLaws.{held_unmapped}
use Rattle.page_codec.specs.Grammar.{HasHead, IsPage}
use Rattle.page_codec.specs.PageBytes.{head_bytes, page_bytes}
use Rattle.page_codec.specs.declared.fault.PageFault.TheVariants.{Header}
use Rattle.replay_map.proofs.LinkLaws.{leaf_leads_nowhere, more_of_slots, none_of_slots, where_above_says}
use Rattle.replay_map.proofs.PageLaws.{read_as}
use Rattle.replay_map.specs.Changes.{AreNewest, changed, is_slot}
use Rattle.replay_map.specs.Forms.{as_found}
use Rattle.replay_map.specs.Links.{AreLinks, AreOfSlots, IsUnmappedRun}
use Rattle.replay_map.specs.declared.links.Link.{Link}
use Rattle.replay_map.specs.Pages.{ArePut, AreSaid, HasSlotFault, IsReadAs, IsRefused, SaysSlot, Stands}
use Rattle.replay_map.specs.Shares.{is_marked}
use Rattle.replay_map.specs.declared.changes.SlotId.{SlotId}
use Rattle.replay_map.specs.declared.found.SlotChange.{SlotChange}

-- Slots: by the page and the number.
abbrev third : SlotId
third = record { page = root; slot = 3 }

slot_is : is_slot third root 3 ≡ true
slot_is = refl

slot_of_other_number : is_slot third root 4 ≡ false
slot_of_other_number = refl

slot_of_other_page : is_slot third (page 1 1 0) 3 ≡ false
slot_of_other_page = refl

-- What changes put there: the first of them, and nothing elsewhere.
abbrev leads : ℕ → SlotId × Mapping
leads x = (third, At (pbn x))

changed_first : changed (leads 86 ∷ leads 87 ∷ []) root 3 ≡ Some (At (pbn 86))
changed_first = refl

changed_nowhere : changed (leads 86 ∷ []) root 4 ≡ None
changed_nowhere = refl

-- Put over the mappings of a page.
abbrev blanks : List Mapping
blanks = replicate 4 Unmapped

put_there : (slot : ℕ) (mapping : Mapping) → changed (leads 86 ∷ []) root slot ≡ Some mapping → slice_index_or (slice_set blanks 3 (At (pbn 86))) slot Unmapped ≡ mapping
put_there slot mapping is = elim (eqb_tells slot 3) [
  | inl same ↦ let one = rw same.0 at is in let mapping_is : At (pbn 86) ≡ mapping = cc one in ap (λ (n : ℕ). slice_index_or (slice_set blanks 3 (At (pbn 86))) n Unmapped) same.1 ∙ mapping_is
  | inr other ↦ let none = rw other.0 at is in absurd (cc none)
]

left_there : (slot : ℕ) → changed (leads 86 ∷ []) root slot ≡ None → slice_index_or (slice_set blanks 3 (At (pbn 86))) slot Unmapped ≡ slice_index_or blanks slot Unmapped
left_there slot is = elim (eqb_tells slot 3) [
  | inl same ↦ let one = rw same.0 at is in absurd (cc one)
  | inr other ↦ get_or-set_other blanks 3 slot (At (pbn 86)) Unmapped other.1
]

put_are : ArePut (leads 86 ∷ []) root blanks (slice_set blanks 3 (At (pbn 86)))
put_are = record { put = λ slot mapping inside is. put_there slot mapping is; others = λ slot inside is. left_there slot is }

-- put: not where the slot is as it was
put_missing : ArePut (leads 86 ∷ []) root blanks blanks → ⊥
put_missing are = let there = are.put 3 (At (pbn 86)) (omega arith) refl in absurd (cc there)

-- others: not where one that nothing is put into is another one
put_besides : ArePut (leads 86 ∷ []) root blanks (slice_set (slice_set blanks 3 (At (pbn 86))) 0 Zero) → ⊥
put_besides are = let there = are.others 0 (omega arith) refl in absurd (cc there)

-- What a walk finds of a change.
found_as : as_found (leads 86) ≡ record { page = root; slot = 3; mapping = At (pbn 86) }
found_as = refl

found_elsewhere : as_found (leads 86) ≡ record { page = root; slot = 4; mapping = At (pbn 86) } → ⊥
found_elsewhere same = let slot = ap (λ (change : SlotChange). change.slot) same in omega (arith, slot)

-- Marks: of the first blocks.
marked_is : is_marked (false ∷ true ∷ []) 1 ≡ true
marked_is = refl

marked_is_not : is_marked (false ∷ true ∷ []) 2 ≡ false
marked_is_not = refl

-- The newest ones: of a window whose one entry is of a page that slot 3 of the root leads to.
one_of : (b : Bool) (mapping : Mapping) → (if b then Some mapping else None) ≡ or_else (if b then Some mapping else None) None
one_of true mapping = refl
one_of false mapping = refl

newest_are : AreNewest (logged (NewPage (page 0 0 3) (pbn 86)) ∷ []) (leads 86 ∷ [])
newest_are other slot low = one_of (is_slot third other slot) (At (pbn 86))

newest_are_all : AreNewest (logged (NewPage (page 0 0 3) (pbn 86)) ∷ []) [] → ⊥
newest_are_all are = let none = are root 3 (omega arith) in absurd (cc none)

newest_are_those : AreNewest [] (leads 86 ∷ []) → ⊥
newest_are_those are = let some = are root 3 (omega arith) in absurd (cc some)

-- the newer of two entries
newest_are_newer : AreNewest (logged (NewPage (page 0 0 3) (pbn 87)) ∷ logged (NewPage (page 0 0 3) (pbn 86)) ∷ []) (leads 86 ∷ []) → ⊥
newest_are_newer are =
    let same = are root 3 (omega arith) in
    let blocks : 86 ≡ 87 = ap block_in same in
    omega (arith, blocks)
  where
    block_in : Option Mapping → ℕ
    block_in None = 0
    block_in (Some Unmapped) = 0
    block_in (Some Zero) = 0
    block_in (Some (At block)) = block.0

-- Where a page stands: its sizes, its block, the window.
abbrev pub root_page : List ℕ
root_page = page_bytes head_of_root blank

stands : Stands (with_root root_page []) head_of_root root_page []
stands = record { geometry = refl; there = refl; newest = λ other slot low. refl }

stands_geometry : Stands (with_root root_page []) (record head_of_root { geometry = record small { nonce = 2 } }) root_page [] → ⊥
stands_geometry is = let same : 1 ≡ 2 = ap (λ (g : Geometry). g.nonce) is.geometry in omega (arith, same)

stands_there : Stands (with_root zero_block []) head_of_root [] [] → ⊥
unfolding zero_block
stands_there is = let same : 4096 ≡ 0 = ap length is.there in omega (arith, same)

stands_newest : Stands (with_root root_page (logged (NewPage (page 0 0 3) (pbn 86)) ∷ [])) head_of_root root_page [] → ⊥
stands_newest is = newest_are_all is.newest

-- The page that is read.
is_page : IsPage head_of_root root_page blank
is_page = record { spelled = refl; held = held_unmapped small 1 }

said_of_page : AreSaid head_of_root root_page [] PAGE_SLOTS blank
said_of_page slot below = inr (refl, slots head_of_root root_page blank slot is_page below)

pub read_is : IsReadAs (with_root root_page []) head_of_root blank
read_is = read_as (with_root root_page []) head_of_root root_page [] (omega arith) stands blank (slots head_of_root root_page blank 0 is_page (omega arith)).headed said_of_page

read_good : (mappings : List Mapping) → IsReadAs (with_root zero_block []) head_of_root mappings → ⊥
read_good mappings is = bad_head is.good

read_each : IsReadAs (with_root root_page []) head_of_root (Zero ∷ []) → ⊥
read_each is =
    let same : Zero ≡ Unmapped = is.each 0 (omega arith) ∙ sym (read_is.each 0 (omega arith)) in absurd (cc same)

-- One slot: what the changes put there, or else what stands in the block.
slot_says_change : SaysSlot head_of_root zero_block (leads 86 ∷ []) 3 (At (pbn 86))
slot_says_change = inl refl

slot_says_own : SaysSlot head_of_root root_page (leads 86 ∷ []) 4 Unmapped
slot_says_own = inr (refl, slots head_of_root root_page blank 4 is_page (omega arith))

slot_says_changed_alone : SaysSlot head_of_root root_page (leads 86 ∷ []) 3 Unmapped → ⊥
slot_says_changed_alone (inl same) = absurd (cc same)
slot_says_changed_alone (inr own) = let none = own.0 in absurd (cc none)

said_of_none : AreSaid head_of_root zero_block [] 0 []
said_of_none slot below = absurd (omega (arith, below))

said_of_changed : AreSaid head_of_root root_page (leads 86 ∷ []) PAGE_SLOTS blank → ⊥
said_of_changed said = slot_says_changed_alone (said 3 (omega arith))

-- Refusals: a block of zeros begins otherwise, and a page that begins as it should isn't refused for that.
zeros_unheaded : HasHead head_of_root zero_block → ⊥
unfolding zero_block head_bytes
zeros_unheaded headed = let first : 0 ≡ 86 = ap (λ (bytes : List ℕ). get_or bytes 0 0) headed in omega (arith, first)

slot_fault_is : HasSlotFault head_of_root zero_block [] 3 Header
slot_fault_is = (refl, zeros_unheaded)

slot_fault_of_change : HasSlotFault head_of_root zero_block (leads 86 ∷ []) 3 Header → ⊥
slot_fault_of_change has = let none = has.0 in absurd (cc none)

refused_header : IsRefused head_of_root zero_block (leads 86 ∷ []) Header
refused_header = inl (refl, zeros_unheaded)

refused_of_good : IsRefused head_of_root root_page [] Header → ⊥
refused_of_good (inl other) = other.1 (slots head_of_root root_page blank 0 is_page (omega arith)).headed
refused_of_good (inr own) = own.3.1 (slots head_of_root root_page blank 0 is_page (omega arith)).headed

-- the least slot is named: of zeros with a header that is another page's no slot before says anything
refused_least : (slot : ℕ) → 0 < slot → slot < PAGE_SLOTS
    → ((i : ℕ) → i < slot → (mapping : Mapping) × SaysSlot head_of_root zero_block [] i mapping) → ⊥
refused_least slot some inside before = says_none (before 0 (omega (arith, some))).1
  where
    says_none : {mapping : Mapping} → SaysSlot head_of_root zero_block [] 0 mapping → ⊥
    says_none (inl changed) = absurd (cc changed)
    says_none (inr own) = zeros_unheaded own.1.headed

-- Runs: slots behind the last one are unmapped too.
an_unmapped_run : IsUnmappedRun (replicate 0 Unmapped) 0
an_unmapped_run slot from to = refl

a_mapped_run : IsUnmappedRun (Zero ∷ []) 0 → ⊥
a_mapped_run run = let first : ◌≡◌ {A = Mapping} Zero Unmapped = run 0 (omega arith) (omega arith) in absurd (cc first)

-- The links of slots: of a page whose slot 3 leads to block 86.
abbrev four : List Mapping
four = Unmapped ∷ Zero ∷ Unmapped ∷ At (pbn 86) ∷ []

abbrev fourth : Link
fourth = record { page = page 0 0 3; at = pbn 86 }

of_slots : AreOfSlots root four 4 (fourth ∷ [])
of_slots =
    more_of_slots root four 3 [] (fourth ∷ []) (more_of_slots root four 2 [] [] (more_of_slots root four 1 [] [] (more_of_slots root four 0 [] [] (none_of_slots root four) refl) refl) refl) refl

of_slots_all : AreOfSlots root four 4 [] → ⊥
of_slots_all are = let has = (are (page 0 0 3) (pbn 86)).1 (3, omega arith, refl, refl) in let inside = has.1 in omega (arith, inside)

of_slots_those : AreOfSlots root (Unmapped ∷ []) 1 (fourth ∷ []) → ⊥
of_slots_those are =
    let found = (are (page 0 0 3) (pbn 86)).0 (0, omega arith, refl) in
    let inside = found.1 in
    let first : found.0 ≡ 0 = omega (arith, inside) in
    let same : Unmapped ≡ At (pbn 86) = ap (λ (n : ℕ). slice_index_or (Unmapped ∷ []) n Unmapped) (sym first) ∙ found.3 in
    absurd (cc same)

-- The links of a page in an image: of a leaf there are none, of the root those that the window makes.
links_of_leaf : AreLinks (with_root root_page []) (page 0 0 3) []
links_of_leaf = leaf_leads_nowhere (with_root root_page []) (page 0 0 3) refl

links_all : AreLinks (with_root root_page (logged (NewPage (page 0 0 3) (pbn 86)) ∷ [])) root [] → ⊥
links_all are = let has = (are (page 0 0 3) (pbn 86)).1 (refl, refl) in let inside = has.1 in omega (arith, inside)

links_those : AreLinks (with_root root_page []) root (fourth ∷ []) → ⊥
links_those are =
    let linked = (are (page 0 0 3) (pbn 86)).0 (0, omega arith, refl) in
    let says_none : target_of (says (with_root root_page []) root (pbn 9) 3) ≡ None = ap target_of (sym (read_is.each 3 (omega arith))) in
    let stands_there = where_above_says (with_root root_page []) root (page 0 0 3) (pbn 9) refl refl in
    absurd (cc (sym linked.1 ∙ stands_there ∙ says_none))
