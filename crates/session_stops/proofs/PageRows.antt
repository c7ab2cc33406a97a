-- Pages while a session goes on: for each definition a small case that it accepts, and one that it refuses. The session begins
-- on an empty image of the default sizes and has the four entries of the example of counts: the leaf of tree 0 at block 85,
-- addresses 5 and 6 at block 86, and zeros at address 5. It writes the leaf and its root, and lets go of its entries.
use Rattle.std.proofs.Common.{ℕ, ◌≡◌, ◌≢◌, ◌⊎◌, ◌<◌, ◌&&◌, ◌==◌, Bool, true, false, if◌then◌else◌, List, [], ◌∷◌, length, get_or, set, All, Option, Some, None, refl, sym, ◌∙◌, ap, subst, inl, inr, arith}
use Rattle.std.proofs.lemmas.Bool.{cases_Bool}
use Rattle.std.proofs.lemmas.Bool.Decides.{eqb_tells}
use Rattle.std.proofs.lemmas.List.{get_or-replicate, get_or-set_same, get_or-set_other, length-replicate, length-set}
use Rattle.std.proofs.lemmas.List.Elements.{All-nil}
use Rattle.blk_base.specs.Limits.{IsGeometry}
use Rattle.blk_base.specs.Regions.{Root, block_of}
use Rattle.blk_base.specs.Sectors.{zero_block}
use Rattle.blk_base.specs.declared.journal_entry.CommittedEntry.{CommittedEntry}
use Rattle.blk_base.specs.declared.place.Mapping.{Mapping}
use Rattle.blk_base.specs.declared.place.Mapping.TheVariants.{Unmapped, Zero, At}
use Rattle.blk_base.specs.declared.place.PageId.{PageId}
use Rattle.blk_base.specs.declared.place.Pbn.{Pbn}
use Rattle.blk_base.specs.declared.sizes.TheConstants.{TREES}
use Rattle.blk_base.specs.Forms.{at_point, pbn}
use Rattle.blk_base.proofs.Example.{leaf as leaf_page, root, blank}
use Rattle.disk_model.specs.declared.call.Call.{Call}
use Rattle.disk_model.specs.declared.call.Call.TheVariants.{Read, Write, Flush}
use Rattle.disk_model.specs.Images.{IsImage}
use Rattle.disk_model.specs.Log.{Blocks, block_at}
use Rattle.disk_model.proofs.OneImageLaws.{one_image-opening}
use Rattle.disk_model.proofs.LookedLaws.{one_in-all}
use Rattle.image_model.specs.Empty.{IsEmpty, empty_root, empty_super}
use Rattle.image_model.specs.Maps.{Image, ArePagesGood, head_of, or_else, put_last, slot_in}
use Rattle.image_model.specs.Pages.{is_page}
use Rattle.image_model.proofs.EmptyLaws.{blank_slot, no_tree_page, pages_good, root_says, sizes_of_image}
use Rattle.image_model.proofs.Example.{small, head_of_leaf, head_of_root}
use Rattle.page_codec.proofs.HeldLaws.{held-set, held_unmapped}
use Rattle.page_codec.proofs.ReadLaws.{slots, one_mapping}
use Rattle.page_codec.specs.Grammar.{HasHead, IsPage, IsSlot}
use Rattle.page_codec.specs.PageBytes.{head_bytes, page_bytes}
use Rattle.page_codec.specs.declared.forms.PageHead.{PageHead}
use Rattle.plain_laws.proofs.OptionLaws.{option_cases}
use Rattle.recovery_laws.proofs.SuperLaws.{room_of_image}
use Rattle.recovery_laws.proofs.WindowFacts.{IsKnown}
use Rattle.journal_stops.specs.Mapped.{ArePagesShown, page_after, slot_after}
use Rattle.journal_stops.proofs.NewestLaws.{page_equal}
use Rattle.journal_stops.proofs.OpenedLaws.{page_with_none}
use Rattle.count_laws.proofs.Example.{data_block, four, leaf, leaf_gone, one, opened, remap}
use Rattle.recovery_laws.specs.Kept.{PutsOnly}
use Rattle.session_stops.specs.Pages.{ArePagesOnIt, EmptyPageStands, MissesNew, NewPagesStand, PagesStand, SaysTheRest, Settles, SlotStands}
use Rattle.session_stops.proofs.NewPages.{AreMadeNew}
use Rattle.session_stops.proofs.PageHeads.{page_written}
use Rattle.session_stops.proofs.PagePlaces.{pages_on_it, root_or_below}
use Rattle.session_stops.proofs.PageSteps.{begins, grows, pages_missed, rises}
use Rattle.session_stops.proofs.PageStops.{pages_are_shown}

-- What a call puts: a write of the block counts, and no other.
abbrev IsShort : List ℕ → Type 0
IsShort bytes = length bytes ≡ 1

puts_one : PutsOnly 5 IsShort (Write (pbn 5) (7 ∷ []) false)
puts_one same = refl

puts_elsewhere : PutsOnly 5 IsShort (Write (pbn 6) (7 ∷ 7 ∷ []) false)
puts_elsewhere same = absurd (omega (arith, same))

puts_nothing : PutsOnly 5 IsShort (Read (pbn 5) (7 ∷ 7 ∷ []) true) × PutsOnly 5 IsShort (Flush true)
puts_nothing = (tt, tt)

puts_two : PutsOnly 5 IsShort (Write (pbn 5) (7 ∷ 7 ∷ []) false) → ⊥
puts_two puts = let size = puts refl in omega (arith, size)

-- What settles: a write that succeeds does, and one that failed leaves what was there.
settles_one : Settles [] (Write (pbn 5) (7 ∷ []) true ∷ []) 5 IsShort
settles_one = (refl, tt)

unsettled : Settles [] (Write (pbn 5) (7 ∷ []) false ∷ []) 5 IsShort → ⊥
unfolding zero_block
unsettled settles = let size = settles.1.0 in omega (arith, size)

-- Pages: the leaf of tree 0, at block 85, empty, and with what the entries give its slots; and its root, at block 9.

abbrev pub some_mapped : List Mapping
some_mapped = set (set blank 5 Zero) 6 (At (pbn 86))

abbrev pub with_link : List Mapping
with_link = set blank 0 (At (pbn 85))

abbrev pub empty_leaf : List ℕ
empty_leaf = page_bytes head_of_leaf blank

abbrev pub full_leaf : List ℕ
full_leaf = page_bytes head_of_leaf some_mapped

abbrev pub linked_root : List ℕ
linked_root = page_bytes head_of_root with_link

pub leaf_is_empty : IsPage head_of_leaf empty_leaf blank
leaf_is_empty = record { spelled = refl; held = held_unmapped small 0 }

pub leaf_is_full : IsPage head_of_leaf full_leaf some_mapped
leaf_is_full = record {
  spelled = refl;
  held = held-set small 0 6 (set blank 5 Zero) (At (pbn 86)) (held-set small 0 5 blank Zero (held_unmapped small 0) refl) (data_block 1 (omega arith), omega arith);
}

pub root_is : IsPage head_of_root linked_root with_link
root_is = record { spelled = refl; held = held-set small 1 0 blank (At (pbn 85)) (held_unmapped small 1) (data_block 0 (omega arith), omega arith) }

nothing_there : (slot : ℕ) → slot < 812 → get_or blank slot Unmapped ≡ Unmapped
nothing_there slot small_slot = get_or-replicate 812 slot Unmapped Unmapped small_slot

pub full_five : IsSlot head_of_leaf full_leaf 5 Zero
full_five =
    subst (IsSlot head_of_leaf full_leaf 5)
    (get_or-set_other (set blank 5 Zero) 6 5 (At (pbn 86)) Unmapped (λ (same : ◌≡◌ {A = ℕ} 5 6). omega (arith, same))
    ∙ get_or-set_same blank 5 Zero Unmapped (let size = length-replicate 812 Unmapped in omega (arith, size)))
    (slots head_of_leaf full_leaf some_mapped 5 leaf_is_full (omega arith))

pub full_six : IsSlot head_of_leaf full_leaf 6 (At (pbn 86))
full_six =
    subst (IsSlot head_of_leaf full_leaf 6)
    (get_or-set_same (set blank 5 Zero) 6 (At (pbn 86)) Unmapped (let size = length-set blank 5 Zero ∙ length-replicate 812 Unmapped in omega (arith, size)))
    (slots head_of_leaf full_leaf some_mapped 6 leaf_is_full (omega arith))

full_others : (slot : ℕ) → slot < 812 → slot ≢ 5 → slot ≢ 6 → IsSlot head_of_leaf full_leaf slot Unmapped
full_others slot small_slot not_five not_six =
    subst (IsSlot head_of_leaf full_leaf slot)
    (get_or-set_other (set blank 5 Zero) 6 slot (At (pbn 86)) Unmapped not_six ∙ get_or-set_other blank 5 slot Zero Unmapped not_five ∙ nothing_there slot small_slot)
    (slots head_of_leaf full_leaf some_mapped slot leaf_is_full small_slot)

empty_five : IsSlot head_of_leaf empty_leaf 5 Unmapped
empty_five = subst (IsSlot head_of_leaf empty_leaf 5) (nothing_there 5 (omega arith)) (slots head_of_leaf empty_leaf blank 5 leaf_is_empty (omega arith))

pub root_first : IsSlot head_of_root linked_root 0 (At (pbn 85))
root_first =
    subst (IsSlot head_of_root linked_root 0) (get_or-set_same blank 0 (At (pbn 85)) Unmapped (let size = length-replicate 812 Unmapped in omega (arith, size)))
    (slots head_of_root linked_root with_link 0 root_is (omega arith))

root_others : (slot : ℕ) → slot < 812 → slot ≢ 0 → IsSlot head_of_root linked_root slot Unmapped
root_others slot small_slot other =
    subst (IsSlot head_of_root linked_root slot) (get_or-set_other blank 0 slot (At (pbn 85)) Unmapped other ∙ nothing_there slot small_slot)
    (slots head_of_root linked_root with_link slot root_is small_slot)

-- zeros are no page
pub zeros_unheaded : (head : PageHead) → HasHead head zero_block → ⊥
unfolding zero_block head_bytes
zeros_unheaded head same = let first : 0 ≡ 86 = ap (λ (bytes : List ℕ). get_or bytes 0 0) same in omega (arith, first)

-- A slot stands once the page was written and flushed; not before the flush, when the page may be torn, not where nothing was
-- written, and not with another mapping.
slot_stands : SlotStands [] (Flush true ∷ Write (pbn 85) full_leaf true ∷ []) head_of_leaf 6 (At (pbn 86))
slot_stands = (full_six, tt)

slot_unflushed : SlotStands [] (Write (pbn 85) full_leaf true ∷ []) head_of_leaf 6 (At (pbn 86)) → ⊥
slot_unflushed stands = zeros_unheaded head_of_leaf stands.1.0.headed

slot_says_other : SlotStands [] (Flush true ∷ Write (pbn 85) empty_leaf true ∷ []) head_of_leaf 5 Zero → ⊥
slot_says_other stands = let same = one_mapping head_of_leaf empty_leaf 5 Unmapped Zero empty_five stands.0 in absurd (cc same)

-- What entries put: the last one of the four put it into a slot of the leaf or of its root.

put_first : (b : Bool) (m mapping : Mapping) (rest : Option Mapping) → or_else (if b then Some m else None) rest ≡ Some mapping
    → ((b ≡ true) × (m ≡ mapping)) ⊎ ((b ≡ false) × (rest ≡ Some mapping))
put_first true m mapping rest is = inl (refl, cc is)
put_first false m mapping rest is = inr (refl, is)

at_slot : (p q : PageId) (slot n : ℕ) → (is_page p q && (slot == n)) ≡ true → (p ≡ q) × (slot ≡ n)
at_slot p q slot n is = elim (cases_Bool (is_page p q)) [
  | inl taken ↦ elim (eqb_tells slot n) [
    | inl same ↦ (page_equal p q taken, same.1)
    | inr other ↦ (let gone : false ≡ true = rw (taken, other.0) at is in absurd (cc gone))
  ]
  | inr passed ↦ (let gone : false ≡ true = rw passed at is in absurd (cc gone))
]

pub put_there : (p : PageId) (slot : ℕ) (mapping : Mapping) → put_last four p slot ≡ Some mapping
    → ((p ≡ leaf_page) × (slot ≡ 5) × (Zero ≡ mapping)) ⊎ ((p ≡ leaf_page) × (slot ≡ 6) × (At (pbn 86) ≡ mapping)) ⊎ ((p ≡ root) × (slot ≡ 0) × (At (pbn 85) ≡ mapping))
put_there p slot mapping put =
    elim (put_first (is_page p leaf_page && (slot == 5)) Zero mapping _ put) [
      | inl (taken, what) ↦ (let there = at_slot p leaf_page slot 5 taken in inl (there.0, there.1, what))
      | inr (not_five, later) ↦ elim (put_first (is_page p leaf_page && (slot == 6)) (At (pbn 86)) mapping _ later) [
        | inl (taken, what) ↦ (let there = at_slot p leaf_page slot 6 taken in inr (inl (there.0, there.1, what)))
        | inr (not_six, third) ↦ elim (put_first (is_page p leaf_page && (slot == 5)) (At (pbn 86)) mapping _ third) [
          | inl (taken, what) ↦ absurd (cc (taken, not_five))
          | inr (not_five_too, last) ↦ elim (put_first (is_page p root && (slot == 0)) (At (pbn 85)) mapping None last) [
            | inl (taken, what) ↦ (let there = at_slot p root slot 0 taken in inr (inr (there.0, there.1, what)))
            | inr (none, gone) ↦ absurd (cc gone)
          ]
        ]
      ]
    ]

-- The session.

module _ (blocks : Blocks) (empty : IsEmpty small blocks) (whole : (b : ℕ) → b < length blocks → length (block_at blocks b) ≡ 4096) where
  abbrev image : Image
  image = opened blocks empty

  pub sizes : IsGeometry small
  sizes = sizes_of_image blocks (empty_super small) empty.accepted

  pub roots : (tree : ℕ) → tree < TREES → block_at blocks (block_of small (Root tree)) ≡ empty_root small tree
  roots tree inside = empty.made (Root tree) inside tt

  pub good : ArePagesGood image
  good = pages_good small blocks sizes (root_says small blocks roots) (blank_slot small blocks roots)

  pub known : All (IsKnown small 0) []
  known = All-nil (IsKnown small 0)

  -- it has its roots alone
  pub only_roots : (p : PageId) (at : Pbn) → page_after image [] p ≡ Some at → at.0 < 69
  only_roots p at linked = elim (root_or_below image [] p at linked) [
    | inl root_of ↦ let tree = root_of.1 in let is = root_of.2 in omega (arith, tree, is)
    | inr below ↦ absurd (no_tree_page small blocks sizes (root_says small blocks roots) at (p, below, sym (page_with_none image p) ∙ linked))
  ]

  -- It begins: its pages stand. They don't where a root may have been overwritten.
  at_first : PagesStand blocks [] image [] []
  at_first = begins (λ b. true) blocks [] image (one_in-all (λ b. true) blocks [] blocks (one_image-opening blocks whole)) good
      (λ p at there.
      let low = only_roots p at (page_with_none image p ∙ there) in
      let room = room_of_image blocks (empty_super small) empty.accepted in
      (omega (arith, low, room), refl))

  root_linked : page_after image [] root ≡ Some (pbn 9)
  root_linked = refl

  root_overwritten : PagesStand blocks (Write (pbn 9) zero_block false ∷ []) image [] [] → ⊥
  root_overwritten stand = zeros_unheaded (head_of image root (pbn 9)) (stand root (pbn 9) root_linked).headed.0

  -- its pages are on the device, with whole blocks; not on one that ends in front of the roots, and not with a short block
  on_it : ArePagesOnIt image [] (length blocks)
  on_it p at linked = let low = only_roots p at linked in let room = room_of_image blocks (empty_super small) empty.accepted in omega (arith, low, room)

  off_it : ArePagesOnIt image [] 9 → ⊥
  off_it on = let low = on root (pbn 9) root_linked in omega (arith, low)

  -- The leaf is written, and flushed: a new page that stands empty. It doesn't before, nor with a mapping.
  abbrev log_made : List Call
  log_made = Flush true ∷ Write (pbn 85) empty_leaf true ∷ []

  leaf_stands : NewPagesStand blocks log_made image one
  leaf_stands = ((leaf_is_empty, tt), tt)

  leaf_unflushed : (empty_there : IsPage head_of_leaf (block_at blocks 85) blank → ⊥) → EmptyPageStands blocks (Write (pbn 85) empty_leaf true ∷ []) image leaf → ⊥
  leaf_unflushed empty_there stands = empty_there stands.1.0

  leaf_full : NewPagesStand blocks (Write (pbn 85) full_leaf true ∷ []) image one → ⊥
  leaf_full stand =
      let is : IsSlot head_of_leaf full_leaf 5 Unmapped =
      subst (IsSlot head_of_leaf full_leaf 5) (nothing_there 5 (omega arith)) (slots head_of_leaf full_leaf blank 5 stand.0.0 (omega arith)) in
      let same = one_mapping head_of_leaf full_leaf 5 Unmapped Zero is full_five in absurd (cc same)

  -- so it doesn't while it is written with a mapping, whatever was done before
  pub leaf_full_there : (log : List Call) → NewPagesStand blocks (Write (pbn 85) full_leaf false ∷ log) image four → ⊥
  leaf_full_there log stand =
      let is : IsSlot head_of_leaf full_leaf 5 Unmapped =
      subst (IsSlot head_of_leaf full_leaf 5) (nothing_there 5 (omega arith)) (slots head_of_leaf full_leaf blank 5 stand.1.1.1.0.0 (omega arith)) in
      let same = one_mapping head_of_leaf full_leaf 5 Unmapped Zero is full_five in absurd (cc same)

  -- each of them, also the first
  leaf_full_first : NewPagesStand blocks (Write (pbn 85) full_leaf true ∷ []) image (at_point (remap 5 Unmapped Zero) 514 ∷ one) → ⊥
  leaf_full_first stand = leaf_full stand.1

  -- a call that misses the new leaf writes elsewhere
  misses_leaf : MissesNew (Write (pbn 86) empty_leaf true) leaf
  misses_leaf same = omega (arith, same)

  hits_leaf : MissesNew (Write (pbn 85) empty_leaf true) leaf → ⊥
  hits_leaf misses = misses refl

  leaf_is_new : AreMadeNew image [] one
  leaf_is_new = ((omega arith, leaf_gone blocks empty, data_block 0 (omega arith)), tt)

  before_it : PagesStand blocks log_made image [] []
  before_it =
      let writing : Call = Write (pbn 85) empty_leaf true in
      pages_missed blocks (writing ∷ []) image [] []
      (pages_missed blocks [] image [] [] at_first writing (λ p at linked same. let low = only_roots p at linked in omega (arith, low, same)))
      (Flush true) (λ p at linked. tt)

  -- The session has it, and then the mappings: all in its window, with pages that say nothing of them.
  with_leaf : PagesStand blocks log_made image one one
  with_leaf = grows blocks log_made image one [] [] tt leaf_is_new leaf_stands before_it

  mapped : PagesStand blocks log_made image four four
  mapped =
      grows blocks log_made image (at_point (remap 5 (At (pbn 86)) Zero) 518 ∷ at_point (remap 6 Unmapped (At (pbn 86))) 516 ∷ at_point (remap 5 Unmapped (At (pbn 86))) 514 ∷ []) one one
      ((pbn 9, refl), tt) (tt, (tt, (tt, tt))) (tt, (tt, (tt, tt))) with_leaf

  -- not without the window: the leaf doesn't say it yet
  unwritten : PagesStand blocks log_made image four [] → ⊥
  unwritten stand =
      let same = one_mapping head_of_leaf empty_leaf 5 Unmapped Zero empty_five ((stand leaf_page (pbn 85) refl).slots 5 (omega arith) refl).0 in absurd (cc same)

  -- nor while the leaf is written, when it may be torn
  torn : PagesStand blocks (Write (pbn 85) full_leaf true ∷ log_made) image four [] → ⊥
  torn stand =
      let same = one_mapping head_of_leaf empty_leaf 5 Unmapped Zero empty_five ((stand leaf_page (pbn 85) refl).slots 5 (omega arith) refl).1.0 in absurd (cc same)

  -- The leaf is written with its mappings: its bytes say each slot.
  leaf_no_slot : (slot : ℕ) → slot ≢ 5 → slot ≢ 6 → slot_after image four leaf_page slot ≡ Unmapped
  leaf_no_slot slot not_five not_six = elim (option_cases (put_last four leaf_page slot)) [
    | inl none ↦ rw (slot_after, none, slot_in, sym (page_with_none image leaf_page) ∙ leaf_gone blocks empty) refl
    | inr (mapping, put) ↦ elim (put_there leaf_page slot mapping put) [
      | inl five ↦ absurd (not_five five.1)
      | inr others ↦ elim others [
        | inl six ↦ absurd (not_six six.1)
        | inr root_of ↦ (let level : ◌≡◌ {A = ℕ} 0 1 = ap (λ (p : PageId). p.level) root_of.0 in absurd (omega (arith, level)))
      ]
    ]
  ]

  pub leaf_says : SaysTheRest image four [] leaf_page (pbn 85) full_leaf
  leaf_says = record { headed = full_five.headed; slots = λ slot small_slot left. at slot small_slot }
    where
      at : (slot : ℕ) → slot < 812 → IsSlot head_of_leaf full_leaf slot (slot_after image four leaf_page slot)
      at slot small_slot = elim (eqb_tells slot 5) [
        | inl five ↦ subst (λ (n : ℕ). IsSlot head_of_leaf full_leaf n (slot_after image four leaf_page n)) (sym five.1) full_five
        | inr not_five ↦ elim (eqb_tells slot 6) [
          | inl six ↦ subst (λ (n : ℕ). IsSlot head_of_leaf full_leaf n (slot_after image four leaf_page n)) (sym six.1) full_six
          | inr not_six ↦ subst (IsSlot head_of_leaf full_leaf slot) (sym (leaf_no_slot slot not_five.1 not_six.1)) (full_others slot small_slot not_five.1 not_six.1)
        ]
      ]

  -- what is said without a window is said with one
  pub says_with : (page_of : PageId) (at : Pbn) (bytes : List ℕ) (window : List CommittedEntry) → SaysTheRest image four [] page_of at bytes → SaysTheRest image four window page_of at bytes
  says_with page_of at bytes window says = record { headed = says.headed; slots = λ slot small_slot left. says.slots slot small_slot refl }

  zeros_say : SaysTheRest image four four leaf_page (pbn 85) zero_block → ⊥
  zeros_say says = zeros_unheaded head_of_leaf says.headed

  -- an empty leaf says what the window leaves to it, and no more
  empty_says : SaysTheRest image four four leaf_page (pbn 85) empty_leaf → SaysTheRest image four [] leaf_page (pbn 85) empty_leaf → ⊥
  empty_says rest all = let same = one_mapping head_of_leaf empty_leaf 5 Unmapped Zero empty_five (all.slots 5 (omega arith) refl) in absurd (cc same)

  root_no_slot : (slot : ℕ) → slot < 812 → slot ≢ 0 → slot_after image four root slot ≡ Unmapped
  root_no_slot slot small_slot other = elim (option_cases (put_last four root slot)) [
    | inl none ↦ rw (slot_after, none, slot_in) (root_says small blocks roots 0 slot (omega arith) small_slot)
    | inr (mapping, put) ↦ elim (put_there root slot mapping put) [
      | inl five ↦ (let level : ◌≡◌ {A = ℕ} 1 0 = ap (λ (p : PageId). p.level) five.0 in absurd (omega (arith, level)))
      | inr others ↦ elim others [
        | inl six ↦ (let level : ◌≡◌ {A = ℕ} 1 0 = ap (λ (p : PageId). p.level) six.0 in absurd (omega (arith, level)))
        | inr first ↦ absurd (other first.1)
      ]
    ]
  ]

  pub root_says_all : SaysTheRest image four [] root (pbn 9) linked_root
  root_says_all = record { headed = root_first.headed; slots = λ slot small_slot left. at slot small_slot }
    where
      at : (slot : ℕ) → slot < 812 → IsSlot head_of_root linked_root slot (slot_after image four root slot)
      at slot small_slot = elim (eqb_tells slot 0) [
        | inl first ↦ subst (λ (n : ℕ). IsSlot head_of_root linked_root n (slot_after image four root n)) (sym first.1) root_first
        | inr other ↦ subst (IsSlot head_of_root linked_root slot) (sym (root_no_slot slot small_slot other.1)) (root_others slot small_slot other.1)
      ]

  abbrev log_written : List Call
  log_written = Flush true ∷ Write (pbn 85) full_leaf true ∷ log_made

  all_new : AreMadeNew image [] four
  all_new = (tt, (tt, (tt, leaf_is_new)))

  written : PagesStand blocks log_written image four four
  written =
      let writing : Call = Write (pbn 85) full_leaf true in
      pages_missed blocks (writing ∷ log_made) image four four
      (page_written image sizes (omega arith) good 0 known four all_new blocks log_made four mapped leaf_page (pbn 85) full_leaf true refl (says_with leaf_page (pbn 85) full_leaf four leaf_says))
      (Flush true) (λ p at linked. tt)

  -- The head rises over all of them once the root says its link too, and not before.
  abbrev log_linked : List Call
  log_linked = Flush true ∷ Write (pbn 9) linked_root true ∷ log_written

  both_written : PagesStand blocks log_linked image four four
  both_written =
      let writing : Call = Write (pbn 9) linked_root true in
      pages_missed blocks (writing ∷ log_written) image four four
      (page_written image sizes (omega arith) good 0 known four all_new blocks log_written four written root (pbn 9) linked_root true refl (says_with root (pbn 9) linked_root four root_says_all))
      (Flush true) (λ p at linked. tt)

  at_leaf : (at : Pbn) → page_after image four leaf_page ≡ Some at → pbn 85 ≡ at
  at_leaf at linked = let it : Some (pbn 85) ≡ Some at = linked in cc it

  at_root : (at : Pbn) → page_after image four root ≡ Some at → pbn 9 ≡ at
  at_root at linked = let it : Some (pbn 9) ≡ Some at = linked in cc it

  -- each slot into which they put something stands
  pub slots_stand : (log : List Call) → SlotStands blocks log head_of_leaf 5 Zero → SlotStands blocks log head_of_leaf 6 (At (pbn 86)) → SlotStands blocks log head_of_root 0 (At (pbn 85))
      → (p : PageId) (at : Pbn) (slot : ℕ) (mapping : Mapping) → page_after image four p ≡ Some at → put_last four p slot ≡ Some mapping
      → SlotStands blocks log (head_of image p at) slot mapping
  slots_stand log five six first p at slot mapping linked put = elim (put_there p slot mapping put) [
    | inl is ↦ moved leaf_page (pbn 85) 5 Zero is.0 is.1 is.2 (at_leaf at (subst (λ (q : PageId). page_after image four q ≡ Some at) is.0 linked)) five
    | inr others ↦ elim others [
      | inl is ↦ moved leaf_page (pbn 85) 6 (At (pbn 86)) is.0 is.1 is.2 (at_leaf at (subst (λ (q : PageId). page_after image four q ≡ Some at) is.0 linked)) six
      | inr is ↦ moved root (pbn 9) 0 (At (pbn 85)) is.0 is.1 is.2 (at_root at (subst (λ (q : PageId). page_after image four q ≡ Some at) is.0 linked)) first
    ]
  ]
    where
      moved : (q : PageId) (x : Pbn) (n : ℕ) (m : Mapping) → p ≡ q → slot ≡ n → m ≡ mapping → x ≡ at → SlotStands blocks log (head_of image q x) n m
          → SlotStands blocks log (head_of image p at) slot mapping
      moved q x n m page_is slot_is mapping_is block_is stands =
          subst (λ (r : PageId). SlotStands blocks log (head_of image r at) slot mapping) (sym page_is)
          (subst (λ (y : Pbn). SlotStands blocks log (head_of image q y) slot mapping) block_is
          (subst (λ (k : ℕ). SlotStands blocks log (head_of image q x) k mapping) (sym slot_is)
          (subst (SlotStands blocks log (head_of image q x) n) mapping_is stands)))

  risen : PagesStand blocks log_linked image four []
  risen =
      rises blocks log_linked image four [] four [] refl
      (λ p at slot mapping linked small_slot left put. slots_stand log_linked (full_five, tt) (full_six, tt) (root_first, tt) p at slot mapping linked put)
      both_written

  -- so each image shows them
  shown : (now : Blocks) → IsImage blocks log_linked now → ArePagesShown image four now []
  shown now is =
      pages_are_shown blocks log_linked image four [] now
      (pages_on_it image good 0 known four all_new (length blocks) (room_of_image blocks (empty_super small) empty.accepted)) risen is

  -- the root doesn't say so before it is written
  root_unwritten : IsSlot head_of_root (block_at blocks 9) 0 (At (pbn 85)) → ⊥
  root_unwritten is =
      let was = subst (λ (block : List ℕ). IsSlot head_of_root block 0 Unmapped) refl (blank_slot small blocks roots 0 0 (omega arith) (omega arith)) in
      let same = one_mapping head_of_root (block_at blocks 9) 0 Unmapped (At (pbn 85)) was is in absurd (cc same)

  root_unlinked : SlotStands blocks log_written head_of_root 0 (At (pbn 85)) → ⊥
  root_unlinked stands = root_unwritten stands.0

  not_risen : PagesStand blocks log_written image four [] → ⊥
  not_risen stand = root_unwritten ((stand root (pbn 9) refl).slots 0 (omega arith) refl).0
