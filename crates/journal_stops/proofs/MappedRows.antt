-- The map that entries give, and the images that show it: for each definition what it gives or accepts, and what it refuses.
-- The image is the one of the rows of maps: leaves of the trees 0 and 1 at 85 and 87, and address 5 at 86.
use Rattle.std.proofs.Common.{ℕ, ◌≡◌, ◌+◌, ◌-◌, ◌*◌, ◌%◌, ◌<◌, List, [], ◌∷◌, ◌++◌, length, replicate, Some, None, refl, sym, ◌∙◌, ap, subst, get_or, inl, inr, arith}
use Rattle.std.proofs.Math.Nat.{mod-lt}
use Rattle.std.proofs.lemmas.Bool.{cases_Bool}
use Rattle.blk_base.specs.Sectors.{sector, zero_block}
use Rattle.blk_base.specs.declared.journal_entry.CommittedEntry.{CommittedEntry}
use Rattle.blk_base.specs.declared.journal_entry.Entry.TheVariants.{Remap, NewPage}
use Rattle.blk_base.specs.declared.place.Mapping.{Mapping}
use Rattle.blk_base.specs.declared.place.Mapping.TheVariants.{Unmapped, Zero, At}
use Rattle.blk_base.specs.declared.place.PageId.{PageId}
use Rattle.blk_base.specs.declared.place.Pbn.{Pbn}
use Rattle.blk_base.specs.declared.sizes.TheConstants.{PAGE_SLOTS}
use Rattle.blk_base.specs.Forms.{page, pbn}
use Rattle.byte_fields.specs.Fields.{number_at}
use Rattle.byte_fields.proofs.FieldLaws.{number_at-drop}
use Rattle.std.proofs.lemmas.List.{drop-replicate}
use Rattle.disk_model.specs.Log.{Blocks, block_at}
use Rattle.image_layout.specs.Values.{journal_of}
use Rattle.image_model.specs.Maps.{mapping_in, mapping_with, mapping_of, page_at}
use Rattle.image_model.specs.Windows.{in_slot, IsThere, IsWindow}
use Rattle.image_model.specs.Pages.{is_page}
use Rattle.image_model.proofs.Example.{small}
use Rattle.image_model.proofs.MapExample.{said, blocks, image, logged, remap, new_leaf, mapped}
use Rattle.image_model.proofs.WindowLaws.{one_window}
use Rattle.image_model.proofs.ZeroLaws.{of_eight}
use Rattle.image_model.proofs.EmptyLaws.{zero_first}
use Rattle.journal_codec.proofs.ReadLaws.{length-sector_bytes}
use Rattle.journal_stops.specs.Mapped.{slot_after, linked_after, page_after, mapping_after, put_at, newest_for, put_page, newest_page, page_of, AreRooted, ArePagesShown, ArePagesMade, ShowsEntries}
use Rattle.journal_stops.specs.Shown.{HasInWindow}
use Rattle.journal_stops.proofs.MapLaws.{pages_show}
use Rattle.journal_stops.proofs.NewestLaws.{page_equal}
use Rattle.journal_stops.proofs.OpenedLaws.{page_with_none, rooted_old_page, slot_of_page}

-- The newest entry for a slot counts, and where there is none what was there.
slot_put_there : slot_after (image []) (remap 5 Zero ∷ remap 5 (At (pbn 88)) ∷ []) (page 0 0 0) 5 ≡ Zero
slot_put_there = refl

slot_as_it_was : slot_after (image []) (remap 6 Zero ∷ []) (page 0 0 0) 5 ≡ At (pbn 86)
unfolding number_at
slot_as_it_was = refl

-- The pages: a root at its block, those that were linked, and new ones; no other.
linked_root : linked_after (image []) [] 0 (page 1 1 0) ≡ Some (pbn 10)
linked_root = refl

linked_no_root : linked_after (image []) [] 0 (page 1 1 1) ≡ None
linked_no_root = refl

linked_was : linked_after (image []) [] 1 (page 1 0 0) ≡ Some (pbn 87)
unfolding number_at
linked_was = refl

linked_new : linked_after (image []) (new_leaf ∷ []) 1 (page 2 0 0) ≡ Some (pbn 89)
linked_new = refl

linked_not : linked_after (image []) [] 1 (page 2 0 0) ≡ None
unfolding number_at
linked_not = refl

page_is_new : page_after (image []) (new_leaf ∷ []) (page 2 0 0) ≡ Some (pbn 89)
page_is_new = refl

page_of_no_tree : page_after (image []) (new_leaf ∷ []) (page 60 1 0) ≡ None
page_of_no_tree = refl

page_of_no_level : page_after (image []) (new_leaf ∷ []) (page 0 2 0) ≡ None
page_of_no_level = refl

-- The addresses: by the slot of their leaf, where they have one.
address_is_new : mapping_after (image []) (remap 1624 (At (pbn 88)) ∷ new_leaf ∷ []) 1624 ≡ At (pbn 88)
unfolding number_at
address_is_new = refl

address_without_leaf : mapping_after (image []) (remap 1624 (At (pbn 88)) ∷ []) 1624 ≡ Unmapped
unfolding number_at
address_without_leaf = refl

address_in_new_leaf : mapping_after (image []) (new_leaf ∷ []) 1624 ≡ Unmapped
unfolding number_at
address_in_new_leaf = refl

-- The newest entries.
put_at_address : put_at (Remap (record { 0 = 5 }) Unmapped Zero) 5 ≡ Some Zero
put_at_address = refl

put_elsewhere : put_at (Remap (record { 0 = 5 }) Unmapped Zero) 6 ≡ None
put_elsewhere = refl

put_no_address : put_at (NewPage (page 2 0 0) (pbn 89)) 5 ≡ None
put_no_address = refl

newest_is : newest_for (new_leaf ∷ remap 5 Zero ∷ remap 5 (At (pbn 88)) ∷ []) 5 ≡ Some Zero
newest_is = refl

newest_of_none : newest_for (remap 6 Zero ∷ new_leaf ∷ []) 5 ≡ None
newest_of_none = refl

put_page_there : put_page (NewPage (page 2 0 0) (pbn 89)) (page 2 0 0) ≡ Some (At (pbn 89))
put_page_there = refl

put_other_page : put_page (NewPage (page 2 0 0) (pbn 89)) (page 2 0 1) ≡ None
put_other_page = refl

put_no_page : put_page (Remap (record { 0 = 5 }) Unmapped (At (pbn 89))) (page 0 0 0) ≡ None
put_no_page = refl

newest_page_is : newest_page (remap 5 Zero ∷ new_leaf ∷ []) (page 2 0 0) ≡ Some (At (pbn 89))
newest_page_is = refl

newest_page_of_none : newest_page (remap 5 Zero ∷ []) (page 2 0 0) ≡ None
newest_page_of_none = refl

-- The pages show the entries: those of the opened image none.
pages_as_they_were : ArePagesShown (image []) [] blocks []
pages_as_they_were p at slot linked small left =
    let there : page_at (image []) p ≡ Some at = sym (page_with_none (image []) p) ∙ linked in sym (slot_of_page (image []) p at slot there)

-- .. and neither where a page has another mapping, nor where it lacks one that the window has no more
abbrev other_blocks : Blocks
other_blocks = replicate 9 [] ++ said 0 1 85 ∷ said 0 1 87 ∷ replicate 74 [] ++ said 5 1 87 ∷ []

linked_leaf : page_after (image []) [] (page 0 0 0) ≡ Some (pbn 85)
unfolding number_at
linked_leaf = refl

abbrev number_of : Mapping → ℕ
number_of Unmapped = 0
number_of Zero = 0
number_of (At x) = x.0

another : mapping_in (block_at other_blocks 85) 5 ≡ At (pbn 87)
unfolding number_at
another = refl

as_it_was : mapping_in (block_at blocks 85) 5 ≡ At (pbn 86)
unfolding number_at
as_it_was = refl

no_entry : slot_after (image []) [] (page 0 0 0) 5 ≡ At (pbn 86)
unfolding number_at
no_entry = refl

pages_with_another : ArePagesShown (image []) [] other_blocks [] → ⊥
pages_with_another shown =
    let same : 87 ≡ 86 = ap number_of (sym another ∙ shown (page 0 0 0) (pbn 85) 5 linked_leaf (omega arith) refl ∙ no_entry) in omega (arith, same)

linked_still : page_after (image []) (remap 5 Zero ∷ []) (page 0 0 0) ≡ Some (pbn 85)
unfolding number_at
linked_still = refl

pages_without_reaped : ArePagesShown (image []) (remap 5 Zero ∷ []) blocks [] → ⊥
pages_without_reaped shown =
    let same : 86 ≡ 0 = ap number_of (sym as_it_was ∙ shown (page 0 0 0) (pbn 85) 5 linked_still (omega arith) refl) in omega (arith, same)

-- What the window has, no page has to say.
pages_with_window : ArePagesShown (image []) (remap 5 Zero ∷ []) blocks (remap 5 Zero ∷ [])
pages_with_window p at slot linked small left =
    let old : page_after (image []) [] p ≡ Some at = sym (rooted_old_page (image []) (remap 5 Zero ∷ []) [] p tt refl) ∙ linked in
    let there : page_at (image []) p ≡ Some at = sym (page_with_none (image []) p) ∙ old in
    let says : slot_after (image []) (remap 5 Zero ∷ []) p slot ≡ mapping_in (block_at blocks at.0) slot = rw (slot_after, left) (slot_of_page (image []) p at slot there) in
    sym says

-- Of a slot behind the last one of a page nothing is said; the last one counts.
others_behind_the_last : (other : Blocks) → ((b slot : ℕ) → slot < PAGE_SLOTS → mapping_in (block_at other b) slot ≡ mapping_in (block_at blocks b) slot)
    → ArePagesShown (image []) [] other []
others_behind_the_last other same p at slot linked small left = same at.0 slot small ∙ pages_as_they_were p at slot linked small left

none_in_the_last : slot_after (image []) [] (page 0 0 0) 811 ≡ Unmapped
unfolding number_at
none_in_the_last = refl

another_in_the_last : (other : Blocks) → mapping_in (block_at other 85) 811 ≡ At (pbn 87) → ArePagesShown (image []) [] other [] → ⊥
another_in_the_last other is shown =
    let same : 87 ≡ 0 = ap number_of (sym is ∙ shown (page 0 0 0) (pbn 85) 811 linked_leaf (omega arith) refl ∙ none_in_the_last) in omega (arith, same)

-- The image shows no entries: its journal has no block.
no_block : (s h : ℕ) → IsThere small (journal_of small blocks) s h → ⊥
no_block s h there =
    let nothing : in_slot small (journal_of small blocks) s ≡ [] = of_eight (λ k. get_or (journal_of small blocks) k zero_block ≡ []) refl refl refl refl refl refl refl refl (s % 8) (mod-lt s (omega arith)) in
    let size = ap (λ (block : List ℕ). length (sector 0 block)) nothing in
    let spelled = ap length there.1.spelled in
    omega (arith, size, spelled, length-sector_bytes 1 s h 0 there.0 there.1.few)

no_window : IsWindow small 1 (journal_of small blocks) 0 []
no_window = record {
  is_last = record { there = inl refl; none = λ s h from later reach there. no_block s h there };
  first = 1;
  is_first = inl (refl, refl);
  blocks = [];
  count = refl;
  replayable = tt;
  entries = refl;
}

shows_none : ShowsEntries (image []) 1 blocks []
shows_none = pages_show (image []) 1 blocks [] (record { last = 0; window = []; is_window = no_window; reaped = []; all = refl }) pages_as_they_were

-- pages: it has no new one; mappings: address 5 isn't zero there
window_is_none : (entries : List CommittedEntry) (s : HasInWindow small 1 blocks entries) → s.window ≡ []
window_is_none entries s = (one_window small 1 (journal_of small blocks) s.last 0 s.window [] s.is_window no_window).1

unlinked : page_at (image []) (page 2 0 0) ≡ None
unfolding number_at
unlinked = refl

linked_by_entry : page_after (image []) (new_leaf ∷ []) (page 2 0 0) ≡ Some (pbn 89)
linked_by_entry = refl

shows_no_page : ShowsEntries (image []) 1 blocks (new_leaf ∷ []) → ⊥
shows_no_page s =
    let none = window_is_none (new_leaf ∷ []) s.shown in
    let there = ap (λ (window : List CommittedEntry). page_at (image window) (page 2 0 0)) (sym none) in
    let is : None ≡ Some (pbn 89) = sym unlinked ∙ there ∙ s.pages (page 2 0 0) ∙ linked_by_entry in absurd (cc is)

zero_by_entry : mapping_after (image []) (remap 5 Zero ∷ []) 5 ≡ Zero
unfolding number_at
zero_by_entry = refl

shows_no_zero : ShowsEntries (image []) 1 blocks (remap 5 Zero ∷ []) → ⊥
shows_no_zero s =
    let none = window_is_none (remap 5 Zero ∷ []) s.shown in
    let there = ap (λ (window : List CommittedEntry). mapping_of (image window) 5) (sym none) in
    let same : 86 ≡ 0 = ap number_of (sym mapped ∙ there ∙ s.mappings 5 ∙ zero_by_entry) in omega (arith, same)

linked_by_none : page_after (image []) [] (page 2 0 0) ≡ None
unfolding number_at
linked_by_none = refl

linked_still_1 : page_after (image []) [] (page 1 0 0) ≡ Some (pbn 87)
unfolding number_at
linked_still_1 = refl

-- Pages that are made: below a root, not linked before, and empty. A block of zeros says nothing.
zeros_say : (slot : ℕ) → mapping_in zero_block slot ≡ Unmapped
unfolding zero_block
zeros_say slot =
    let place : 36 + 5 * slot + 0 ≡ 36 + 5 * slot = omega arith in
    let state : number_at 1 (36 + 5 * slot) (replicate 4096 0) ≡ 0 =
    ap (λ (k : ℕ). number_at 1 k (replicate 4096 0)) (sym place) ∙ sym (number_at-drop 1 0 (36 + 5 * slot) (replicate 4096 0))
    ∙ ap (number_at 1 0) (drop-replicate (36 + 5 * slot) 4096 0) ∙ zero_first (4096 - (36 + 5 * slot)) in
    ap (λ (n : ℕ). mapping_with (n % 16) (number_at 4 (37 + 5 * slot) (replicate 4096 0))) state

leaf_made : ArePagesMade (image []) [] (new_leaf ∷ []) blocks
leaf_made p at is = elim (cases_Bool (is_page p (page 2 0 0))) [
  | inl taken ↦
      let same = sym (page_equal p (page 2 0 0) taken) in
      let level : p.level ≡ 0 = ap (λ (q : PageId). q.level) (sym same) in
      let there = rw taken at is in
      let block : pbn 89 ≡ at = block_same (pbn 89) at there in
      (omega (arith, level), subst (λ (q : PageId). page_after (image []) [] q ≡ None) same linked_by_none, λ slot. subst (λ (x : Pbn). mapping_in (block_at blocks x.0) slot ≡ Unmapped) block (zeros_say slot))
  | inr passed ↦ let there = rw passed at is in absurd (cc there)
]
  where
    block_same : (x y : Pbn) → Some (At x) ≡ Some (At y) → x ≡ y
    block_same x y is = cc is

-- not a root, nor a page that is linked, nor one that says something
root_made : ArePagesMade (image []) [] (logged (NewPage (page 0 1 0) (pbn 89)) ∷ []) blocks → ⊥
root_made made = let below = (made (page 0 1 0) (pbn 89) refl).0 in omega (arith, below)

linked_made : ArePagesMade (image []) [] (logged (NewPage (page 1 0 0) (pbn 89)) ∷ []) blocks → ⊥
linked_made made = let is : Some (pbn 87) ≡ None = sym linked_still_1 ∙ (made (page 1 0 0) (pbn 89) refl).1 in absurd (cc is)

full_made : ArePagesMade (image []) [] (logged (NewPage (page 2 0 0) (pbn 85)) ∷ []) blocks → ⊥
full_made made = let same : 86 ≡ 0 = ap number_of (sym as_it_was ∙ (made (page 2 0 0) (pbn 85) refl).2 5) in omega (arith, same)

-- Into which page an entry puts something: one that is linked by then.
page_of_address : page_of (Remap (record { 0 = 1624 }) Unmapped Zero) ≡ page 2 0 0
page_of_address = refl

page_of_page : page_of (NewPage (page 2 0 5) (pbn 89)) ≡ page 2 1 0
page_of_page = refl

rooted : AreRooted (image []) (remap 1624 (At (pbn 88)) ∷ new_leaf ∷ [])
rooted = ((pbn 89, refl), ((pbn 11, refl), tt))

rooted_too_early : AreRooted (image []) (new_leaf ∷ remap 1624 (At (pbn 88)) ∷ []) → ⊥
rooted_too_early are = let is : None ≡ Some are.1.0.0 = sym linked_by_none ∙ are.1.0.1 in absurd (cc is)
