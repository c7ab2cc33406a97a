-- For each clause of the definitions of reads and walks a small case that it accepts, and one that breaks it alone and is
-- refused. The images are those of the model's rows.
use Rattle.std.proofs.Common.{ℕ, zero, suc, ◌≡◌, ◌⊎◌, ◌+◌, ◌*◌, ◌/◌, ◌^◌, Bool, true, false, List, [], ◌∷◌, Option, Some, None, Contains, length, refl, sym, ◌∙◌, ap, subst, inl, inr, ◌≤◌, arith}
use Rattle.std.proofs.lemmas.Bool.{cases_lt}
use Rattle.blk_base.specs.Sectors.{zero_block}
use Rattle.blk_base.specs.declared.geometry.Geometry.{Geometry}
use Rattle.blk_base.specs.declared.journal_entry.Entry.TheVariants.{NewPage}
use Rattle.blk_base.specs.declared.place.Mapping.{Mapping}
use Rattle.blk_base.specs.declared.place.Mapping.TheVariants.{Unmapped, Zero, At}
use Rattle.blk_base.specs.declared.place.PageId.{PageId}
use Rattle.blk_base.specs.declared.place.Pbn.{Pbn}
use Rattle.blk_base.specs.declared.sizes.TheConstants.{PAGE_SLOTS}
use Rattle.byte_fields.specs.Fields.{number_at}
use Rattle.disk_model.proofs.SeenLaws.{later_yet, stays_yet}
use Rattle.disk_model.specs.Seen.{Seen}
use Rattle.disk_model.specs.Trust.{trust_of}
use Rattle.disk_model.specs.Since.{WereRead}
use Rattle.disk_model.specs.declared.call.Call.{Call}
use Rattle.disk_model.specs.declared.call.Call.TheVariants.{Read}
use Rattle.image_model.proofs.Example.{small, head_of_root}
use Rattle.image_model.proofs.MapExample.{bad_head, image, logged, remap, with_root}
use Rattle.image_model.specs.Counts.{leads_to, mapped_below}
use Rattle.image_model.specs.Maps.{Image, IsGoodPage, page_at, slot_in}
use Rattle.image_model.specs.Pages.{IsAhead}
use Rattle.image_model.specs.declared.fault.ImageFault.TheVariants.{Page, Counter, Device, Memory}
use Rattle.image_model.proofs.FaultExample.{header_is}
use Rattle.page_codec.specs.declared.fault.PageFault.TheVariants.{Header}
use Rattle.plain_laws.specs.Sums.{bit}
use Rattle.replay_map.proofs.ReadLaws.{blocks_untouched}
use Rattle.replay_map.proofs.SumLaws.{mapped_sum, sum_has, sum_more, sum_none}
use Rattle.replay_map.proofs.TakenLaws.{gained_list, mapped_more, mapped_yet, only_one}
use Rattle.replay_map.proofs.UnderLaws.{none_ahead_of_top, same_under, under_itself}
use Rattle.replay_map.proofs.WalkLaws.{walked_none}
use Rattle.blk_base.specs.Pages.{page_below, root_page}
use Rattle.blk_base.specs.Forms.{page, pbn}
use Rattle.blk_base.proofs.Example.{root}
use Rattle.replay_map.specs.Reads.{AreLeading, BlocksRead, HasReads, IsPageBlock, IsShown, LeadToData, ReadFails, Reading, Shows}
use Rattle.replay_map.specs.Replayed.{times}
use Rattle.replay_map.specs.Shares.{IsLeastOf, has_page}
use Rattle.replay_map.specs.Sums.{maps_below, maps_in, maps_in_trees, maps_under, maps_up_to, sum_below}
use Rattle.replay_map.specs.Taken.{AreBelow, AreChanges, Gained, GainedMapped, block_in, change_in}
use Rattle.replay_map.specs.Walks.{ALink, AChange, Gives, Has, HasTaken, HasWalked, IsFirstFault, IsGiven, IsInTrees, IsLinked, IsRoot, IsUnder, IsUpTo, WalkFails, head_at, link_to}
use Rattle.replay_map.specs.declared.changes.SlotId.{SlotId}
use Rattle.replay_map.specs.declared.found.Found.{Found}
use Rattle.replay_map.specs.declared.found.SlotChange.{SlotChange}
use Rattle.replay_map.specs.declared.links.Link.{Link}
use Rattle.journal_window.proofs.Rows.{seen_with}

-- Reads, of a device that doesn't tell.

abbrev pub zeros_at : ℕ → Reading
zeros_at n = record { at = pbn n; bytes = zero_block }

was_read : (n : ℕ) → WereRead (trust_of false false) n (seen_with 0) (seen_with 0) (zero_block ∷ [])
unfolding zero_block
was_read n = record {
  told = λ told. absurd (cc told);
  stays = stays_yet (seen_with 0);
  later = later_yet (seen_with 0);
  given = (refl, λ told. absurd (cc told), tt);
  logged = λ told. absurd (cc told);
}

page_block_data : IsPageBlock small (pbn 86)
page_block_data = inl (record { slab = 0; offset = 1; inside = (omega arith, omega arith); stands = refl })

page_block_root : IsPageBlock small (pbn 68)
page_block_root = inr (59, omega arith, refl)

-- the index lies behind the roots
page_block_not_index : IsPageBlock small (pbn 69) → ⊥
page_block_not_index (inl is) = let stands = is.stands in omega (arith, stands)
page_block_not_index (inr (tree, below, stands)) = omega (arith, below, stands)

page_block_not_journal : IsPageBlock small (pbn 8) → ⊥
page_block_not_journal (inl is) = let stands = is.stands in omega (arith, stands)
page_block_not_journal (inr (tree, below, stands)) = omega (arith, stands)

page_block_not_count : IsPageBlock small (pbn 149) → ⊥
page_block_not_count (inl is) = let stands = is.stands in let inside = is.inside in omega (arith, stands, inside)
page_block_not_count (inr (tree, below, stands)) = omega (arith, below, stands)

read_one : BlocksRead (trust_of false false) small (seen_with 0) (seen_with 0) (zeros_at 9 ∷ [])
read_one = (seen_with 0, refl, was_read 9, omega arith, inr (0, omega arith, refl))

read_whole : BlocksRead (trust_of false false) small (seen_with 0) (seen_with 0) (record { at = pbn 9; bytes = 0 ∷ [] } ∷ []) → ⊥
read_whole read = let size = read.2.given.0 in omega (arith, size)

abbrev short : Seen
short = record { opening = []; size = 80; log = []; faults = 0; unkept = 0 }

read_of_device : BlocksRead (trust_of false false) small short short (zeros_at 86 ∷ []) → ⊥
read_of_device read =
    let size = ap (λ (s : Seen). s.size) read.1 in
    let inside = read.3 in
    omega (arith, size, inside)

-- block 69 has the index
read_of_pages : BlocksRead (trust_of false false) small (seen_with 0) (seen_with 0) (zeros_at 69 ∷ []) → ⊥
read_of_pages read = page_block_not_index read.4

read_nothing_else : BlocksRead (trust_of false false) small (seen_with 0) (seen_with 1) [] → ⊥
read_nothing_else same = let faults = ap (λ (s : Seen). s.faults) same in omega (arith, faults)

pub read_fails : ReadFails (trust_of false false) small (seen_with 0) (seen_with 1)
read_fails = (
  [],
  seen_with 0,
  pbn 9,
  refl,
  record {
    stays = record { opening = refl; size = refl };
    later = record { faults = omega arith; unkept = omega arith };
    given = tt;
    rose = omega arith;
    logged = λ told. absurd (cc told);
  },
  inr (0, omega arith, refl),
)

-- the count of faults rose
pub read_fails_rose : ReadFails (trust_of false false) small (seen_with 0) (seen_with 0) → ⊥
read_fails_rose failed = let rose = failed.4.rose in omega (arith, rose)

-- a device that tells, of which a read of this block failed, and nothing else was done
abbrev failed_at : ℕ → Seen
failed_at n = record { opening = []; size = 154; log = Read (pbn n) zero_block false ∷ []; faults = 1; unkept = 0 }

read_fails_of_root : ReadFails (trust_of true false) small (seen_with 0) (failed_at 9)
read_fails_of_root = (
  [],
  seen_with 0,
  pbn 9,
  refl,
  record {
    stays = record { opening = refl; size = refl };
    later = record { faults = omega arith; unkept = omega arith };
    given = tt;
    rose = omega arith;
    logged = λ told. (zero_block, inl refl);
  },
  inr (0, omega arith, refl),
)

-- what failed is a read of a block at which a page may stand
read_fails_of_pages : ReadFails (trust_of true false) small (seen_with 0) (failed_at 69) → ⊥
read_fails_of_pages (reads, middle, at, read, failed, stands) = elim (failed.logged refl).1 [
  | inl same ↦
      let place : 69 ≡ at.0 + 0 = ap place_in same in
      let here : at.0 ≡ 69 = omega (arith, place) in
      page_block_not_index (subst (λ (n : ℕ). IsPageBlock small (pbn n)) here stands)
  | inr (same, rose) ↦ omega (arith, rose)
]
  where
    place_in : List Call → ℕ
    place_in (Read at bytes ok ∷ older) = at.0
    place_in other = 0

shows_is : Shows (zero_block ∷ []) (zeros_at 0 ∷ [])
shows_is = (refl, tt)

shows_other : Shows ((0 ∷ []) ∷ []) (zeros_at 0 ∷ []) → ⊥
unfolding zero_block
shows_other shows = let size : 1 ≡ 4096 = ap length shows.0 in omega (arith, size)

shows_older : Shows (zero_block ∷ (0 ∷ []) ∷ []) (zeros_at 0 ∷ zeros_at 1 ∷ []) → ⊥
unfolding zero_block
shows_older shows = let size : 1 ≡ 4096 = ap length shows.1.0 in omega (arith, size)

has_reads : HasReads small [] [] (image [])
has_reads = record { geometry = refl; newest = λ page slot low. refl; shows = tt }

has_reads_geometry : HasReads (record small { nonce = 2 }) [] [] (image []) → ⊥
has_reads_geometry has = let same : 1 ≡ 2 = ap (λ (g : Geometry). g.nonce) has.geometry in omega (arith, same)

has_reads_newest : HasReads small [] [] (image (remap 5 Zero ∷ [])) → ⊥
has_reads_newest has = let none = has.newest (page 0 0 0) 5 (omega arith) in absurd (cc none)

has_reads_shows : HasReads small [] (zeros_at 86 ∷ []) (image []) → ⊥
unfolding zero_block
has_reads_shows has = let size : 2 ≡ 4096 = ap length has.shows.0 in omega (arith, size)

shown_is : IsShown (trust_of false false) small [] (seen_with 0) (seen_with 0) (λ image. image.geometry ≡ small)
shown_is = ([], refl, λ image has. has.geometry)

-- what was read was read since
pub shown_since : (Says : Image → Type 0) → IsShown (trust_of false false) small [] (seen_with 1) (seen_with 0) Says → ⊥
shown_since Says shown = let later = (blocks_untouched (trust_of false false) small (seen_with 1) (seen_with 0) shown.0 shown.1).later.faults in omega (arith, later)

abbrev third : SlotId
third = record { page = root; slot = 3 }

lead_nowhere : LeadToData small []
lead_nowhere page slot mapping low is = absurd (cc is)

-- block 9 has a root
lead_to_root : LeadToData small ((third, At (pbn 9)) ∷ []) → ⊥
lead_to_root lead =
    let data_block = lead root 3 (At (pbn 9)) (omega arith) refl in
    let stands = data_block.stands in
    let inside = data_block.inside in
    omega (arith, stands, inside)

leading : AreLeading small []
leading slot inside = tt

leading_all : AreLeading small (At (pbn 9) ∷ []) → ⊥
leading_all are =
    let data_block = are 0 (omega arith) in
    let stands = data_block.stands in
    let inside = data_block.inside in
    omega (arith, stands, inside)

-- Sums.

sum_is : sum_below (λ i. i + 1) 3 ≡ 6
unfolding sum_below
sum_is = refl

sum_of_nothing : sum_below (λ i. i + 1) 0 ≡ 0
unfolding sum_below
sum_of_nothing = refl

leaf_unlinked : slot_in (image []) (page 0 0 1) 5 ≡ Unmapped
unfolding number_at
leaf_unlinked = refl

one : 1 ≤ bit (leads_to (pbn 86) (slot_in (image []) (page 0 0 0) 5))
unfolding number_at
one = omega arith

-- slot 5 of the leaf leads to 86, and so it does below the root
leaf_maps : maps_under (image []) (pbn 86) 0 (page 0 0 0) ≡ 0 → ⊥
leaf_maps none =
    let some = sum_has (λ slot. bit (leads_to (pbn 86) (slot_in (image []) (page 0 0 0) slot))) PAGE_SLOTS 5 (omega arith) one in
    let sum = mapped_sum (slot_in (image []) (page 0 0 0)) (pbn 86) PAGE_SLOTS in
    omega (arith, none, some, sum)

maps_of_leaf : maps_in (image []) (page 0 0 0) (pbn 86) ≡ maps_under (image []) (pbn 86) 0 (page 0 0 0)
maps_of_leaf = refl

maps_of_root : maps_in (image []) root (pbn 86) ≡ 0
maps_of_root = refl

root_maps : maps_below (image []) root (pbn 86) ≡ 0 → ⊥
root_maps none = elim (cases_lt 0 (maps_under (image []) (pbn 86) 0 (page_below root 0))) [
  | inl some ↦ let sum = sum_has (λ slot. maps_under (image []) (pbn 86) 0 (page_below root slot)) PAGE_SLOTS 0 (omega arith) (omega (arith, some)) in omega (arith, none, sum)
  | inr most ↦ leaf_maps (omega (arith, most))
]

maps_up_to_none : maps_up_to (image []) root 0 (pbn 86) ≡ 0
unfolding sum_below
maps_up_to_none = refl

maps_up_to_first : maps_up_to (image []) root 1 (pbn 86) ≡ maps_under (image []) (pbn 86) 0 (page 0 0 0)
unfolding sum_below
maps_up_to_first = omega arith

nothing_more : (a b : ℕ) → a ≡ 0 → a + b ≡ b
nothing_more a b none = omega (arith, none)

maps_in_no_tree : maps_in_trees (image []) 0 (pbn 86) ≡ 0
unfolding sum_below
maps_in_no_tree = refl

maps_in_first_tree : maps_in_trees (image []) 1 (pbn 86) ≡ maps_below (image []) root (pbn 86)
maps_in_first_tree =
    let maps : ℕ → ℕ = λ tree. maps_under (image []) (pbn 86) 1 (root_page small tree) in
    sum_more maps 0 ∙ nothing_more (sum_below maps 0) (maps 0) (sum_none maps)

root_is : root_page small 1 ≡ page 1 1 0
root_is = refl

-- One page.

gained_is : Gained {T = ℕ} [] (5 ∷ []) (λ n. n ≡ 5)
gained_is = gained_list [] (5 ∷ []) (5 ∷ []) (λ n. n ≡ 5) refl (λ n. (λ has. sym (only_one 5 n has), λ same. (0, omega arith, sym same)))

gained_all : Gained {T = ℕ} [] [] (λ n. n ≡ 5) → ⊥
gained_all gained = let has = (gained 5).1 (inr refl) in let inside = has.1 in omega (arith, inside)

gained_those : Gained {T = ℕ} [] (5 ∷ []) (λ n. ⊥) → ⊥
gained_those gained = elim ((gained 5).0 (0, omega arith, refl)) [
  | inl before ↦ let inside = before.1 in omega (arith, inside)
  | inr none ↦ none
]

gained_keeps : Gained {T = ℕ} (5 ∷ []) [] (λ n. ⊥) → ⊥
gained_keeps gained = let has = (gained 5).1 (inl (0, omega arith, refl)) in let inside = has.1 in omega (arith, inside)

abbrev leaf_at : ℕ → Link
leaf_at n = record { page = page 0 0 0; at = pbn n }

below_is : AreBelow (image []) root (leaf_at 85)
unfolding number_at
below_is = (refl, refl)

below_other : AreBelow (image []) (page 1 1 0) (leaf_at 85) → ⊥
below_other is = let same : 0 ≡ 1 = ap (λ (p : PageId). p.tree) is.0 in omega (arith, same)

below_elsewhere : AreBelow (image []) root (leaf_at 86) → ⊥
unfolding number_at
below_elsewhere is = let same : 85 ≡ 86 = ap place is.1 in omega (arith, same)
  where
    place : Option Pbn → ℕ
    place None = 0
    place (Some at) = at.0

mapped_is : GainedMapped (At (pbn 86) ∷ []) 1 [] (pbn 86 ∷ [])
mapped_is = mapped_more (At (pbn 86) ∷ []) 0 [] [] (pbn 86 ∷ []) (mapped_yet (At (pbn 86) ∷ []) []) refl

mapped_once : GainedMapped (At (pbn 86) ∷ []) 1 [] [] → ⊥
unfolding mapped_below
mapped_once gained = let sum = gained (pbn 86) in omega (arith, sum)

mapped_of_first : GainedMapped (Zero ∷ At (pbn 86) ∷ []) 1 [] (pbn 86 ∷ []) → ⊥
unfolding mapped_below
mapped_of_first gained = let sum = gained (pbn 86) in omega (arith, sum)

abbrev changed_to : ℕ → SlotChange
changed_to n = record { page = root; slot = 3; mapping = At (pbn n) }

abbrev leads : List (SlotId × Mapping)
leads = (third, At (pbn 86)) ∷ []

changes_are : AreChanges leads root 4 (changed_to 86)
changes_are = (refl, omega arith, refl)

changes_of_page : AreChanges leads (page 1 1 0) 4 (changed_to 86) → ⊥
changes_of_page are = let same : 0 ≡ 1 = ap (λ (p : PageId). p.tree) are.0 in omega (arith, same)

changes_of_first : AreChanges leads root 3 (changed_to 86) → ⊥
changes_of_first are = let inside = are.1 in omega (arith, inside)

changes_of_mapping : AreChanges [] root 4 (changed_to 86) → ⊥
changes_of_mapping are = absurd (cc are.2)

block_of_mapping : (block_in (At (pbn 86)) ≡ pbn 86 ∷ []) × (block_in Zero ≡ []) × (block_in Unmapped ≡ [])
block_of_mapping = (refl, refl, refl)

change_of_slot : (change_in root 3 (Some (At (pbn 86))) ≡ changed_to 86 ∷ []) × (change_in root 3 None ≡ [])
change_of_slot = (refl, refl)

-- Pages below others.

under_is : IsUnder root (page 0 0 7)
under_is = (1, refl, refl, refl)

under_tree : IsUnder root (page 1 0 7) → ⊥
under_tree is = let tree = is.1 in omega (arith, tree)

under_level : IsUnder root (page 0 2 0) → ⊥
under_level is = let level = is.2 in omega (arith, level)

under_index : IsUnder root (page 0 0 812) → ⊥
under_index is =
    let level = is.2 in
    let one : is.0 ≡ 1 = omega (arith, level) in
    let index : 1 ≡ 0 = ap (λ (n : ℕ). 812 / PAGE_SLOTS ^ n) (sym one) ∙ is.3 in
    omega (arith, index)

up_to_itself : IsUpTo root 0 root
up_to_itself = inl refl

up_to_slot : IsUpTo root 8 (page 0 0 7)
up_to_slot = inr (7, omega arith, omega arith, under_itself (page 0 0 7))

up_to_slots : IsUpTo root 7 (page 0 0 7) → ⊥
up_to_slots (inl same) = let level : 0 ≡ 1 = ap (λ (p : PageId). p.level) same in omega (arith, level)
up_to_slots (inr (slot, before, inside, under)) =
    let level = under.2 in
    let index : 7 ≡ 0 * PAGE_SLOTS + slot = ap (λ (p : PageId). p.index) (same_under (page_below root slot) (page 0 0 7) under (omega (arith, level))) in
    omega (arith, index, before)

in_trees : IsInTrees 2 (page 1 1 0)
in_trees = omega arith

in_first_trees : IsInTrees 1 (page 1 1 0) → ⊥
in_first_trees less = omega (arith, less)

-- What they give.

gives_link : Gives (image []) root (ALink (leaf_at 85))
unfolding number_at
gives_link = (refl, refl)

gives_own_link : Gives (image []) (page 1 1 0) (ALink (leaf_at 85)) → ⊥
gives_own_link given = below_other given

gives_change : Gives (image (logged (NewPage (page 0 0 3) (pbn 86)) ∷ [])) root (AChange (changed_to 86))
gives_change = (refl, omega arith, refl)

gives_own_change : Gives (image (logged (NewPage (page 0 0 3) (pbn 86)) ∷ [])) (page 1 1 0) (AChange (changed_to 86)) → ⊥
gives_own_change given = let same : 0 ≡ 1 = ap (λ (p : PageId). p.tree) given.0 in omega (arith, same)

gives_put : Gives (image []) root (AChange (changed_to 86)) → ⊥
gives_put given = absurd (cc given.2)

gives_slots : (window : ℕ) → Gives (image []) root (AChange (record { page = root; slot = 812; mapping = Zero })) → ⊥
gives_slots window given = let inside = given.1 in omega (arith, inside)

has_link : (found : Found) → found.links.items ≡ leaf_at 85 ∷ [] → Has found (ALink (leaf_at 85))
has_link found is = subst (λ (links : List Link). Contains links (leaf_at 85)) (sym is) (0, omega arith, refl)

has_no_link : (found : Found) → found.links.items ≡ [] → Has found (ALink (leaf_at 85)) → ⊥
has_no_link found is has = let none = subst (λ (links : List Link). Contains links (leaf_at 85)) is has in let inside = none.1 in omega (arith, inside)

has_change : (found : Found) → found.slots.items ≡ changed_to 86 ∷ [] → Has found (AChange (changed_to 86))
has_change found is = subst (λ (slots : List SlotChange). Contains slots (changed_to 86)) (sym is) (0, omega arith, refl)

has_no_change : (found : Found) → found.slots.items ≡ [] → Has found (AChange (changed_to 86)) → ⊥
has_no_change found is has = let none = subst (λ (slots : List SlotChange). Contains slots (changed_to 86)) is has in let inside = none.1 in omega (arith, inside)

given_is : IsGiven (image []) (IsInTrees 1) (ALink (leaf_at 85))
given_is = (root, pbn 9, omega arith, refl, gives_link)

given_over : IsGiven (image []) (λ page. ⊥) (ALink (leaf_at 85)) → ⊥
given_over given = given.2

-- Walks.

walked_nowhere : (found : Found) → HasWalked (image []) (λ page. ⊥) (λ block. 0) found found
walked_nowhere found = walked_none (image []) (λ page. ⊥) (λ block. 0) found (λ page at there none. none) (λ block. refl)

walked_good : (maps : Pbn → ℕ) (old new : Found) → HasWalked (with_root zero_block []) (λ page. page ≡ root) maps old new → ⊥
walked_good maps old new walked = bad_head (walked.good root (pbn 9) refl refl)

walked_items : (maps : Pbn → ℕ) (old new : Found) → new.links.items ≡ [] → HasWalked (image []) (IsInTrees 1) maps old new → ⊥
walked_items maps old new none walked = has_no_link new none ((walked.items (ALink (leaf_at 85))).1 (inr given_is))

walked_those : (maps : Pbn → ℕ) (old new : Found) → old.links.items ≡ [] → new.links.items ≡ leaf_at 85 ∷ [] → HasWalked (image []) (λ page. ⊥) maps old new → ⊥
walked_those maps old new none one walked = elim ((walked.items (ALink (leaf_at 85))).0 (has_link new one)) [
  | inl before ↦ has_no_link old none before
  | inr given ↦ given.2
]

walked_mapped : (found : Found) → HasWalked (image []) (λ page. ⊥) (λ block. 1) found found → ⊥
walked_mapped found walked = let sum = walked.mapped (pbn 86) in omega (arith, sum)

-- one page: the root of tree 2 gives nothing, and that of tree 0 a link
taken_items : (old new : Found) → new.links.items ≡ [] → HasTaken (image []) root old new → ⊥
taken_items old new none taken = has_no_link new none ((taken.items (ALink (leaf_at 85))).1 (inr gives_link))

taken_mapped : (found : Found) → HasTaken (image []) (page 0 0 0) found found → ⊥
taken_mapped found taken = let sum = taken.mapped (pbn 86) in leaf_maps (omega (arith, sum))

taken_inner : (old new : Found) → new.mapped.items ≡ pbn 86 ∷ [] → old.mapped.items ≡ [] → HasTaken (image []) root old new → ⊥
taken_inner old new one none taken =
    let sum = taken.mapped (pbn 86) in
    let some = ap (times (pbn 86)) one in
    let nothing = ap (times (pbn 86)) none in
    omega (arith, sum, some, nothing)

-- Faults.

first_fault : IsFirstFault (with_root zero_block []) (λ page. page ≡ root) (pbn 9) Header
first_fault = record {
  page = root;
  over = refl;
  there = refl;
  has = header_is;
  first = λ other place same ahead there.
      absurd (none_ahead_of_top root other (subst (λ (p : PageId). IsUnder root p) (sym same) (under_itself root)) ahead);
}

fault_over : IsFirstFault (with_root zero_block []) (λ page. ⊥) (pbn 9) Header → ⊥
fault_over is = is.over

fault_there : IsFirstFault (with_root zero_block []) (λ page. page ≡ root) (pbn 10) Header → ⊥
fault_there is =
    let places : Some (pbn 9) ≡ Some (pbn 10) = ap (page_at (with_root zero_block [])) (sym is.over) ∙ is.there in
    let same : 9 ≡ 10 = ap place places in
    omega (arith, same)
  where
    place : Option Pbn → ℕ
    place None = 0
    place (Some at) = at.0

-- first: the root of tree 0 has a fault, and is ahead of that of tree 1
fault_first : ((other : PageId) (at : Pbn) → IsInTrees 2 other → IsAhead other (page 1 1 0) → page_at (with_root zero_block []) other ≡ Some at → IsGoodPage (with_root zero_block []) other at) → ⊥
fault_first first = bad_head (first root (pbn 9) (omega arith) (inl (omega arith)) refl)

linked_is : IsLinked (image []) (leaf_at 85)
unfolding number_at
linked_is = refl

linked_elsewhere : IsLinked (image []) (leaf_at 86) → ⊥
linked_elsewhere is = below_elsewhere (refl, is)

heads : (link_to (head_at small (leaf_at 85)) ≡ leaf_at 85) × ((head_at small (leaf_at 85)).geometry ≡ small)
heads = (refl, refl)

root_of_tree : IsRoot small 1 (record { page = page 1 1 0; at = pbn 10 })
root_of_tree = (refl, refl)

root_of_other_tree : IsRoot small 1 (record { page = page 0 1 0; at = pbn 10 }) → ⊥
root_of_other_tree is = let same : 0 ≡ 1 = ap (λ (p : PageId). p.tree) is.0 in omega (arith, same)

root_elsewhere : IsRoot small 1 (record { page = page 1 1 0; at = pbn 9 }) → ⊥
root_elsewhere is = let same = is.1 in omega (arith, same)

fails_by_device : WalkFails (trust_of false false) small [] (seen_with 0) (seen_with 1) (λ image. Unit {0}) (IsInTrees 60) Device
fails_by_device = read_fails

fails_by_device_alone : WalkFails (trust_of false false) small [] (seen_with 0) (seen_with 0) (λ image. Unit {0}) (IsInTrees 60) Device → ⊥
fails_by_device_alone failed = read_fails_rose failed

fails_by_memory : WalkFails (trust_of false false) small [] (seen_with 0) (seen_with 0) (λ image. Unit {0}) (IsInTrees 60) Memory
fails_by_memory = tt

fails_by_page : (image : Image) → WalkFails (trust_of false false) small [] (seen_with 1) (seen_with 0) (λ image. Unit {0}) (IsInTrees 60) (Page (pbn 9) Header) → ⊥
fails_by_page image failed = shown_since (λ image. Unit {0} → IsFirstFault image (IsInTrees 60) (pbn 9) Header) failed

fails_by_counter : WalkFails (trust_of false false) small [] (seen_with 0) (seen_with 0) (λ image. Unit {0}) (IsInTrees 60) (Counter (pbn 9) (record { 0 = 0 })) → ⊥
fails_by_counter failed = failed

-- Shared blocks.

page_of_links : (has_page (leaf_at 85 ∷ []) 85 ≡ true) × (has_page (leaf_at 85 ∷ []) 86 ≡ false)
page_of_links = (refl, refl)

abbrev above : ℕ → Bool
above n = has_page (leaf_at 87 ∷ leaf_at 86 ∷ []) n

least_is : IsLeastOf above (pbn 85 ∷ pbn 86 ∷ []) (Some (pbn 86))
least_is = ((1, omega arith, refl), refl, lowest)
  where
    of_two : (at : Pbn) → Contains (pbn 85 ∷ pbn 86 ∷ []) at → (pbn 85 ≡ at) ⊎ (pbn 86 ≡ at)
    of_two at (zero, inside, is) = inl is
    of_two at (suc zero, inside, is) = inr is
    of_two at (suc (suc k), inside, is) = absurd (omega (arith, inside))

    lowest : (at : Pbn) → Contains (pbn 85 ∷ pbn 86 ∷ []) at → above at.0 ≡ true → 86 ≤ at.0
    lowest at has passes = elim (of_two at has) [
      | inl same ↦ let both : false ≡ true = ap (λ (p : Pbn). above p.0) same ∙ passes in absurd (cc both)
      | inr same ↦ let equal = ap (λ (p : Pbn). p.0) same in omega (arith, equal)
    ]

least_there : IsLeastOf above [] (Some (pbn 86)) → ⊥
least_there is = let inside = is.0.1 in omega (arith, inside)

least_passes : IsLeastOf above (pbn 85 ∷ []) (Some (pbn 85)) → ⊥
least_passes is = absurd (cc is.1)

least_lowest : IsLeastOf above (pbn 87 ∷ pbn 86 ∷ []) (Some (pbn 87)) → ⊥
least_lowest is = let most = is.2 (pbn 86) (1, omega arith, refl) refl in omega (arith, most)

none_passes : IsLeastOf above [] None
none_passes at has passes = let inside = has.1 in omega (arith, inside)

none_passes_of_all : IsLeastOf above (pbn 86 ∷ []) None → ⊥
none_passes_of_all none = none (pbn 86) (0, omega arith, refl) refl
