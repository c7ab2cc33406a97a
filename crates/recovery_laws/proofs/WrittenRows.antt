-- What the blocks have: for each clause a case that it accepts, and one that it refuses.
use Rattle.std.proofs.Common.{ℕ, ◌≡◌, ◌⊎◌, ◌∙◌, ◌+◌, ◌%◌, ◌<◌, ◌≤◌, ◌++◌, List, [], ◌∷◌, length, replicate, get_or, Some, None, Ok, refl, sym, ap, inl, inr, arith}
use Rattle.std.proofs.Math.Seq.{drop-nil}
use Rattle.blk_base.specs.Counters.{counters_per_sector, sector_of_offset}
use Rattle.blk_base.specs.Regions.{JournalSlot, ReferenceBlock, Root, block_of, first_index_of, first_slab_of, needed_blocks}
use Rattle.blk_base.specs.Sectors.{sector, zero_block}
use Rattle.blk_base.proofs.RegionLaws.{apart, data_block_inside, inside}
use Rattle.blk_base.specs.declared.layout.DataPlace.{DataPlace}
use Rattle.blk_base.specs.declared.place.Mapping.TheVariants.{Zero, At}
use Rattle.blk_base.specs.declared.place.PageId.{PageId}
use Rattle.blk_base.specs.declared.place.Pbn.{Pbn}
use Rattle.blk_base.specs.Forms.{page, pbn}
use Rattle.blk_base.proofs.Example.{place, root}
use Rattle.byte_fields.proofs.FieldLaws.{number_at-drop}
use Rattle.byte_fields.specs.Fields.{number_at}
use Rattle.disk_model.specs.Log.{Blocks, block_at}
use Rattle.image_model.proofs.CountLaws.{one_stored}
use Rattle.image_model.proofs.CountExample.{kept_is, updated}
use Rattle.image_model.proofs.Example.{small}
use Rattle.image_model.proofs.FaultExample.{zeros_unheaded}
use Rattle.image_model.proofs.LookedLaws.{looked_high, looked_place, looked_where}
use Rattle.image_model.proofs.MapLaws.{slot_says_its_mapping}
use Rattle.image_model.proofs.MapExample.{image as mapped, remap, said, with_root}
use Rattle.image_model.specs.Counts.{Stores, commit_at, reference_sector_at}
use Rattle.image_model.specs.Maps.{Image, IsGoodPage, head_of, page_at, put_last}
use Rattle.image_model.specs.Sound.{IsDataPlace, IsSound}
use Rattle.replay_counts.specs.Recovered.{IsInSector}
use Rattle.replay_counts.proofs.ReadRows.{no_commit_there}
use Rattle.recovery_laws.specs.Kept.{AreKept, IsRecovered, image_in}
use Rattle.recovery_laws.specs.Written.{AreFull, AreOthersKept, AreRestKept, AreUnderway, IsCountersBlock, IsFullPage, IsFullSector, IsOldSector, IsPageBlock, IsPartPage, IsRestKept}
use Rattle.recovery_laws.proofs.KeptRows.{counted_as, others_kept, stores_n}
use Rattle.recovery_laws.proofs.OldLaws.{no_page_there, own_slot, page_stands}
use Rattle.recovery_laws.proofs.SoundLaws.{known, room}

-- Pages. One that can be read says by itself what it says, where the window puts nothing into it.
full_page : (image : Image) (which : PageId) (at : Pbn) → IsGoodPage image which at → ((slot : ℕ) → put_last image.window which slot ≡ None)
    → IsFullPage image which at (block_at image.blocks at.0)
full_page image which at good none = record { headed = good.headed; slots = λ slot below. own_slot image which at slot (good.slots slot below) (none slot) }

-- and with the window what that leaves
part_page : (image : Image) (which : PageId) (at : Pbn) → IsGoodPage image which at → IsPartPage image which at (block_at image.blocks at.0)
part_page image which at good = record { headed = good.headed; slots = λ slot below none. own_slot image which at slot (good.slots slot below) none }

-- headed: zeros are no page
full_unheaded : IsFullPage (with_root zero_block []) root (pbn 9) zero_block → ⊥
full_unheaded full = zeros_unheaded full.headed

part_unheaded : IsPartPage (with_root zero_block []) root (pbn 9) zero_block → ⊥
part_unheaded part = zeros_unheaded part.headed

-- slots: the window puts zeros into slot 5 of the leaf at 85, and the page says 86 there
full_slot_left : IsFullPage (mapped (remap 5 Zero ∷ [])) (page 0 0 0) (pbn 85) (said 5 1 86) → ⊥
unfolding number_at
full_slot_left full =
    let is : At (pbn 86) ≡ Zero =
    slot_says_its_mapping (head_of (mapped (remap 5 Zero ∷ [])) (page 0 0 0) (pbn 85)) (said 5 1 86) 5 Zero (full.slots 5 (omega arith)) in
    absurd (cc is)

-- that slot isn't looked at in a part of the page; but slot 6, into which the window puts nothing, is
part_slot_lost : IsPartPage (mapped (remap 6 Zero ∷ [])) (page 0 0 0) (pbn 85) (said 5 1 0) → ⊥
unfolding number_at
part_slot_lost part =
    let is : Zero ≡ At (pbn 86) =
    slot_says_its_mapping (head_of (mapped (remap 6 Zero ∷ [])) (page 0 0 0) (pbn 85)) (said 5 1 0) 5 (At (pbn 86)) (part.slots 5 (omega arith) refl) in
    absurd (cc is)

-- Sectors of counters. Slab journal and window have an update of block 86 at 1536.

-- commit: it stays below that update
commit_not_raised : IsFullSector updated 0 0 (replicate 512 0) → ⊥
unfolding number_at
commit_not_raised full =
    let none = no_commit_there in
    let most : 1536 ≤ 0 = full.commit.most 1536 (omega (arith, none)) (1, omega arith, refl, inl kept_is) in
    omega (arith, most)

-- commit: it is raised to a point that nothing was applied at (no sector has one above 1024)
raised_for_nothing : ((point : ℕ) → IsInSector (counted_as 2) 0 0 point → ⊥) → IsFullSector (counted_as 2) 0 0 (0 ∷ 8 ∷ 0 ∷ 0 ∷ 0 ∷ 0 ∷ 0 ∷ 0 ∷ 1 ∷ 2 ∷ []) → ⊥
unfolding number_at
raised_for_nothing none full = elim full.commit.reached [
  | inl same ↦ let is : 2048 ≡ 1024 = same in omega (arith, is)
  | inr applied ↦ none 2048 applied.1
]

-- counters: the counter of offset 1 is 3, and its stored count 2
pub other_counter : IsFullSector (counted_as 2) 0 0 (sector 0 (0 ∷ 4 ∷ 0 ∷ 0 ∷ 0 ∷ 0 ∷ 0 ∷ 0 ∷ 1 ∷ 3 ∷ [])) → ⊥
unfolding number_at
other_counter full =
    let three : Stores (counted_as 2) (place 1) (Ok 3) = full.counters (place 1) (omega arith, omega arith) refl refl in
    let one = one_stored (counted_as 2) (place 1) (Ok 3) (Ok 2) three (stores_n 2 (omega arith)) in
    absurd (cc one)

-- rest: the slab has 64 blocks, and the counter of offset 64 is 0, or what it was
abbrev with_rest : ℕ → List ℕ
with_rest byte = 0 ∷ 4 ∷ 0 ∷ 0 ∷ 0 ∷ 0 ∷ 0 ∷ 0 ∷ 1 ∷ 2 ∷ replicate 62 0 ++ byte ∷ []

abbrev rested : ℕ → Image
rested byte = record { geometry = small; blocks = replicate 149 [] ++ with_rest byte ∷ []; window = [] }

rest_is : number_at 1 72 (with_rest 1) ≡ 1
unfolding number_at
rest_is = refl

rest_was : (byte : ℕ) → number_at 1 72 (with_rest byte) ≡ byte
unfolding number_at
rest_was byte = omega arith

only_64 : (byte : ℕ) (bytes : List ℕ) → IsRestKept (rested byte) 0 0 bytes → (number_at 1 72 bytes ≡ 0) ⊎ (number_at 1 72 bytes ≡ byte)
only_64 byte bytes kept = elim (kept 64 (omega arith) refl) [ inl none ↦ inl none | inr same ↦ inr (same ∙ rest_was byte) ]

rest_stays : IsRestKept (rested 7) 0 0 (sector 0 (with_rest 7))
rest_stays offset behind sector_is = inr refl

no_byte : (at : ℕ) → number_at 1 at [] ≡ 0
unfolding number_at
no_byte at = let place : at ≡ at + 0 = omega arith in ap (λ (k : ℕ). number_at 1 k []) place ∙ sym (number_at-drop 1 0 at []) ∙ ap (number_at 1 0) (drop-nil {A = ℕ} at)

rest_cleared : IsRestKept (rested 7) 0 0 []
rest_cleared offset behind sector_is = inl (no_byte (8 + offset % 504))

other_rest : AreRestKept (rested 7) (rested 1).blocks → ⊥
other_rest kept = let one = rest_is in elim (only_64 7 (with_rest 1) (kept 0 0 (omega arith) (omega arith))) [ inl none ↦ omega (arith, none, one) | inr same ↦ omega (arith, same, one) ]

rest_of_full : IsFullSector (rested 7) 0 0 (with_rest 1) → ⊥
rest_of_full full = let one = rest_is in elim (only_64 7 (with_rest 1) full.rest) [ inl none ↦ omega (arith, none, one) | inr same ↦ omega (arith, same, one) ]

rest_of_kept : AreKept (rested 7) (rested 1).blocks → ⊥
rest_of_kept kept = other_rest kept.rest

-- a full sector
full_sector : (image : Image) (slab n : ℕ) → ((point : ℕ) → commit_at image.geometry image.blocks slab n < point → IsInSector image slab n point → ⊥)
    → ((at : DataPlace) → IsDataPlace image.geometry at → at.slab ≡ slab → sector_of_offset image.geometry at.offset ≡ n
    → Stores image at (Ok (number_at 1 (8 + at.offset % counters_per_sector image.geometry) (reference_sector_at image.geometry image.blocks slab n))))
    → IsFullSector image slab n (reference_sector_at image.geometry image.blocks slab n)
full_sector image slab n none counts = record {
  commit = record { reached = inl refl; most = λ point above is. absurd (none point above is) };
  counters = counts;
  rest = λ offset behind sector_is. inr refl;
}

-- a sector as it was, and one with another counter
old_sector : IsOldSector (counted_as 2) 0 0 (sector 0 (0 ∷ 4 ∷ 0 ∷ 0 ∷ 0 ∷ 0 ∷ 0 ∷ 0 ∷ 1 ∷ 2 ∷ []))
old_sector = refl

not_old_sector : IsOldSector (counted_as 2) 0 0 (sector 0 (0 ∷ 4 ∷ 0 ∷ 0 ∷ 0 ∷ 0 ∷ 0 ∷ 0 ∷ 1 ∷ 3 ∷ [])) → ⊥
not_old_sector same = let last : 3 ≡ 2 = ap (λ (bytes : List ℕ). get_or bytes 9 0) same in omega (arith, last)

-- Other blocks. In a sound image a block of the journal is no page and no counters, so it is kept.
module _ (blocks now : Blocks) (sound : IsSound blocks) (some : 1 ≤ sound.head.geometry.journal) where
  journal_is_other : (IsPageBlock (image_in blocks sound) (block_of sound.head.geometry (JournalSlot 0)) → ⊥) × (IsCountersBlock (image_in blocks sound) (block_of sound.head.geometry (JournalSlot 0)) → ⊥)
  journal_is_other = (
    no_page_there (image_in blocks sound) sound.pages sound.last (known blocks blocks sound) (JournalSlot 0) some tt,
    λ (slab, i, is, same). let one = apart sound.head.geometry (ReferenceBlock slab i) (JournalSlot 0) is some same in absurd (cc one),
  )

  pub other_changed : (block_at now (block_of sound.head.geometry (JournalSlot 0)) ≡ block_at blocks (block_of sound.head.geometry (JournalSlot 0)) → ⊥)
      → AreOthersKept (image_in blocks sound) now → ⊥
  other_changed differs kept =
      let wide = room blocks blocks sound in
      let within = inside sound.head.geometry (JournalSlot 0) some in
      differs (kept (block_of sound.head.geometry (JournalSlot 0)) (omega arith) (omega (arith, within, wide)) (looked_place sound.head.geometry (JournalSlot 0) some tt) journal_is_other.0 journal_is_other.1)

  others_of_underway : (block_at now (block_of sound.head.geometry (JournalSlot 0)) ≡ block_at blocks (block_of sound.head.geometry (JournalSlot 0)) → ⊥)
      → AreUnderway (image_in blocks sound) now → ⊥
  others_of_underway differs underway = other_changed differs underway.others

  others_of_full : (block_at now (block_of sound.head.geometry (JournalSlot 0)) ≡ block_at blocks (block_of sound.head.geometry (JournalSlot 0)) → ⊥)
      → AreFull (image_in blocks sound) now → ⊥
  others_of_full differs full = other_changed differs full.others

  others_of_kept : (block_at now (block_of sound.head.geometry (JournalSlot 0)) ≡ block_at blocks (block_of sound.head.geometry (JournalSlot 0)) → ⊥)
      → AreKept (image_in blocks sound) now → ⊥
  others_of_kept differs kept = other_changed differs kept.others

  others_of_recovered : (last : ℕ) → (block_at now (block_of sound.head.geometry (JournalSlot 0)) ≡ block_at blocks (block_of sound.head.geometry (JournalSlot 0)) → ⊥)
      → IsRecovered (image_in blocks sound) last now → ⊥
  others_of_recovered last differs is = other_changed differs is.kept.others

-- a block of the index isn't looked at: it may be another one
index_aside : (image : Image) (now : Blocks) → ((b : ℕ) → (b < first_index_of image.geometry) ⊎ (first_slab_of image.geometry ≤ b) → block_at now b ≡ block_at image.blocks b)
    → AreOthersKept image now
index_aside image now same b behind below looked no_page no_counters = same b (looked_where image.geometry b looked)

-- and so is a block behind the image
module _ (blocks now : Blocks) (sound : IsSound blocks) (b : ℕ) (behind : needed_blocks sound.head.geometry ≤ b) (below : b < length blocks) where
  no_page_behind : IsPageBlock (image_in blocks sound) b → ⊥
  no_page_behind (page, at, there, same) = elim (page_stands (image_in blocks sound) sound.pages sound.last (known blocks blocks sound) page at there) [
    | inl root ↦ let within = inside sound.head.geometry (Root page.tree) root.1 in let is = root.2 in omega (arith, within, is, same, behind)
    | inr stands ↦ let within = data_block_inside sound.head.geometry at.0 stands in omega (arith, within, same, behind)
  ]

  no_counters_behind : IsCountersBlock (image_in blocks sound) b → ⊥
  no_counters_behind (slab, i, is, same) = let within = inside sound.head.geometry (ReferenceBlock slab i) is in omega (arith, within, same, behind)

  behind_changed : (block_at now b ≡ block_at blocks b → ⊥) → AreKept (image_in blocks sound) now → ⊥
  behind_changed differs kept =
      differs (kept.others b (omega (arith, behind)) below (looked_high sound.head.geometry b (omega (arith, behind))) no_page_behind no_counters_behind)

-- An image whose pages can be read is underway by itself.
underway_by_itself : (image : Image) → ((which : PageId) (at : Pbn) → page_at image which ≡ Some at → IsGoodPage image which at) → AreUnderway image image.blocks
underway_by_itself image good = record {
  size = refl;
  head = refl;
  pages = λ which at there. part_page image which at (good which at there);
  counters = λ slab n is below. inl refl;
  others = others_kept image;
}

-- size: a block less
underway_shorter : AreUnderway (mapped []) [] → ⊥
underway_shorter underway = let size = underway.size in absurd (cc size)

full_shorter : AreFull (mapped []) [] → ⊥
full_shorter full = let size = full.size in absurd (cc size)

-- head: another byte in the superblock's sector
abbrev of_one_block : ℕ → Image
of_one_block byte = record { geometry = small; blocks = (byte ∷ []) ∷ []; window = [] }

other_head : AreUnderway (of_one_block 1) (of_one_block 2).blocks → ⊥
other_head underway = let head : 2 ∷ [] ≡ 1 ∷ [] = underway.head in absurd (cc head)

-- pages: zeros in place of a root
underway_without_root : AreUnderway (with_root zero_block []) (with_root zero_block []).blocks → ⊥
underway_without_root underway = part_unheaded (underway.pages root (pbn 9) refl)

full_without_root : AreFull (with_root zero_block []) (with_root zero_block []).blocks → ⊥
full_without_root full = full_unheaded (full.pages root (pbn 9) refl)

-- counters: a sector that is neither as it was nor has the stored counts
neither : AreUnderway (counted_as 2) (counted_as 3).blocks → ⊥
neither underway = elim (underway.counters 0 0 (omega arith) (omega arith)) [
  | inl same ↦ not_old_sector same
  | inr full ↦ other_counter full
]

not_full : AreFull (counted_as 2) (counted_as 3).blocks → ⊥
not_full full = other_counter (full.counters 0 0 (omega arith) (omega arith))

-- past: the 64 counters of the slab stand in sector 0; sector 1 has a byte that it hadn't
past_changed : AreFull (counted_as 2) (replicate 149 [] ++ (replicate 512 0 ++ 1 ∷ []) ∷ []) → ⊥
past_changed full = let same : 1 ∷ [] ≡ [] = full.past 0 1 (omega arith) (omega arith) (omega arith) in absurd (cc same)
