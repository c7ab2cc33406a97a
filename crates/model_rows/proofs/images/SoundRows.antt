-- Sound images: for each clause that speaks of a part, a part that it accepts and one that it refuses.
use Rattle.std.proofs.Common.{ℕ, ◌≡◌, ◌+◌, ◌-◌, ◌%◌, ◌<◌, ◌≤◌, ◌^◌, true, false, List, [], ◌∷◌, Ok, Err, length, get_or, refl, ap, inl, inr, arith}
use Rattle.std.proofs.Math.Nat.{mod-lt}
use Rattle.slab_codec.specs.Updates.{slab_entry as kept}
use Rattle.blk_base.specs.Sectors.{sector, zero_block}
use Rattle.blk_base.specs.declared.geometry.Super.{Super}
use Rattle.blk_base.specs.declared.journal_entry.Entry.{Entry}
use Rattle.blk_base.specs.declared.layout.DataPlace.{DataPlace}
use Rattle.blk_base.specs.declared.place.Mapping.TheVariants.{At}
use Rattle.byte_fields.specs.Fields.{number_at}
use Rattle.disk_model.specs.Log.{Blocks}
use Rattle.journal_codec.specs.Grammar.{IsSector}
use Rattle.journal_codec.specs.BlockBytes.{entries_in}
use Rattle.journal_codec.proofs.PrefixLaws.{written}
use Rattle.journal_codec.proofs.ReadLaws.{one_reading}
use Rattle.blk_base.specs.declared.journal_entry.CommittedEntry.{CommittedEntry}
use Rattle.blk_base.specs.Forms.{page, pbn}
use Rattle.blk_base.proofs.Example.{place}
use Rattle.image_layout.specs.Values.{journal_of}
use Rattle.image_model.specs.Counts.{HasMappings, Stores, block_of_data, commit_at, commit_of}
use Rattle.image_model.specs.Maps.{Image}
use Rattle.image_model.specs.Sound.{IsDataPlace, HasSequences, AreUnshared, IsOfItsTime, IsClosed, IsTrueOf}
use Rattle.image_model.proofs.CountExample.{journaled, kept_is}
use Rattle.model_rows.proofs.images.CountRows.{counted}
use Rattle.image_model.proofs.CountLaws.{none_in_nothing, one_number, one_stored}
use Rattle.image_model.proofs.Example.{small, one, block, holds as journal_holds, has_sector}
use Rattle.image_model.proofs.MapExample.{image as mapped_image, remap}
use Rattle.image_model.proofs.ZeroLaws.{no_commit, no_journal_sector, no_slab_sector, of_eight}

-- Places of data blocks, and their blocks.
place_is : IsDataPlace small (place 63)
place_is = (omega arith, omega arith)

place_past_slab : IsDataPlace small (place 64) → ⊥
place_past_slab is = let below = is.1 in omega (arith, below)

block_is : block_of_data small (place 63) ≡ pbn 148
block_is = refl

-- Sequences: recovery goes on two behind the last one; a clean image isn't recovered.
abbrev head : Super
head = record { geometry = small; clean = false; start = 1 }

sequences_left : HasSequences head (2 ^ 54 - 3)
sequences_left unclean = omega arith

sequences_used_up : HasSequences head (2 ^ 54 - 2) → ⊥
sequences_used_up has = let below = has refl in omega (arith, below)

sequences_of_clean : HasSequences (record head { clean = true }) (2 ^ 54 - 2)
sequences_of_clean unclean = absurd (cc unclean)

-- An address and a page on one block: address 5 is mapped to the leaf of tree 0.
shared : AreUnshared (mapped_image (remap 5 (At (pbn 85)) ∷ [])) → ⊥
unfolding number_at
shared unshared = unshared (pbn 85) 5 (page 0 0 0, omega arith, refl) refl

-- A block's count is true: it is stored, and as often something is mapped to the block; not once less, and not where it
-- is at fault.
true_count : (image : Image) (at : DataPlace) → Stores image at (Ok 2) → HasMappings image (block_of_data image.geometry at) 2 → IsTrueOf image at
true_count image at stores maps = (2, stores, maps)

untrue_count : (image : Image) (at : DataPlace) → Stores image at (Ok 2) → HasMappings image (block_of_data image.geometry at) 1 → IsTrueOf image at → ⊥
untrue_count image at stores maps is =
    let stored = one_stored image at (Ok 2) (Ok is.0) stores is.1 in
    let mapped = one_number image (block_of_data image.geometry at) 1 is.0 maps is.2 in
    let same : 2 ≡ is.0 = cc stored in
    omega (arith, same, mapped)

faulty_count : (image : Image) (at : DataPlace) → Stores image at (Err 1536) → IsTrueOf image at → ⊥
faulty_count image at stores is =
    let stored = one_stored image at (Err 1536) (Ok is.0) stores is.1 in
    cc stored

-- Nothing is from a later time than the last sequence, here 0: zeros are from no time.
zeros_are_timely : IsOfItsTime small [] 0
zeros_are_timely = record {
  commits = λ slab n inside below. let none : commit_at small [] slab n ≡ 0 = no_commit (n % 8) (mod-lt n (omega arith)) in omega (arith, none);
  updates = λ slab entry inside is. absurd (no_slab_sector 1 slab 64 is.number is.sequence is.entries is.inside.1 is.valid);
  sectors = λ slot number sequence oldest entries inside below is. absurd (no_journal_sector 1 number sequence oldest entries below is);
}

-- commits: the sector of block 86 has the commit point 1024, that of entry 0 of block 2
timely_commit : IsOfItsTime small counted.blocks 1 → ⊥
unfolding number_at
timely_commit timely = let below : 1024 < 1024 = timely.commits 0 0 (omega arith) (omega arith) in omega (arith, below)

-- updates: a slab's journal has one of block 3
timely_update : IsOfItsTime small journaled 2 → ⊥
timely_update timely = let below = timely.updates 0 (kept 1536 1) (omega arith) kept_is in omega (arith, below)

-- sectors: block 3 may be there as the one behind the last, which a stop may have torn; but no later one
abbrev written_blocks : Blocks
written_blocks = zero_block ∷ zero_block ∷ zero_block ∷ zero_block ∷ block 3 2 ∷ []

torn_is_timely : (slot number sequence oldest : ℕ) (entries : List Entry) → slot < 8 → number < 8
    → IsSector 1 number (sector number (get_or (journal_of small written_blocks) slot zero_block)) sequence oldest entries → sequence ≤ 2 + 1
torn_is_timely slot number sequence oldest entries inside below is =
    of_eight (λ k. IsSector 1 number (sector number (get_or (journal_of small written_blocks) k zero_block)) sequence oldest entries → sequence ≤ 2 + 1)
    (λ s. absurd (no_journal_sector 1 number sequence oldest entries below s)) (λ s. absurd (no_journal_sector 1 number sequence oldest entries below s))
    (λ s. absurd (no_journal_sector 1 number sequence oldest entries below s))
    (λ s. let same = (one_reading 1 number (sector number (block 3 2)) 3 2 sequence oldest (entries_in number one) entries
    (written 1 3 2 one number (journal_holds 3 2 (omega arith) (omega arith) (omega arith)) below) s).0 in omega (arith, same))
    (λ s. absurd (no_journal_sector 1 number sequence oldest entries below s)) (λ s. absurd (no_journal_sector 1 number sequence oldest entries below s))
    (λ s. absurd (no_journal_sector 1 number sequence oldest entries below s)) (λ s. absurd (no_journal_sector 1 number sequence oldest entries below s))
    slot inside is

there_3 : IsSector 1 0 (sector 0 (block 3 2)) 3 2 one
there_3 = has_sector 3 2 (omega arith) (omega arith) (omega arith)

timely_sector : IsOfItsTime small written_blocks 1 → ⊥
timely_sector timely = let within = timely.sectors 3 0 3 2 one (omega arith) (omega arith) there_3 in omega (arith, within)

-- A closed session leaves nothing in a journal.
abbrev image_with : Blocks → List CommittedEntry → Image
image_with blocks window = record { geometry = small; blocks = blocks; window = window }

closed_is : IsClosed (image_with [] []) 1 0
closed_is = record {
  next = refl;
  window = refl;
  updates = λ at point inside is. elim is [
    | inl in_slab ↦ absurd (no_slab_sector 1 at.slab 64 in_slab.number in_slab.sequence in_slab.entries in_slab.inside.1 in_slab.valid)
    | inr in_window ↦ absurd (none_in_nothing in_window.0 in_window.1)
  ];
  sectors = λ slot number sequence oldest entries inside below is. absurd (no_journal_sector 1 number sequence oldest entries below is);
}

-- next: a last sequence that isn't before the first one is that of a block that was left
closed_next : IsClosed (image_with [] []) 1 1 → ⊥
closed_next closed = omega (arith, closed.next)

-- window
closed_window : IsClosed (image_with [] (remap 5 (At (pbn 86)) ∷ [])) 1 0 → ⊥
closed_window closed = let size = ap length closed.window in omega (arith, size)

-- updates
no_commit_there : commit_of (image_with journaled []) (place 1) ≡ 0
unfolding zero_block number_at
no_commit_there = refl

closed_updates : IsClosed (image_with journaled []) 4 3 → ⊥
closed_updates closed =
    let within = closed.updates (place 1) 1536 (omega arith, omega arith) (inl kept_is) in
    let none = no_commit_there in omega (arith, within, none)

-- sectors: not even one behind the last
closed_sectors : IsClosed (image_with written_blocks []) 3 2 → ⊥
closed_sectors closed = let within = closed.sectors 3 0 3 2 one (omega arith) (omega arith) there_3 in omega (arith, within)
