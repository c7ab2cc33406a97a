-- The counts of an image, and what is read for them: for each clause that `Rows` hasn't, a small case that it accepts, and one
-- that breaks it alone and is refused.
use Rattle.std.proofs.Common.{ℕ, ◌≡◌, Bool, true, false, List, [], ◌∷◌, length, Ok, refl, ap, subst, inl, inr, arith}
use Rattle.blk_base.specs.Sectors.{zero_block}
use Rattle.blk_base.specs.declared.geometry.Geometry.{Geometry}
use Rattle.blk_base.specs.declared.geometry.Super.{Super as Superblock}
use Rattle.blk_base.specs.declared.journal_entry.CommittedEntry.{CommittedEntry}
use Rattle.blk_base.specs.declared.point.Point.{Point}
use Rattle.blk_base.specs.Forms.{pbn}
use Rattle.byte_fields.specs.Fields.{number_at}
use Rattle.count_updates.proofs.AppliedLaws.{none_yet}
use Rattle.count_updates.specs.FoundLists.{found_lists}
use Rattle.disk_model.specs.declared.call.Call.TheVariants.{Flush}
use Rattle.disk_model.specs.Log.{Blocks}
use Rattle.disk_model.specs.Seen.{Seen}
use Rattle.disk_model.specs.Trust.{Trust, trust_of}
use Rattle.image_layout.specs.declared.fault.SuperFault.TheVariants.{NotAnImage}
use Rattle.image_model.proofs.CountLaws.{one_stored}
use Rattle.image_model.proofs.CountExample.{kept_is, updated}
use Rattle.image_model.proofs.Example.{small}
use Rattle.image_model.specs.Counts.{Stores, commit_at}
use Rattle.image_model.specs.Maps.{Image, image_with}
use Rattle.image_model.specs.declared.fault.ImageFault.TheVariants.{Super, Window, Counter, Counts, Device, Unclean, Memory}
use Rattle.image_model.proofs.ReadExample.{seen, failed, next_failed, zeros_given, zero_journal, none_there}
use Rattle.journal_window.specs.Reads.{IsWindowRead}
use Rattle.journal_window.specs.States.{WindowState}
use Rattle.replay_counts.specs.Recovered.{AreCountsOf, AreCountsRead, ArePointsOf, AreSlabsRead, CountingFails, CountsFail, HasCounts, IsCountedFrom, IsInSector}
use Rattle.replay_counts.specs.declared.forms.SectorPoints.{SectorPoints}
use Rattle.slab_reading.specs.Reads.{SlabFailed}

abbrev pair : ℕ → ℕ → SectorPoints
pair commit applied = record { commit = record { 0 = commit }; applied = record { 0 = applied } }

-- The points of a sector without updates: twice its commit point.
points_yet : (image : Image) (slab n commit : ℕ) → commit_at image.geometry image.blocks slab n ≡ commit → ((point : ℕ) → IsInSector image slab n point → ⊥)
    → ArePointsOf image slab n (pair commit commit)
points_yet image slab n commit is none = record {
  commit = let same = is in omega (arith, same);
  applied = record { reached = inl (let same = is in omega (arith, same)); most = λ point above has. absurd (none point has) };
}

-- An image without slabs has no counts.
abbrev slabless : Geometry
slabless = record small { slabs = 0 }

no_counts : (blocks : Blocks) (window : List CommittedEntry) → HasCounts (image_with slabless blocks window) [] []
no_counts blocks window = record {
  blocks = refl;
  stored = λ place inside. absurd (let slab = inside.0 in omega (arith, slab));
  sizes = refl;
  points = λ slab n inside below. absurd (omega (arith, inside));
}

-- stored: the block of offset 1 has another stored count
other_count : (rest : List ℕ) (sectors : List SectorPoints) → Stores updated (record { slab = 0; offset = 1 }) (Ok 2) → HasCounts updated (0 ∷ 3 ∷ rest) sectors → ⊥
other_count rest sectors stores has =
    let three : Stores updated (record { slab = 0; offset = 1 }) (Ok 3) = has.stored (record { slab = 0; offset = 1 }) (omega arith, omega arith) in
    let same = one_stored updated (record { slab = 0; offset = 1 }) (Ok 2) (Ok 3) stores three in absurd (cc same)

-- points: the update at 1536 was applied to its sector
pub no_commit_there : commit_at small updated.blocks 0 0 ≡ 0
unfolding zero_block number_at
no_commit_there = refl

not_applied : (counts : List ℕ) → HasCounts updated counts (pair 0 0 ∷ []) → ⊥
not_applied counts has =
    let none = no_commit_there in
    let points : ArePointsOf updated 0 0 (pair 0 0) = has.points 0 0 (omega arith) (omega arith) in
    let most = points.applied.most 1536 (omega (arith, none)) (1, omega arith, refl, inl kept_is) in omega (arith, most)

-- What is read: by a device that doesn't tell which calls were made.
no_slab_read : (trust : Trust) → AreSlabsRead trust slabless seen seen []
no_slab_read trust = record { count = refl; read = refl }

-- count, read
slab_left_out : (trust : Trust) → AreSlabsRead trust small seen seen [] → ⊥
slab_left_out trust are = let count = are.count in omega (arith, count)

flushed_too : (trust : Trust) → AreSlabsRead trust slabless seen (record seen { log = Flush true ∷ [] }) [] → ⊥
flushed_too trust are = let same = ap (λ (s : Seen). length s.log) are.read in omega (arith, same)

-- Each image that has what was read has these counts.
no_counts_read : (trust : Trust) (window : List CommittedEntry) → AreCountsRead trust slabless window seen seen [] []
no_counts_read trust window = ([], no_slab_read trust, λ blocks holds. no_counts blocks window)

a_count_read : (trust : Trust) (window : List CommittedEntry) (before now : Seen) → AreCountsRead trust slabless window before now (5 ∷ []) [] → ⊥
a_count_read trust window before now (reads, are, has) =
    let size = (has [] (λ slab i below inside. absurd (omega (arith, below)))).blocks in omega (arith, size)

-- Why there are none. Counter: a count of each such image leaves its range; without slabs there is none
no_counter : (trust : Trust) (window : List CommittedEntry) (before now : Seen) → CountsFail trust slabless window before now (Counter (pbn 86) (record { 0 = 512 })) → ⊥
no_counter trust window before now (reads, are, fault) =
    let inside = (fault [] (λ slab i below within. absurd (omega (arith, below)))).inside.0 in omega (arith, inside)

-- Device: a read failed
fails_device : (honest : Bool) (window : List CommittedEntry) → CountsFail (trust_of false honest) small window seen failed Device
fails_device honest window = ([], omega arith, seen, refl, ([], omega arith, next_failed honest 149))

fails_for_nothing : (trust : Trust) (window : List CommittedEntry) → CountsFail trust small window seen seen Device → ⊥
fails_for_nothing trust window ([], few, middle, same, fails) =
    let is = subst (λ (m : Seen). SlabFailed trust small 0 m seen) same fails in let rose = is.2.rose in omega (arith, rose)
fails_for_nothing trust window (read ∷ reads, few, middle, older, fails) = omega (arith, few)

-- Memory at any time, and no other
module _ (trust : Trust) (g : Geometry) (window : List CommittedEntry) (before now : Seen) where
  fails_memory : CountsFail trust g window before now Memory
  fails_memory = tt

  fails_otherwise : (CountsFail trust g window before now (Super NotAnImage) → ⊥) × (CountsFail trust g window before now (Window 7) → ⊥)
      × (CountsFail trust g window before now (Counts (pbn 86) 2 1) → ⊥) × (CountsFail trust g window before now Unclean → ⊥)
  fails_otherwise = ((λ none. none), (λ none. none), (λ none. none), (λ none. none))

-- Counted from lists: of no blocks and no sectors nothing.
counted_from_none : IsCountedFrom slabless (found_lists [] [] []) [] []
counted_from_none = record {
  counted = record { size = refl; each = λ place inside. absurd (let slab = inside.0 in omega (arith, slab)) };
  applied = [];
  are_applied = none_yet slabless [];
  paired = record { size = refl; each = λ n below. absurd (omega (arith, below)) };
}

-- counted, are_applied, paired
a_count_from_none : IsCountedFrom slabless (found_lists [] [] []) (5 ∷ []) [] → ⊥
a_count_from_none is = let size = is.counted.size in omega (arith, size)

another_applied : (is : IsCountedFrom slabless (found_lists [] [] []) [] []) → is.applied ≡ record { 0 = 5 } ∷ [] → ⊥
another_applied is one = let size = is.are_applied.size in let more = ap (λ (ps : List Point). length ps) one in omega (arith, size, more)

a_sector_from_none : IsCountedFrom slabless (found_lists [] [] []) [] (pair 0 0 ∷ []) → ⊥
a_sector_from_none is = let size = is.paired.size in omega (arith, size)

-- With the window before them: a journal of eight slots with zeros has no entries.
abbrev head : Superblock
head = record { geometry = slabless; clean = false; start = 1 }

abbrev pub no_entries : WindowState
no_entries = record { last = 0; entries = [] }

window_read : (honest : Bool) → IsWindowRead (trust_of false honest) seen seen head no_entries
window_read honest = (
  zero_journal,
  record {
    count = refl;
    read = record {
      told = λ told. absurd (cc told);
      stays = record { opening = refl; size = refl };
      later = record { faults = omega arith; unkept = omega arith };
      given = zeros_given honest 1 8;
      logged = λ told. absurd (cc told);
    };
  },
  record {
    sequences = λ unclean. omega arith;
    is_window = record {
      is_last = record { there = inl refl; none = λ s h from later below there. none_there s h there };
      first = 1;
      is_first = inl (refl, refl);
      blocks = [];
      count = refl;
      replayable = tt;
      entries = refl;
    };
  },
)

counts_of : (honest : Bool) → AreCountsOf (trust_of false honest) head seen seen [] []
counts_of honest = (seen, no_entries, window_read honest, no_counts_read (trust_of false honest) [])

a_count_of : (trust : Trust) (before now : Seen) → AreCountsOf trust head before now (5 ∷ []) [] → ⊥
a_count_of trust before now (middle, window, read, counts) = a_count_read trust window.entries middle now counts

-- Why there are none: the journal isn't read; or it is, and then as above.
journal_failed : (honest : Bool) → CountingFails (trust_of false honest) head seen failed Device
journal_failed honest = inl ([], omega arith, next_failed honest 1)

slabs_failed : (honest : Bool) → CountingFails (trust_of false honest) head seen seen Memory
slabs_failed honest = inr (seen, no_entries, window_read honest, tt)

counting_otherwise : (trust : Trust) (before now : Seen) → CountingFails trust head before now Unclean → ⊥
counting_otherwise trust before now fails = elim fails [ inl none ↦ none | inr behind ↦ behind.3 ]

counting_no_counter : (trust : Trust) (before now : Seen) → CountingFails trust head before now (Counter (pbn 86) (record { 0 = 512 })) → ⊥
counting_no_counter trust before now fails = elim fails [ inl none ↦ none | inr behind ↦ no_counter trust behind.1.entries behind.0 now behind.3 ]
