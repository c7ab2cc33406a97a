-- Audits of a whole small image, as a device gives it that doesn't tell which calls were made: its superblock, a journal of
-- zeros, roots without mappings, and a slab of zeros.
use Rattle.std.proofs.Common.{ℕ, zero, suc, ◌≡◌, ◌+◌, ◌*◌, ◌<◌, ◌≤◌, Bool, true, false, IsTrue, List, [], ◌∷◌, length, replicate, get_or, Ok, refl, sym, ◌∙◌, ap, subst, inl, inr, arith}
use Rattle.std.proofs.lemmas.Bool.{cases_eq}
use Rattle.std.proofs.lemmas.List.{get_or-replicate, length-replicate}
use Rattle.std.proofs.lemmas.List.Elements.{All-replicate}
use Rattle.blk_base.proofs.SectorLaws.{zero_size}
use Rattle.blk_base.specs.Counters.{sectors_per_slab}
use Rattle.blk_base.specs.Regions.{ReferenceBlock, Root, SlabJournalSlot, block_of, references_of}
use Rattle.blk_base.specs.Sectors.{zero_block}
use Rattle.blk_base.specs.declared.place.Mapping.TheVariants.{Unmapped}
use Rattle.blk_base.specs.Forms.{pbn}
use Rattle.count_updates.specs.Numbers.{block_number}
use Rattle.disk_model.specs.Log.{Blocks, block_at}
use Rattle.disk_model.specs.Seen.{Seen}
use Rattle.disk_model.specs.Trust.{Trust, trust_of}
use Rattle.image_model.proofs.EmptyLaws.{blank_slot, no_commits, no_updates, none_kept_in_zeros, nothing_there, pages_good, root_says, the_image}
use Rattle.image_model.proofs.Example.{small, small_is}
use Rattle.image_model.specs.Counts.{Stores}
use Rattle.image_model.specs.Empty.{HasNothing, empty_root, root_head}
use Rattle.image_model.specs.Maps.{ArePagesGood}
use Rattle.image_model.specs.declared.fault.ImageFault.TheVariants.{Device, Memory, Unclean}
use Rattle.image_model.proofs.ReadExample.{seen, next_failed, were_read, failed}
use Rattle.page_codec.proofs.SpellingLaws.{page_size}
use Rattle.replay_counts.specs.Recovered.{AreSlabsRead, HasCounts, Holds, no_points}
use Rattle.replay_counts.specs.declared.forms.SectorPoints.{SectorPoints}
use Rattle.replay_counts.proofs.ReadRows.{no_entries}
use Rattle.replay_map.proofs.ReplayRows.{map_of_nothing}
use Rattle.replay_map.specs.Reads.{BlocksRead, Reading, Shows}
use Rattle.slab_reading.specs.Slabs.{first_of_slab}
use Rattle.slab_reading.proofs.ReadRows.{zero_slab as five}
use Rattle.audit.proofs.AcceptedRows.{its_report}
use Rattle.audit.proofs.ReadExample.{head_is_read, head_of, window_is_read}
use Rattle.audit.specs.Audits.{AreBothRead, AuditFails, IsAudited, IsOpenedTo}
use Rattle.audit.specs.Reads.{AreContents}
use Rattle.audit.specs.declared.forms.Contents.{Contents}
use Rattle.audit.specs.declared.forms.Report.{Report}

pub none_told : {A : Type 0} → IsTrue false → A
none_told told = absurd (cc told)

-- the roots of the first trees, one after the other
pub root_readings : ℕ → List Reading
root_readings zero = []
root_readings (suc n) = record { at = pbn (block_of small (Root n)); bytes = empty_root small n } ∷ root_readings n

pub roots_read : (honest : Bool) (n : ℕ) → n ≤ 60 → BlocksRead (trust_of false honest) small seen seen (root_readings n)
unfolding root_readings
roots_read honest zero within = refl
roots_read honest (suc n) within = (
  seen,
  roots_read honest n (omega (arith, within)),
  were_read honest (block_of small (Root n)) (empty_root small n ∷ []) (page_size (root_head small n) (replicate 812 Unmapped) (length-replicate 812 Unmapped), none_told, tt),
  omega (arith, within),
  inr (n, omega (arith, within), refl),
)

pub roots_shown : (blocks : Blocks) (n : ℕ) → Shows blocks (root_readings n) → (tree : ℕ) → tree < n → block_at blocks (block_of small (Root tree)) ≡ empty_root small tree
unfolding root_readings
roots_shown blocks zero shown tree below = absurd (omega (arith, below))
roots_shown blocks (suc n) shown tree below = elim (cases_eq tree n) [
  | inl same ↦ rw same shown.0
  | inr other ↦ roots_shown blocks n shown.1 tree (omega (arith, below, other))
]

-- the slab: a block of counters and four of its journal
pub slab_read : (honest : Bool) → AreSlabsRead (trust_of false honest) small seen seen (five ∷ [])
slab_read honest = record {
  count = refl;
  read = (
    seen,
    refl,
    record {
      count = refl;
      reads = were_read honest (first_of_slab small 0) five (zero_size, none_told, (zero_size, none_told, (zero_size, none_told, (zero_size, none_told, (zero_size, none_told, tt)))));
    },
  );
}

abbrev both_read : (honest : Bool) → AreBothRead (trust_of false honest) (head_of true) seen seen (root_readings 60) (five ∷ [])
both_read honest = record { middle = seen; pages_read = roots_read honest 60 (omega arith); slabs_read = slab_read honest }

-- each image with that slab has no counters there, and no updates
module _ (blocks : Blocks) (holds : Holds small blocks (five ∷ [])) where
  zeros_are : (slab i b : ℕ) → slab < 1 → i < 5 → b ≡ 149 + i → block_at blocks b ≡ zero_block
  zeros_are slab i b one below place =
      let first : slab ≡ 0 = omega (arith, one) in
      let here : block_at blocks (first_of_slab small 0 + i) ≡ block_at five i = holds 0 i (omega arith) below in
      ap (block_at blocks) place ∙ here ∙ get_or-replicate 5 i zero_block zero_block below

  pub counters_are : (slab i : ℕ) → slab < 1 → i < references_of small → block_at blocks (block_of small (ReferenceBlock slab i)) ≡ zero_block
  counters_are slab i one below = zeros_are slab i (block_of small (ReferenceBlock slab i)) one (omega (arith, below)) (omega (arith, one))

  pub journals_are : (slab slot : ℕ) → slab < 1 → slot < 4 → block_at blocks (block_of small (SlabJournalSlot slab slot)) ≡ zero_block
  journals_are slab slot one below = zeros_are slab (1 + slot) (block_of small (SlabJournalSlot slab slot)) one (omega (arith, below)) (omega (arith, one))

-- each image with all of these blocks has nothing
module _ (blocks : Blocks) (shown : Shows blocks (root_readings 60)) (holds : Holds small blocks (five ∷ [])) where
  roots_are : (tree : ℕ) → tree < 60 → block_at blocks (block_of small (Root tree)) ≡ empty_root small tree
  roots_are = roots_shown blocks 60 shown

  nothing : HasNothing (the_image small blocks)
  nothing = nothing_there small blocks (journals_are blocks holds) small_is (root_says small blocks roots_are) (counters_are blocks holds)

  good : ArePagesGood (the_image small blocks)
  good = pages_good small blocks small_is (root_says small blocks roots_are) (blank_slot small blocks roots_are)

  abbrev zeros : List ℕ
  zeros = replicate 64 0

  abbrev points : List SectorPoints
  points = replicate 1 no_points

  counts_of_nothing : HasCounts (the_image small blocks) zeros points
  counts_of_nothing = record {
    blocks = length-replicate {A = ℕ} 64 0;
    stored = λ place inside.
        let slab = inside.0 in
        let offset = inside.1 in
        subst (λ (count : ℕ). Stores (the_image small blocks) place (Ok count)) (sym (get_or-replicate 64 (block_number small place) 0 0 (omega (arith, slab, offset)))) (nothing.stored place inside);
    sizes = length-replicate {A = SectorPoints} 1 no_points;
    points = λ slab n one below.
        let none = no_commits small blocks (counters_are blocks holds) slab n one (omega (arith, below)) in
        let here : get_or points (slab * sectors_per_slab small + n) no_points ≡ no_points = get_or-replicate 1 (slab * sectors_per_slab small + n) no_points no_points (omega (arith, one, below)) in
        rw here record {
          commit = sym none;
          applied = record {
            reached = inl (sym none);
            most = λ point later is. absurd (no_updates small blocks (none_kept_in_zeros small blocks (journals_are blocks holds)) (record { slab = slab; offset = is.0 }) point (one, is.1) is.3);
          };
        };
  }

-- IsOpenedTo, IsAudited: the superblock of a closed session, and no window; and no block differs
pub opened_to : (honest : Bool) → IsOpenedTo (trust_of false honest) seen seen (head_of true) no_entries
opened_to honest = record { middle = seen; head_read = head_is_read honest true; window_read = window_is_read honest true }

audited : (honest : Bool) (report : Report) → report.differs.items ≡ [] → report.used ≡ 0 → report.total ≡ 64 → IsAudited (trust_of false honest) seen seen report
audited honest report none used total = (
  head_of true,
  no_entries,
  seen,
  opened_to honest,
  (root_readings 60, five ∷ [], both_read honest, λ blocks shown holds. its_report blocks (nothing blocks shown holds) (good blocks shown holds) report none used total),
)

-- a device without blocks has none
nothing_to_audit : (trust : Trust) (now : Seen) (report : Report) → ¬ IsAudited trust (record seen { size = 0 }) now report
nothing_to_audit trust now report (head, window, middle, opened, with_report) = let room = opened.head_read.is.room in omega (arith, room)

-- AreContents: of each such image the map has no link, no slot and no address, and each count is 0
contents_are : (honest : Bool) (contents : Contents) → contents.map.entries ≡ 0 → contents.map.links.items ≡ [] → contents.map.slots.items ≡ [] → contents.map.mapped.items ≡ []
    → contents.counts.counts.items ≡ replicate 64 0 → contents.counts.sectors.items ≡ replicate 1 no_points
    → AreContents (trust_of false honest) (head_of true) no_entries seen seen contents
contents_are honest contents entries links slots mapped counts sectors = record {
  entries = entries;
  blocks = ap length counts ∙ length-replicate {A = ℕ} 64 0;
  sectors = ap length sectors ∙ length-replicate {A = SectorPoints} 1 no_points;
  limit = rw counts (All-replicate (λ (count : ℕ). count ≤ 254) 64 0 (omega arith));
  shown = (
    root_readings 60,
    five ∷ [],
    both_read honest,
    λ blocks shown holds. (
      map_of_nothing small blocks small_is (roots_are blocks shown holds) contents.map links slots mapped,
      rw (counts, sectors) (counts_of_nothing blocks shown holds),
    ),
  );
}

-- shown: the slabs were read, and there is one
no_slab_shown : (trust : Trust) (contents : Contents) (are : AreContents trust (head_of true) no_entries seen seen contents) → are.shown.1 ≡ [] → ⊥
no_slab_shown trust contents are none = let count = are.shown.2.slabs_read.count in let size = ap length none in omega (arith, count, size)

-- AuditFails, behind a superblock: a block of the journal isn't read; there is no memory for it
window_not_read : (honest : Bool) → AuditFails (trust_of false honest) seen failed Device
window_not_read honest = inr (inl (head_of true, seen, head_is_read honest true, ([], omega arith, next_failed honest 1)))

no_memory_for_it : (honest : Bool) → AuditFails (trust_of false honest) seen seen Memory
no_memory_for_it honest = inr (inl (head_of true, seen, head_is_read honest true, tt))

-- behind a window: a page isn't read, or a block of the slab
page_not_read : (honest : Bool) → AuditFails (trust_of false honest) seen failed Device
page_not_read honest = inr (inr (head_of true, no_entries, seen, opened_to honest, inl ([], seen, pbn 9, refl, next_failed honest 9, inr (0, omega arith, refl))))

slab_not_read : (honest : Bool) → AuditFails (trust_of false honest) seen failed Device
slab_not_read honest = inr (inr (head_of true, no_entries, seen, opened_to honest, inr ([], seen, refl, ([], omega arith, seen, refl, ([], omega arith, next_failed honest 149)))))

-- that the image wasn't closed is no fault here; and no read failed where there is no block but the first one to read
never_unclean : (trust : Trust) (before now : Seen) → ¬ AuditFails trust before now Unclean
never_unclean trust before now (inl fails) = fails
never_unclean trust before now (inr (inl (head, middle, read, fails))) = fails
never_unclean trust before now (inr (inr (head, window, middle, opened, fails))) = fails

first_read_failed : (trust : Trust) → AuditFails trust (record seen { size = 0 }) seen Device → ⊥
first_read_failed trust (inl fails) = omega (arith, fails.rose)
first_read_failed trust (inr (inl (head, middle, read, fails))) = let room = read.is.room in omega (arith, room)
first_read_failed trust (inr (inr (head, window, middle, opened, fails))) = let room = opened.head_read.is.room in omega (arith, room)
