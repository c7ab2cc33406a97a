-- What was read of slabs, in the cases of the guards.
use Rattle.std.proofs.Common.{ℕ, ◌≡◌, ◌+◌, ◌*◌, ◌/◌, ◌-◌, ◌<◌, ◌≤◌, ◌^◌, List, ◌++◌, [], ◌∷◌, length, get_or, reverse, Contains, Result, Ok, Err, IfOk, OnOk, refl, ◌∙◌, ap, inl, inr, arith, lit≤, append_assoc}
use Rattle.std.proofs.lemmas.List.Sorted.{Contains-permutation, IsPermutation-reverse}
use Rattle.blk_base.specs.Counters.{sector_of_offset, sectors_per_slab}
use Rattle.blk_base.specs.Forms.{place_in}
use Rattle.blk_base.specs.Regions.{references_of}
use Rattle.blk_base.specs.Sectors.{sector, zero_block}
use Rattle.blk_base.specs.declared.geometry.Geometry.{Geometry}
use Rattle.blk_base.specs.declared.journal_entry.CommittedEntry.{CommittedEntry}
use Rattle.blk_base.specs.declared.journal_entry.Update.{Update}
use Rattle.blk_base.specs.declared.layout.DataPlace.{DataPlace}
use Rattle.byte_fields.specs.Fields.{le, number_at}
use Rattle.byte_fields.proofs.FieldLaws.{number_behind}
use Rattle.count_updates.specs.FoundLists.{FoundLists}
use Rattle.count_updates.specs.Listed.{Lists}
use Rattle.disk_model.specs.Log.{Blocks}
use Rattle.disk_model.specs.Seen.{Seen}
use Rattle.disk_model.specs.Trust.{Trust}
use Rattle.image_model.specs.Counts.{Updates, block_of_data, commit_at}
use Rattle.image_model.specs.Maps.{image_with}
use Rattle.image_model.specs.Sound.{IsDataPlace}
use Rattle.image_model.specs.declared.fault.ImageFault.{ImageFault}
use Rattle.replay_counts.specs.Recovered.{AreCountsRead, AreSlabsRead, HasCounts, Holds, no_points}
use Rattle.replay_counts.specs.declared.forms.RecoveredCounts.{RecoveredCounts}
use Rattle.replay_counts.specs.declared.forms.SectorPoints.{SectorPoints}
use Rattle.sector_records.proofs.SectorLaws.{sector-number}
use Rattle.slab_codec.specs.BlockBytes.{entry_bytes, head_bytes}
use Rattle.slab_codec.specs.Grammar.{IsSlabSector}
use Rattle.slab_codec.specs.Lengths.{length-head}
use Rattle.slab_codec.specs.declared.forms.SlabEntry.{SlabEntry}
use Rattle.slab_reading.specs.Found.{IsFound}
use Rattle.slab_reading.specs.Reads.{SlabsRead, read_of}
use Rattle.slab_reading.specs.Slabs.{SlabKeeps}

-- A valid sector begins with the nonce.

nonce_read : (nonce sequence slab number count : ℕ) → nonce < 2 ^ 64 → number_at 8 0 (head_bytes nonce sequence slab number count) ≡ nonce
unfolding head_bytes
nonce_read nonce sequence slab number count fits =
    number_behind 8 nonce 0 [] (le 8 sequence ++ (le 4 slab ++ (le 2 number ++ (le 2 count ++ ((86 ∷ 83 ∷ 83 ∷ 49 ∷ []) ++ le 4 0)))))
    (head_bytes nonce sequence slab number count) (simp append_assoc) refl (omega (arith, fits))

nonce_of : (nonce slab slab_blocks number : ℕ) (bytes : List ℕ) (s : ℕ) (es : List SlabEntry) → nonce < 2 ^ 64 → IsSlabSector nonce slab slab_blocks number bytes s es
    → number_at 8 0 bytes ≡ nonce
nonce_of nonce slab slab_blocks number bytes s es fits is =
    ap (number_at 8 0) is.spelled ∙ sector-number entry_bytes (head_bytes nonce s slab number (length es)) es 8 0 (length-head nonce s slab number (length es)) (lit≤ tt)
    ∙ nonce_read nonce s slab number (length es) fits

module _ (g : Geometry) (reads : List Blocks) (first : List Update) (found : FoundLists) (is : IsFound g reads first found) (all : length reads ≡ g.slabs) where
  -- no sector has it, so no update was added
  pub none_added : g.nonce < 2 ^ 64
      → ((slab slot number : ℕ) → slab < g.slabs → number_at 8 0 (sector number (get_or (read_of reads slab) (references_of g + slot) zero_block)) ≡ g.nonce → ⊥)
      → (at point : ℕ) → Lists found.updates at point → Lists first at point
  none_added fits none at point listed = elim ((is.updates_are at point).0 listed) [
    | inl before ↦ before
    | inr (slab, below, entry, of, (slot, within, (number, eight, keeps))) ↦
        absurd (none slab slot number (omega (arith, below, all)) (nonce_of g.nonce slab g.slab_blocks number _ keeps.sequence keeps.entries fits keeps.valid))
  ]

  -- an entry of a slab is an update of its block
  pub listed_there : (slab : ℕ) (entry : SlabEntry) → slab < g.slabs → SlabKeeps g slab (read_of reads slab) g.slab_journal entry
      → Lists found.updates (block_of_data g (place_in slab entry.offset)).0 entry.point.0
  listed_there slab entry below keeps =
      (is.updates_are (block_of_data g (place_in slab entry.offset)).0 entry.point.0).1 (inr (slab, omega (arith, below, all), entry, (refl, refl), keeps))

-- The same of what a device gave.

abbrev pub NothingAdded : Geometry → List Blocks → List Update → List Update → Type 0
NothingAdded g reads first updates =
    ((slab slot number : ℕ) → slab < g.slabs → number_at 8 0 (sector number (get_or (read_of reads slab) (references_of g + slot) zero_block)) ≡ g.nonce → ⊥)
    → (at point : ℕ) → Lists updates at point → Lists first at point

abbrev pub AllThere : Geometry → List Blocks → List Update → Type 0
AllThere g reads updates = (slab : ℕ) (entry : SlabEntry) → slab < g.slabs → SlabKeeps g slab (read_of reads slab) g.slab_journal entry
    → Lists updates (block_of_data g (place_in slab entry.offset)).0 entry.point.0

module _ (trust : Trust) (g : Geometry) (before now : Seen) (first : List Update) (found : FoundLists) where
  abbrev pub WereFound : Type 0
  WereFound = (reads : List Blocks) × (length reads ≡ g.slabs) × SlabsRead trust g before now reads × IsFound g reads first found

  nothing_of : g.nonce < 2 ^ 64 → WereFound → (reads : List Blocks) × SlabsRead trust g before now reads × NothingAdded g reads first found.updates
  nothing_of fits (reads, all, read, is) = (reads, read, none_added g reads first found is all fits)

  all_of : WereFound → (reads : List Blocks) × SlabsRead trust g before now reads × AllThere g reads found.updates
  all_of (reads, all, read, is) = (reads, read, listed_there g reads first found is all)

  pub nothing_added : (result : Result (Unit {0}) ImageFault) → g.nonce < 2 ^ 64 → OnOk result WereFound
      → OnOk result ((reads : List Blocks) × SlabsRead trust g before now reads × NothingAdded g reads first found.updates)
  nothing_added (Ok _) fits is = nothing_of fits is
  nothing_added (Err _) fits is = tt

  pub all_there : (result : Result (Unit {0}) ImageFault) → OnOk result WereFound
      → OnOk result ((reads : List Blocks) × SlabsRead trust g before now reads × AllThere g reads found.updates)
  all_there (Ok _) is = all_of is
  all_there (Err _) is = tt

-- An update of the window above the commit point is applied.

sector_there : (offset size : ℕ) → offset < size → offset / 504 < (size + 504 - 1) / 504
sector_there offset size less = omega (arith, less)

entry_applied : (g : Geometry) (blocks : Blocks) (window : List CommittedEntry) (counts : List ℕ) (sectors : List SectorPoints)
    → HasCounts (image_with g blocks (reverse window)) counts sectors → (committed : CommittedEntry) (place : DataPlace) (point : ℕ) → Contains window committed
    → IsDataPlace g place → Updates committed (block_of_data g place) point → commit_at g blocks place.slab (sector_of_offset g place.offset) < point
    → point ≤ (get_or sectors (place.slab * sectors_per_slab g + sector_of_offset g place.offset) no_points).applied.0
entry_applied g blocks window counts sectors has committed place point listed inside updates above =
    let there = Contains-permutation window (reverse window) committed (IsPermutation-reverse window) listed in
    (has.points place.slab (sector_of_offset g place.offset) inside.0 (sector_there place.offset g.slab_blocks inside.1)).applied.most point above
    (place.offset, inside.1, refl, inr (committed, there, updates))

abbrev pub AreApplied : Geometry → List CommittedEntry → List Blocks → List SectorPoints → Type 0
AreApplied g window reads sectors = (blocks : Blocks) (committed : CommittedEntry) (place : DataPlace) (point : ℕ) → Holds g blocks reads → Contains window committed
    → IsDataPlace g place → Updates committed (block_of_data g place) point → commit_at g blocks place.slab (sector_of_offset g place.offset) < point
    → point ≤ (get_or sectors (place.slab * sectors_per_slab g + sector_of_offset g place.offset) no_points).applied.0

window_applied : (trust : Trust) (g : Geometry) (window : List CommittedEntry) (before now : Seen) (counts : List ℕ) (sectors : List SectorPoints)
    → AreCountsRead trust g (reverse window) before now counts sectors
    → (reads : List Blocks) × AreSlabsRead trust g before now reads × AreApplied g window reads sectors
window_applied trust g window before now counts sectors (reads, are, says) =
    (reads, are, λ blocks committed place point holds. entry_applied g blocks window counts sectors (says blocks holds) committed place point)

pub all_applied : (trust : Trust) (g : Geometry) (window : List CommittedEntry) (before now : Seen) (result : Result RecoveredCounts ImageFault)
    → IfOk result (λ found. AreCountsRead trust g (reverse window) before now found.counts.items found.sectors.items)
    → IfOk result (λ found. (reads : List Blocks) × AreSlabsRead trust g before now reads × AreApplied g window reads found.sectors.items)
all_applied trust g window before now (Ok found) are = window_applied trust g window before now found.counts.items found.sectors.items are
all_applied trust g window before now (Err why) are = tt
