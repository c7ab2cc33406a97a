-- Which blocks may be written.
use Rattle.std.proofs.Common.{ℕ, ◌≡◌, ◌⊎◌, ◌/◌, ◌%◌, ◌<◌, ◌≤◌, List, Contains, sym, subst, arith}
use Rattle.blk_base.specs.Counters.{sector_of_offset, sectors_per_slab}
use Rattle.blk_base.specs.Regions.{ReferenceBlock, SlabJournalSlot, block_of, references_of}
use Rattle.blk_base.specs.Sectors.{sector}
use Rattle.blk_base.specs.declared.geometry.Geometry.{Geometry}
use Rattle.blk_base.specs.declared.journal_entry.CommittedEntry.{CommittedEntry}
use Rattle.blk_base.proofs.RegionLaws.{apart}
use Rattle.byte_fields.specs.Fields.{number_at}
use Rattle.disk_model.specs.declared.call.Call.{Call}
use Rattle.disk_model.specs.Log.{Blocks, contents}
use Rattle.image_model.specs.Counts.{commit_at}
use Rattle.image_model.specs.Maps.{Image}
use Rattle.slab_codec.specs.declared.forms.SlabEntry.{SlabEntry}
use Rattle.recovery_laws.proofs.CountsKept.{sector_inside}
use Rattle.count_laws.specs.Counters.{HasUpdate, IsCounted, IsKnown, MayWrite, SurelyCounters, SurelyJournal, entry_at, points_at}
use Rattle.disk_model.proofs.ContentLaws.{both_of, some_content}
use Rattle.count_laws.proofs.StoredLaws.{counters_inside}

same_counters : (slab slab' i i' : ℕ) → ReferenceBlock slab i ≡ ReferenceBlock slab' i' → (slab ≡ slab') × (i ≡ i')
same_counters slab slab' i i' same = (cc same, cc same)

same_journal : (slab slab' i i' : ℕ) → SlabJournalSlot slab i ≡ SlabJournalSlot slab' i' → (slab ≡ slab') × (i ≡ i')
same_journal slab slab' i i' same = (cc same, cc same)

module _ (opening : Blocks) (log : List Call) (opened : Image) (entries window : List CommittedEntry) (bytes : List ℕ) where
  abbrev g : Geometry
  g = opened.geometry

  -- A block of counters whose sectors are counted, with commit points that are no lower than those of each content.
  pub may_write_counters : (slab i : ℕ) → slab < g.slabs → i < references_of g
      → ((n : ℕ) → n / 8 ≡ i → n < sectors_per_slab g → IsCounted opened entries slab n (sector (n % 8) bytes))
      → ((n : ℕ) → n / 8 ≡ i → n < sectors_per_slab g → SurelyCounters opening log g slab n (λ old. number_at 8 0 old ≤ number_at 8 0 (sector (n % 8) bytes)))
      → ((n : ℕ) → n / 8 ≡ i → sectors_per_slab g ≤ n → number_at 8 0 (sector (n % 8) bytes) ≤ commit_at g opened.blocks slab n)
      → MayWrite opening log opened entries window (block_of g (ReferenceBlock slab i)) bytes
  may_write_counters slab i in_slab inside counted rises behind = record {
    sectors = λ slab' n in_slab' below here.
        (let same = here_is slab' n in_slab' (counters_inside g n below) here in
        subst (λ (k : ℕ). IsCounted opened entries k n (sector (n % 8) bytes)) same.0 (counted n (sym same.1) below));
    behind = λ slab' n in_slab' past below here.
        (let same = here_is slab' n in_slab' (omega (arith, below)) here in
        subst (λ (k : ℕ). number_at 8 0 (sector (n % 8) bytes) ≤ commit_at g opened.blocks k n) same.0 (behind n (sym same.1) past));
    no_lower = λ place n point there here has surely.
        (let number = there.2 in
        let sector_in = sector_inside g place there.0 in
        let below : n < sectors_per_slab g = omega (arith, number, sector_in) in
        let same = here_is place.slab n there.0.0 (counters_inside g n below) here in
        let old = subst (λ (k : ℕ). SurelyCounters opening log g k n (λ old. number_at 8 0 old ≤ number_at 8 0 (sector (n % 8) bytes))) same.0 (rises n (sym same.1) below) in
        let b = block_of g (ReferenceBlock place.slab (n / 8)) in
        let some = some_content (λ content. (point ≤ number_at 8 0 (sector (n % 8) content)) × (number_at 8 0 (sector (n % 8) content) ≤ number_at 8 0 (sector (n % 8) bytes))) opening log b
        (both_of (λ content. point ≤ number_at 8 0 (sector (n % 8) content)) (λ content. number_at 8 0 (sector (n % 8) content) ≤ number_at 8 0 (sector (n % 8) bytes)) (contents opening log b) surely old) in
        let low = some.1.0 in let high = some.1.1 in omega (arith, low, high));
    only = λ slab' slot number entry in_slab' in_journal small here. absurd (other_kind slab' slot in_slab' in_journal here);
    overwritten = λ place slot number point there in_journal small here. absurd (other_kind place.slab slot there.0 in_journal here);
  }
    where
      here_is : (slab' n : ℕ) → slab' < g.slabs → n / 8 < references_of g → block_of g (ReferenceBlock slab i) ≡ block_of g (ReferenceBlock slab' (n / 8)) → (slab ≡ slab') × (i ≡ n / 8)
      here_is slab' n in_slab' inside' here =
          same_counters slab slab' i (n / 8) (apart g (ReferenceBlock slab i) (ReferenceBlock slab' (n / 8)) (in_slab, inside) (in_slab', inside') here)

      other_kind : (slab' slot : ℕ) → slab' < g.slabs → slot < g.slab_journal → block_of g (ReferenceBlock slab i) ≡ block_of g (SlabJournalSlot slab' slot) → ⊥
      other_kind slab' slot in_slab' in_journal here =
          let same = apart g (ReferenceBlock slab i) (SlabJournalSlot slab' slot) (in_slab, inside) (in_slab', in_journal) here in absurd (cc same)

  -- A block of a slab's journal with known updates, where each update that the old one has is in the new one too, or in the
  -- window, or counted.
  pub may_write_journal : (slab slot : ℕ) → slab < g.slabs → slot < g.slab_journal
      → ((number : ℕ) (entry : SlabEntry) → number < 8 → HasUpdate g slab number entry (sector number bytes) → IsKnown opened entries slab entry)
      → ((offset number point : ℕ) → offset < g.slab_blocks → number < 8 → Contains (points_at g entries (record { slab = slab; offset = offset })) point
      → SurelyJournal opening log g slab slot number (HasUpdate g slab number (entry_at (record { slab = slab; offset = offset }) point))
      → HasUpdate g slab number (entry_at (record { slab = slab; offset = offset }) point) (sector number bytes)
      ⊎ Contains (points_at g window (record { slab = slab; offset = offset })) point
      ⊎ SurelyCounters opening log g slab (sector_of_offset g offset) (λ old. point ≤ number_at 8 0 old))
      → MayWrite opening log opened entries window (block_of g (SlabJournalSlot slab slot)) bytes
  may_write_journal slab slot in_slab inside known overwritten = record {
    sectors = λ slab' n in_slab' below here. absurd (other_kind slab' (n / 8) in_slab' (counters_inside g n below) here);
    behind = λ slab' n in_slab' past below here. absurd (other_kind slab' (n / 8) in_slab' (omega (arith, below)) here);
    no_lower = λ place n point there here has surely.
        (let number = there.2 in
        let sector_in = sector_inside g place there.0 in
        absurd (other_kind place.slab (n / 8) there.0.0 (counters_inside g n (omega (arith, number, sector_in))) here));
    only = λ slab' slot' number entry in_slab' in_journal small here.
        (let same = here_is slab' slot' in_slab' in_journal here in
        subst (λ (k : ℕ). HasUpdate g k number entry (sector number bytes) → IsKnown opened entries k entry) same.0 (known number entry small));
    overwritten = λ place slot' number point there in_journal small here.
        (let same = here_is place.slab slot' there.0 in_journal here in
        goes_on place.slab slot' same number point place.offset there.1 small);
  }
    where
      here_is : (slab' slot' : ℕ) → slab' < g.slabs → slot' < g.slab_journal → block_of g (SlabJournalSlot slab slot) ≡ block_of g (SlabJournalSlot slab' slot') → (slab ≡ slab') × (slot ≡ slot')
      here_is slab' slot' in_slab' in_journal here =
          same_journal slab slab' slot slot' (apart g (SlabJournalSlot slab slot) (SlabJournalSlot slab' slot') (in_slab, inside) (in_slab', in_journal) here)

      other_kind : (slab' i : ℕ) → slab' < g.slabs → i < references_of g → block_of g (SlabJournalSlot slab slot) ≡ block_of g (ReferenceBlock slab' i) → ⊥
      other_kind slab' i in_slab' inside' here =
          let same = apart g (SlabJournalSlot slab slot) (ReferenceBlock slab' i) (in_slab, inside) (in_slab', inside') here in absurd (cc same)

      goes_on : (slab' slot' : ℕ) → (slab ≡ slab') × (slot ≡ slot') → (number point offset : ℕ) → offset < g.slab_blocks → number < 8
          → Contains (points_at g entries (record { slab = slab'; offset = offset })) point
          → SurelyJournal opening log g slab' slot' number (HasUpdate g slab' number (entry_at (record { slab = slab'; offset = offset }) point))
          → HasUpdate g slab' number (entry_at (record { slab = slab'; offset = offset }) point) (sector number bytes)
          ⊎ Contains (points_at g window (record { slab = slab'; offset = offset })) point
          ⊎ SurelyCounters opening log g slab' (sector_of_offset g offset) (λ old. point ≤ number_at 8 0 old)
      goes_on slab' slot' same number point offset within small has surely =
          subst (λ (k : ℕ). HasUpdate g k number (entry_at (record { slab = k; offset = offset }) point) (sector number bytes)
          ⊎ Contains (points_at g window (record { slab = k; offset = offset })) point
          ⊎ SurelyCounters opening log g k (sector_of_offset g offset) (λ old. point ≤ number_at 8 0 old)) same.0
          (overwritten offset number point within small (subst (λ (k : ℕ). Contains (points_at g entries (record { slab = k; offset = offset })) point) (sym same.0) has)
          (subst (λ (k : ℕ). SurelyJournal opening log g slab k number (HasUpdate g slab number (entry_at (record { slab = slab; offset = offset }) point))) (sym same.1)
          (subst (λ (k : ℕ). SurelyJournal opening log g k slot' number (HasUpdate g k number (entry_at (record { slab = k; offset = offset }) point))) (sym same.0) surely)))
