-- Where the counts stand each image has, for each data block, the running count of all entries as its stored count.
use Rattle.std.proofs.Common.{ℕ, ◌≡◌, ◌/◌, ◌%◌, ◌<◌, ◌≤◌, nat_le, true, List, ◌++◌, length, Contains, Result, Ok, refl, sym, ◌∙◌, ap, subst, inl, inr, arith}
use Rattle.std.proofs.Math.Nat.{mod-lt}
use Rattle.std.proofs.lemmas.Bool.{le-leb}
use Rattle.blk_base.specs.Counters.{limit_of, sector_of_offset, sectors_per_slab}
use Rattle.blk_base.specs.Regions.{ReferenceBlock, SlabJournalSlot, block_of, needed_blocks, references_of}
use Rattle.blk_base.specs.Sectors.{sector}
use Rattle.blk_base.specs.declared.geometry.Geometry.{Geometry}
use Rattle.blk_base.specs.declared.journal_entry.CommittedEntry.{CommittedEntry}
use Rattle.blk_base.specs.declared.layout.DataPlace.{DataPlace}
use Rattle.blk_base.proofs.RegionLaws.{inside}
use Rattle.byte_fields.specs.Fields.{number_at}
use Rattle.disk_model.specs.declared.call.Call.{Call}
use Rattle.disk_model.specs.Images.{IsImage}
use Rattle.disk_model.specs.Log.{Blocks, block_at, contents}
use Rattle.disk_model.proofs.ImageLaws.{sector_of_mix}
use Rattle.image_model.specs.Counts.{AreUpdates, IsKept, IsUpdate, Stores, block_of_data, commit_of, count_after, counter_of, reference_sector_at}
use Rattle.image_model.specs.Maps.{Image}
use Rattle.image_model.specs.Sound.{IsDataPlace}
use Rattle.recovery_laws.proofs.CountsKept.{sector_inside}
use Rattle.journal_stops.specs.Mapped.{later_image}
use Rattle.slab_codec.specs.declared.forms.SlabEntry.{SlabEntry}
use Rattle.count_laws.specs.Counters.{CountsStand, HasUpdate, IsCounted, IsKnown, IsOfSector, SurelyCounters, SurelyJournal, counter_in, entry_at, points_at}
use Rattle.count_laws.specs.Points.{ArePointed, past, up_to}
use Rattle.count_laws.proofs.PointLaws.{count_came, count_within, has_update, in_first, in_past, of_past, past_rises, points_rise, split_at, updates_has}

-- A commit point fixes the counters of its sector.

pub one_sector : (opened : Image) (entries : List CommittedEntry) (slab n : ℕ) (bytes other : List ℕ) (place : DataPlace) → IsCounted opened entries slab n bytes
    → IsCounted opened entries slab n other → number_at 8 0 bytes ≡ number_at 8 0 other → IsOfSector opened.geometry slab n place
    → counter_in opened.geometry bytes place ≡ counter_in opened.geometry other place
one_sector opened entries slab n bytes other place is again same there = one_count (counter_in opened.geometry bytes place) (counter_in opened.geometry other place) (sym (is.counters place there) ∙ as_other ∙ again.counters place there)
  where
    as_other : count_after (limit_of opened.geometry) (counter_of opened place) (up_to (number_at 8 0 bytes) (points_at opened.geometry entries place))
        ≡ count_after (limit_of opened.geometry) (counter_of opened place) (up_to (number_at 8 0 other) (points_at opened.geometry entries place))
    as_other = ap (λ (commit : ℕ). count_after (limit_of opened.geometry) (counter_of opened place) (up_to commit (points_at opened.geometry entries place))) same

    one_count : (x y : ℕ) → ◌≡◌ {A = Result ℕ ℕ} (Ok x) (Ok y) → x ≡ y
    one_count x y e = cc e

-- The sectors of a slab's counters are inside.

pub counters_inside : (g : Geometry) (n : ℕ) → n < sectors_per_slab g → n / 8 < references_of g
counters_inside g n below = omega (arith, below)

module _ (opening : Blocks) (log : List Call) (opened : Image) (entries window : List CommittedEntry)
    (stand : CountsStand opening log opened entries window)
    (image : Blocks) (is : IsImage opening log image) (room : needed_blocks opened.geometry ≤ length opening) where
  abbrev now : Image
  now = later_image opened image window

  abbrev g : Geometry
  g = opened.geometry

  -- What is known of each content of a sector is known of the image's.

  pub counters_of_image : (P : List ℕ → Type 0) (slab n : ℕ) → slab < g.slabs → n / 8 < references_of g
      → SurelyCounters opening log g slab n P → P (reference_sector_at g image slab n)
  counters_of_image P slab n in_slab in_block surely =
      let b = block_of g (ReferenceBlock slab (n / 8)) in
      let within : b < length opening = (let low = inside g (ReferenceBlock slab (n / 8)) (in_slab, in_block) in omega (arith, low, room)) in
      sector_of_mix P (contents opening log b) (block_at image b) (n % 8) (mod-lt n (omega arith)) (is.sectors b within) surely

  pub journal_of_image : (P : List ℕ → Type 0) (slab slot number : ℕ) → slab < g.slabs → slot < g.slab_journal → number < 8
      → SurelyJournal opening log g slab slot number P → P (sector number (block_at image (block_of g (SlabJournalSlot slab slot))))
  journal_of_image P slab slot number in_slab in_journal small surely =
      let b = block_of g (SlabJournalSlot slab slot) in
      let within : b < length opening = (let low = inside g (SlabJournalSlot slab slot) (in_slab, in_journal) in omega (arith, low, room)) in
      sector_of_mix P (contents opening log b) (block_at image b) number small (is.sectors b within) surely

  pub counted : (place : DataPlace) → IsDataPlace g place
      → IsCounted opened entries place.slab (sector_of_offset g place.offset) (reference_sector_at g image place.slab (sector_of_offset g place.offset))
  counted place there =
      let n = sector_of_offset g place.offset in
      let below = sector_inside g place there in
      counters_of_image (IsCounted opened entries place.slab n) place.slab n there.0 (counters_inside g n below) (stand.sectors place.slab n there.0 below)

  -- Its updates above the commit point are those of the entries.

  pub known : (slab : ℕ) (entry : SlabEntry) → slab < g.slabs → IsKept g image slab entry → IsKnown opened entries slab entry
  known slab entry in_slab kept =
      let only = journal_of_image (λ bytes. HasUpdate g slab kept.number entry bytes → IsKnown opened entries slab entry) slab kept.slot kept.number in_slab kept.inside.0 kept.inside.1
      (stand.only slab kept.slot kept.number entry in_slab kept.inside.0 kept.inside.1) in
      only (record { sequence = kept.sequence; entries = kept.entries; valid = kept.valid; listed = kept.listed })

  module _ (behind : List CommittedEntry) (from : ℕ) (all : entries ≡ window ++ behind) (pointed : ArePointed from entries) (place : DataPlace) (there : IsDataPlace g place) where
    abbrev all_points : List ℕ
    all_points = points_at g entries place

    abbrev commit : ℕ
    commit = commit_of now place

    update_is : (point : ℕ) → Contains all_points point → commit < point → IsUpdate now place point
    update_is point has above = elim (stand.updates place point there has) [
      | inl in_window ↦ inr (has_update window (block_of_data g place) point in_window)
      | inr others ↦ elim others [
        | inl is_counted ↦
            let n = sector_of_offset g place.offset in
            let low = counters_of_image (λ bytes. point ≤ number_at 8 0 bytes) place.slab n there.0 (counters_inside g n (sector_inside g place there)) is_counted in
            absurd (omega (arith, low, above))
        | inr (slot, number, in_journal, small, is_kept) ↦
            let it = journal_of_image (HasUpdate g place.slab number (entry_at place point)) place.slab slot number there.0 in_journal small is_kept in
            inl (record { slot = slot; number = number; inside = (in_journal, small); sequence = it.sequence; entries = it.entries; valid = it.valid; listed = it.listed })
      ]
    ]

    update_of_entries : (point : ℕ) → commit < point → IsUpdate now place point → Contains all_points point
    update_of_entries point above (inl kept) = elim (known place.slab (entry_at place point) there.0 kept) [
      | inl old ↦ let least = (counted place there).commit in absurd (omega (arith, least, old, above))
      | inr has ↦ has
    ]
    update_of_entries point above (inr (committed, has, updates)) =
        let block = block_of_data g place in
        let in_all : Contains entries committed = subst (λ (es : List CommittedEntry). Contains es committed) (sym all) (in_first window behind committed has) in
        updates_has entries block point committed in_all updates

    updates_are : AreUpdates now place (past commit all_points)
    updates_are = record {
      rising = past_rises commit all_points (points_rise from entries (block_of_data g place) pointed);
      each = λ point. (
        λ has. let parts = of_past commit all_points point has in (parts.1, update_is point parts.0 parts.1),
        λ is. in_past commit all_points point (update_of_entries point is.0 is.1) is.0,
      );
    }

    pub stored : (count : ℕ) → counter_of opened place ≤ limit_of g → count_after (limit_of g) (counter_of opened place) all_points ≡ Ok count → Stores now place (Ok count)
    stored count fits runs =
        let limit = limit_of g in
        let it = counted place there in
        let counters : count_after limit (counter_of opened place) (up_to commit all_points) ≡ Ok (counter_of now place) = it.counters place (there, refl, refl) in
        let parts = split_at commit all_points (points_rise from entries (block_of_data g place) pointed) in
        let came = count_came limit (counter_of opened place) count (up_to commit all_points) (past commit all_points)
        (subst (λ (points : List ℕ). count_after limit (counter_of opened place) points ≡ Ok count) parts runs) in
        let same : came.0 ≡ counter_of now place = same_count came.0 (counter_of now place) (sym came.1 ∙ counters) in
        let rest : count_after limit (counter_of now place) (past commit all_points) ≡ Ok count =
        subst (λ (k : ℕ). count_after limit k (past commit all_points) ≡ Ok count) same came.2 in
        let within : nat_le (counter_of now place) limit ≡ true = le-leb (counter_of now place) limit (count_within limit (counter_of opened place) (counter_of now place) (up_to commit all_points) fits counters) in
        record { points = past commit all_points; updates = updates_are; counted = rw within rest }
      where
        same_count : (m n : ℕ) → ◌≡◌ {A = Result ℕ ℕ} (Ok m) (Ok n) → m ≡ n
        same_count m n e = cc e
