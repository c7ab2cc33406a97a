-- Images that show entries in turn have true counts.
use Rattle.std.proofs.Common.{ℕ, ◌≡◌, ◌*◌, ◌/◌, ◌<◌, ◌≤◌, IsTrue, List, length, Contains, Ok, subst, inl, inr, arith}
use Rattle.std.proofs.lemmas.Bool.{cases_lt}
use Rattle.std.proofs.lemmas.List.Elements.{All-contains}
use Rattle.blk_base.specs.Counters.{limit_of, sector_of_offset, sectors_per_slab}
use Rattle.blk_base.specs.Regions.{needed_blocks, references_of}
use Rattle.blk_base.specs.declared.geometry.Geometry.{Geometry}
use Rattle.blk_base.specs.declared.journal_entry.CommittedEntry.{CommittedEntry}
use Rattle.blk_base.specs.declared.layout.DataPlace.{DataPlace}
use Rattle.byte_fields.specs.Fields.{number_at}
use Rattle.disk_model.specs.declared.call.Call.{Call}
use Rattle.disk_model.specs.Images.{IsImage}
use Rattle.disk_model.specs.Log.{Blocks}
use Rattle.image_model.specs.Counts.{HasMappings, IsKept, Stores, block_of_data, commit_at, counter_of}
use Rattle.image_model.specs.Maps.{Image}
use Rattle.image_model.specs.Sound.{AreStored, AreUnshared, IsDataPlace, IsSound, IsTrueOf, image_of}
use Rattle.image_model.proofs.EmptyLaws.{sizes_of_image}
use Rattle.journal_stops.specs.Mapped.{ShowsEntries, later_image}
use Rattle.recovery_laws.proofs.CountsKept.{counter_is_stored, stored_fits}
use Rattle.slab_codec.specs.Grammar.{HoldsEntry}
use Rattle.slab_codec.specs.declared.forms.SlabEntry.{SlabEntry}
use Rattle.count_laws.specs.Closed.{HasClosedCounts}
use Rattle.count_laws.specs.Counters.{CountsStand, IsCounted, points_at}
use Rattle.count_laws.specs.Points.{ArePointed, next_point, points_for}
use Rattle.count_laws.specs.RunningCount.{RunningCount}
use Rattle.count_laws.specs.Turns.{AreInTurn}
use Rattle.count_laws.proofs.PointLaws.{of_all, points_below}
use Rattle.count_laws.proofs.StoredLaws.{counters_of_image, known, stored}
use Rattle.count_laws.proofs.TurnLaws.{addresses_fit, opened_has, running_count, shown_has, shown_unshared, unshared_after}

-- a sound image that was closed has closed counts
pub closed_counts : (blocks : Blocks) (sound : IsSound blocks) → IsTrue sound.head.clean → HasClosedCounts (image_of sound.head blocks sound.window)
closed_counts blocks sound clean = record {
  sizes = sizes_of_image blocks sound.head sound.opens.accepted;
  counts = sound.counts;
  updates = (sound.closed clean).updates;
  unshared = sound.unshared;
}

-- the stored counts of such an image are its counters
pub closed_counter : (opened : Image) → HasClosedCounts opened → (place : DataPlace) → IsDataPlace opened.geometry place → (count : ℕ) → Stores opened place (Ok count)
    → (counter_of opened place ≡ count) × (count ≤ limit_of opened.geometry)
closed_counter opened closed place there count stores = (
  counter_is_stored opened place count (λ point above is. let most = closed.updates place point there is in omega (arith, above, most)) stores,
  stored_fits opened place count stores,
)

module _ (opening : Blocks) (log : List Call) (opened : Image) (entries : List CommittedEntry) (from : ℕ) (closed : HasClosedCounts opened)
    (turns : AreInTurn opened entries) (pointed : ArePointed from entries) where
  -- the running count of each data block
  pub count_of : (place : DataPlace) → IsDataPlace opened.geometry place → RunningCount opened entries (block_of_data opened.geometry place) (counter_of opened place)
  count_of place there =
      let was = closed.counts place there in
      let counter = closed_counter opened closed place there was.0 was.1 in
      let has : HasMappings opened (block_of_data opened.geometry place) (counter_of opened place) =
      subst (λ (n : ℕ). HasMappings opened (block_of_data opened.geometry place) n) (let same = counter.0 in omega (arith, same)) was.2 in
      running_count opened from entries (block_of_data opened.geometry place) (counter_of opened place) (addresses_fit opened.geometry closed.sizes) turns pointed
      (opened_has opened (block_of_data opened.geometry place) (counter_of opened place) has)

  counter_fits : (place : DataPlace) → IsDataPlace opened.geometry place → counter_of opened place ≤ limit_of opened.geometry
  counter_fits place there =
      let was = closed.counts place there in
      let counter = closed_counter opened closed place there was.0 was.1 in
      let same = counter.0 in
      let within = counter.1 in
      omega (arith, same, within)

  module _ (start : ℕ) (image : Blocks) (s : ShowsEntries opened start image entries) (stand : CountsStand opening log opened entries s.shown.window)
      (is : IsImage opening log image) (room : needed_blocks opened.geometry ≤ length opening) where
    pub true_count : (place : DataPlace) → IsDataPlace opened.geometry place → IsTrueOf (later_image opened image s.shown.window) place
    true_count place there =
        let running = count_of place there in (
          running.now,
          stored opening log opened entries s.shown.window stand image is room s.shown.reaped from s.shown.all pointed place there running.now (counter_fits place there) running.counted,
          shown_has opened start image entries s (block_of_data opened.geometry place) running.now running.has,
        )

    pub all_stored : AreStored (later_image opened image s.shown.window)
    all_stored place there = let it = true_count place there in (it.0, it.1)

    pub all_unshared : AreUnshared (later_image opened image s.shown.window)
    all_unshared = shown_unshared opened start image entries s (unshared_after opened entries turns closed.unshared)

-- Nothing is from a later time.

module _ (opening : Blocks) (log : List Call) (opened : Image) (entries window : List CommittedEntry) (from : ℕ)
    (stand : CountsStand opening log opened entries window) (all_are : ArePointed from entries)
    (image : Blocks) (is : IsImage opening log image) (room : needed_blocks opened.geometry ≤ length opening)
    (bound : ℕ) (next : next_point from entries ≤ bound)
    (before : (slab n : ℕ) → slab < opened.geometry.slabs → n < 8 * references_of opened.geometry → commit_at opened.geometry opened.blocks slab n < bound) where
  abbrev g : Geometry
  g = opened.geometry

  point_below : (place : DataPlace) (point : ℕ) → Contains (points_at g entries place) point → point < bound
  point_below place point has =
      let below = of_all (λ m. m < next_point from entries) (points_for entries (block_of_data g place)) point (points_below from entries (block_of_data g place) all_are) has in
      omega (arith, below, next)

  pub commits_timely : (slab n : ℕ) → slab < g.slabs → n < 8 * references_of g → commit_at g image slab n < bound
  commits_timely slab n in_slab below =
      let was = before slab n in_slab below in
      let in_block : n / 8 < references_of g = omega (arith, below) in
      elim (cases_lt n (sectors_per_slab g)) [
        | inl within ↦
            let it = counters_of_image opening log opened entries window stand image is room (IsCounted opened entries slab n) slab n in_slab in_block (stand.sectors slab n in_slab within) in
            elim it.reached [
              | inl same ↦ omega (arith, same, was)
              | inr (place, there, has) ↦ point_below place (commit_at g image slab n) has
            ]
        | inr past ↦
            let it = counters_of_image opening log opened entries window stand image is room (λ bytes. number_at 8 0 bytes ≤ commit_at g opened.blocks slab n) slab n in_slab in_block
            (stand.behind slab n in_slab (omega (arith, past)) below) in
            omega (arith, it, was)
      ]

  pub updates_timely : (slab : ℕ) (entry : SlabEntry) → slab < g.slabs → IsKept g image slab entry → entry.point.0 < bound
  updates_timely slab entry in_slab kept =
      let holds : HoldsEntry g.slab_blocks entry = All-contains (HoldsEntry g.slab_blocks) kept.entries entry kept.valid.each kept.listed in
      let offset = holds.2 in
      let n = sector_of_offset g entry.offset in
      let below : n < 8 * references_of g = omega (arith, offset) in
      elim (known opening log opened entries window stand image is room slab entry in_slab kept) [
        | inl old ↦ let was = before slab n in_slab below in omega (arith, old, was)
        | inr has ↦ point_below (record { slab = slab; offset = entry.offset }) entry.point.0 has
      ]
