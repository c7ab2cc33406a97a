-- Each image of a session that stands is sound: its counts are good.
use Rattle.std.proofs.Common.{ℕ, ◌≡◌, ◌+◌, ◌-◌, ◌*◌, ◌<◌, ◌≤◌, List, ◌∷◌, ◌++◌, length, sym, subst, arith, length-take}
use Rattle.blk_base.specs.Points.{point_of}
use Rattle.blk_base.specs.Regions.{needed_blocks, references_of}
use Rattle.blk_base.specs.declared.geometry.Geometry.{Geometry}
use Rattle.blk_base.specs.declared.journal_entry.CommittedEntry.{CommittedEntry}
use Rattle.blk_base.specs.declared.layout.DataPlace.{DataPlace}
use Rattle.blk_base.specs.declared.point.Half.TheVariants.{Increment}
use Rattle.disk_model.specs.declared.call.Call.{Call}
use Rattle.disk_model.specs.Images.{IsImage}
use Rattle.disk_model.specs.Log.{Blocks}
use Rattle.image_model.specs.Counts.{block_of_data, commit_at, counter_of}
use Rattle.image_model.specs.Maps.{Image}
use Rattle.image_model.specs.Sound.{AreTrue, IsDataPlace}
use Rattle.recovery_laws.proofs.SoundLaws.{room}
use Rattle.journal_stops.specs.Mapped.{later_image}
use Rattle.journal_stops.specs.Sealed.{Sealed, entries_of, front_of, head_of, next_of, window_of}
use Rattle.journal_stops.specs.Shown.{Extends}
use Rattle.count_laws.specs.Closed.{HasClosedCounts}
use Rattle.count_laws.specs.Counters.{CountsStand}
use Rattle.count_laws.specs.Points.{ArePointed, next_point}
use Rattle.count_laws.specs.RunningCount.{RunningCount}
use Rattle.count_laws.specs.Turns.{AreInTurn}
use Rattle.count_laws.proofs.ImageLaws.{closed_counts, commits_timely, count_of, true_count, updates_timely}
use Rattle.count_laws.proofs.KeepLaws.{counts_grow, counts_with_more}
use Rattle.session_stops.specs.Beginnings.{IsToServe, head_in, opened_in}
use Rattle.session_stops.specs.Sessions.{AreFew, IsBehind, ShowsSoundly, StandsAtRest, StandsUnderWay, entries_next, window_from}
use Rattle.session_stops.proofs.MapImages.{HasGoodCounts, Sees, rest_seen, turns_front, way_shows}
use Rattle.session_stops.proofs.WindowLists.{newest_block, window_earlier, window_newest}
use Rattle.session_stops.proofs.PointedBlocks.{blocks_pointed}

module _ (base : Blocks) (to : IsToServe base) where
  abbrev g : Geometry
  g = to.sound.head.geometry

  abbrev start : ℕ
  start = to.sound.head.start

  abbrev opened : Image
  opened = opened_in base to

  abbrev from : ℕ
  from = point_of start 0 Increment

  closed : HasClosedCounts opened
  closed = closed_counts base to.sound to.clean

  early : (slab n : ℕ) → slab < g.slabs → n < 8 * references_of g → commit_at g base slab n < from
  early slab n in_slab below =
      let next = (to.sound.closed to.clean).next in
      let was = to.sound.timely.commits slab n in_slab below in
      omega (arith, next, was)

  -- The count of each data block goes with the entries.
  pub running : (opening : Blocks) (log : List Call) (blocks : List Sealed) (head : ℕ) → IsBehind opening log base to blocks head → (place : DataPlace) → IsDataPlace g place
      → RunningCount opened (entries_of start blocks) (block_of_data g place) (counter_of opened place)
  running opening log blocks head behind place there =
      count_of opening log opened (entries_of start blocks) from closed behind.turns (blocks_pointed start blocks behind.few).0 place there

  -- The counts of an image that shows the entries.
  good : (opening : Blocks) (log : List Call) (image : Blocks) → IsImage opening log image → length opening ≡ length base → (entries window : List CommittedEntry) (last : ℕ)
      → AreInTurn opened entries → ArePointed from entries → next_point from entries ≤ point_of (last + 1) 0 Increment → start ≤ last + 1
      → Sees opened start image entries window → CountsStand opening log opened entries window → HasGoodCounts (later_image opened image window) last
  good opening log image is size entries window last turns pointed next low sees stand =
      let enough = room base base to.sound in
      let wide : needed_blocks g ≤ length opening = omega (arith, enough, size) in
      let there : CountsStand opening log opened entries sees.0.shown.window = subst (CountsStand opening log opened entries) (sym sees.1) stand in
      let before : (slab n : ℕ) → slab < g.slabs → n < 8 * references_of g → commit_at g base slab n < point_of (last + 1) 0 Increment = λ slab n in_slab below.
      let was = early slab n in_slab below in omega (arith, was, low) in
      record {
        counts = subst (λ (window : List CommittedEntry). AreTrue (later_image opened image window)) sees.1
            (λ place inside. true_count opening log opened entries from closed turns pointed start image sees.0 there is wide place inside);
        commits = commits_timely opening log opened entries window from stand pointed image is wide (point_of (last + 1) 0 Increment) next before;
        updates = updates_timely opening log opened entries window from stand pointed image is wide (point_of (last + 1) 0 Increment) next before;
      }

  module _ (opening : Blocks) (log : List Call) (blocks : List Sealed) (rest : StandsAtRest opening log base to blocks) (image : Blocks) (is : IsImage opening log image) where
    pub rest_good : HasGoodCounts (later_image opened image (window_of start blocks)) (next_of start blocks - 1)
    rest_good =
        let some = rest.journal.some in
        let pointed = blocks_pointed start blocks rest.behind.few in
        let next = pointed.1 in
        good opening log image is rest.behind.size (entries_of start blocks) (window_of start blocks) (next_of start blocks - 1) rest.behind.turns pointed.0 (omega (arith, next, some))
        (omega (arith, some)) (rest_seen base to opening log blocks rest image is).0 rest.behind.counts

    pub rest_sound : ShowsSoundly opened (head_in base to) image (entries_of start blocks)
    rest_sound = (rest_seen base to opening log blocks rest image is).1 rest_good

  module _ (opening : Blocks) (log : List Call) (blocks : List Sealed) (block : Sealed) (way : StandsUnderWay opening log base to blocks block) (image : Blocks) (is : IsImage opening log image) where
    abbrev older : List CommittedEntry
    older = entries_of start blocks

    within : block.head ≤ next_of start blocks
    within = way.journal.is_sealed.holds.head_below

    counts_before : CountsStand opening log opened older (window_of start blocks)
    counts_before =
        let behind = window_earlier start (head_of start blocks) block.head blocks way.journal.ring.head way.journal.is_sealed.rises within in
        subst (CountsStand opening log opened older) (sym behind.1) (counts_with_more opening log opened older (window_from start block.head blocks) behind.0 way.behind.counts)

    module _ (n : ℕ) where
      abbrev front : Sealed
      front = front_of n block

      few_front : AreFew (front ∷ blocks)
      few_front =
          let few = way.journal.is_sealed.holds.few in
          let size = length-take (24 * n) block.entries in
          (omega (arith, few, size), way.behind.few)

      counts_front : CountsStand opening log opened (entries_of start (front ∷ blocks)) (window_of start (front ∷ blocks))
      counts_front =
          let low = way.journal.ring.head in let rises = way.journal.is_sealed.rises in
          let pointed = subst (ArePointed from) (newest_block start blocks front) (blocks_pointed start (front ∷ blocks) few_front).0 in
          let grown = counts_grow opening log opened (entries_next start blocks front) older (window_from start block.head blocks) from pointed
          (λ slab m in_slab below. early slab m in_slab (omega (arith, below))) way.behind.counts in
          subst (λ (list : List CommittedEntry). CountsStand opening log opened list (window_of start (front ∷ blocks))) (sym (newest_block start blocks front))
          (subst (CountsStand opening log opened (entries_next start blocks front ++ older)) (sym (window_newest start blocks front (omega (arith, low, rises)) within)) grown)

    pub way_sound : (entries : List CommittedEntry) × Extends entries (entries_of start blocks) × Extends (entries_of start (block ∷ blocks)) entries
        × ShowsSoundly opened (head_in base to) image entries
    way_sound =
        let some = way.journal.some in
        way_shows base to opening log blocks block way image is
        (λ sees.
        let pointed = blocks_pointed start blocks way.behind.few in
        let next = pointed.1 in
        good opening log image is way.behind.size older (window_of start blocks) (next_of start blocks - 1) way.behind.turns pointed.0 (omega (arith, next, some)) (omega (arith, some)) sees counts_before)
        (λ n sees.
        let pointed = blocks_pointed start (front_of n block ∷ blocks) (few_front n) in
        let next = pointed.1 in
        good opening log image is way.behind.size (entries_of start (front_of n block ∷ blocks)) (window_of start (front_of n block ∷ blocks)) (next_of start blocks - 1 + 1)
        (turns_front base to opening log blocks block way image is n) pointed.0 (omega (arith, next, some)) (omega (arith, some)) sees (counts_front n))
