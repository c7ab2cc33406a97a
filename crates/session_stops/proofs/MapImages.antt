-- What each image of a session shows by its journal and its pages: a sound image, if its counts are good.
use Rattle.std.proofs.Common.{ℕ, ◌≡◌, ◌+◌, ◌-◌, ◌*◌, ◌<◌, ◌≤◌, ◌^◌, List, [], ◌∷◌, ◌++◌, length, get_or, refl, sym, ◌∙◌, subst, inl, inr, arith}
use Rattle.std.specs.List.{AllByRecursion}
use Rattle.blk_base.specs.Points.{point_of}
use Rattle.blk_base.specs.Regions.{references_of}
use Rattle.blk_base.specs.Sectors.{sector, zero_block}
use Rattle.blk_base.specs.declared.geometry.Geometry.{Geometry}
use Rattle.blk_base.specs.declared.journal_entry.CommittedEntry.{CommittedEntry}
use Rattle.blk_base.specs.declared.journal_entry.Entry.{Entry}
use Rattle.blk_base.specs.declared.place.PageId.{PageId}
use Rattle.blk_base.specs.declared.point.Half.TheVariants.{Increment}
use Rattle.disk_model.specs.declared.call.Call.{Call}
use Rattle.disk_model.specs.Images.{IsImage}
use Rattle.disk_model.specs.Log.{Blocks}
use Rattle.image_layout.specs.Values.{journal_of}
use Rattle.image_model.specs.Maps.{Image, mapping_of, page_at}
use Rattle.image_model.specs.Counts.{IsKept, commit_at}
use Rattle.image_model.specs.Sound.{AreTrue, AreUnshared, IsSound}
use Rattle.image_model.specs.Windows.{IsWindow}
use Rattle.image_model.proofs.WindowLaws.{one_window}
use Rattle.journal_codec.specs.Grammar.{IsSector}
use Rattle.journal_stops.specs.Mapped.{ShowsEntries, later_image, mapping_after, page_after}
use Rattle.journal_stops.specs.Sealed.{Sealed, before, entries_of, front_of, head_of, next_of, window_of}
use Rattle.journal_stops.specs.Shown.{Extends, HasInWindow}
use Rattle.journal_stops.proofs.EntryLaws.{block_extends, front_extends, window_split}
use Rattle.journal_stops.proofs.MapLaws.{pages_show}
use Rattle.journal_stops.proofs.ShownLaws.{rest_of_its_time, way_of_its_time, window_at_rest, window_under_way}
use Rattle.journal_stops.proofs.StepLaws.{front_grows}
use Rattle.recovery_laws.proofs.SoundLaws.{known, room}
use Rattle.slab_codec.specs.declared.forms.SlabEntry.{SlabEntry}
use Rattle.session_stops.specs.Beginnings.{HeadStands, IsToServe, head_in, opened_in}
use Rattle.session_stops.specs.Pages.{ArePagesOnIt, EmptyPageStands, NewPagesStand, PagesStand}
use Rattle.session_stops.specs.Sessions.{ShowsSoundly, StandsAtRest, StandsUnderWay, entries_next, window_from}
use Rattle.count_laws.specs.Turns.{AreInTurn}
use Rattle.count_laws.proofs.StepLaws.{in_turn_rooted}
use Rattle.count_laws.proofs.TurnLaws.{unshared_after}
use Rattle.session_stops.proofs.BeginLaws.{head_of_image}
use Rattle.session_stops.proofs.PagePlaces.{pages_on_it}
use Rattle.session_stops.proofs.PageSteps.{grows, less}
use Rattle.session_stops.proofs.PageStops.{pages_are_good, pages_are_shown}
use Rattle.session_stops.proofs.NewPages.{older_in_turn, turns_made, turns_new}
use Rattle.session_stops.proofs.WindowLists.{newest_block, window_earlier, window_newest}

-- an image shows these entries on top of the opened one, and has this window
abbrev pub Sees : Image → ℕ → Blocks → List CommittedEntry → List CommittedEntry → Type 0
Sees opened start blocks entries window = (shows : ShowsEntries opened start blocks entries) × (shows.shown.window ≡ window)

-- The counts of an image are those of a sound one: each data block has a stored count, the number of its mappings, and
-- nothing of them is from a later time.
pub record HasGoodCounts (image : Image) (last : ℕ) : Type 0 where
  pub counts : AreTrue image
  pub commits : (slab n : ℕ) → slab < image.geometry.slabs → n < 8 * references_of image.geometry → commit_at image.geometry image.blocks slab n < point_of (last + 1) 0 Increment
  pub updates : (slab : ℕ) (entry : SlabEntry) → slab < image.geometry.slabs → IsKept image.geometry image.blocks slab entry → entry.point.0 < point_of (last + 1) 0 Increment

module _ (base : Blocks) (to : IsToServe base) where
  abbrev g : Geometry
  g = to.sound.head.geometry

  abbrev start : ℕ
  start = to.sound.head.start

  abbrev opened : Image
  opened = opened_in base to

  -- One image, with its window.
  module _ (opening : Blocks) (log : List Call) (image : Blocks) (is : IsImage opening log image) (size : length opening ≡ length base)
      (super : HeadStands opening log base to) (entries : List CommittedEntry) (turns : AreInTurn opened entries) (shown : HasInWindow g start image entries)
      (pages : PagesStand opening log opened entries shown.window) (early : shown.last + 2 < 2 ^ 54)
      (sectors : (slot number sequence head : ℕ) (list : List Entry) → slot < g.journal → number < 8
      → IsSector g.nonce number (sector number (get_or (journal_of g image) slot zero_block)) sequence head list → sequence ≤ shown.last + 1) where
    on_it : ArePagesOnIt opened entries (length opening)
    on_it = pages_on_it opened to.sound.pages to.sound.last (known base base to.sound) entries (turns_made opened entries turns) (length opening)
        (let enough = room base base to.sound in omega (arith, enough, size))

    pub shows : ShowsEntries opened start image entries
    shows = pages_show opened start image entries shown (pages_are_shown opening log opened entries shown.window image on_it pages is)

    pub same_window : shows.shown.window ≡ shown.window
    same_window = (one_window g start (journal_of g image) shows.shown.last shown.last shows.shown.window shown.window shows.shown.is_window shown.is_window).1

    abbrev now : Image
    now = later_image opened image shown.window

    same_page : (page : PageId) → page_at now page ≡ page_after opened entries page
    same_page page = subst (λ (window : List CommittedEntry). page_at (later_image opened image window) page ≡ page_after opened entries page) same_window (shows.pages page)

    same_mapping : (address : ℕ) → mapping_of now address ≡ mapping_after opened entries address
    same_mapping address = subst (λ (window : List CommittedEntry). mapping_of (later_image opened image window) address ≡ mapping_after opened entries address) same_window (shows.mappings address)

    unshared : AreUnshared now
    unshared at address (page, level, there) mapped =
        unshared_after opened entries turns to.sound.unshared at address (page, level, sym (same_page page) ∙ there) (sym (same_mapping address) ∙ mapped)

    is_sound : HasGoodCounts now shown.last → IsSound image
    is_sound good = record {
      head = head_in base to;
      last = shown.last;
      window = shown.window;
      opens = record { accepted = head_of_image base to opening log image size super is; sequences = λ unclean. early; is_window = shown.is_window };
      pages = pages_are_good opening log opened start entries image shown on_it pages is;
      stored = λ place inside. let found = good.counts place inside in (found.0, found.1);
      unshared = unshared;
      counts = good.counts;
      timely = record { commits = good.commits; updates = good.updates; sectors = sectors };
      closed = λ closed. absurd (cc closed);
    }

    sees : Sees opened start image entries shown.window
    sees = (shows, same_window)

    shows_soundly : HasGoodCounts now shown.last → ShowsSoundly opened (head_in base to) image entries
    unfolding is_sound
    shows_soundly good = record { sound = is_sound good; is_head = refl; shows = shows; same = same_window }

    pub seen : Sees opened start image entries shown.window × (HasGoodCounts now shown.last → ShowsSoundly opened (head_in base to) image entries)
    seen = (sees, shows_soundly)

  journal_inside : (opening : Blocks) → length opening ≡ length base → 1 + g.journal ≤ length opening
  journal_inside opening size = let enough = room base base to.sound in omega (arith, enough, size)

  -- No block is under way.
  module _ (opening : Blocks) (log : List Call) (blocks : List Sealed) (rest : StandsAtRest opening log base to blocks) (image : Blocks) (is : IsImage opening log image) where
    abbrev last_of : ℕ
    last_of = next_of start blocks - 1

    last_is : last_of + 1 ≡ next_of start blocks
    last_is = let some = rest.journal.some in omega (arith, some)

    at_rest : HasInWindow g start image (entries_of start blocks)
    at_rest = record {
      last = last_of;
      window = window_of start blocks;
      is_window = window_at_rest opening log g start blocks image last_of (journal_inside opening rest.behind.size) rest.journal is last_is;
      reaped = entries_of start (before start (head_of start blocks) blocks);
      all = window_split g start blocks rest.journal.ring;
    }

    pub rest_seen : Sees opened start image (entries_of start blocks) (window_of start blocks)
        × (HasGoodCounts (later_image opened image (window_of start blocks)) (next_of start blocks - 1) → ShowsSoundly opened (head_in base to) image (entries_of start blocks))
    unfolding at_rest
    rest_seen =
        let reach = rest.behind.reach in let late = to.late in let last = last_is in
        seen opening log image is rest.behind.size rest.behind.super (entries_of start blocks) rest.behind.turns at_rest rest.behind.pages
        (omega (arith, reach, late, last))
        (λ slot number sequence head list inside below valid.
        let early = rest_of_its_time opening log g start blocks image (journal_inside opening rest.behind.size) rest.journal is slot number sequence head list inside below valid in
        omega (arith, early, last))

  -- One is.

  all_behind : (P : CommittedEntry → Type 0) (newer older : List CommittedEntry) → AllByRecursion P (newer ++ older) → AllByRecursion P older
  all_behind P [] older all = all
  all_behind P (c ∷ newer) older all = all_behind P newer older all.1

  module _ (opening : Blocks) (log : List Call) (blocks : List Sealed) (block : Sealed) (way : StandsUnderWay opening log base to blocks block) (image : Blocks) (is : IsImage opening log image) where
    abbrev before_last : ℕ
    before_last = next_of start blocks - 1

    before_last_is : before_last + 1 ≡ next_of start blocks
    before_last_is = let some = way.journal.some in omega (arith, some)

    within : block.head ≤ next_of start blocks
    within = way.journal.is_sealed.holds.head_below

    -- nothing of the new block: its image may end with the earlier head

    pages_before : PagesStand opening log opened (entries_of start blocks) (window_of start blocks)
    pages_before =
        let behind = window_earlier start (head_of start blocks) block.head blocks way.journal.ring.head way.journal.is_sealed.rises within in
        subst (PagesStand opening log opened (entries_of start blocks)) (sym behind.1)
        (less opening log opened (entries_of start blocks) (window_from start block.head blocks) behind.0 way.behind.pages)

    before_window : IsWindow g start (journal_of g image) before_last (window_of start blocks) → HasInWindow g start image (entries_of start blocks)
    before_window window = record {
      last = before_last;
      window = window_of start blocks;
      is_window = window;
      reaped = entries_of start (before start (head_of start blocks) blocks);
      all = window_split g start blocks way.journal.ring;
    }

    sectors_early : (slot number sequence head : ℕ) (list : List Entry) → slot < g.journal → number < 8
        → IsSector g.nonce number (sector number (get_or (journal_of g image) slot zero_block)) sequence head list → sequence ≤ next_of start blocks
    sectors_early = way_of_its_time opening log g start blocks block image (journal_inside opening way.behind.size) way.journal is

    before_seen : IsWindow g start (journal_of g image) (next_of start blocks - 1) (window_of start blocks) → Sees opened start image (entries_of start blocks) (window_of start blocks)
        × (HasGoodCounts (later_image opened image (window_of start blocks)) (next_of start blocks - 1) → ShowsSoundly opened (head_in base to) image (entries_of start blocks))
    unfolding before_window
    before_seen window =
        let reach = way.behind.reach in let late = to.late in let last = before_last_is in
        seen opening log image is way.behind.size way.behind.super (entries_of start blocks) way.behind.turns (before_window window) pages_before
        (omega (arith, reach, late, last))
        (λ slot number sequence head list inside below valid. let early = sectors_early slot number sequence head list inside below valid in omega (arith, early, last))

    -- its first sectors
    module _ (n : ℕ) where
      abbrev front : Sealed
      front = front_of n block

      abbrev newer : List CommittedEntry
      newer = entries_next start blocks front

      pub turns_front : AreInTurn opened (entries_of start (front ∷ blocks))
      turns_front =
          let rest = block_extends start n blocks block in
          older_in_turn opened rest.0 (entries_of start (front ∷ blocks)) (subst (AreInTurn opened) rest.1 way.turns)

      made_front : NewPagesStand opening log opened newer
      made_front =
          let rest = block_extends (next_of start blocks) n [] block in
          all_behind (λ (c : CommittedEntry). EmptyPageStands opening log opened c.entry) rest.0 newer
          (subst (NewPagesStand opening log opened) rest.1 way.made)

      pages_front : PagesStand opening log opened (entries_of start (front ∷ blocks)) (window_of start (front ∷ blocks))
      pages_front =
          let low = way.journal.ring.head in let rises = way.journal.is_sealed.rises in
          let grown = grows opening log opened newer (entries_of start blocks) (window_from start block.head blocks) (in_turn_rooted opened (entries_of start blocks) way.behind.turns)
          (turns_new opened newer (entries_of start blocks) (subst (AreInTurn opened) (newest_block start blocks front) turns_front)) made_front way.behind.pages in
          subst (λ (list : List CommittedEntry). PagesStand opening log opened list (window_of start (front ∷ blocks))) (sym (newest_block start blocks front))
          (subst (PagesStand opening log opened (newer ++ entries_of start blocks)) (sym (window_newest start blocks front (omega (arith, low, rises)) within)) grown)

      front_window : IsWindow g start (journal_of g image) (before_last + 1) (window_of start (front ∷ blocks)) → HasInWindow g start image (entries_of start (front ∷ blocks))
      front_window window = record {
        last = before_last + 1;
        window = window_of start (front ∷ blocks);
        is_window = window;
        reaped = entries_of start (before start (head_of start (front ∷ blocks)) (front ∷ blocks));
        all = window_split g start (front ∷ blocks) (front_grows g start n blocks block way.journal.ring way.journal.is_sealed);
      }

      front_seen : IsWindow g start (journal_of g image) (next_of start blocks - 1 + 1) (window_of start (front_of n block ∷ blocks))
          → Sees opened start image (entries_of start (front_of n block ∷ blocks)) (window_of start (front_of n block ∷ blocks))
          × (HasGoodCounts (later_image opened image (window_of start (front_of n block ∷ blocks))) (next_of start blocks - 1 + 1)
          → ShowsSoundly opened (head_in base to) image (entries_of start (front_of n block ∷ blocks)))
      unfolding front_window
      front_seen window =
          let reach = way.behind.reach in let late = to.late in let last = before_last_is in
          seen opening log image is way.behind.size way.behind.super (entries_of start (front ∷ blocks)) turns_front (front_window window) pages_front
          (omega (arith, reach, late, last))
          (λ slot number sequence head list inside below valid. let early = sectors_early slot number sequence head list inside below valid in omega (arith, early, last))

    pub way_shows : (Sees opened start image (entries_of start blocks) (window_of start blocks)
        → HasGoodCounts (later_image opened image (window_of start blocks)) (next_of start blocks - 1))
        → ((n : ℕ) → Sees opened start image (entries_of start (front_of n block ∷ blocks)) (window_of start (front_of n block ∷ blocks))
        → HasGoodCounts (later_image opened image (window_of start (front_of n block ∷ blocks))) (next_of start blocks - 1 + 1))
        → (entries : List CommittedEntry) × Extends entries (entries_of start blocks) × Extends (entries_of start (block ∷ blocks)) entries
        × ShowsSoundly opened (head_in base to) image entries
    way_shows old new =
        elim (window_under_way opening log g start blocks block image before_last (journal_inside opening way.behind.size) way.journal is before_last_is) [
          | inl window ↦
              let found = before_seen window in (
                entries_of start blocks,
                ([], refl),
                (entries_next start blocks block, newest_block start blocks block),
                found.1 (old found.0),
              )
          | inr (n, some, few, window) ↦
              let found = front_seen n window in (
                entries_of start (front_of n block ∷ blocks),
                front_extends start n blocks block,
                block_extends start n blocks block,
                found.1 (new n found.0),
              )
        ]
