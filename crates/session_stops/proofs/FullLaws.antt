-- Where all pages say what the entries give, and all updates are counted, each image says all by itself: it can be closed.
use Rattle.std.proofs.Common.{ℕ, ◌≡◌, ◌+◌, ◌%◌, ◌<◌, ◌≤◌, List, length, Contains, Some, Ok, refl, sym, ◌∙◌, ap, subst, inl, inr, arith}
use Rattle.std.proofs.lemmas.List.Elements.{Contains-append_left}
use Rattle.blk_base.specs.Counters.{counters_per_sector, sector_of_offset, sectors_per_slab}
use Rattle.blk_base.specs.Regions.{needed_blocks}
use Rattle.blk_base.specs.declared.geometry.Geometry.{Geometry}
use Rattle.blk_base.specs.declared.journal_entry.CommittedEntry.{CommittedEntry}
use Rattle.blk_base.specs.declared.layout.DataPlace.{DataPlace}
use Rattle.blk_base.specs.declared.place.PageId.{PageId}
use Rattle.blk_base.specs.declared.place.Pbn.{Pbn}
use Rattle.byte_fields.specs.Fields.{number_at}
use Rattle.disk_model.specs.declared.call.Call.{Call}
use Rattle.disk_model.specs.Images.{IsImage}
use Rattle.disk_model.specs.Log.{Blocks, block_at}
use Rattle.image_model.specs.Counts.{IsUpdate, Stores, block_of_data, commit_at, commit_of, counter_of, reference_sector_at}
use Rattle.image_model.specs.Maps.{Image, page_at}
use Rattle.image_model.specs.Sound.{IsDataPlace}
use Rattle.recovery_laws.specs.Written.{AreFull, IsFullPage, IsFullSector}
use Rattle.recovery_laws.proofs.CountsKept.{counter_is_stored, stored_fits, stores_counter}
use Rattle.recovery_laws.proofs.SoundLaws.{known, room}
use Rattle.journal_stops.specs.Mapped.{later_image}
use Rattle.journal_stops.specs.Sealed.{Sealed, entries_of, window_of}
use Rattle.journal_stops.proofs.EntryLaws.{window_split}
use Rattle.count_laws.specs.Counters.{points_at}
use Rattle.count_laws.proofs.PointLaws.{updates_has}
use Rattle.count_laws.proofs.StoredLaws as stored
use Rattle.session_stops.specs.Beginnings.{IsToServe, opened_in}
use Rattle.session_stops.specs.Closings.{IsWrittenOut}
use Rattle.session_stops.specs.Sessions.{StandsAtRest}
use Rattle.session_stops.proofs.MapImages.{rest_seen}
use Rattle.session_stops.proofs.NewPages.{turns_made}
use Rattle.session_stops.proofs.PagePlaces.{pages_on_it}
use Rattle.session_stops.proofs.PageStops.{pages_are_full}
use Rattle.session_stops.proofs.SoundImages.{rest_good}

module _ (base : Blocks) (to : IsToServe base) (opening : Blocks) (log : List Call) (blocks : List Sealed) (all : IsWrittenOut opening log base to blocks) where
  abbrev g : Geometry
  g = to.sound.head.geometry

  abbrev start : ℕ
  start = to.sound.head.start

  abbrev opened : Image
  opened = opened_in base to

  abbrev entries : List CommittedEntry
  entries = entries_of start blocks

  abbrev window : List CommittedEntry
  window = window_of start blocks

  abbrev rest : StandsAtRest opening log base to blocks
  rest = all.stands

  module _ (image : Blocks) (is : IsImage opening log image) where
    abbrev now : Image
    now = later_image opened image window

    wide : needed_blocks g ≤ length opening
    wide = let enough = room base base to.sound in let size = rest.behind.size in omega (arith, enough, size)

    -- no update is above the commit point of its sector

    is_counted : (place : DataPlace) (point : ℕ) → IsDataPlace g place → Contains (points_at g entries place) point → point ≤ commit_of now place
    is_counted place point inside has =
        let offset = inside.1 in
        stored.counters_of_image opening log opened entries window rest.behind.counts image is wide (λ bytes. point ≤ number_at 8 0 bytes) place.slab (sector_of_offset g place.offset) inside.0 (omega (arith, offset))
        (all.counts place point inside has)

    none_above : (place : DataPlace) (point : ℕ) → IsDataPlace g place → commit_of now place < point → IsUpdate now place point → ⊥
    none_above place point inside above (inl kept) =
        elim (stored.known opening log opened entries window rest.behind.counts image is wide place.slab _ inside.0 kept) [
          | inl old ↦ (let later = (stored.counted opening log opened entries window rest.behind.counts image is wide place inside).commit in omega (arith, old, later, above))
          | inr has ↦ (let most = is_counted place point inside has in omega (arith, most, above))
        ]
    none_above place point inside above (inr (committed, has, updates)) =
        let parts = window_split g start blocks rest.journal.ring in
        let listed : Contains entries committed = subst (λ (list : List CommittedEntry). Contains list committed) (sym parts) (Contains-append_left window _ committed has) in
        let most = is_counted place point inside (updates_has entries (block_of_data g place) point committed listed updates) in omega (arith, most, above)

    -- so its counters are the stored counts

    counter_stored : (place : DataPlace) → IsDataPlace g place → Stores now place (Ok (counter_of now place))
    counter_stored place inside =
        let good = (rest_good base to opening log blocks rest image is).counts place inside in
        let same = counter_is_stored now place good.0 (λ point above it. none_above place point inside above it) good.1 in
        let fits = stored_fits now place good.0 good.1 in
        stores_counter now place (λ point above it. none_above place point inside above it) (omega (arith, same, fits))

    sector_full : (slab n : ℕ) → slab < g.slabs → n < sectors_per_slab g → IsFullSector now slab n (reference_sector_at g image slab n)
    sector_full slab n in_slab below = record {
      commit = record {
        reached = inl refl;
        most = λ point above (offset, low, sector_is, it). absurd (none_above (record { slab = slab; offset = offset }) point (in_slab, low)
            (subst (λ (m : ℕ). commit_at g image slab m < point) (sym sector_is) above) it);
      };
      counters = λ place inside slab_is sector_is.
          let counter : counter_of now place ≡ number_at 1 (8 + place.offset % counters_per_sector g) (reference_sector_at g image slab n) =
          ap (λ (k : ℕ). number_at 1 (8 + place.offset % counters_per_sector g) (reference_sector_at g image k (sector_of_offset g place.offset))) slab_is
          ∙ ap (λ (m : ℕ). number_at 1 (8 + place.offset % counters_per_sector g) (reference_sector_at g image slab m)) sector_is in
          subst (λ (count : ℕ). Stores now place (Ok count)) counter (counter_stored place inside);
      rest = λ offset behind sector_is. inr refl;
    }

    page_full : (page : PageId) (at : Pbn) → page_at now page ≡ Some at → IsFullPage now page at (block_at image at.0)
    page_full =
        let sees = (rest_seen base to opening log blocks rest image is).0 in
        let on_it = pages_on_it opened to.sound.pages to.sound.last (known base base to.sound) entries (turns_made opened entries rest.behind.turns) (length opening) wide in
        subst (λ (list : List CommittedEntry). (page : PageId) (at : Pbn) → page_at (later_image opened image list) page ≡ Some at → IsFullPage (later_image opened image list) page at (block_at image at.0))
        sees.1 (pages_are_full opening log opened start entries image sees.0.shown on_it all.pages is)

    pub image_is_full : AreFull now image
    image_is_full = record {
      size = refl;
      pages = page_full;
      counters = sector_full;
      past = λ slab n in_slab past below. refl;
      others = λ b behind below looked no_page no_counters. refl;
    }
