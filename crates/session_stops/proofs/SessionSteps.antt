-- What begins a session that stands, and what takes it from rest to a block under way, and back.
use Rattle.std.proofs.Common.{ℕ, ◌≡◌, ◌+◌, ◌%◌, ◌<◌, ◌≤◌, ◌^◌, Bool, true, List, [], ◌∷◌, ◌++◌, length, Some, refl, sym, ◌∙◌, subst, arith}
use Rattle.std.specs.List.{AllByRecursion}
use Rattle.std.proofs.Math.Nat.{mod-lt}
use Rattle.blk_base.proofs.RegionLaws.{data_block_high}
use Rattle.blk_base.specs.Points.{point_of}
use Rattle.blk_base.specs.declared.geometry.Geometry.{Geometry}
use Rattle.blk_base.specs.declared.journal_entry.CommittedEntry.{CommittedEntry}
use Rattle.blk_base.specs.declared.journal_entry.Entry.{Entry}
use Rattle.blk_base.specs.declared.journal_entry.Entry.TheVariants.{Remap, NewPage}
use Rattle.blk_base.specs.declared.place.PageId.{PageId}
use Rattle.blk_base.specs.declared.place.Pbn.{Pbn}
use Rattle.blk_base.specs.declared.point.Half.TheVariants.{Increment}
use Rattle.disk_model.specs.declared.call.Call.{Call}
use Rattle.disk_model.specs.declared.call.Call.TheVariants.{Write, Flush}
use Rattle.disk_model.specs.Log.{Blocks}
use Rattle.disk_model.specs.OneImages.{HasOneImageIn}
use Rattle.image_layout.specs.Superblock.{super_block}
use Rattle.image_model.specs.Maps.{Image, page_at}
use Rattle.image_model.proofs.EmptyLaws.{sizes_of_image}
use Rattle.image_model.specs.Looked.{HasOneImageButIndex, is_looked_at}
use Rattle.image_model.proofs.LookedLaws.{one_by_sizes}
use Rattle.journal_stops.specs.Rings.{IsWhole, IsWritten, ring_slot_of}
use Rattle.journal_stops.specs.Sealed.{Sealed, IsSealed, entries_of, next_of, window_of}
use Rattle.journal_stops.proofs.EntryLaws.{window_of_all}
use Rattle.journal_stops.proofs.OpenedLaws.{page_with_none}
use Rattle.journal_stops.proofs.ReopenLaws.{closed_at_rest}
use Rattle.journal_stops.proofs.StepLaws as journal
use Rattle.recovery_laws.proofs.SoundLaws.{known, room}
use Rattle.recovery_laws.specs.Recoverable.{sound_recoverable}
use Rattle.recovery_laws.proofs.StopLaws.{page_looked_at}
use Rattle.count_laws.specs.Counters.{CountsStand}
use Rattle.count_laws.specs.Points.{ArePointed}
use Rattle.count_laws.specs.Turns.{AreInTurn}
use Rattle.count_laws.proofs.ImageLaws.{closed_counts}
use Rattle.count_laws.proofs.KeepLaws.{counts_begin, counts_grow, counts_kept}
use Rattle.count_laws.proofs.StepLaws.{in_turn_rooted}
use Rattle.session_stops.specs.Beginnings.{IsToServe, head_in, opened_in}
use Rattle.session_stops.specs.Pages.{EmptyPageStands, MissesNew, NewPagesStand, PagesStand}
use Rattle.session_stops.specs.Sessions.{AreFew, IsBehind, MayRise, StandsAtRest, StandsUnderWay, entries_next, window_from}
use Rattle.session_stops.proofs.BehindSteps.{behind_journal, behind_quiet, behind_rises, counts_in_front, page_behind}
use Rattle.session_stops.proofs.NewPages.{AreMadeNew, MakesNew, turns_new}
use Rattle.session_stops.proofs.PagePlaces.{pages_on_it}
use Rattle.session_stops.proofs.PageSteps as pages
use Rattle.session_stops.proofs.PointedBlocks.{blocks_pointed}
use Rattle.session_stops.proofs.SurelyLaws.{missed}
use Rattle.session_stops.proofs.WindowLists.{newest_block, window_newest}

-- a call that misses the blocks of new pages
pub new_kept : (opening : Blocks) (log : List Call) (opened : Image) (call : Call) (newer : List CommittedEntry) → AllByRecursion (λ (c : CommittedEntry). MissesNew call c.entry) newer
    → NewPagesStand opening log opened newer → NewPagesStand opening (call ∷ log) opened newer
new_kept opening log opened call [] misses stand = tt
new_kept opening log opened call (c ∷ newer) misses stand = (one c.entry misses.0 stand.0, new_kept opening log opened call newer misses.1 stand.1)
  where
    one : (e : Entry) → MissesNew call e → EmptyPageStands opening log opened e → EmptyPageStands opening (call ∷ log) opened e
    one (Remap at old new) misses stands = tt
    one (NewPage page at) misses stands = missed _ opening log at.0 call misses stands

module _ (base : Blocks) (to : IsToServe base) where
  abbrev g : Geometry
  g = to.sound.head.geometry

  abbrev start : ℕ
  start = to.sound.head.start

  abbrev opened : Image
  opened = opened_in base to

  -- A session is opened: its superblock is written where nothing is pending, and flushed.

  counts_opened : (opening : Blocks) (log : List Call) → HasOneImageButIndex opening log base → CountsStand opening log opened [] []
  counts_opened opening log one =
      let wide = room base base to.sound in
      let size = one.size in
      counts_begin opening log opened (omega (arith, wide, size)) (one_by_sizes base to.sound.head to.sound.opens.accepted opening log base one) (closed_counts base to.sound to.clean).updates

  pub session_opens : (opening : Blocks) (log : List Call) → HasOneImageButIndex opening log base
      → StandsAtRest opening (Flush true ∷ Write (record { 0 = 0 }) (super_block (head_in base to)) true ∷ log) base to []
  session_opens opening log one =
      let size : length opening ≡ length base = sym one.size in
      let enough = room base base to.sound in
      let sized : HasOneImageIn (is_looked_at g) opening log base = one_by_sizes base to.sound.head to.sound.opens.accepted opening log base one in
      let writing : Call = Write (record { 0 = 0 }) (super_block (head_in base to)) true in
      let on_it : (page : PageId) (at : Pbn) → page_at opened page ≡ Some at → at.0 < length opening = λ page at there.
      pages_on_it opened to.sound.pages to.sound.last (known base base to.sound) [] tt (length opening) (omega (arith, enough, size)) page at (page_with_none opened page ∙ there) in
      let none : opened.window ≡ window_from start start [] = (to.sound.closed to.clean).window ∙ sym (window_of_all start [] refl) in
      let empty : [] ≡ window_from start start [] = sym (window_of_all start [] refl) in
      let stand = subst (PagesStand opening log opened []) none (pages.begins (is_looked_at g) opening log opened sized to.sound.pages (λ page at there. (on_it page at there, page_looked_at base (sound_recoverable base to.sound) to.named page at there))) in
      let still = pages.pages_missed opening log opened [] (window_from start start []) stand writing (λ page at linked same. let high = page_behind base to [] tt page at linked in omega (arith, same, high)) in
      let counted = counts_in_front base to opening log [] (window_from start start []) (record { 0 = 0 }) (super_block (head_in base to)) true (omega arith)
      (subst (CountsStand opening log opened []) empty (counts_opened opening log one)) in
      record {
        journal = journal.rest_kept opening (writing ∷ log) g start [] (Flush true) (λ slot below. tt)
            (journal.rest_kept opening log g start [] writing (λ slot below same. omega (arith, same))
            (journal.opened opening log g start base [] (omega (arith, enough, size)) sized (closed_at_rest base to.sound start to.clean (omega arith))));
        behind = record {
          size = size;
          super = (refl, tt);
          reach = omega arith;
          few = tt;
          turns = tt;
          pages = pages.pages_missed opening (writing ∷ log) opened [] (window_from start start []) still (Flush true) (λ page at linked. tt);
          counts = counts_kept opening (writing ∷ log) opened [] (window_from start start []) (Flush true) (λ slab i in_slab below. tt) (λ slab slot in_slab below. tt) counted;
        };
      }

  -- The next block is written ..

  journal_block : (opening : Blocks) (at : Pbn) (sequence : ℕ) → at.0 ≡ ring_slot_of g sequence → (1 ≤ at.0) × (at.0 ≤ g.journal)
  journal_block opening at sequence same =
      let sizes = sizes_of_image base to.sound.head to.sound.opens.accepted in
      let some = sizes.journal.0 in
      let below : sequence % g.journal < g.journal = mod-lt sequence (omega (arith, some)) in
      (omega (arith, same), omega (arith, same, below))

  misses_made : (at : Pbn) (bytes : List ℕ) (ok : Bool) (older newer : List CommittedEntry) → at.0 ≤ g.journal → AreMadeNew opened older newer
      → AllByRecursion (λ (c : CommittedEntry). MissesNew (Write at bytes ok) c.entry) newer
  misses_made at bytes ok older [] low made = tt
  misses_made at bytes ok older (c ∷ newer) low made = (one c.entry made.0, misses_made at bytes ok older newer low made.1)
    where
      one : (e : Entry) → MakesNew opened (newer ++ older) e → MissesNew (Write at bytes ok) e
      one (Remap x old new) is = tt
      one (NewPage page x) is = λ same. let high = data_block_high g x.0 is.2 in omega (arith, same, high, low)

  pub session_begins : (opening : Blocks) (log : List Call) (blocks : List Sealed) (block : Sealed) (at : Pbn) (bytes : List ℕ) (ok : Bool)
      → at.0 ≡ ring_slot_of g (next_of start blocks) → IsSealed g start blocks block → IsWhole g (next_of start blocks) block bytes
      → StandsAtRest opening log base to blocks → IsBehind opening log base to blocks block.head
      → AreInTurn opened (entries_of start (block ∷ blocks)) → NewPagesStand opening log opened (entries_next start blocks block)
      → StandsUnderWay opening (Write at bytes ok ∷ log) base to blocks block
  session_begins opening log blocks block at bytes ok place is_sealed says rest behind turns made =
      let there = journal_block opening at (next_of start blocks) place in record {
        journal = journal.begins opening log g start blocks block at bytes ok place is_sealed says rest.journal;
        behind = behind_journal base to opening log blocks block.head at bytes ok there.0 there.1 behind;
        turns = turns;
        made = new_kept opening log opened (Write at bytes ok) (entries_next start blocks block)
            (misses_made at bytes ok (entries_of start blocks) (entries_next start blocks block) there.1
            (turns_new opened (entries_next start blocks block) (entries_of start blocks) (subst (AreInTurn opened) (newest_block start blocks block) turns))) made;
      }

  -- .. and flushed.

  pub session_ends : (opening : Blocks) (log : List Call) (blocks : List Sealed) (block : Sealed) → IsWritten opening log g start blocks block → length blocks + 2 < 2 ^ 18
      → StandsUnderWay opening log base to blocks block → StandsAtRest opening (Flush true ∷ log) base to (block ∷ blocks)
  session_ends opening log blocks block written reach way =
      let newer = entries_next start blocks block in
      let older = entries_of start blocks in
      let window = window_from start block.head blocks in
      let low = way.journal.ring.head in let rises = way.journal.is_sealed.rises in
      let few : AreFew (block ∷ blocks) = (way.journal.is_sealed.holds.few, way.behind.few) in
      let all = sym (newest_block start blocks block) in
      let newest = sym (window_newest start blocks block (omega (arith, low, rises)) way.journal.is_sealed.holds.head_below) in
      let pointed = subst (ArePointed (point_of start 0 Increment)) (newest_block start blocks block) (blocks_pointed start (block ∷ blocks) few).0 in
      let next = (to.sound.closed to.clean).next in
      let pages_grown = pages.grows opening log opened newer older window (in_turn_rooted opened older way.behind.turns)
      (turns_new opened newer older (subst (AreInTurn opened) (newest_block start blocks block) way.turns)) way.made way.behind.pages in
      let counts_grown = counts_grow opening log opened newer older window (point_of start 0 Increment) pointed
      (λ slab n in_slab below. let was = to.sound.timely.commits slab n in_slab (omega (arith, below)) in omega (arith, was, next)) way.behind.counts in
      record {
        journal = journal.ends opening log g start blocks block written way.journal;
        behind = behind_quiet base to opening log (block ∷ blocks) block.head (Flush true) (λ b. tt) (record {
          size = way.behind.size;
          super = way.behind.super;
          reach = omega (arith, reach);
          few = few;
          turns = way.turns;
          pages = subst (λ (list : List CommittedEntry). PagesStand opening log opened list (window_of start (block ∷ blocks))) all (subst (PagesStand opening log opened (newer ++ older)) newest pages_grown);
          counts = subst (λ (list : List CommittedEntry). CountsStand opening log opened list (window_of start (block ∷ blocks))) all (subst (CountsStand opening log opened (newer ++ older)) newest counts_grown);
        });
      }

  -- The head may rise over entries whose slots and updates stand.

  pub session_rises : (opening : Blocks) (log : List Call) (blocks : List Sealed) (later : ℕ) → MayRise opening log base to blocks later
      → StandsAtRest opening log base to blocks → IsBehind opening log base to blocks later
  session_rises opening log blocks later may rest = behind_rises base to opening log blocks later rest.journal.ring.head may rest.behind
