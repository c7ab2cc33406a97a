-- Which calls keep a session standing, at rest and while a block of the journal is under way.
use Rattle.std.proofs.Common.{ℕ, ◌≡◌, Bool, List, [], ◌∷◌, ◌++◌, Some, None, sym, ◌∙◌, subst, inl, inr, arith}
use Rattle.std.specs.List.{AllByRecursion}
use Rattle.blk_base.specs.Regions.{IsDataBlock}
use Rattle.blk_base.proofs.RegionLaws.{data_block_high}
use Rattle.blk_base.specs.declared.geometry.Geometry.{Geometry}
use Rattle.blk_base.specs.declared.journal_entry.CommittedEntry.{CommittedEntry}
use Rattle.blk_base.specs.declared.journal_entry.Entry.{Entry}
use Rattle.blk_base.specs.declared.journal_entry.Entry.TheVariants.{Remap, NewPage}
use Rattle.blk_base.specs.declared.place.PageId.{PageId}
use Rattle.blk_base.specs.declared.place.Pbn.{Pbn}
use Rattle.disk_model.specs.declared.call.Call.{Call}
use Rattle.disk_model.specs.declared.call.Call.TheVariants.{Write}
use Rattle.disk_model.specs.Log.{Blocks, Misses}
use Rattle.image_model.specs.Maps.{Image}
use Rattle.journal_stops.specs.Mapped.{newest_page, page_after}
use Rattle.journal_stops.specs.Sealed as sealed
use Rattle.journal_stops.specs.Sealed.{Sealed, entries_of, window_of}
use Rattle.journal_stops.proofs.OpenedLaws.{rooted_old_page}
use Rattle.journal_stops.proofs.StepLaws as journal
use Rattle.plain_laws.proofs.OptionLaws.{option_cases}
use Rattle.vdo_model.specs.Journals.{MissesJournal, block_of_slot}
use Rattle.count_laws.specs.Counters.{MayWrite}
use Rattle.count_laws.specs.Turns.{AreInTurn, ComesInTurn}
use Rattle.count_laws.proofs.StepLaws.{in_turn_rooted}
use Rattle.session_stops.specs.Beginnings.{IsToServe, opened_in}
use Rattle.session_stops.specs.Pages.{MissesNew, SaysTheRest}
use Rattle.session_stops.specs.Sessions.{HasNoPage, IsOfCounts, StandsAtRest, StandsUnderWay, entries_next, window_from}
use Rattle.session_stops.proofs.BehindSteps.{behind_counts, behind_data, behind_page, behind_quiet, counts_high, counts_no_data, page_behind}
use Rattle.session_stops.proofs.NewPages.{AreMadeNew, MakesNew, turns_new}
use Rattle.session_stops.proofs.PagePlaces.{root_or_below}
use Rattle.session_stops.proofs.PageSteps as pages
use Rattle.session_stops.proofs.SessionSteps.{new_kept}
use Rattle.session_stops.proofs.WindowLists.{newest_block}

module _ (base : Blocks) (to : IsToServe base) where
  abbrev g : Geometry
  g = to.sound.head.geometry

  abbrev start : ℕ
  start = to.sound.head.start

  abbrev opened : Image
  opened = opened_in base to

  -- A call that writes no block.

  misses_all_new : (call : Call) (newer : List CommittedEntry) → ((b : ℕ) → Misses call b) → AllByRecursion (λ (c : CommittedEntry). MissesNew call c.entry) newer
  misses_all_new call [] misses = tt
  misses_all_new call (c ∷ newer) misses = (one c.entry, misses_all_new call newer misses)
    where
      one : (e : Entry) → MissesNew call e
      one (Remap at old new) = tt
      one (NewPage page at) = misses at.0

  pub rest_quiet : (opening : Blocks) (log : List Call) (blocks : List Sealed) (call : Call) → ((b : ℕ) → Misses call b) → StandsAtRest opening log base to blocks
      → StandsAtRest opening (call ∷ log) base to blocks
  rest_quiet opening log blocks call misses rest = record {
    journal = journal.rest_kept opening log g start blocks call (λ slot below. misses (block_of_slot slot)) rest.journal;
    behind = behind_quiet base to opening log blocks (sealed.head_of start blocks) call misses rest.behind;
  }

  pub way_quiet : (opening : Blocks) (log : List Call) (blocks : List Sealed) (block : Sealed) (call : Call) → ((b : ℕ) → Misses call b)
      → StandsUnderWay opening log base to blocks block → StandsUnderWay opening (call ∷ log) base to blocks block
  way_quiet opening log blocks block call misses way = record {
    journal = journal.under_way_kept opening log g start blocks block call (λ slot below. misses (block_of_slot slot)) way.journal;
    behind = behind_quiet base to opening log blocks block.head call misses way.behind;
    turns = way.turns;
    made = new_kept opening log opened call (entries_next start blocks block) (misses_all_new call (entries_next start blocks block) misses) way.made;
  }

  -- A data block without a page is written.

  data_misses : (at : Pbn) (bytes : List ℕ) (ok : Bool) → IsDataBlock g at.0 → MissesJournal g (Write at bytes ok)
  data_misses at bytes ok is slot below same = let high = data_block_high g at.0 is in omega (arith, same, below, high)

  pub rest_data : (opening : Blocks) (log : List Call) (blocks : List Sealed) (at : Pbn) (bytes : List ℕ) (ok : Bool) → IsDataBlock g at.0 → HasNoPage opened (entries_of start blocks) at
      → StandsAtRest opening log base to blocks → StandsAtRest opening (Write at bytes ok ∷ log) base to blocks
  rest_data opening log blocks at bytes ok is none rest = record {
    journal = journal.rest_kept opening log g start blocks (Write at bytes ok) (data_misses at bytes ok is) rest.journal;
    behind = behind_data base to opening log blocks (sealed.head_of start blocks) at bytes ok is none rest.behind;
  }

  pub way_data : (opening : Blocks) (log : List Call) (blocks : List Sealed) (block : Sealed) (at : Pbn) (bytes : List ℕ) (ok : Bool) → IsDataBlock g at.0
      → HasNoPage opened (entries_of start blocks) at → AllByRecursion (λ (c : CommittedEntry). MissesNew (Write at bytes ok) c.entry) (entries_next start blocks block)
      → StandsUnderWay opening log base to blocks block → StandsUnderWay opening (Write at bytes ok ∷ log) base to blocks block
  way_data opening log blocks block at bytes ok is none none_new way = record {
    journal = journal.under_way_kept opening log g start blocks block (Write at bytes ok) (data_misses at bytes ok is) way.journal;
    behind = behind_data base to opening log blocks block.head at bytes ok is none way.behind;
    turns = way.turns;
    made = new_kept opening log opened (Write at bytes ok) (entries_next start blocks block) none_new way.made;
  }

  -- A page is written with what is left to it: the pages that a block under way makes stand elsewhere.

  page_misses : (entries : List CommittedEntry) → AreInTurn opened entries → (page : PageId) (at : Pbn) (bytes : List ℕ) (ok : Bool) → page_after opened entries page ≡ Some at
      → MissesJournal g (Write at bytes ok)
  page_misses entries turns page at bytes ok linked slot below same = let high = page_behind base to entries turns page at linked in omega (arith, same, high, below)

  no_newest : (older newer : List CommittedEntry) (page : PageId) (at : Pbn) → AreMadeNew opened older newer → page_after opened older page ≡ Some at → newest_page newer page ≡ None
  no_newest older newer page at made linked = elim (option_cases (newest_page newer page)) [
    | inl none ↦ none
    | inr (m, newest) ↦ (let gone = pages.newest_of_any opened older newer page m made newest in absurd (cc (gone, linked)))
  ]

  misses_unused : (older newer : List CommittedEntry) → AreInTurn opened (newer ++ older) → AreInTurn opened older → (page : PageId) (at : Pbn) (bytes : List ℕ) (ok : Bool)
      → page_after opened older page ≡ Some at → AllByRecursion (λ (c : CommittedEntry). MissesNew (Write at bytes ok) c.entry) newer
  misses_unused older [] turns turns_older page at bytes ok linked = tt
  misses_unused older (c ∷ newer) turns turns_older page at bytes ok linked = (one c.entry turns.0, misses_unused older newer turns.1 turns_older page at bytes ok linked)
    where
      made : AreMadeNew opened older newer
      made = turns_new opened newer older turns.1

      still : page_after opened (newer ++ older) page ≡ Some at
      still = rooted_old_page opened newer older page (in_turn_rooted opened older turns_older) (no_newest older newer page at made linked) ∙ linked

      one : (e : Entry) → ComesInTurn opened (newer ++ older) e → MissesNew (Write at bytes ok) e
      one (Remap x old new) is = tt
      one (NewPage new x) is = λ same. pages.root_or_not opened (newer ++ older) page at
          (root_or_below opened (newer ++ older) page at still) still x same is.3 is.4.no_page

  pub rest_page : (opening : Blocks) (log : List Call) (blocks : List Sealed) (page : PageId) (at : Pbn) (bytes : List ℕ) (ok : Bool) → page_after opened (entries_of start blocks) page ≡ Some at
      → SaysTheRest opened (entries_of start blocks) (window_of start blocks) page at bytes → StandsAtRest opening log base to blocks → StandsAtRest opening (Write at bytes ok ∷ log) base to blocks
  rest_page opening log blocks page at bytes ok linked says rest = record {
    journal = journal.rest_kept opening log g start blocks (Write at bytes ok) (page_misses (entries_of start blocks) rest.behind.turns page at bytes ok linked) rest.journal;
    behind = behind_page base to opening log blocks (sealed.head_of start blocks) page at bytes ok linked says rest.behind;
  }

  pub way_page : (opening : Blocks) (log : List Call) (blocks : List Sealed) (block : Sealed) (page : PageId) (at : Pbn) (bytes : List ℕ) (ok : Bool) → page_after opened (entries_of start blocks) page ≡ Some at
      → SaysTheRest opened (entries_of start blocks) (window_from start block.head blocks) page at bytes → StandsUnderWay opening log base to blocks block
      → StandsUnderWay opening (Write at bytes ok ∷ log) base to blocks block
  way_page opening log blocks block page at bytes ok linked says way = record {
    journal = journal.under_way_kept opening log g start blocks block (Write at bytes ok) (page_misses (entries_of start blocks) way.behind.turns page at bytes ok linked) way.journal;
    behind = behind_page base to opening log blocks block.head page at bytes ok linked says way.behind;
    turns = way.turns;
    made = new_kept opening log opened (Write at bytes ok) (entries_next start blocks block)
        (misses_unused (entries_of start blocks) (entries_next start blocks block) (subst (AreInTurn opened) (newest_block start blocks block) way.turns) way.behind.turns page at bytes ok linked) way.made;
  }

  -- A block of counters or of a slab's journal is written, as the counts allow it.

  counts_miss : (at : Pbn) (bytes : List ℕ) (ok : Bool) → IsOfCounts g at.0 → MissesJournal g (Write at bytes ok)
  counts_miss at bytes ok is slot below same = let high = counts_high base to at.0 is in omega (arith, same, below, high)

  counts_no_new : (at : Pbn) (bytes : List ℕ) (ok : Bool) (older newer : List CommittedEntry) → IsOfCounts g at.0 → AreMadeNew opened older newer
      → AllByRecursion (λ (c : CommittedEntry). MissesNew (Write at bytes ok) c.entry) newer
  counts_no_new at bytes ok older [] is made = tt
  counts_no_new at bytes ok older (c ∷ newer) is made = (one c.entry made.0, counts_no_new at bytes ok older newer is made.1)
    where
      one : (e : Entry) → MakesNew opened (newer ++ older) e → MissesNew (Write at bytes ok) e
      one (Remap x old new) new_is = tt
      one (NewPage page x) new_is = λ same. counts_no_data base to at.0 is (subst (IsDataBlock g) (sym same) new_is.2)

  pub rest_counts : (opening : Blocks) (log : List Call) (blocks : List Sealed) (at : Pbn) (bytes : List ℕ) (ok : Bool) → IsOfCounts g at.0
      → MayWrite opening log opened (entries_of start blocks) (window_of start blocks) at.0 bytes → StandsAtRest opening log base to blocks
      → StandsAtRest opening (Write at bytes ok ∷ log) base to blocks
  rest_counts opening log blocks at bytes ok is may rest = record {
    journal = journal.rest_kept opening log g start blocks (Write at bytes ok) (counts_miss at bytes ok is) rest.journal;
    behind = behind_counts base to opening log blocks (sealed.head_of start blocks) at bytes ok is may rest.behind;
  }

  pub way_counts : (opening : Blocks) (log : List Call) (blocks : List Sealed) (block : Sealed) (at : Pbn) (bytes : List ℕ) (ok : Bool) → IsOfCounts g at.0
      → MayWrite opening log opened (entries_of start blocks) (window_from start block.head blocks) at.0 bytes → StandsUnderWay opening log base to blocks block
      → StandsUnderWay opening (Write at bytes ok ∷ log) base to blocks block
  way_counts opening log blocks block at bytes ok is may way = record {
    journal = journal.under_way_kept opening log g start blocks block (Write at bytes ok) (counts_miss at bytes ok is) way.journal;
    behind = behind_counts base to opening log blocks block.head at bytes ok is may way.behind;
    turns = way.turns;
    made = new_kept opening log opened (Write at bytes ok) (entries_next start blocks block)
        (counts_no_new at bytes ok (entries_of start blocks) (entries_next start blocks block) is
        (turns_new opened (entries_next start blocks block) (entries_of start blocks) (subst (AreInTurn opened) (newest_block start blocks block) way.turns))) way.made;
  }
