-- What stands besides the journal: what each call leaves of it, and with a later head.
use Rattle.std.proofs.Common.{ℕ, ◌≡◌, ◌+◌, ◌<◌, ◌≤◌, Bool, List, ◌∷◌, ◌++◌, Some, sym, ◌∙◌, ap, subst, inl, inr, arith, append_assoc}
use Rattle.blk_base.specs.Regions.{DataBlock, ReferenceBlock, SlabJournalSlot, IsDataBlock, block_of, references_of}
use Rattle.blk_base.proofs.RegionLaws.{apart, data_block_high}
use Rattle.blk_base.specs.declared.geometry.Geometry.{Geometry}
use Rattle.blk_base.specs.declared.journal_entry.CommittedEntry.{CommittedEntry}
use Rattle.blk_base.specs.declared.place.PageId.{PageId}
use Rattle.blk_base.specs.declared.place.Pbn.{Pbn}
use Rattle.blk_base.specs.declared.sizes.TheConstants.{TREES}
use Rattle.disk_model.specs.declared.call.Call.{Call}
use Rattle.disk_model.specs.declared.call.Call.TheVariants.{Write}
use Rattle.disk_model.specs.Log.{Blocks, Misses}
use Rattle.image_layout.specs.Superblock.{super_block}
use Rattle.image_model.specs.Maps.{Image, put_last}
use Rattle.image_model.proofs.EmptyLaws.{sizes_of_image}
use Rattle.journal_stops.specs.Mapped.{page_after}
use Rattle.journal_stops.specs.Sealed.{Sealed, before, entries_of, head_of, window_of}
use Rattle.journal_stops.proofs.EntryLaws.{entries_since}
use Rattle.recovery_laws.proofs.SoundLaws.{known}
use Rattle.count_laws.specs.Counters.{CountsStand, MayWrite}
use Rattle.count_laws.specs.Turns.{AreInTurn}
use Rattle.count_laws.proofs.KeepLaws.{counts_after_write, counts_kept, counts_with_window}
use Rattle.session_stops.specs.Beginnings.{IsToServe, head_in, opened_in}
use Rattle.session_stops.specs.Pages.{PagesStand, SaysTheRest}
use Rattle.session_stops.specs.Sessions.{HasNoPage, IsBehind, IsOfCounts, MayRise, window_from}
use Rattle.session_stops.proofs.NewPages.{turns_made}
use Rattle.session_stops.proofs.PageHeads.{page_written}
use Rattle.session_stops.proofs.PagePlaces.{page_stands_after}
use Rattle.session_stops.proofs.PageSteps as pages
use Rattle.session_stops.proofs.SurelyLaws.{missed}
use Rattle.session_stops.proofs.WindowLists.{window_earlier}

module _ (base : Blocks) (to : IsToServe base) where
  abbrev g : Geometry
  g = to.sound.head.geometry

  abbrev start : ℕ
  start = to.sound.head.start

  abbrev opened : Image
  opened = opened_in base to

  -- Pages stand behind the recovery journal.
  pub page_behind : (entries : List CommittedEntry) → AreInTurn opened entries → (page : PageId) (at : Pbn) → page_after opened entries page ≡ Some at → 1 + g.journal ≤ at.0
  page_behind entries turns page at linked = elim (page_stands_after opened to.sound.pages to.sound.last (known base base to.sound) entries (turns_made opened entries turns) page at linked) [
    | inl root ↦ let is = root.1 in omega (arith, is)
    | inr stands ↦ let high = data_block_high g at.0 stands in omega (arith, high)
  ]

  -- A data block is none of the counts', and neither is a page.

  not_counters : (at : Pbn) (bytes : List ℕ) (ok : Bool) → IsDataBlock g at.0 → (slab i : ℕ) → slab < g.slabs → i < references_of g → Misses (Write at bytes ok) (block_of g (ReferenceBlock slab i))
  not_counters at bytes ok is slab i in_slab below same =
      let one = apart g (DataBlock is.slab is.offset) (ReferenceBlock slab i) is.inside (in_slab, below) (is.stands ∙ same) in absurd (cc one)

  not_slab_journal : (at : Pbn) (bytes : List ℕ) (ok : Bool) → IsDataBlock g at.0 → (slab slot : ℕ) → slab < g.slabs → slot < g.slab_journal
      → Misses (Write at bytes ok) (block_of g (SlabJournalSlot slab slot))
  not_slab_journal at bytes ok is slab slot in_slab below same =
      let one = apart g (DataBlock is.slab is.offset) (SlabJournalSlot slab slot) is.inside (in_slab, below) (is.stands ∙ same) in absurd (cc one)

  counts_of_data : (opening : Blocks) (log : List Call) (entries window : List CommittedEntry) (at : Pbn) (bytes : List ℕ) (ok : Bool) → IsDataBlock g at.0
      → CountsStand opening log opened entries window → CountsStand opening (Write at bytes ok ∷ log) opened entries window
  counts_of_data opening log entries window at bytes ok is stand =
      counts_kept opening log opened entries window (Write at bytes ok) (not_counters at bytes ok is) (not_slab_journal at bytes ok is) stand

  -- a write in front of the slabs
  pub counts_in_front : (opening : Blocks) (log : List Call) (entries window : List CommittedEntry) (at : Pbn) (bytes : List ℕ) (ok : Bool) → at.0 < 1 + TREES + g.journal
      → CountsStand opening log opened entries window → CountsStand opening (Write at bytes ok ∷ log) opened entries window
  counts_in_front opening log entries window at bytes ok low stand =
      counts_kept opening log opened entries window (Write at bytes ok) (λ slab i in_slab below same. omega (arith, same, low)) (λ slab slot in_slab below same. omega (arith, same, low)) stand

  counts_of_page : (opening : Blocks) (log : List Call) (entries window : List CommittedEntry) (page : PageId) (at : Pbn) (bytes : List ℕ) (ok : Bool) → AreInTurn opened entries
      → page_after opened entries page ≡ Some at → CountsStand opening log opened entries window → CountsStand opening (Write at bytes ok ∷ log) opened entries window
  counts_of_page opening log entries window page at bytes ok turns linked stand =
      elim (page_stands_after opened to.sound.pages to.sound.last (known base base to.sound) entries (turns_made opened entries turns) page at linked) [
        | inl root ↦ let tree = root.0 in let is = root.1 in counts_in_front opening log entries window at bytes ok (omega (arith, is, tree)) stand
        | inr stands ↦ counts_of_data opening log entries window at bytes ok stands stand
      ]

  -- A call that leaves the superblock, and after which the pages and the counts stand.

  pub behind_after : (opening : Blocks) (log : List Call) (blocks : List Sealed) (head : ℕ) (call : Call) → Misses call 0
      → PagesStand opening (call ∷ log) opened (entries_of start blocks) (window_from start head blocks)
      → CountsStand opening (call ∷ log) opened (entries_of start blocks) (window_from start head blocks)
      → IsBehind opening log base to blocks head → IsBehind opening (call ∷ log) base to blocks head
  behind_after opening log blocks head call misses pages counts behind = record {
    size = behind.size;
    super = missed (λ content. content ≡ super_block (head_in base to)) opening log 0 call misses behind.super;
    reach = behind.reach;
    few = behind.few;
    turns = behind.turns;
    pages = pages;
    counts = counts;
  }

  -- a call that writes nothing
  pub behind_quiet : (opening : Blocks) (log : List Call) (blocks : List Sealed) (head : ℕ) (call : Call) → ((b : ℕ) → Misses call b)
      → IsBehind opening log base to blocks head → IsBehind opening (call ∷ log) base to blocks head
  behind_quiet opening log blocks head call misses behind =
      behind_after opening log blocks head call (misses 0)
      (pages.pages_missed opening log opened (entries_of start blocks) (window_from start head blocks) behind.pages call (λ page at linked. misses at.0))
      (counts_kept opening log opened (entries_of start blocks) (window_from start head blocks) call (λ slab i in_slab below. misses (block_of g (ReferenceBlock slab i)))
      (λ slab slot in_slab below. misses (block_of g (SlabJournalSlot slab slot))) behind.counts)
      behind

  -- the recovery journal is written
  pub behind_journal : (opening : Blocks) (log : List Call) (blocks : List Sealed) (head : ℕ) (at : Pbn) (bytes : List ℕ) (ok : Bool) → 1 ≤ at.0 → at.0 ≤ g.journal
      → IsBehind opening log base to blocks head → IsBehind opening (Write at bytes ok ∷ log) base to blocks head
  behind_journal opening log blocks head at bytes ok low high behind =
      behind_after opening log blocks head (Write at bytes ok) (λ same. omega (arith, same, low))
      (pages.pages_missed opening log opened (entries_of start blocks) (window_from start head blocks) behind.pages (Write at bytes ok)
      (λ page x linked same. let past = page_behind (entries_of start blocks) behind.turns page x linked in omega (arith, same, past, high)))
      (counts_in_front opening log (entries_of start blocks) (window_from start head blocks) at bytes ok (omega (arith, high)) behind.counts)
      behind

  -- a data block without a page is
  pub behind_data : (opening : Blocks) (log : List Call) (blocks : List Sealed) (head : ℕ) (at : Pbn) (bytes : List ℕ) (ok : Bool) → IsDataBlock g at.0
      → HasNoPage opened (entries_of start blocks) at → IsBehind opening log base to blocks head → IsBehind opening (Write at bytes ok ∷ log) base to blocks head
  behind_data opening log blocks head at bytes ok is none behind =
      let high = data_block_high g at.0 is in
      behind_after opening log blocks head (Write at bytes ok) (λ same. omega (arith, same, high))
      (pages.pages_missed opening log opened (entries_of start blocks) (window_from start head blocks) behind.pages (Write at bytes ok) (λ page x linked same. none page x linked same))
      (counts_of_data opening log (entries_of start blocks) (window_from start head blocks) at bytes ok is behind.counts)
      behind

  -- a page is, with what is left to it
  pub behind_page : (opening : Blocks) (log : List Call) (blocks : List Sealed) (head : ℕ) (page : PageId) (at : Pbn) (bytes : List ℕ) (ok : Bool)
      → page_after opened (entries_of start blocks) page ≡ Some at → SaysTheRest opened (entries_of start blocks) (window_from start head blocks) page at bytes
      → IsBehind opening log base to blocks head → IsBehind opening (Write at bytes ok ∷ log) base to blocks head
  behind_page opening log blocks head page at bytes ok linked says behind =
      let high = page_behind (entries_of start blocks) behind.turns page at linked in
      behind_after opening log blocks head (Write at bytes ok) (λ same. omega (arith, same, high))
      (page_written opened (sizes_of_image base to.sound.head to.sound.opens.accepted) to.named to.sound.pages to.sound.last (known base base to.sound) (entries_of start blocks)
      (turns_made opened (entries_of start blocks) behind.turns) opening log (window_from start head blocks) behind.pages page at bytes ok linked says)
      (counts_of_page opening log (entries_of start blocks) (window_from start head blocks) page at bytes ok behind.turns linked behind.counts)
      behind

  -- A block of the counts is, as they allow it.

  pub counts_high : (b : ℕ) → IsOfCounts g b → 1 + TREES + g.journal ≤ b
  counts_high b (inl (slab, i, inside, same)) = omega (arith, same)
  counts_high b (inr (slab, slot, inside, same)) = omega (arith, same)

  pub counts_no_data : (b : ℕ) → IsOfCounts g b → IsDataBlock g b → ⊥
  counts_no_data b (inl (slab, i, inside, same)) is =
      let one = apart g (ReferenceBlock slab i) (DataBlock is.slab is.offset) inside is.inside (same ∙ sym is.stands) in absurd (cc one)
  counts_no_data b (inr (slab, slot, inside, same)) is =
      let one = apart g (SlabJournalSlot slab slot) (DataBlock is.slab is.offset) inside is.inside (same ∙ sym is.stands) in absurd (cc one)

  counts_no_page : (entries : List CommittedEntry) → AreInTurn opened entries → (at : Pbn) → IsOfCounts g at.0 → HasNoPage opened entries at
  counts_no_page entries turns at is page x linked same =
      elim (page_stands_after opened to.sound.pages to.sound.last (known base base to.sound) entries (turns_made opened entries turns) page x linked) [
        | inl root ↦ (let high = counts_high at.0 is in let tree = root.0 in let there = root.1 in omega (arith, high, tree, there, same))
        | inr stands ↦ counts_no_data at.0 is (subst (IsDataBlock g) (sym same) stands)
      ]

  pub behind_counts : (opening : Blocks) (log : List Call) (blocks : List Sealed) (head : ℕ) (at : Pbn) (bytes : List ℕ) (ok : Bool) → IsOfCounts g at.0
      → MayWrite opening log opened (entries_of start blocks) (window_from start head blocks) at.0 bytes
      → IsBehind opening log base to blocks head → IsBehind opening (Write at bytes ok ∷ log) base to blocks head
  behind_counts opening log blocks head at bytes ok is may behind =
      let high = counts_high at.0 is in
      behind_after opening log blocks head (Write at bytes ok) (λ same. omega (arith, same, high))
      (pages.pages_missed opening log opened (entries_of start blocks) (window_from start head blocks) behind.pages (Write at bytes ok) (counts_no_page (entries_of start blocks) behind.turns at is))
      (counts_after_write opening log opened (entries_of start blocks) (window_from start head blocks) at bytes ok may behind.counts)
      behind

  -- The head may rise over entries whose slots and updates stand.

  pub behind_rises : (opening : Blocks) (log : List Call) (blocks : List Sealed) (later : ℕ) → start ≤ head_of start blocks → MayRise opening log base to blocks later
      → IsBehind opening log base to blocks (head_of start blocks) → IsBehind opening log base to blocks later
  behind_rises opening log blocks later low may behind =
      let head = head_of start blocks in
      let entries = entries_of start blocks in
      let between = may.low in
      let high = may.high in
      let over = window_earlier start head later blocks low between high in
      let older = entries_of start (before start head blocks) in
      let all : entries ≡ window_from start later blocks ++ (over.0 ++ older) =
      entries_since start head blocks low (omega (arith, between, high)) ∙ ap (λ (list : List CommittedEntry). list ++ older) over.1 ∙ append_assoc (window_from start later blocks) over.0 older in
      record {
        size = behind.size;
        super = behind.super;
        reach = behind.reach;
        few = behind.few;
        turns = behind.turns;
        pages = pages.rises opening log opened entries (window_from start later blocks) over.0 older all
            (λ page at slot mapping linked small left put. may.slots page at slot mapping linked small left
            (ap (λ (list : List CommittedEntry). put_last list page slot) over.1 ∙ pages.put_behind_none (window_from start later blocks) over.0 page slot mapping left put))
            (subst (PagesStand opening log opened entries) over.1 behind.pages);
        counts = counts_with_window opening log opened entries (window_of start blocks) (window_from start later blocks) behind.counts may.updates;
      }
