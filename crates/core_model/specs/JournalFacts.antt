-- Facts of the journal: what a request carries whose entry was handed in, where a sealed block is, and what the journal keeps.
use Rattle.std.specs.Prelude.{ℕ, ◌+◌, ◌≡◌, ◌⊎◌, ◌<◌, ◌≤◌, Bool, true, false, None, Some, IsNone, List, [], ◌∷◌, ◌++◌, length, map, reverse, Contains}
use Rattle.data_vio.specs.declared.items.Asks.{Asks}
use Rattle.data_vio.specs.declared.items.Stage.{Stage}
use Rattle.data_vio.specs.declared.items.Stage.TheVariants as stage
use Rattle.data_vio.specs.declared.items.Vio.{Vio}
use Rattle.core_model.specs.JournalData.{JournalZone}
use Rattle.data_vio.specs.declared.logged.Logged.{Logged}
use Rattle.data_vio.specs.declared.logged.Remapping.{Remapping}
use Rattle.core_model.specs.JournalRules.{is_closed}
use Rattle.core_model.specs.RightTraces.{IsLeafy, IsPending, MapsTo, AllBelow, HasPlace}
use Rattle.core_model.specs.Sessions.{Session, IsFair, NewReads, NewStands, AtRest, OnItsWay, ReadsBlock, mapping_by, said_by}
use Rattle.blk_base.specs.declared.sizes.TheConstants.{JOURNAL_ENTRIES}
use Rattle.blk_base.specs.declared.place.PageId.{PageId}
use Rattle.core_model.specs.PageLinks.{page_in}
use Rattle.core_model.specs.Trace.{Trace, all_of, filled, sealed, journaled, entered, durable, applied, done, dropped, aborted, has_stopped, logged_of, entry_of}
use Rattle.data_vio.specs.Vios.{all_logged, remapping}
use Rattle.recovery_journal.specs.Log.{Log, head_of}
use Rattle.core_model.specs.RequestFacts.{IsChange, IsToData}

-- a write or a discard whose entry was handed in
pub record HasEntered (s : Session) (t : Trace) (asks : Asks) (e : Remapping) : Type 0 where
  pub is_change : IsChange asks
  pub placed : HasPlace s t e.request e.at.0 e.place
  pub entry : logged_of (entered t) e.request ≡ Some e
  pub unset : IsNone (logged_of (done t) e.request)
  pub unaborted : IsNone (logged_of (aborted t) e.request)

abbrev pub IsEntered : Session → Trace → Vio → Type 0
IsEntered s t v = HasEntered s t v.asks (remapping v)

-- and that is neither committed nor aborted
pub record HasPendingEntry (s : Session) (t : Trace) (asks : Asks) (bytes : List ℕ) (e : Remapping) : Type 0 where
  pub is_entered : HasEntered s t asks e
  pub pending : IsPending t e
  pub below : AllBelow t e.at.0 e.place
  pub maps : MapsTo asks bytes e.new
  pub leaf : IsLeafy s t e.at.0
  pub old_data : IsToData s e.old
  pub old_is : IsFair s t → e.old ≡ mapping_by s (applied t) e.at.0

-- the entry that puts a page somewhere is the request's own, and the page isn't linked
pub record HasPageEntry (s : Session) (t : Trace) (e : Logged) (page : PageId) : Type 0 where
  pub handed_in : Contains (journaled t) e
  pub unlinked : page_in s.links (applied t) page ≡ None
  pub undropped : Contains (dropped t) e → ⊥

-- A block that was sealed last with the entries of these requests, at this sequence of the journal: all others are committed.
pub record IsSealed (s : Session) (t : Trace) (vios : List Vio) (at : ℕ) : Type 0 where
  pub older : List (List Logged)
  pub sealed_is : sealed t ≡ all_logged vios ∷ older
  pub committed_is : durable t ≡ all_of older
  pub some : 0 < length vios
  pub few : length vios ≤ JOURNAL_ENTRIES
  pub sequence : at ≡ s.sizes.start + length older
  pub left : length older + 1 < s.sizes.geometry.journal

-- Where a block with these requests is at a stage: which entries are committed; and where the session is fair, what stands on
-- the device.
abbrev pub StandsAt : Session → Trace → List Vio → ℕ → Stage → Type 0
StandsAt s t vios at stage.Cover = (k : IsSealed s t vios at) × (IsFair s t → AtRest s t k.older × NewReads s t (all_logged vios))
StandsAt s t vios at stage.Write = (k : IsSealed s t vios at) × (IsFair s t → AtRest s t k.older × NewStands s t (all_logged vios))
StandsAt s t vios at stage.Harden = (k : IsSealed s t vios at) × (IsFair s t → OnItsWay s t k.older (all_logged vios) × ReadsBlock s t k.older (all_logged vios))
StandsAt s t vios at stage.Commit = (all_of (sealed t) ≡ all_logged vios ++ durable t) × (IsFair s t → AtRest s t (sealed t))
StandsAt s t vios at stage.Fail = (k : IsSealed s t vios at) × (IsFair s t → AtRest s t k.older ⊎ OnItsWay s t k.older (all_logged vios)) × (has_stopped t ≡ true)

-- The log has the entries of the blocks that were sealed, and of the one being filled, in their order. No zone lets go of an
-- entry, so its head is the first sequence.
pub record IsLogOf (s : Session) (t : Trace) (log : Log) : Type 0 where
  pub size_is : log.size ≡ s.sizes.geometry.journal
  pub sequence_is : log.sequence ≡ s.sizes.start + length (sealed t)
  pub head_is : head_of log ≡ s.sizes.start
  pub filling_is : log.filling ≡ reverse (map entry_of (filled t))
  pub entries_are : said_by log.entries ≡ reverse (map entry_of (all_of (sealed t)))
  -- those that are committed were handed out
  pub handed_is : log.handed ≡ length (durable t)
  pub durable_is : all_of (sealed t) ≡ durable t → log.committed ≡ log.sequence

-- Its own lists are parts of the trace.
pub record JournalLists (s : Session) (t : Trace) (j : JournalZone) : Type 0 where
  pub entered_is : j.entered ≡ journaled t
  pub committed_is : j.committed ≡ durable t
  -- while none failed
  pub filled_is : j.broken ≡ false → all_logged j.filling ≡ filled t
  -- the entry of each request there stands in the log
  pub filling_few : length j.filling ≤ length j.log.filling
  pub log_is : IsLogOf s t j.log

-- no entry is in the block being filled, and none waits for the next one
pub record IsUnused (filling waiting : List Vio) : Type 0 where
  pub unfilled : filling ≡ []
  pub unawaited : waiting ≡ []

-- The block being filled has no more entries than a block may; while no block goes round none is filled, and nobody waits; and somebody waits
-- for the next one only where that block is full.
abbrev pub IsSoundJournal : JournalZone → Type 0
IsSoundJournal j =
    (length j.filling ≤ JOURNAL_ENTRIES) × (j.busy ≡ false → IsUnused j.filling j.waiting) × (0 < length j.waiting → length j.filling ≡ JOURNAL_ENTRIES)

-- While no block is under way all that was sealed is committed; and where the session is fair, it stands on the device.
abbrev pub RestsAt : Session → Trace → (busy broken : Bool) → Type 0
RestsAt s t true broken = broken ≡ false
RestsAt s t false false = (all_of (sealed t) ≡ durable t) × (IsFair s t → AtRest s t (sealed t))
RestsAt s t false true = Unit {0}

-- What it was told: it is closed by a stop alone.
abbrev pub JournalWasTold : Trace → JournalZone → Type 0
JournalWasTold t j = is_closed j ≡ true → has_stopped t ≡ true
