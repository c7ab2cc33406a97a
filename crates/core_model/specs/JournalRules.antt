-- What the journal does: entries are handed in, sealed and committed.
use Rattle.std.specs.Prelude.{◌+◌, ◌≡◌, ◌<◌, Bool, true, false, ◌||◌, Option, None, List, [], ◌∷◌, ◌++◌, length, min, nat_lt}
use Rattle.blk_base.specs.declared.journal_entry.Entry.{Entry}
use Rattle.blk_base.specs.declared.place.Mapping.{Mapping}
use Rattle.blk_base.specs.declared.place.Mapping.TheVariants.{At}
use Rattle.blk_base.specs.declared.place.PageId.{PageId}
use Rattle.blk_base.specs.declared.place.ZoneId.TheVariants as id
use Rattle.blk_base.specs.declared.request.Answer.{Answer}
use Rattle.blk_base.specs.declared.request.Answer.TheVariants as reply
use Rattle.blk_base.specs.declared.sizes.TheConstants.{JOURNAL_ENTRIES}
use Rattle.data_vio.specs.declared.items.Item.TheVariants as item
use Rattle.data_vio.specs.declared.items.Phase.TheVariants as phase
use Rattle.data_vio.specs.declared.items.SealedBlock.{SealedBlock}
use Rattle.data_vio.specs.declared.items.Stage.{Stage}
use Rattle.data_vio.specs.declared.items.Stage.TheVariants as stage
use Rattle.data_vio.specs.declared.items.Vio.{Vio}
use Rattle.data_vio.specs.declared.logged.Remapping.{Remapping}
use Rattle.data_vio.specs.declared.sizes.Sizes.{Sizes}
use Rattle.core_model.specs.JournalData.{JournalZone}
use Rattle.core_model.specs.Trace.{Trace, Enters, Seals, Commits, entry_of}
use Rattle.data_vio.specs.Vios.{Post, counts_of, turned, ended, logged, remapping}
use Rattle.data_vio.specs.Zones.{counts_in}
use Rattle.recovery_journal.specs.Log.{Log, head_of, placed}

-- no entry is handed in any more
abbrev pub is_closed : JournalZone → Bool
is_closed j = j.notified || j.broken

-- the block being filled has a slot in the ring: one stays free beside it, so that the newest durable block is never
-- overwritten
abbrev pub has_block : JournalZone → Bool
has_block j = nat_lt (j.log.sequence + 1) (head_of j.log + j.log.size)

-- and it has room for one more entry
abbrev pub has_room : JournalZone → Bool
has_room j = nat_lt (length j.log.filling) JOURNAL_ENTRIES

-- the block being filled, with these requests; it names the least sequence that is needed as its head
abbrev pub next_block : JournalZone → Stage → List Vio → SealedBlock
next_block j at vios = record { stage = at; sequence = j.log.sequence; head = head_of j.log; vios = vios }

-- a request is aborted, by way of the physical zone
abbrev pub refused : Sizes → Answer → Vio → Post
refused sizes answer v = (counts_of sizes v, item.Request (ended phase.AbortClaim answer v))

abbrev pub all_refused : Sizes → Answer → List Vio → List Post
all_refused sizes answer [] = []
all_refused sizes answer (v ∷ vs) = refused sizes answer v ∷ all_refused sizes answer vs

-- one whose entry was handed in is aborted so too
abbrev pub dropped : Sizes → Vio → Post
dropped sizes v = (counts_of sizes v, item.Request (ended phase.AbortEnteredClaim reply.Stopped v))

abbrev pub all_dropped : Sizes → List Vio → List Post
all_dropped sizes [] = []
all_dropped sizes (v ∷ vs) = dropped sizes v ∷ all_dropped sizes vs

-- those that waited come again
abbrev pub all_again : List Vio → List Post
all_again [] = []
all_again (v ∷ vs) = (id.Journal, item.Request v) ∷ all_again vs

-- an entry is handed in: it stands in the block being filled
abbrev pub appended : Entry → Log → Log
appended e log = record log { filling = log.filling ++ e ∷ [] }

abbrev pub entered_by : Vio → JournalZone → JournalZone
entered_by v j =
    record j {
      log = appended (entry_of (logged v)) j.log;
      filling = j.filling ++ turned phase.Pending v ∷ [];
      entered = logged v ∷ j.entered;
    }

-- an entry that wasn't handed out is left
abbrev pub HasNext : Log → Type 0
HasNext log = log.handed < length log.entries

-- it is committed: the block that was sealed last is durable, and the log hands out its next entry
abbrev pub handed_out : Log → Log
handed_out log = record log { committed = log.sequence; handed = log.handed + 1 }

abbrev pub committed_by : Vio → JournalZone → JournalZone
committed_by v j = record j { log = handed_out j.log; committed = logged v ∷ j.committed }

-- the block being filled has an entry, and all before it are durable
pub record IsSealable (log : Log) : Type 0 where
  pub some : 0 < length log.filling
  pub durable : log.committed ≡ log.sequence

-- it is sealed, and those that waited for the next one come again
abbrev pub sealed_log : Log → Log
sealed_log log =
    record log {
      sequence = log.sequence + 1;
      filling = [];
      entries = log.entries ++ placed log.sequence 0 log.filling;
    }

abbrev pub sealed_by : JournalZone → JournalZone
sealed_by j = record j { log = sealed_log j.log; filling = []; waiting = [] }

-- The block being filled is due: it may be sealed, and it has all requests that wait at the journal by then, those in it and those for the
-- next one, up to as many as a block may have.
pub record IsDue (j : JournalZone) : Type 0 where
  pub sealable : IsSealable j.log
  pub all : length j.filling ≡ min JOURNAL_ENTRIES (length j.filling + length j.waiting)

pub data JournalServes (sizes : Sizes) (old : JournalZone) (v : Vio) (new : JournalZone) (made : Trace) (posts : List Post) : Type 0 where
  -- an entry is refused, or waits for the next block, or is handed in; with the first one the block goes round that is sealed
  is_stopped : v.phase ≡ phase.Enter → is_closed old ≡ true
      → new ≡ old → made ≡ [] → posts ≡ refused sizes reply.Stopped v ∷ []
      → JournalServes sizes old v new made posts
  is_full : v.phase ≡ phase.Enter → is_closed old ≡ false → has_block old ≡ false
      → new ≡ old → made ≡ [] → posts ≡ refused sizes reply.Full v ∷ []
      → JournalServes sizes old v new made posts
  waits : v.phase ≡ phase.Enter → is_closed old ≡ false → has_block old ≡ true → has_room old ≡ false
      → new ≡ record old { waiting = old.waiting ++ v ∷ [] } → made ≡ [] → posts ≡ []
      → JournalServes sizes old v new made posts
  enters : v.phase ≡ phase.Enter → is_closed old ≡ false → has_block old ≡ true → has_room old ≡ true → old.busy ≡ true
      → new ≡ entered_by v old → made ≡ Enters (logged v) ∷ [] → posts ≡ []
      → JournalServes sizes old v new made posts
  enters_first : v.phase ≡ phase.Enter → is_closed old ≡ false → has_block old ≡ true → has_room old ≡ true → old.busy ≡ false
      → new ≡ record (entered_by v old) { busy = true } → made ≡ Enters (logged v) ∷ [] → posts ≡ (id.Journal, item.Block (next_block old stage.Commit [])) ∷ []
      → JournalServes sizes old v new made posts

-- A committed entry that has a block goes to be counted, else to its slot. What it replaces, where that has a block, is a decrement,
-- which goes behind it.
abbrev pub hands_to : Sizes → Vio → Mapping → Post
hands_to sizes v (At x) = (counts_of sizes v, item.Request (turned phase.Count v))
hands_to sizes v other = (v.home, item.Request (turned phase.Settle v))

abbrev pub decrement_for : Sizes → Option PageId → Remapping → Mapping → List Post
decrement_for sizes None e (At x) = (counts_in sizes x, item.Decrement e) ∷ []
decrement_for sizes page e other = []

abbrev pub hands_out : Sizes → Vio → List Post
hands_out sizes v = hands_to sizes v v.new ∷ decrement_for sizes v.page (remapping v) v.old

pub data JournalEnds (sizes : Sizes) (old : JournalZone) (b : SealedBlock) (new : JournalZone) (made : Trace) (posts : List Post) : Type 0 where
  -- the oldest entry of the block is committed
  commits : (v : Vio) (vs : List Vio) → b.stage ≡ stage.Commit → b.vios ≡ v ∷ vs → HasNext old.log
      → new ≡ committed_by v old → made ≡ Commits (logged v) ∷ []
      → posts ≡ hands_out sizes v ++ (id.Journal, item.Block (record b { vios = vs })) ∷ []
      → JournalEnds sizes old b new made posts
  -- all are: the next block is sealed, or there is none
  seals : (v : Vio) (vs : List Vio) → b.stage ≡ stage.Commit → b.vios ≡ [] → old.filling ≡ v ∷ vs → IsDue old
      → new ≡ sealed_by old → made ≡ Seals ∷ []
      → posts ≡ (id.Device, item.Block (next_block old stage.Cover (v ∷ vs))) ∷ all_again old.waiting
      → JournalEnds sizes old b new made posts
  rests : b.stage ≡ stage.Commit → b.vios ≡ [] → old.filling ≡ []
      → new ≡ record old { busy = false; waiting = [] } → made ≡ [] → posts ≡ all_again old.waiting
      → JournalEnds sizes old b new made posts
  -- the block failed
  fails : b.stage ≡ stage.Fail
      → new ≡ record old { busy = false; broken = true; filling = []; waiting = [] } → made ≡ []
      → posts ≡ all_dropped sizes b.vios ++ (all_dropped sizes old.filling ++ all_refused sizes reply.Stopped old.waiting)
      → JournalEnds sizes old b new made posts
