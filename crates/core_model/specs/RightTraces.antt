-- A right trace: each happening may follow those before it, and at each moment a stop leaves what it may.
use Rattle.std.specs.Prelude.{ℕ, ◌+◌, ◌≡◌, ◌≢◌, ◌⊎◌, ◌<◌, ◌≤◌, Bool, true, false, Option, None, Some, IsNone, IsSome, List, [], ◌∷◌, ◌++◌, length, Contains}
use Rattle.std.specs.List.{AllByRecursion}
use Rattle.blk_base.specs.Regions.{IsDataBlock}
use Rattle.blk_base.specs.declared.place.Lba.{Lba}
use Rattle.blk_base.specs.Sectors.{zero_block}
use Rattle.blk_base.specs.declared.place.Mapping.{Mapping}
use Rattle.blk_base.specs.declared.place.Mapping.TheVariants.{Unmapped, Zero, At}
use Rattle.blk_base.specs.declared.place.PageId.{PageId}
use Rattle.blk_base.specs.declared.place.Pbn.{Pbn}
use Rattle.blk_base.specs.declared.sizes.TheConstants.{JOURNAL_ENTRIES}
use Rattle.blk_base.specs.declared.request.Answer.{Answer}
use Rattle.blk_base.specs.declared.request.Answer.TheVariants as reply
use Rattle.blk_base.specs.declared.request.Request.{Request}
use Rattle.blk_base.specs.declared.request.Request.TheVariants as request
use Rattle.blk_base.specs.declared.request.Writer.{Writer}
use Rattle.disk_model.specs.Log.{is_ok}
use Rattle.disk_model.specs.declared.call.Call.{Call}
use Rattle.disk_model.specs.declared.call.Call.TheVariants as call
use Rattle.page_codec.specs.Grammar.{IsPageFault}
use Rattle.page_codec.specs.declared.fault.PageFault.{PageFault}
use Rattle.vdo_model.specs.DeskLog.{IsNextLine, begun, answer_of}
use Rattle.vdo_model.specs.FlushMarks.{IsMark}
use Rattle.vdo_model.specs.Places.{IsNextPlace, place_of, zone_of}
use Rattle.vdo_model.specs.Scripts.{request_at}
use Rattle.vdo_model.specs.declared.report.DeskLine.{DeskLine}
use Rattle.vdo_model.specs.declared.report.DeskLine.TheVariants as line
use Rattle.vdo_model.specs.declared.report.Placed.{Placed}
use Rattle.data_vio.specs.declared.logged.Logged.{Logged}
use Rattle.data_vio.specs.declared.logged.Logged.TheVariants.{Remaps, Makes}
use Rattle.data_vio.specs.declared.logged.NewPage.{NewPage}
use Rattle.data_vio.specs.declared.logged.Remapping.{Remapping}
use Rattle.core_model.specs.PageLinks.{IsThere, Lacks, MayLack, leaf_head, page_in}
use Rattle.blk_base.specs.Pages.{above, leaf_of}
use Rattle.data_vio.specs.declared.items.Asks.{Asks}
use Rattle.data_vio.specs.declared.items.Asks.TheVariants as asks
use Rattle.vdo_model.specs.declared.report.Damage.{Damage}
use Rattle.vdo_model.specs.declared.report.Damage.TheVariants.{Stray}
use Rattle.core_model.specs.CountUpdates.{Increment, Decrement, IsNextUpdate}
use Rattle.core_model.specs.Superblocks.{IsInOrder, superblock_stage}
use Rattle.core_model.specs.Sessions.{IsFair, OnBlock, Session, Shown, mapping_by, value_at}
use Rattle.core_model.specs.Uses.{IsFreeAt, NoneFree, NoneFreeIn, Waits, counted, gained, issued, lost, ticket_at, uncounted}
use Rattle.data_vio.specs.Zones.{physical_zone_of}
use Rattle.slab_counts.specs.declared.tickets.Ticket.{Ticket}
use Rattle.data_vio.specs.Vios.{asked}
use Rattle.core_model.specs.Trace.{Happening, Says, Flushes, Draws, Enters, Passes, Seals, Commits, Sets, Gives, Takes, Asks as AsksIn, Withdraws, Drops, Adds, Removes, Strays, Hears, Aborts, Calls, Fails, Harms, Trace, Gift, added, removed, strayed, moments, lines, places, journaled, entered, new_of, remappings, filled, sealed, all_of, durable, committed, applied, done, dropped, aborted, gifts, has_taken, is_read, has_stopped, has_read_fault, is_harmed, of_address, logged_of, request_in, gift_of}

-- a request is begun and not answered
pub record IsOpen (t : Trace) (w : Writer) : Type 0 where
  pub is_begun : w.number < begun w.stream (lines t)
  pub unanswered : IsNone (answer_of (lines t) w)

-- the entries of an address: all of them are done; the last one is handed in and not committed; it is committed and
-- not done
pub record Quiet (t : Trace) (a : ℕ) : Type 0 where
  pub all_committed : of_address a (entered t) ≡ of_address a (committed t)
  pub all_done : of_address a (committed t) ≡ of_address a (done t)

pub record IsPending (t : Trace) (e : Remapping) : Type 0 where
  pub last : of_address e.at.0 (entered t) ≡ e ∷ of_address e.at.0 (committed t)
  pub others : of_address e.at.0 (committed t) ≡ of_address e.at.0 (done t)

pub record IsCommitted (t : Trace) (e : Remapping) : Type 0 where
  pub all_committed : of_address e.at.0 (entered t) ≡ of_address e.at.0 (committed t)
  pub last : of_address e.at.0 (committed t) ≡ e ∷ of_address e.at.0 (done t)

-- whatever was done or given at an address has a lower place
pub record AllBelow (t : Trace) (a place : ℕ) : Type 0 where
  pub writes : AllByRecursion (λ (e : Remapping). e.at.0 ≡ a → e.place < place) (done t)
  pub reads : AllByRecursion (λ (g : Gift). g.at.0 ≡ a → g.place < place) (gifts t)

-- a request has this place at its address
abbrev pub HasPlace : Session → Trace → Writer → ℕ → ℕ → Type 0
HasPlace s t w a place = place_of (places t) w ≡ Some (record { request = w; zone = zone_of s.sizes.zones a; place = place })

-- what a request maps its address to: a write to a block, or to zeros where its bytes are; a discard to nothing
abbrev pub MapsTo : Asks → List ℕ → Mapping → Type 0
MapsTo asks.Write bytes (At x) = Unit {0}
MapsTo asks.Write bytes Zero = bytes ≡ zero_block
MapsTo asks.Discard bytes Unmapped = Unit {0}
MapsTo other bytes new = ⊥

-- an entry is of a write or a discard of the script that has its place, and maps its address to what that maps it to
pub record IsWrite (s : Session) (t : Trace) (e : Remapping) : Type 0 where
  pub asks : Asks
  pub bytes : List ℕ
  pub asked : request_at s.script e.request ≡ Some (asked asks e.at bytes)
  pub maps : MapsTo asks bytes e.new
  pub placed : HasPlace s t e.request e.at.0 e.place

-- one of these writes is of this address, with a lower place
abbrev pub HasBelow : ℕ → ℕ → List Remapping → Type 0
HasBelow a place [] = ⊥
HasBelow a place (e ∷ older) = ((e.at.0 ≡ a) × (e.place < place)) ⊎ HasBelow a place older

-- a read has its place, and a write of its address with a lower place was aborted
pub record FollowsAbort (s : Session) (t : Trace) (w : Writer) (a : ℕ) : Type 0 where
  pub place : ℕ
  pub placed : HasPlace s t w a place
  pub behind : HasBelow a place (aborted t)

-- no block of the journal is left but the one that stays free
abbrev pub HasFullJournal : Session → Trace → Type 0
HasFullJournal s t = s.sizes.geometry.journal ≤ length (sealed t) + 1

-- a write of these bytes needs a data block and claimed none
pub record NeedsBlock (t : Trace) (w : Writer) (bytes : List ℕ) : Type 0 where
  pub not_zeros : bytes ≢ zero_block
  pub none_taken : has_taken t w None ≡ false

-- a request asked this physical zone for a block by a moment, and since then it withdrew the ticket of that, to which no block went
pub record WasRefused (newer older : Trace) (w : Writer) (zone : ℕ) : Type 0 where
  pub ticket : Ticket
  pub zone_is : ticket.zone ≡ zone
  pub asked : Contains older (AsksIn w ticket)
  pub withdrawn : Contains newer (Withdraws w ticket None)

-- At one moment since a request had its place no data block was free: by then it had asked each physical zone, and none of these
-- tickets was withdrawn before, and no block went to any.
pub record HadNoFree (s : Session) (t : Trace) (w : Writer) : Type 0 where
  pub newer : Trace
  pub older : Trace
  pub moment : t ≡ newer ++ older
  pub placed : IsSome (place_of (places older) w)
  pub none_free : NoneFree s older
  pub refused : (zone : ℕ) → zone < s.sizes.physical → WasRefused newer older w zone

-- a write or a discard has its place, and no entry of it was handed in; the read of the leaf of its address had this fault
abbrev pub HasNoLeaf : Trace → Writer → Bool → Type 0
HasNoLeaf t w fault = IsSome (place_of (places t) w) × IsNone (logged_of (entered t) w) × (fault ≡ true)

-- Why a request may be answered so.
abbrev pub HasCause : Session → Trace → Writer → Request → Answer → Type 0
-- a read: it was given these bytes; its address isn't below the logical size; the session is stopped, and the lock of
-- its address is never released; a read of the device that was made for it failed; the leaf of its address doesn't decode
HasCause s t w (request.Read at) (reply.Bytes bytes) = (place : ℕ) × (gift_of (gifts t) w ≡ Some (record { request = w; at = at; place = place; bytes = bytes }))
HasCause s t w (request.Read at) reply.Range = s.sizes.geometry.logical ≤ at.0
HasCause s t w (request.Read at) reply.Stopped = (has_stopped t ≡ true) × FollowsAbort s t w at.0
HasCause s t w (request.Read at) reply.ReadFault = IsSome (place_of (places t) w) × (has_read_fault t w ≡ true)
HasCause s t w (request.Read at) reply.Damaged = IsSome (place_of (places t) w) × (is_harmed t w ≡ true)
HasCause s t w (request.Read at) other = ⊥
-- a write: its slot was set; its address isn't below the logical size; the session is stopped, and its slot isn't set; the read of
-- the leaf of its address failed, or that doesn't decode; it claimed no data block for its data, and none was free for it, or for a page
-- of its path; no block of the journal is left for it
HasCause s t w (request.Write at bytes fua) reply.Ok = IsSome (logged_of (done t) w)
HasCause s t w (request.Write at bytes fua) reply.Range = s.sizes.geometry.logical ≤ at.0
HasCause s t w (request.Write at bytes fua) reply.Stopped = (has_stopped t ≡ true) × IsSome (place_of (places t) w) × IsNone (logged_of (done t) w)
HasCause s t w (request.Write at bytes fua) reply.ReadFault = HasNoLeaf t w (has_read_fault t w)
HasCause s t w (request.Write at bytes fua) reply.Damaged = HasNoLeaf t w (is_harmed t w)
HasCause s t w (request.Write at bytes fua) reply.NoSpace = IsSome (place_of (places t) w) × IsNone (logged_of (entered t) w) × (has_taken t w None ≡ false) × HadNoFree s t w
HasCause s t w (request.Write at bytes fua) reply.Full = IsSome (place_of (places t) w) × IsNone (logged_of (entered t) w) × HasFullJournal s t
HasCause s t w (request.Write at bytes fua) other = ⊥
-- a discard: the same, but that it needs no data block
HasCause s t w (request.Discard at) reply.Ok = IsSome (logged_of (done t) w)
HasCause s t w (request.Discard at) reply.Range = s.sizes.geometry.logical ≤ at.0
HasCause s t w (request.Discard at) reply.Stopped = (has_stopped t ≡ true) × IsSome (place_of (places t) w) × IsNone (logged_of (done t) w)
HasCause s t w (request.Discard at) reply.ReadFault = HasNoLeaf t w (has_read_fault t w)
HasCause s t w (request.Discard at) reply.Damaged = HasNoLeaf t w (is_harmed t w)
HasCause s t w (request.Discard at) reply.Full = IsSome (place_of (places t) w) × IsNone (logged_of (entered t) w) × HasFullJournal s t
HasCause s t w (request.Discard at) other = ⊥
-- a flush: the session is stopped; one that returned is answered with its mark
HasCause s t w request.Flush reply.Stopped = has_stopped t ≡ true
HasCause s t w request.Flush other = ⊥

-- A write or a discard is stopped before it reached its zone: it was just begun.
pub record IsStoppedAtOnce (t : Trace) (w : Writer) : Type 0 where
  pub stopped : has_stopped t ≡ true
  pub unset : IsNone (logged_of (done t) w)
  pub older : Trace
  pub begun_last : t ≡ Says (line.Begin w) ∷ older

-- a request may be answered so: it has its cause, or it is a write or a discard below the logical size that is stopped at
-- once
abbrev pub MayAnswer : Session → Trace → Writer → Request → Answer → Type 0
MayAnswer s t w (request.Write at bytes fua) reply.Stopped =
    HasCause s t w (request.Write at bytes fua) reply.Stopped ⊎ ((at.0 < s.sizes.geometry.logical) × IsStoppedAtOnce t w)
MayAnswer s t w (request.Discard at) reply.Stopped =
    HasCause s t w (request.Discard at) reply.Stopped ⊎ ((at.0 < s.sizes.geometry.logical) × IsStoppedAtOnce t w)
MayAnswer s t w r a = HasCause s t w r a

-- a line may follow this trace
abbrev pub LineMayFollow : Session → DeskLine → Trace → Type 0
LineMayFollow s (line.Begin w) t = IsNextLine s.sizes.depth s.script (line.Begin w) (lines t)
LineMayFollow s (line.Answer w a) t =
    IsNextLine s.sizes.depth s.script (line.Answer w a) (lines t) × ((r : Request) → request_at s.script w ≡ Some r → MayAnswer s t w r a)

-- a place may be drawn
pub record PlaceMayFollow (s : Session) (p : Placed) (t : Trace) : Type 0 where
  pub is_open : IsOpen t p.request
  pub next : IsNextPlace s.sizes.zones s.sizes.geometry.logical s.script (lines t) p (places t)
  pub not_entered : IsNone (logged_of (entered t) p.request)

-- the leaf of an address is there
abbrev pub IsLeafy : Session → Trace → ℕ → Type 0
IsLeafy s t a = IsThere s.sizes.geometry.height s.links (applied t) (leaf_of a)

-- none of these entries names this block
abbrev pub AreElsewhere : ℕ → List Logged → Type 0
AreElsewhere x es = AllByRecursion (λ (e : Logged). OnBlock (λ y. x ≢ y.0) (new_of e)) es

-- Nobody maps a block: no address is mapped to it by the committed entries over the opened image, no entry behind these names it,
-- and no page stands there. So no list of entries that has the committed ones, and some of those behind them, maps it.
pub record IsUnused (s : Session) (t : Trace) (x : Pbn) : Type 0 where
  pub newer : List Logged
  pub parts : journaled t ≡ newer ++ durable t
  pub unmapped : (a : ℕ) → OnBlock (λ y. x.0 ≢ y.0) (mapping_by s (durable t) a)
  pub unnamed : AreElsewhere x.0 newer
  pub no_page : (page : PageId) (y : Pbn) → page.level + 1 < s.sizes.geometry.height → s.links page ≡ Some y → x.0 ≢ y.0
  pub no_new_page : (p : NewPage) → Contains (durable t) (Makes p) → x.0 ≢ p.at.0

-- an entry may be handed in, be committed, and be done
pub record EntryMayFollow (s : Session) (e : Remapping) (t : Trace) : Type 0 where
  pub is_open : IsOpen t e.request
  pub is_write : IsWrite s t e
  pub once : IsNone (logged_of (entered t) e.request)
  pub quiet : Quiet t e.at.0
  pub below : AllBelow t e.at.0 e.place
  -- a block of the journal is left for it, and that has room
  pub left : length (sealed t) + 1 < s.sizes.geometry.journal
  pub room : length (filled t) < JOURNAL_ENTRIES
  -- it maps its address to a data block, or to none
  pub new_data : OnBlock (λ x. IsDataBlock s.sizes.geometry x.0) e.new
  -- which nobody maps, where the session is fair; and the page that has its slot is there
  pub unused : IsFair s t → OnBlock (IsUnused s t) e.new
  pub leaf : IsLeafy s t e.at.0
  -- it says what it replaces: a data block, or none; where the session is fair, what its address is mapped to by the committed entries
  pub old_data : OnBlock (λ x. IsDataBlock s.sizes.geometry x.0) e.old
  pub old_is : IsFair s t → e.old ≡ mapping_by s (durable t) e.at.0

-- the entry of a new page may be handed in: a write lacks the page, the one above it is there, and it isn't yet
pub record PageMayFollow (s : Session) (p : NewPage) (t : Trace) : Type 0 where
  pub is_open : IsOpen t p.request
  pub placed : IsSome (place_of (places t) p.request)
  pub lacked : (r : Request) × (request_at s.script p.request ≡ Some r) × MayLack s.sizes.geometry.height r p.page
  pub above : IsThere s.sizes.geometry.height s.links (applied t) (above p.page)
  pub once : page_in s.links (journaled t) p.page ≡ None
  -- a block of the journal is left for it, and that has room
  pub left : length (sealed t) + 1 < s.sizes.geometry.journal
  pub room : length (filled t) < JOURNAL_ENTRIES
  pub new_data : IsDataBlock s.sizes.geometry p.at.0
  -- which nobody maps, where the session is fair
  pub unused : IsFair s t → IsUnused s t p.at

pub record CommitMayFollow (s : Session) (e : Logged) (t : Trace) : Type 0 where
  pub is_open : IsOpen t (request_in e)
  -- it is the oldest that isn't committed, and it is in a sealed block
  pub rest : List Logged
  pub next : all_of (sealed t) ≡ rest ++ e ∷ durable t

-- the block being filled may be sealed: it has an entry, all those of the others are committed, and a block of the journal is
-- left for it
pub record SealMayFollow (s : Session) (t : Trace) : Type 0 where
  pub some : 0 < length (filled t)
  pub all_committed : all_of (sealed t) ≡ durable t
  pub left : length (sealed t) + 1 < s.sizes.geometry.journal

-- a discard may pass: a page of its path isn't there, and no entry of its address was handed in
pub record PassMayFollow (s : Session) (e : Remapping) (t : Trace) : Type 0 where
  pub is_open : IsOpen t e.request
  pub asked : request_at s.script e.request ≡ Some (request.Discard e.at)
  pub placed : HasPlace s t e.request e.at.0 e.place
  pub maps : (e.old ≡ Unmapped) × (e.new ≡ Unmapped)
  pub once : IsNone (logged_of (entered t) e.request)
  pub below : AllBelow t e.at.0 e.place
  pub lacking : Lacks s.sizes.geometry.height s.links (applied t) e.at.0
  pub first : of_address e.at.0 (remappings (journaled t)) ≡ []

-- the decrement of an entry was taken, or found 0
abbrev pub IsReported : Trace → Remapping → Type 0
IsReported t e = Contains (removed t) e ⊎ Contains (strayed t) e

pub record SlotMayFollow (s : Session) (e : Remapping) (t : Trace) : Type 0 where
  pub is_open : IsOpen t e.request
  pub is_committed : IsCommitted t e
  pub below : AllBelow t e.at.0 e.place
  pub unaborted : IsNone (logged_of (aborted t) e.request)
  pub leaf : IsLeafy s t e.at.0
  -- its increment was taken, and its decrement reported
  pub counted : OnBlock (λ x. Contains (added t) (Remaps e)) e.new
  pub reported : OnBlock (λ x. IsReported t e) e.old

-- a page whose entry is committed and counted may be linked, once
pub record LinkMayFollow (s : Session) (p : NewPage) (t : Trace) : Type 0 where
  pub is_open : IsOpen t p.request
  pub is_committed : Contains (durable t) (Makes p)
  pub counted : Contains (added t) (Makes p)
  pub unlinked : page_in s.links (applied t) p.page ≡ None
  pub undropped : Contains (dropped t) (Makes p) → ⊥

-- or be never linked, once the session is stopped
pub record DropMayFollow (s : Session) (p : NewPage) (t : Trace) : Type 0 where
  pub is_open : IsOpen t p.request
  pub handed_in : Contains (journaled t) (Makes p)
  pub unlinked : page_in s.links (applied t) p.page ≡ None
  pub stopped : has_stopped t ≡ true

-- a write or a discard whose entry was handed in may be aborted, once the session is stopped
pub record AbortMayFollow (s : Session) (e : Remapping) (t : Trace) : Type 0 where
  pub is_open : IsOpen t e.request
  pub handed_in : logged_of (entered t) e.request ≡ Some e
  pub unset : IsNone (logged_of (done t) e.request)
  pub stopped : has_stopped t ≡ true

-- a write needs a data block for its data, or for a page that it lacks and claimed none for, which no entry puts anywhere while the one
-- above it is there
pub record NeedsPage (s : Session) (t : Trace) (w : Writer) (page : PageId) : Type 0 where
  pub lacked : (r : Request) × (request_at s.script w ≡ Some r) × MayLack s.sizes.geometry.height r page
  pub up : IsThere s.sizes.geometry.height s.links (applied t) (above page)
  pub unmade : page_in s.links (journaled t) page ≡ None
  pub none_taken : has_taken t w (Some page) ≡ false

abbrev pub NeedsFor : Session → Trace → Writer → Option PageId → Type 0
NeedsFor s t w None = (at : Lba) × (bytes : List ℕ) × (request_at s.script w ≡ Some (request.Write at bytes false)) × NeedsBlock t w bytes
NeedsFor s t w (Some page) = NeedsPage s t w page

-- one that needs a data block may claim a free one
pub record TakeMayFollow (s : Session) (w : Writer) (page : Option PageId) (x : Pbn) (t : Trace) : Type 0 where
  pub is_open : IsOpen t w
  pub asked : NeedsFor s t w page
  pub is_data : IsDataBlock s.sizes.geometry x.0
  pub is_free : IsFreeAt s t x

-- one that needs a data block and has its place may ask a physical zone in which none is free, and is given the next ticket of that
pub record AskMayFollow (s : Session) (w : Writer) (k : Ticket) (t : Trace) : Type 0 where
  pub is_open : IsOpen t w
  pub placed : IsSome (place_of (places t) w)
  pub page : Option PageId
  pub asked : NeedsFor s t w page
  pub inside : k.zone < s.sizes.physical
  pub number : k.number ≡ issued t k.zone
  pub none_free : NoneFreeIn s t k.zone

-- one that was given a ticket may withdraw it, with what went to it
pub record WithdrawMayFollow (s : Session) (w : Writer) (k : Ticket) (got : Option Pbn) (t : Trace) : Type 0 where
  pub is_open : IsOpen t w
  pub asked : Contains t (AsksIn w k)
  pub out : ticket_at s.sizes t k.zone k.number ≡ Some got

-- a block that becomes free goes to the oldest ticket of its zone that waits; to none only where none waits, or it isn't free
abbrev pub PassesOn : Session → Pbn → Option ℕ → Trace → Type 0
PassesOn s x None t = gained s t x ≡ lost t x + 1 → (number : ℕ) → Waits s.sizes t (physical_zone_of s.sizes x) number → ⊥
PassesOn s x (Some k) t =
    (gained s t x ≡ lost t x + 1) × Waits s.sizes t (physical_zone_of s.sizes x) k
    × ((number : ℕ) → number < k → Waits s.sizes t (physical_zone_of s.sizes x) number → ⊥)

-- a use of a data block may go, where there is one
pub record LossMayFollow (s : Session) (x : Pbn) (to : Option ℕ) (t : Trace) : Type 0 where
  pub is_data : IsDataBlock s.sizes.geometry x.0
  pub some : lost t x < gained s t x
  pub passes : PassesOn s x to t

-- an update is taken in its turn: a mapping more, or one less; or one less finds that none was counted
pub record AddMayFollow (s : Session) (e : Logged) (t : Trace) : Type 0 where
  pub is_open : IsOpen t (request_in e)
  pub next : IsNextUpdate s.sizes (durable t) t (Increment e)

pub record RemoveMayFollow (s : Session) (e : Remapping) (to : Option ℕ) (t : Trace) : Type 0 where
  pub next : IsNextUpdate s.sizes (durable t) t (Decrement e)
  pub block : Pbn
  pub old_is : e.old ≡ At block
  pub loss : LossMayFollow s block to t

pub record StrayMayFollow (s : Session) (e : Remapping) (t : Trace) : Type 0 where
  pub next : IsNextUpdate s.sizes (durable t) t (Decrement e)
  pub block : Pbn
  pub old_is : e.old ≡ At block
  pub none_counted : counted s t block ≡ uncounted t block

-- the damage that the device's zone is told of is that of such a decrement
pub record HearingMayFollow (damage : Damage) (t : Trace) : Type 0 where
  pub entry : Remapping
  pub strays : Contains (strayed t) entry
  pub block : Pbn
  pub old_is : entry.old ≡ At block
  pub damage_is : damage ≡ Stray block 0

-- a read may be given its bytes
pub record GiftMayFollow (s : Session) (g : Gift) (t : Trace) : Type 0 where
  pub is_open : IsOpen t g.request
  pub asked : request_at s.script g.request ≡ Some (request.Read g.at)
  pub placed : HasPlace s t g.request g.at.0 g.place
  pub quiet : Quiet t g.at.0
  pub below : AllBelow t g.at.0 g.place

-- no write or flush of the device follows one that failed
abbrev pub GoesOn : Trace → Call → Type 0
GoesOn t call = is_read call ≡ false → has_stopped t ≡ false

-- a page stands at this block: the opened image links it there, or an entry that was applied does
abbrev pub IsLinkedAt : Session → Trace → PageId → Pbn → Type 0
IsLinkedAt s t page x = (s.links page ≡ Some x) ⊎ ((w : Writer) × Contains (applied t) (Makes (record { request = w; page = page; at = x })))

-- the leaf of the address of a request stands at this block, and no slot of that address was set
pub record IsLeafFor (s : Session) (t : Trace) (w : Writer) (x : Pbn) : Type 0 where
  pub asks : Asks
  pub at : Lba
  pub bytes : List ℕ
  pub asked : request_at s.script w ≡ Some (asked asks at bytes)
  pub stands : IsLinkedAt s t (leaf_of at.0) x
  pub unset : of_address at.0 (remappings (applied t)) ≡ []

-- a read has its place, and where the session is fair, its address is mapped to this block, by the slots that are set
abbrev pub IsBlockFor : Session → Trace → Writer → Pbn → Type 0
IsBlockFor s t w x = (at : Lba) × (request_at s.script w ≡ Some (request.Read at)) × (IsFair s t → mapping_by s (applied t) at.0 ≡ At x)

-- a read of the device is made for a request: for the leaf of its address, or for the block to which that is mapped
abbrev pub IsMadeFor : Session → Trace → Writer → Call → Type 0
IsMadeFor s t w (call.Read x bytes ok) = IsLeafFor s t w x ⊎ IsBlockFor s t w x
IsMadeFor s t w other = Unit {0}

-- a call may succeed, and one that was made for a request may fail
pub record CallMayFollow (s : Session) (c : Call) (t : Trace) : Type 0 where
  pub succeeds : is_ok c ≡ true
  pub goes_on : GoesOn t c
  pub in_order : IsInOrder s.sizes (superblock_stage t) c

pub record FailureMayFollow (s : Session) (w : Writer) (c : Call) (t : Trace) : Type 0 where
  pub is_open : IsOpen t w
  pub fails : is_ok c ≡ false
  pub goes_on : GoesOn t c
  pub made_for : IsMadeFor s t w c
  pub in_order : IsInOrder s.sizes (superblock_stage t) c

-- a leaf that was read for a request may be found not to decode
pub record HarmMayFollow (s : Session) (w : Writer) (x : Pbn) (bytes : List ℕ) (fault : PageFault) (t : Trace) : Type 0 where
  pub is_open : IsOpen t w
  pub leaf : IsLeafFor s t w x
  pub damaged : IsPageFault (leaf_head s.sizes.geometry leaf.at.0 x) bytes fault

-- each happening by what it is
abbrev pub MayFollow : Session → Happening → Trace → Type 0
MayFollow s (Says desk_line) t = LineMayFollow s desk_line t
MayFollow s (Flushes mark) t =
    IsNextLine s.sizes.depth s.script (line.Answer mark.request reply.Ok) (lines t) × (request_at s.script mark.request ≡ Some request.Flush) × IsMark (moments t) mark
MayFollow s (Draws p) t = PlaceMayFollow s p t
MayFollow s (Enters (Remaps e)) t = EntryMayFollow s e t
MayFollow s (Enters (Makes p)) t = PageMayFollow s p t
MayFollow s (Commits e) t = CommitMayFollow s e t
MayFollow s Seals t = SealMayFollow s t
MayFollow s (Passes e) t = PassMayFollow s e t
MayFollow s (Sets (Remaps e)) t = SlotMayFollow s e t
MayFollow s (Sets (Makes p)) t = LinkMayFollow s p t
MayFollow s (Gives g) t = GiftMayFollow s g t
MayFollow s (Takes w page x) t = TakeMayFollow s w page x t
MayFollow s (AsksIn w k) t = AskMayFollow s w k t
MayFollow s (Withdraws w k got) t = WithdrawMayFollow s w k got t
MayFollow s (Drops w x to) t = IsOpen t w × LossMayFollow s x to t
MayFollow s (Adds e) t = AddMayFollow s e t
MayFollow s (Removes e to) t = RemoveMayFollow s e to t
MayFollow s (Strays e) t = StrayMayFollow s e t
MayFollow s (Hears damage) t = HearingMayFollow damage t
MayFollow s (Aborts (Remaps e)) t = AbortMayFollow s e t
MayFollow s (Aborts (Makes p)) t = DropMayFollow s p t
MayFollow s (Calls c) t = CallMayFollow s c t
MayFollow s (Fails w c kept) t = FailureMayFollow s w c t
MayFollow s (Harms w x bytes fault) t = HarmMayFollow s w x bytes fault t

-- the trace is right: at each moment what happened may follow, and where the session is fair, the device has what it must
abbrev pub RightTrace : Session → Trace → Type 0
RightTrace s [] = IsFair s [] → Shown s []
RightTrace s (h ∷ t) = MayFollow s h t × (IsFair s (h ∷ t) → Shown s (h ∷ t)) × RightTrace s t

-- each read was given the value of its address
abbrev pub GivesRight : Session → Trace → Type 0
GivesRight s [] = Unit {0}
GivesRight s (Gives g ∷ t) = (g.bytes ≡ value_at s t g.at.0) × GivesRight s t
GivesRight s (other ∷ t) = GivesRight s t

-- a write was handed in, and its slot isn't set
pub record IsHeldBack (t : Trace) (e : Remapping) : Type 0 where
  pub handed_in : logged_of (entered t) e.request ≡ Some e
  pub unset : IsNone (logged_of (done t) e.request)

-- no write or flush of the device follows one that failed, at any moment
abbrev pub StopsAtFailure : Trace → Type 0
StopsAtFailure [] = Unit {0}
StopsAtFailure (Calls c ∷ t) = GoesOn t c × StopsAtFailure t
StopsAtFailure (Fails w c kept ∷ t) = GoesOn t c × StopsAtFailure t
StopsAtFailure (other ∷ t) = StopsAtFailure t
