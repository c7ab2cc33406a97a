-- What happens in a session, in order: its trace. The newest happening stands first. Each list that a zone only adds to
-- is a part of the trace.
use Rattle.std.specs.Prelude.{ℕ, ◌==◌, Bool, true, false, not, ◌&&◌, ◌||◌, Option, None, Some, List, [], ◌∷◌, ◌++◌, if◌then◌else◌}
use Rattle.blk_base.specs.declared.place.Mapping.{Mapping}
use Rattle.blk_base.specs.declared.place.Mapping.TheVariants.{At}
use Rattle.blk_base.specs.declared.place.PageId.{PageId}
use Rattle.blk_base.specs.declared.place.Pbn.{Pbn}
use Rattle.page_codec.specs.declared.fault.PageFault.{PageFault}
use Rattle.blk_base.specs.declared.request.Answer.TheVariants.{NoSpace, Ok}
use Rattle.blk_base.specs.declared.request.Writer.{Writer}
use Rattle.disk_model.specs.declared.call.Call.{Call}
use Rattle.disk_model.specs.declared.call.Call.TheVariants.{Read}
use Rattle.vdo_model.specs.declared.report.Damage.{Damage}
use Rattle.vdo_model.specs.declared.report.Damage.TheVariants.{Page}
use Rattle.vdo_model.specs.declared.report.DeskLine.{DeskLine}
use Rattle.vdo_model.specs.declared.report.DeskLine.TheVariants.{Answer}
use Rattle.vdo_model.specs.declared.report.FlushMark.{FlushMark}
use Rattle.vdo_model.specs.declared.report.NoSpaceReceipt.{NoSpaceReceipt}
use Rattle.vdo_model.specs.declared.report.Placed.{Placed}
use Rattle.vdo_model.specs.FlushMarks.{Moment, Desk, Device, lines_of, calls_of}
use Rattle.vdo_model.specs.Scripts.{same_writer}
use Rattle.core_model.specs.PageLinks.{block_in}
use Rattle.image_model.specs.Pages.{is_page}
use Rattle.data_vio.specs.declared.logged.Logged.{Logged}
pub use Rattle.data_vio.specs.Vios.{Gift, entry_of}
use Rattle.data_vio.specs.declared.logged.Logged.TheVariants.{Remaps, Makes}
use Rattle.data_vio.specs.declared.logged.NewPage.{NewPage}
use Rattle.data_vio.specs.declared.logged.Remapping.{Remapping}
use Rattle.slab_counts.specs.declared.tickets.Ticket.{Ticket}

pub data Happening : Type 0 where
  -- a line of the desk log, but the answer Ok of a flush
  Says : DeskLine → Happening
  -- a flush is answered Ok, with its mark
  Flushes : FlushMark → Happening
  -- a request draws its place
  Draws : Placed → Happening
  -- an entry is handed in, is committed, and its slot is set: that of its address, or that which leads to its page
  Enters : Logged → Happening
  Commits : Logged → Happening
  Sets : Logged → Happening
  -- a discard lacks a page of its path, and no entry of its address was handed in: it passes, and enters nothing
  Passes : Remapping → Happening
  -- the block being filled is sealed, with the entries that were handed in since the one before
  Seals : Happening
  -- a read is given its bytes
  Gives : Gift → Happening
  -- a write claims a free data block, for the page that it makes, or for its data; it finds none in a physical zone and is given a
  -- ticket there; it withdraws that, with the block that went to it; its claim is dropped. A block that becomes free goes to a ticket
  -- in the same moment, where one of the zone waits: that of this number
  Takes : Writer → Option PageId → Pbn → Happening
  Asks : Writer → Ticket → Happening
  Withdraws : Writer → Ticket → Option Pbn → Happening
  Drops : Writer → Pbn → (to : Option ℕ) → Happening
  -- the increment of a committed entry is taken; and its decrement, or that finds the counter at 0
  Adds : Logged → Happening
  Removes : Remapping → (to : Option ℕ) → Happening
  Strays : Remapping → Happening
  -- the device's zone is told what another zone found damaged
  Hears : Damage → Happening
  -- a request whose entry was handed in is aborted: the slot of that is never set
  Aborts : Logged → Happening
  -- the device is called, and the call succeeds
  Calls : Call → Happening
  -- a call that was made for a request fails; it is kept in the device's log, or found no memory for its place there
  Fails : Writer → Call → (kept : Bool) → Happening
  -- a leaf is read for a request, and doesn't decode: the device gave these bytes, which have this fault
  Harms : Writer → Pbn → List ℕ → PageFault → Happening

abbrev pub Trace : Type 0
Trace = List Happening

-- a failed call stands in the log where it is kept
abbrev pub failed_call : Bool → Call → List Moment → List Moment
failed_call true call older = Device call ∷ older
failed_call false call older = older

-- the lines of the desk log and the calls in the device's log, in their order
abbrev pub moments : Trace → List Moment
moments [] = []
moments (Says line ∷ t) = Desk line ∷ moments t
moments (Flushes mark ∷ t) = Desk (Answer mark.request Ok) ∷ moments t
moments (Calls call ∷ t) = Device call ∷ moments t
moments (Fails w call kept ∷ t) = failed_call kept call (moments t)
moments (Harms w at bytes fault ∷ t) = Device (Read at bytes true) ∷ moments t
moments (other ∷ t) = moments t

abbrev pub lines : Trace → List DeskLine
lines t = lines_of (moments t)

abbrev pub calls : Trace → List Call
calls t = calls_of (moments t)

-- the marks of the flushes that were answered Ok
abbrev pub marks : Trace → List FlushMark
marks [] = []
marks (Flushes mark ∷ t) = mark ∷ marks t
marks (other ∷ t) = marks t

-- the ticket that a request was given last, and the step in which that was given: 0 where it was given none
abbrev pub last_asked : Trace → Writer → Option Ticket
last_asked [] w = None
last_asked (Asks v k ∷ t) w = if same_writer v w then Some k else last_asked t w
last_asked (other ∷ t) w = last_asked t w

abbrev pub asked_step : Option Ticket → ℕ
asked_step None = 0
asked_step (Some k) = k.asked

-- the receipts of the requests that were answered that no block is free: each says when the last of its zones was asked
abbrev pub receipts : Trace → List NoSpaceReceipt
receipts [] = []
receipts (Says (Answer w NoSpace) ∷ t) = record { request = w; step = asked_step (last_asked t w) } ∷ receipts t
receipts (other ∷ t) = receipts t

-- the places that were drawn
abbrev pub places : Trace → List Placed
places [] = []
places (Draws p ∷ t) = p ∷ places t
places (other ∷ t) = places t

-- the remappings of addresses among these, and the new pages
abbrev pub remappings : List Logged → List Remapping
remappings [] = []
remappings (Remaps e ∷ older) = e ∷ remappings older
remappings (Makes p ∷ older) = remappings older

abbrev pub new_pages : List Logged → List NewPage
new_pages [] = []
new_pages (Remaps e ∷ older) = new_pages older
new_pages (Makes p ∷ older) = p ∷ new_pages older

-- the discards that passed: each came before every entry of its address
abbrev pub passed : Trace → List Remapping
passed [] = []
passed (Passes e ∷ t) = e ∷ passed t
passed (other ∷ t) = passed t

-- the entries that were handed in; the writes and discards of these, and before them those that passed
abbrev pub journaled : Trace → List Logged
journaled [] = []
journaled (Enters e ∷ t) = e ∷ journaled t
journaled (other ∷ t) = journaled t

abbrev pub entered : Trace → List Remapping
entered t = remappings (journaled t) ++ passed t

-- those in the block being filled, which isn't sealed, and those of each sealed block, the newest block first
abbrev pub filled : Trace → List Logged
filled [] = []
filled (Enters e ∷ t) = e ∷ filled t
filled (Seals ∷ t) = []
filled (other ∷ t) = filled t

abbrev pub sealed : Trace → List (List Logged)
sealed [] = []
sealed (Seals ∷ t) = filled t ∷ sealed t
sealed (other ∷ t) = sealed t

-- those of blocks, one block's behind the other's
abbrev pub all_of : List (List Logged) → List Logged
all_of [] = []
all_of (block ∷ older) = block ++ all_of older

-- the entries that were committed; the writes and discards of these, and those that passed
abbrev pub durable : Trace → List Logged
durable [] = []
durable (Commits e ∷ t) = e ∷ durable t
durable (other ∷ t) = durable t

abbrev pub committed : Trace → List Remapping
committed t = remappings (durable t) ++ passed t

-- the entries whose slots were set; the writes and discards that are done, with those that passed, and the pages that are linked.
-- A write is answered when it is done, and that it is answered is another line
abbrev pub applied : Trace → List Logged
applied [] = []
applied (Sets e ∷ t) = e ∷ applied t
applied (other ∷ t) = applied t

abbrev pub done : Trace → List Remapping
done t = remappings (applied t) ++ passed t

abbrev pub linked : Trace → List NewPage
linked t = new_pages (applied t)

-- the entries whose requests were aborted; of these, the writes and discards
abbrev pub dropped : Trace → List Logged
dropped [] = []
dropped (Aborts e ∷ t) = e ∷ dropped t
dropped (other ∷ t) = dropped t

abbrev pub aborted : Trace → List Remapping
aborted t = remappings (dropped t)

-- the reads that were given their bytes
abbrev pub gifts : Trace → List Gift
gifts [] = []
gifts (Gives g ∷ t) = g ∷ gifts t
gifts (other ∷ t) = gifts t

-- the block that became free, where it went to a ticket
abbrev pub passed_on : Option Pbn → Option ℕ → List Pbn
passed_on (Some x) (Some number) = x ∷ []
passed_on other to = []

-- the data blocks that were claimed, for a request or for its ticket, and those of the claims that were dropped
abbrev pub claimed : Trace → List Pbn
claimed [] = []
claimed (Takes w page x ∷ t) = x ∷ claimed t
claimed (Drops w x to ∷ t) = passed_on (Some x) to ++ claimed t
claimed (Removes e to ∷ t) = passed_on (block_in e.old) to ++ claimed t
claimed (other ∷ t) = claimed t

abbrev pub unclaimed : Trace → List Pbn
unclaimed [] = []
unclaimed (Drops w x to ∷ t) = x ∷ unclaimed t
unclaimed (other ∷ t) = unclaimed t

-- the entries whose increments were taken; those whose decrements were, and those whose decrements found 0
abbrev pub added : Trace → List Logged
added [] = []
added (Adds e ∷ t) = e ∷ added t
added (other ∷ t) = added t

abbrev pub removed : Trace → List Remapping
removed [] = []
removed (Removes e to ∷ t) = e ∷ removed t
removed (other ∷ t) = removed t

abbrev pub strayed : Trace → List Remapping
strayed [] = []
strayed (Strays e ∷ t) = e ∷ strayed t
strayed (other ∷ t) = strayed t

-- whether what is claimed for one purpose is for another: for the data of a write, or for a page
abbrev pub is_for : Option PageId → Option PageId → Bool
is_for None None = true
is_for (Some page) (Some other) = is_page page other
is_for one other = false

-- whether a write claimed one for its data, or for this page
abbrev pub has_taken : Trace → Writer → Option PageId → Bool
has_taken [] w page = false
has_taken (Takes v one x ∷ t) w page = (is_for one page && same_writer v w) || has_taken t w page
has_taken (other ∷ t) w page = has_taken t w page

-- a call of the device that reads
abbrev pub is_read : Call → Bool
is_read (Read at bytes ok) = true
is_read other = false

-- the session is stopped: a write or flush of the device failed, or a leaf that was read doesn't decode, or the device's zone
-- was told of other damage
abbrev pub has_stopped : Trace → Bool
has_stopped [] = false
has_stopped (Fails w call kept ∷ t) = not (is_read call) || has_stopped t
has_stopped (Harms w at bytes fault ∷ t) = true
has_stopped (Hears damage ∷ t) = true
has_stopped (other ∷ t) = has_stopped t

-- a read of the device that was made for a request failed
abbrev pub has_read_fault : Trace → Writer → Bool
has_read_fault [] w = false
has_read_fault (Fails v call kept ∷ t) w = (is_read call && same_writer v w) || has_read_fault t w
has_read_fault (other ∷ t) w = has_read_fault t w

-- a leaf that was read for a request doesn't decode
abbrev pub is_harmed : Trace → Writer → Bool
is_harmed [] w = false
is_harmed (Harms v at bytes fault ∷ t) w = same_writer v w || is_harmed t w
is_harmed (other ∷ t) w = is_harmed t w

-- the first damage that was found
abbrev pub first_of : Option Damage → Damage → Option Damage
first_of (Some earlier) later = Some earlier
first_of None later = Some later

abbrev pub damage_in : Trace → Option Damage
damage_in [] = None
damage_in (Harms w at bytes fault ∷ t) = first_of (damage_in t) (Page at fault)
damage_in (Hears damage ∷ t) = first_of (damage_in t) damage
damage_in (other ∷ t) = damage_in t

-- those of one address
abbrev pub of_address : ℕ → List Remapping → List Remapping
of_address a [] = []
of_address a (e ∷ older) = if e.at.0 == a then e ∷ of_address a older else of_address a older

-- the newest one
abbrev pub newest : List Remapping → Option Remapping
newest [] = None
newest (e ∷ older) = Some e

-- the one of a request
abbrev pub logged_of : List Remapping → Writer → Option Remapping
logged_of [] w = None
logged_of (e ∷ older) w = if same_writer e.request w then Some e else logged_of older w

-- what a read was given
abbrev pub gift_of : List Gift → Writer → Option Gift
gift_of [] w = None
gift_of (g ∷ older) w = if same_writer g.request w then Some g else gift_of older w

-- what it maps its address to, or where its page stands
abbrev pub new_of : Logged → Mapping
new_of (Remaps e) = e.new
new_of (Makes p) = At p.at

-- whose entry it is
abbrev pub request_in : Logged → Writer
request_in (Remaps e) = e.request
request_in (Makes p) = p.request
