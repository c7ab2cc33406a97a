-- What the desk does: it begins requests, and answers them.
use Rattle.std.specs.Prelude.{ℕ, ◌+◌, ◌≡◌, ◌≤◌, Bool, true, false, Option, None, Some, List, [], ◌∷◌, ◌++◌, nat_lt, if◌then◌else◌}
use Rattle.blk_base.specs.Sectors.{zero_block}
use Rattle.blk_base.specs.declared.place.ZoneId.{ZoneId}
use Rattle.blk_base.specs.declared.place.ZoneId.TheVariants as id
use Rattle.blk_base.specs.declared.request.Answer.{Answer}
use Rattle.blk_base.specs.declared.request.Answer.TheVariants as reply
use Rattle.blk_base.specs.declared.request.Request.{Request}
use Rattle.blk_base.specs.declared.request.Request.TheVariants as request
use Rattle.blk_base.specs.declared.request.Writer.{Writer}
use Rattle.vdo_model.specs.DeskLog.{IsNextLine}
use Rattle.vdo_model.specs.Scripts.{request_at}
use Rattle.vdo_model.specs.declared.report.DeskLine.TheVariants as line
use Rattle.vdo_model.specs.declared.report.FlushMark.{FlushMark}
use Rattle.vdo_model.specs.declared.report.NoSpaceReceipt.{NoSpaceReceipt}
use Rattle.slab_counts.specs.declared.tickets.Receipt.{Receipt}
use Rattle.data_vio.specs.declared.items.Asks.{Asks}
use Rattle.data_vio.specs.declared.items.Asks.TheVariants.{Read, Write, Discard, Flush}
use Rattle.data_vio.specs.declared.items.Item.TheVariants as item
use Rattle.data_vio.specs.declared.items.Phase.TheVariants as phase
use Rattle.data_vio.specs.declared.items.Vio.{Vio}
use Rattle.data_vio.specs.declared.sizes.Sizes.{Sizes}
use Rattle.core_model.specs.DeskData.{Desk}
use Rattle.core_model.specs.Trace.{Trace, Says, Flushes}
use Rattle.data_vio.specs.Vios.{Post, begun_vio, turned}

-- the stop notice of every zone has come to the desk
abbrev pub is_notified : Sizes → Desk → Bool
is_notified sizes desk = nat_lt (sizes.physical + sizes.zones) desk.notices

-- the request as it is under way, where it is served: writes that force their block out aren't yet
abbrev pub vio_of : Sizes → Writer → Request → Option Vio
vio_of sizes w (request.Read at) = Some (begun_vio sizes w Read at zero_block)
vio_of sizes w (request.Write at bytes false) = Some (begun_vio sizes w Write at bytes)
vio_of sizes w (request.Discard at) = Some (begun_vio sizes w Discard at zero_block)
vio_of sizes w request.Flush = Some (turned phase.Flush (begun_vio sizes w Flush (record { 0 = 0 }) zero_block))
vio_of sizes w other = None

-- what it is answered with at once: `Range` where its address isn't below the logical size, `Stopped` where it would write
-- and the stop notice of every zone has come
abbrev pub at_once : Sizes → Bool → Asks → ℕ → Option Answer
at_once sizes notified Read a = if nat_lt a sizes.geometry.logical then None else Some reply.Range
at_once sizes notified Write a = if nat_lt a sizes.geometry.logical then (if notified then Some reply.Stopped else None) else Some reply.Range
at_once sizes notified Discard a = if nat_lt a sizes.geometry.logical then (if notified then Some reply.Stopped else None) else Some reply.Range
at_once sizes notified Flush a = if notified then Some reply.Stopped else None

-- a block request goes to the logical zone of its address, a flush to the device
abbrev pub first_zone : Vio → ZoneId
first_zone v = to v.asks
  where
    to : Asks → ZoneId
    to Read = v.home
    to Write = v.home
    to Discard = v.home
    to Flush = id.Device

-- a request is begun next: that of the lowest stream that may begin one
pub record BeginsNext (depth : ℕ) (desk : Desk) (w : Writer) : Type 0 where
  pub may : IsNextLine depth desk.requests (line.Begin w) desk.log
  pub lowest : (other : Writer) → IsNextLine depth desk.requests (line.Begin other) desk.log → w.stream ≤ other.stream

-- The next request is begun, and answered at once or sent on.
pub data DeskBegins (sizes : Sizes) (old new : Desk) (made : Trace) (posts : List Post) : Type 0 where
  answers : (w : Writer) (r : Request) (v : Vio) (a : Answer) → BeginsNext sizes.depth old w → request_at old.requests w ≡ Some r → vio_of sizes w r ≡ Some v
      → at_once sizes (is_notified sizes old) v.asks v.at.0 ≡ Some a
      → new ≡ record old { log = line.Answer w a ∷ line.Begin w ∷ old.log } → made ≡ Says (line.Answer w a) ∷ Says (line.Begin w) ∷ [] → posts ≡ []
      → DeskBegins sizes old new made posts
  sends : (w : Writer) (r : Request) (v : Vio) → BeginsNext sizes.depth old w → request_at old.requests w ≡ Some r → vio_of sizes w r ≡ Some v
      → at_once sizes (is_notified sizes old) v.asks v.at.0 ≡ None
      → new ≡ record old { log = line.Begin w ∷ old.log } → made ≡ Says (line.Begin w) ∷ [] → posts ≡ (first_zone v, item.Request v) ∷ []
      → DeskBegins sizes old new made posts

-- whether an answer is that of a flush that returned
abbrev pub is_flush : Asks → Bool
is_flush Flush = true
is_flush other = false

abbrev pub is_marked : Asks → Answer → Bool
is_marked asks reply.Ok = is_flush asks
is_marked asks other = false

-- whether an answer waits until the stop notice of every zone has come
abbrev pub is_stopped : Answer → Bool
is_stopped reply.Stopped = true
is_stopped reply.Damaged = true
is_stopped other = false

-- the mark of a flush
abbrev pub mark_of_vio : Vio → FlushMark
mark_of_vio v = record { request = v.request; calls = v.calls }

-- whether an answer is that no block is free
abbrev pub is_no_space : Answer → Bool
is_no_space reply.NoSpace = true
is_no_space other = false

-- the receipt of a request: the step is that of the ticket that it withdrew last, and 0 where it withdrew none
abbrev pub receipt_step : Option Receipt → ℕ
receipt_step None = 0
receipt_step (Some receipt) = receipt.asked

abbrev pub receipt_of_vio : Vio → NoSpaceReceipt
receipt_of_vio v = record { request = v.request; step = receipt_step v.receipt }

-- A request that comes back is answered, or waits until the stop notice of every zone has come.
pub data DeskServes (sizes : Sizes) (old : Desk) (v : Vio) (new : Desk) (made : Trace) (posts : List Post) : Type 0 where
  parks : (a : Answer) → v.phase ≡ phase.Reply → v.answer ≡ Some a → is_stopped a ≡ true → is_notified sizes old ≡ false
      → new ≡ record old { parked = old.parked ++ v ∷ [] } → made ≡ [] → posts ≡ []
      → DeskServes sizes old v new made posts
  answers : (a : Answer) → v.phase ≡ phase.Reply → v.answer ≡ Some a → (is_stopped a ≡ true → is_notified sizes old ≡ true) → is_marked v.asks a ≡ false → is_no_space a ≡ false
      → new ≡ record old { log = line.Answer v.request a ∷ old.log } → made ≡ Says (line.Answer v.request a) ∷ [] → posts ≡ []
      → DeskServes sizes old v new made posts
  marks : v.phase ≡ phase.Reply → v.asks ≡ Flush → v.answer ≡ Some reply.Ok
      → new ≡ record old { log = line.Answer v.request reply.Ok ∷ old.log; marks = mark_of_vio v ∷ old.marks } → made ≡ Flushes (mark_of_vio v) ∷ [] → posts ≡ []
      → DeskServes sizes old v new made posts
  lacks : v.phase ≡ phase.Reply → v.answer ≡ Some reply.NoSpace
      → new ≡ record old { log = line.Answer v.request reply.NoSpace ∷ old.log; receipts = receipt_of_vio v ∷ old.receipts } → made ≡ Says (line.Answer v.request reply.NoSpace) ∷ [] → posts ≡ []
      → DeskServes sizes old v new made posts

-- The stop notice of a zone comes: those that wait for it look again.
abbrev pub with_notice : Desk → Desk
with_notice desk = record desk { notices = desk.notices + 1; parked = [] }

abbrev pub woken : List Vio → List Post
woken [] = []
woken (v ∷ vs) = (id.Desk, item.Request v) ∷ woken vs
