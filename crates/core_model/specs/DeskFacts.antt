-- Facts of the desk: what an answer is earned by, and what the desk keeps.
use Rattle.std.specs.Prelude.{◌+◌, ◌≡◌, ◌<◌, ◌≤◌, Bool, true, false, Option, None, Some, length}
use Rattle.blk_base.specs.declared.request.Answer.{Answer}
use Rattle.blk_base.specs.declared.request.Answer.TheVariants as reply
use Rattle.blk_base.specs.declared.request.Request.{Request}
use Rattle.blk_base.specs.declared.request.Writer.{Writer}
use Rattle.vdo_model.specs.DeskLog.{answer_of}
use Rattle.vdo_model.specs.FlushMarks.{IsMark}
use Rattle.vdo_model.specs.declared.report.FlushMark.{FlushMark}
use Rattle.data_vio.specs.declared.items.Asks.{Asks}
use Rattle.data_vio.specs.declared.items.Vio.{Vio}
use Rattle.core_model.specs.DeskData.{Desk}
use Rattle.core_model.specs.DeskRules.{is_marked, mark_of_vio}
use Rattle.data_vio.specs.Zones.{notified_zones}
use Rattle.core_model.specs.RightTraces.{HasCause}
use Rattle.core_model.specs.Sessions.{Session}
use Rattle.core_model.specs.Trace.{Trace, moments, lines, marks, has_stopped, last_asked, receipts}
use Rattle.data_vio.specs.Vios.{request_of}
use Rattle.slab_counts.specs.declared.tickets.Receipt.{Receipt}
use Rattle.slab_counts.specs.declared.tickets.Ticket.{Ticket}

-- an answer is one that a request may have: the mark of a flush that returned, or a cause
abbrev pub IsEarned : Session → Trace → FlushMark → Request → Answer → Bool → Type 0
IsEarned s t m r a true = IsMark (moments t) m
IsEarned s t m r a false = HasCause s t m.request r a

abbrev pub HasEarned : Session → Trace → FlushMark → Asks → Request → Option Answer → Type 0
HasEarned s t m asks r None = ⊥
HasEarned s t m asks r (Some a) = IsEarned s t m r a (is_marked asks a)

-- a request has the receipt of the ticket that it was given last
pub record HasReceipt (t : Trace) (w : Writer) (receipt : Option Receipt) : Type 0 where
  pub ticket : Ticket
  pub last : last_asked t w ≡ Some ticket
  pub given : Receipt
  pub receipt_is : receipt ≡ Some given
  pub asked : given.asked ≡ ticket.asked

-- The answer is earned; and where that is that no block is free, the request has its receipt.
abbrev pub MayReply : Session → Trace → Vio → Option Answer → Type 0
MayReply s t v (Some reply.NoSpace) = HasEarned s t (mark_of_vio v) v.asks (request_of v) (Some reply.NoSpace) × HasReceipt t v.request v.receipt
MayReply s t v answer = HasEarned s t (mark_of_vio v) v.asks (request_of v) answer

-- Its own lists are parts of the trace.
pub record DeskLists (t : Trace) (desk : Desk) : Type 0 where
  pub log_is : desk.log ≡ lines t
  pub marks_is : desk.marks ≡ marks t
  pub receipts_is : desk.receipts ≡ receipts t

-- What holds of its data alone.
pub record IsSoundDesk (s : Session) (desk : Desk) : Type 0 where
  pub requests : desk.requests ≡ s.script
  -- no request is answered as stopped before the stop notice of every zone has come
  pub stops_notified : (w : Writer) → answer_of desk.log w ≡ Some reply.Stopped → notified_zones s.sizes ≤ desk.notices
  -- and none waits for the notices once they have
  pub parked_early : 0 < length desk.parked → desk.notices < notified_zones s.sizes

-- What it was told, and is so from then on: the session is stopped, and so no answer waits for the stop notices before.
abbrev pub DeskWasTold : Trace → Desk → Type 0
DeskWasTold t desk = 0 < desk.notices + length desk.parked → has_stopped t ≡ true
