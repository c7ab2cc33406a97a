-- The receipts of the writes that found no block: what the trace says of them, what a request knows of its own, and what the desk keeps.
use Rattle.std.proofs.Common.{ℕ, ◌+◌, ◌≡◌, length, Option, None, Some, List, [], ◌∷◌, refl, ap, arith}
use Rattle.blk_base.specs.declared.request.Answer.TheVariants as reply
use Rattle.blk_base.specs.declared.request.Writer.{Writer}
use Rattle.vdo_model.specs.declared.report.DeskLine.TheVariants as line
use Rattle.vdo_model.specs.declared.report.NoSpaceReceipt.{NoSpaceReceipt}
use Rattle.data_vio.specs.declared.items.Asks.TheVariants as asks
use Rattle.data_vio.specs.declared.items.Phase.TheVariants as phase
use Rattle.data_vio.specs.declared.items.Vio.{Vio}
use Rattle.slab_counts.specs.declared.tickets.Receipt.{Receipt}
use Rattle.slab_counts.specs.declared.tickets.Ticket.{Ticket}
use Rattle.core_model.specs.DeskData.{Desk}
use Rattle.core_model.specs.DeskRules.{DeskServes, receipt_of_vio}
use Rattle.core_model.specs.DeskFacts.{DeskLists, HasReceipt, MayReply}
use Rattle.core_model.specs.PhysicalFacts.{newest_ticket}
use Rattle.core_model.specs.Trace.{Asks, Says, Trace, asked_step, last_asked, lines, receipts}
use Rattle.model_rows.proofs.sessions.PhaseRows.{answered, writes, vio}
use Rattle.core_model.proofs.WorkedTraces.{drawn, first, script, second, sizes, session}
use Rattle.core_model.specs.RightTraces.{HasCause}
use Rattle.data_vio.specs.Vios.{request_of}

-- a ticket of this zone, that was given in this step
abbrev given_in : (zone step : ℕ) → Ticket
given_in zone step = record { zone = zone; number = 0; asked = step }

-- the second write asked zone 1 in its step 7, then zone 0 in its step 4; the first one asked zone 0 later
abbrev asked : Trace
asked = Asks first (given_in 0 5) ∷ Asks second (given_in 0 4) ∷ Asks second (given_in 1 7) ∷ drawn

-- last_asked: the newest ticket of a request
last_of_second : last_asked asked second ≡ Some (given_in 0 4)
last_of_second = refl

last_of_first : last_asked asked first ≡ Some (given_in 0 5)
last_of_first = refl

last_of_none : last_asked drawn second ≡ None
last_of_none = refl

-- receipts: one of each answer that no block is free, the newest first, with the step of that ticket
abbrev refused : Trace
refused = Says (line.Answer first reply.NoSpace) ∷ Says (line.Answer second reply.NoSpace) ∷ asked

abbrev receipt : Writer → ℕ → NoSpaceReceipt
receipt w step = record { request = w; step = step }

receipts_of_both : receipts refused ≡ receipt first 5 ∷ receipt second 4 ∷ []
receipts_of_both = refl

receipts_of_other_answers : receipts (Says (line.Answer first reply.Full) ∷ Says (line.Begin second) ∷ asked) ≡ []
receipts_of_other_answers = refl

receipts_as_of_the_answer : receipts (Asks second (given_in 1 8) ∷ refused) ≡ receipt first 5 ∷ receipt second 4 ∷ []
receipts_as_of_the_answer = refl

receipts_of_one_that_asked_none : receipts (Says (line.Answer second reply.NoSpace) ∷ drawn) ≡ receipt second 0 ∷ []
receipts_of_one_that_asked_none = refl

-- newest_ticket: the last one in their order
newest_of_two : newest_ticket (given_in 1 7 ∷ given_in 0 4 ∷ []) ≡ Some (given_in 0 4)
newest_of_two = refl

newest_of_none : newest_ticket [] ≡ None
newest_of_none = refl

-- HasReceipt: of the ticket that the request was given last
abbrev paper : (asked : ℕ) → Receipt
paper asked = record { zone = 0; asked = asked; withdrawn = 9 }

has_receipt : HasReceipt asked second (Some (paper 4))
has_receipt = record { ticket = given_in 0 4; last = refl; given = paper 4; receipt_is = refl; asked = refl }

has_receipt-of_an_older_ticket : ¬ HasReceipt asked second (Some (paper 7))
has_receipt-of_an_older_ticket = λ is. let last = ap asked_step is.last in let own = ap step_of is.receipt_is in let step = is.asked in omega (arith, last, own, step)
  where
    step_of : Option Receipt → ℕ
    step_of None = 0
    step_of (Some r) = r.asked

has_receipt-none : ¬ HasReceipt asked second None
has_receipt-none = λ is. let none = is.receipt_is in absurd cc

has_receipt-asked_none : ¬ HasReceipt drawn second (Some (paper 4))
has_receipt-asked_none = λ is. let none = is.last in absurd cc

-- MayReply: a write that is answered that no block is free has its receipt, and one that is answered otherwise needs none
abbrev refusing : Option Receipt → Vio
refusing receipt = answered reply.NoSpace (record (vio second asks.Write phase.Reply 1) { receipt = receipt })

module _ (cause : HasCause session asked second (request_of (refusing None)) reply.NoSpace) where
  replies_with_a_receipt : MayReply session asked (refusing (Some (paper 4))) (Some reply.NoSpace)
  replies_with_a_receipt = (cause, has_receipt)

may_reply-with_a_receipt : ¬ MayReply session asked (refusing None) (Some reply.NoSpace)
may_reply-with_a_receipt = λ may. has_receipt-none may.1

may_reply-with_its_own : ¬ MayReply session asked (refusing (Some (paper 7))) (Some reply.NoSpace)
may_reply-with_its_own = λ may. has_receipt-of_an_older_ticket may.1

module _ (cause : HasCause session asked second (request_of (refusing None)) reply.Full) where
  replies_without_a_receipt : MayReply session asked (refusing None) (Some reply.Full)
  replies_without_a_receipt = cause

-- receipt_of_vio: the step of what it withdrew last
step_of_receipt : receipt_of_vio (record (writes phase.Reply) { receipt = Some (paper 4) }) ≡ receipt first 4
step_of_receipt = refl

step_without_receipt : receipt_of_vio (writes phase.Reply) ≡ receipt first 0
step_without_receipt = refl

-- DeskServes: one that found no block is answered with its receipt, and with nothing else
abbrev lacking : Vio
lacking = answered reply.NoSpace (record (writes phase.Reply) { receipt = Some (paper 4) })

abbrev desk : List NoSpaceReceipt → Trace → Desk
desk kept t = record { requests = script; log = lines t; marks = []; receipts = kept; notices = 0; parked = [] }

abbrev says_so : Trace
says_so = Says (line.Answer first reply.NoSpace) ∷ []

replies_with_its_receipt : DeskServes sizes (desk [] []) lacking (desk (receipt first 4 ∷ []) says_so) says_so []
replies_with_its_receipt = DeskServes.lacks refl refl refl refl refl

replies-with_its_receipt : (made : Trace) → ¬ DeskServes sizes (desk [] []) lacking (desk [] says_so) made []
replies-with_its_receipt made (DeskServes.parks a p answer stopped unnotified n m q) = absurd (let none = ap (λ (d : Desk). d.log) n in cc)
replies-with_its_receipt made (DeskServes.answers a p answer notified unmarked spaced n m q) = absurd (let is : reply.NoSpace ≡ a = cc in cc)
replies-with_its_receipt made (DeskServes.marks p asks answer n m q) = absurd cc
replies-with_its_receipt made (DeskServes.lacks p answer n m q) = absurd (let none = ap (λ (d : Desk). d.receipts) n in cc)

-- DeskLists: the receipts of the desk are those of the trace
lists_its_receipts : DeskLists refused (desk (receipts refused) refused)
lists_its_receipts = record { log_is = refl; marks_is = refl; receipts_is = refl }

lists-all_receipts : ¬ DeskLists refused (desk (receipt first 5 ∷ []) refused)
lists-all_receipts = λ is. let less = ap (λ (rs : List NoSpaceReceipt). length rs) is.receipts_is in omega (arith, less)

lists-the_right_steps : ¬ DeskLists refused (desk (receipt first 5 ∷ receipt second 7 ∷ []) refused)
lists-the_right_steps = λ is. let steps = ap all_steps is.receipts_is in omega (arith, steps)
  where
    all_steps : List NoSpaceReceipt → ℕ
    all_steps [] = 0
    all_steps (r ∷ rs) = r.step + all_steps rs
