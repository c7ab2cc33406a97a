-- Lists of calls on the tickets of a zone, and when its receipts are right.
use Rattle.std.specs.Prelude.{ℕ, ◌≡◌, Bool, true, false, List, [], ◌∷◌, Option, None, Some}
use Rattle.blk_base.specs.declared.place.Pbn.{Pbn}
use Rattle.blk_base.specs.declared.request.Writer.{Writer}
use Rattle.plain_laws.specs.Leads.{LeadsBy}
use Rattle.slab_counts.specs.declared.tickets.Ticket.{Ticket}
use Rattle.slab_counts.specs.declared.tickets.Receipt.{Receipt}
use Rattle.slab_tickets.specs.declared.forms.Withdrawn.{Withdrawn}
use Rattle.slab_tickets.specs.Tickets.{Desk, IsBelow, NoneWaits, begun, HasRoom, Issues, Gives, Withdraws}

-- a step begins, after one that ended with a free block or without one; a ticket is issued, gets a block, is withdrawn
pub data Operation : Type 0 where
  Begins : Bool → ℕ → Operation
  Issued : Writer → Ticket → Operation
  Given : Pbn → Operation
  Withdrawn' : Ticket → Withdrawn → Operation

-- What a call does, as its contract says. A zone that ends a step with a free block has no ticket that waits.
abbrev pub Does : Operation → Desk → Desk → Type 0
Does (Begins true step) old new = NoneWaits old × IsBelow old.step step × (new ≡ begun true step old)
Does (Begins false step) old new = IsBelow old.step step × (new ≡ begun false step old)
Does (Issued writer ticket) old new = HasRoom old × Issues old new writer ticket
Does (Given block) old new = Gives old new block
Does (Withdrawn' ticket result) old new = Withdraws old new ticket result

-- these calls, the newest first, lead from the one to the other
abbrev pub LeadTo : Desk → List Operation → Desk → Type 0
LeadTo old calls new = LeadsBy Does old calls new

-- the step under way after these calls
abbrev pub step_of : List Operation → Option ℕ
step_of [] = None
step_of (Begins free step ∷ calls) = Some step
step_of (other ∷ calls) = step_of calls

-- the last step at whose end the zone had a free block: the last one that the next was told to have ended so
abbrev pub last_free_of : List Operation → Option ℕ
last_free_of [] = None
last_free_of (Begins true step ∷ calls) = step_of calls
last_free_of (other ∷ calls) = last_free_of calls

-- a receipt is right after these calls: no step from the one that asked on ended with a free block
abbrev pub IsRight : List Operation → Receipt → Type 0
IsRight calls receipt = IsBelow (last_free_of calls) receipt.asked
