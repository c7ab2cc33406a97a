-- Lists of calls of a zone, and when its receipts are right.
use Rattle.std.specs.Prelude.{ℕ, ◌≡◌, Bool, List, [], ◌∷◌}
use Rattle.blk_base.specs.declared.place.Pbn.{Pbn}
use Rattle.blk_base.specs.declared.point.Half.{Half}
use Rattle.blk_base.specs.declared.request.Writer.{Writer}
use Rattle.plain_laws.specs.Leads.{LeadsBy}
use Rattle.slab_counts.specs.Counts.{Counts, HasRoom, Takes, claimed, unclaimed, with_page}
use Rattle.slab_counts.specs.declared.tickets.Ticket.{Ticket}
use Rattle.slab_counts.specs.declared.tickets.Receipt.{Receipt}
use Rattle.slab_tickets.specs.Operations as tickets
use Rattle.slab_tickets.specs.Tickets.{HasRoom as HasTicket, IsBelow}
use Rattle.slab_tickets.specs.declared.forms.Withdrawn.{Withdrawn}
use Rattle.zone_counts.specs.Zone.{Zone, IsOfZone, IsClaimedIn, BeginsBehind, Changes, slab_of, with_slab}
use Rattle.zone_counts.specs.ZoneAnswers.{Asks, WithdrawsFrom, SharesIn}
use Rattle.zone_counts.specs.declared.forms.Asked.{Asked}

-- a call by what it answered; a step begins after one that ended with a free block, or without one
pub data Operation : Type 0 where
  Begins : Bool → ℕ → Operation
  Asks' : Writer → Asked → Operation
  Withdraws' : Ticket → Withdrawn → Operation
  Shares' : Pbn → Operation
  Extends : Pbn → Operation
  Drops : Pbn → Operation
  SpendsPage : Pbn → Operation
  Applies : Half → Pbn → Counts → Operation
  Refused : Operation

-- what a call does, as its contract says
abbrev pub Does : Operation → Zone → Zone → Type 0
Does (Begins free step) old new = IsBelow old.desk.step step × BeginsBehind free old new step
Does (Asks' writer answer) old new = HasTicket old.desk × Asks old new writer answer
Does (Withdraws' ticket result) old new = WithdrawsFrom old new ticket result
Does (Shares' at) old new = SharesIn old new at
Does (Extends at) old new = IsClaimedIn old at × HasRoom (slab_of old at) at × (new ≡ with_slab old at (claimed (slab_of old at) at))
Does (Drops at) old new = IsClaimedIn old at × Changes old new at (unclaimed (slab_of old at) at)
Does (SpendsPage at) old new = IsClaimedIn old at × (new ≡ with_slab old at (with_page (slab_of old at) at))
Does (Applies half at counts) old new = IsOfZone old at × Takes half (slab_of old at) counts at × Changes old new at counts
Does Refused old new = new ≡ old

-- these calls, the newest first, lead from the one to the other
abbrev pub LeadTo : Zone → List Operation → Zone → Type 0
LeadTo old calls new = LeadsBy Does old calls new

-- those of the calls that begin a step, as calls on the tickets
abbrev pub begins_of : List Operation → List tickets.Operation
begins_of [] = []
begins_of (Begins free step ∷ calls) = tickets.Begins free step ∷ begins_of calls
begins_of (other ∷ calls) = begins_of calls

-- a receipt is right after these calls: no step from the one that asked on ended with a free block
abbrev pub IsRight : List Operation → Receipt → Type 0
IsRight calls receipt = tickets.IsRight (begins_of calls) receipt
