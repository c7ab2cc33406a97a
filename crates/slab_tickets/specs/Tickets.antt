-- The tickets that are out in a zone, the zone's steps, and when a receipt is right.
use Rattle.std.specs.Prelude.{ℕ, ◌≡◌, ◌+◌, ◌-◌, ◌<◌, ◌^◌, Bool, true, false, not, List, [], ◌∷◌, ◌++◌, length, position, slice_index_or, slice_set, Option, None, Some, is_some, ◌==◌}
use Rattle.std.specs.List.{remove}
use Rattle.blk_base.specs.declared.place.Pbn.{Pbn}
use Rattle.blk_base.specs.declared.request.Writer.{Writer}
use Rattle.slab_counts.specs.declared.tickets.Ticket.{Ticket}
use Rattle.slab_counts.specs.declared.tickets.Receipt.{Receipt}
use Rattle.slab_tickets.specs.declared.forms.Waiting.{Waiting}
use Rattle.slab_tickets.specs.declared.forms.Withdrawn.{Withdrawn}
use Rattle.slab_tickets.specs.declared.forms.Withdrawn.TheVariants.{Block, Nothing}

-- `out` has the tickets that are out, the oldest first, and `issued` is the number of the next one. `step` is the step
-- under way, and `last_free` the last one at whose end the zone had a free block, where there is one.
pub record Desk : Type 0 where
  pub zone : ℕ
  pub room : ℕ
  pub issued : ℕ
  pub step : Option ℕ
  pub last_free : Option ℕ
  pub out : List Waiting

-- no step was begun, and no ticket is out
abbrev pub empty_desk : ℕ → ℕ → Desk
empty_desk zone room = record { zone = zone; room = room; issued = 0; step = None; last_free = None; out = [] }

-- the step is the one under way
abbrev pub IsNow : Desk → ℕ → Type 0
IsNow desk step = desk.step ≡ Some step

-- a number that may not be there is below this one; none is below all
abbrev pub IsBelow : Option ℕ → ℕ → Type 0
IsBelow None bound = Unit {0}
IsBelow (Some number) bound = number < bound

-- a step begins, and the one before ended with a free block or without one
abbrev pub begun : Bool → ℕ → Desk → Desk
begun true step desk = record desk { step = Some step; last_free = desk.step }
begun false step desk = record desk { step = Some step }

-- whether a block went to it
abbrev pub is_served : Waiting → Bool
is_served waiting = is_some waiting.block

-- the oldest that has no block yet stands here
abbrev pub IsNext : Desk → ℕ → Type 0
IsNext desk k = position (λ waiting. not (is_served waiting)) desk.out ≡ Some k

-- each has a block
abbrev pub NoneWaits : Desk → Type 0
NoneWaits desk = position (λ waiting. not (is_served waiting)) desk.out ≡ None

-- there is room for one more, and a number
pub record HasRoom (desk : Desk) : Type 0 where
  pub fewer : length desk.out < desk.room
  pub number : desk.issued < 2 ^ 64 - 1

-- one more ticket is out, the youngest
pub record Issues (old new : Desk) (writer : Writer) (ticket : Ticket) : Type 0 where
  pub now : IsNow old ticket.asked
  pub zone : ticket.zone ≡ old.zone
  pub number : ticket.number ≡ old.issued
  pub after : new ≡ record old {
    issued = old.issued + 1;
    out = old.out ++ record { number = ticket.number; asked = ticket.asked; writer = writer; block = None } ∷ [];
  }

-- the oldest without a block gets this one
pub record Gives (old new : Desk) (block : Pbn) : Type 0 where
  pub place : ℕ
  pub oldest : IsNext old place
  pub waiting : Waiting
  pub is : slice_index_or old.out place waiting ≡ waiting
  pub after : new ≡ record old { out = slice_set old.out place (record waiting { block = Some block }) }

-- where the ticket stands among those that are out
abbrev pub IsOutAt : Desk → Ticket → ℕ → Type 0
IsOutAt desk ticket k = position (λ waiting. waiting.number == ticket.number) desk.out ≡ Some k

-- what a ticket is worth: its block, or a receipt
abbrev pub worth_of : Option Pbn → Receipt → Withdrawn
worth_of (Some block) receipt = Block block
worth_of None receipt = Nothing receipt

abbrev pub worth : Desk → ℕ → Waiting → Withdrawn
worth desk step waiting = worth_of waiting.block (record { zone = desk.zone; asked = waiting.asked; withdrawn = step })

-- the ticket is out no longer, and is worth what went to it
pub record Withdraws (old new : Desk) (ticket : Ticket) (result : Withdrawn) : Type 0 where
  pub place : ℕ
  pub here : IsOutAt old ticket place
  pub waiting : Waiting
  pub is : slice_index_or old.out place waiting ≡ waiting
  pub step : ℕ
  pub now : IsNow old step
  pub worth_is : result ≡ worth old step waiting
  pub after : new ≡ record old { out = remove old.out place }
