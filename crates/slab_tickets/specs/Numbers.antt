-- The tickets that are out by their numbers.
use Rattle.std.specs.Prelude.{ℕ, suc, ◌≤◌, ◌==◌, if◌then◌else◌, false, ◌≡◌, List, [], ◌∷◌, All, Option, None, Some}
use Rattle.blk_base.specs.declared.place.Pbn.{Pbn}
use Rattle.slab_tickets.specs.Tickets.{Desk, IsNow, IsBelow, is_served}
use Rattle.slab_tickets.specs.declared.forms.Waiting.{Waiting}

-- what went to the ticket with this number: `None` where it isn't out, and `Some None` where it has no block yet
abbrev pub ticket_of : List Waiting → ℕ → Option (Option Pbn)
ticket_of [] k = None
ticket_of (waiting ∷ out) k = if waiting.number == k then Some waiting.block else ticket_of out k

-- their numbers rise, from this one on, and are below that of the next ticket
abbrev pub AreRising : ℕ → List Waiting → ℕ → Type 0
AreRising low [] next = low ≤ next
AreRising low (waiting ∷ out) next = (low ≤ waiting.number) × AreRising (suc waiting.number) out next

-- the tickets that are out have numbers of their own, below that of the next one
abbrev pub AreNumbered : Desk → Type 0
AreNumbered desk = AreRising 0 desk.out desk.issued

-- where no block went to it, it asked behind this step
abbrev pub AskedBehind : Option ℕ → Waiting → Type 0
AskedBehind last waiting = is_served waiting ≡ false → IsBelow last waiting.asked

-- each ticket that waits asked behind the last step at whose end the zone had a free block
pub record IsBehind (desk : Desk) : Type 0 where
  pub strict : (step : ℕ) → IsNow desk step → IsBelow desk.last_free step
  pub never : desk.step ≡ None → desk.last_free ≡ None
  pub waiting : All (AskedBehind desk.last_free) desk.out
