-- The tickets that a request holds, as a list.
use Rattle.std.specs.Prelude.{List, [], ◌∷◌, Option, None, Some}
use Rattle.slab_counts.specs.declared.tickets.Ticket.{Ticket}
use Rattle.data_vio.specs.declared.held_tickets.HeldTickets.TheInside.{Inside}

-- one that is there, before others
abbrev pub before : Option Ticket → List Ticket → List Ticket
before None others = []
before (Some ticket) others = ticket ∷ others

-- they end with the first that isn't there
abbrev pub tickets_of : Inside → List Ticket
tickets_of s = before s.first (before s.second (before s.third (before s.fourth [])))
