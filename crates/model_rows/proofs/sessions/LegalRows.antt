-- For each clause of a legal core, and of what its journal may hand out and seal, a case that breaks it; a core that is legal
-- stands in `core_laws` (`proofs/kept/FirstCore`), which has the law that one is at its start.
use Rattle.std.specs.Prelude.{ℕ, ◌≡◌, ◌==◌, true, false, Option, None, Some, List, [], ◌∷◌, length, replicate, refl}
use Rattle.std.proofs.Common.{ap, arith}
use Rattle.blk_base.specs.declared.request.Answer.TheVariants as reply
use Rattle.blk_base.specs.declared.request.Writer.{Writer}
use Rattle.vdo_model.specs.declared.report.DeskLine.TheVariants as line
use Rattle.data_vio.specs.declared.items.Asks.TheVariants as asks
use Rattle.data_vio.specs.declared.items.Item.TheVariants.{Request, Decrement, Damage}
use Rattle.data_vio.specs.declared.items.Item.{Item}
use Rattle.vdo_model.specs.declared.report.Damage.TheVariants.{Stray}
use Rattle.data_vio.specs.declared.items.Phase.TheVariants as phase
use Rattle.core_model.specs.declared.zones.Zone.{Zone}
use Rattle.core_model.specs.declared.zones.ZoneData.{ZoneData}
use Rattle.core_model.specs.JournalRules.{HasNext, IsSealable}
use Rattle.core_model.specs.Legal.{ComesAfter, Legal, share}
use Rattle.core_model.specs.Steps.{Core}
use Rattle.core_model.specs.Trace.{Says, Trace}
use Rattle.blk_base.specs.declared.place.PageId.{PageId}
use Rattle.blk_base.specs.declared.place.Pbn.{Pbn}
use Rattle.blk_base.proofs.Example.{leaf}
use Rattle.blk_base.specs.Forms.{pbn as block}
use Rattle.core_model.specs.CountUpdates.{CountUpdate}
use Rattle.core_model.specs.RightTraces.{GivesRight}
use Rattle.core_model.specs.Sessions.{IsFair}
use Rattle.core_model.specs.declared.zones.ZoneData.TheVariants as at
use Rattle.core_model.proofs.ZoneForms.{leafy, device, desk, empty_log, journal, nothing, one, log_with, logical, physical, slab_with, zone_with}
use Rattle.model_rows.proofs.sessions.PhaseRows.{has_block, seven, lock, of_write, stepped, vio, waiting}
use Rattle.model_rows.proofs.sessions.TicketTraces.{ticket}
use Rattle.core_model.proofs.WorkedTraces.{lasting, begun, first, of_first, of_second, place, reader, second, session}
use Rattle.recovery_journal.specs.Log.{placed}

-- its six zones, with nothing in their lanes, and only some of them
abbrev zone : ℕ → ZoneData → Zone
zone number keeps = record { number = number; steps = 0; keeps = keeps; ports = record { inbox = []; outboxes = replicate 6 [] } }

abbrev core : List Zone → Trace → Core
core zones trace = record { zones = zones; trace = trace }

-- count, each
of_no_zones : ¬ Legal session (core [] [])
of_no_zones = λ legal. omega (arith, legal.count)

of_another_number : (others : List Zone) (t : Trace) → ¬ Legal session (core (zone 1 (desk [] [] 0 []) ∷ others) t)
of_another_number others t = λ legal. let ok = legal.each 0 (zone 1 (desk [] [] 0 [])) refl in omega (arith, ok.number_is)

-- requests, room: one that was begun is nowhere
abbrev lost : Core
lost = core (zone 0 (desk (line.Begin first ∷ []) [] 0 []) ∷ []) []

request_lost : ¬ Legal session lost
request_lost = λ legal. omega (arith, legal.requests first)

room_left : ¬ Legal session lost
room_left = λ legal. omega (arith, legal.room)

-- and one is there twice that was begun once
abbrev twice : Core
twice = core (record (zone 0 (desk (line.Begin first ∷ []) [] 0 [])) { ports = record { inbox = Request (vio first asks.Write phase.Reply 0) ∷ Request (vio first asks.Write phase.Reply 0) ∷ []; outboxes = [] } } ∷ []) []

request_doubled : ¬ Legal session twice
request_doubled = λ legal. omega (arith, legal.requests first)

-- making, dropped: a page is made by nobody; and one is never linked of which no entry was handed in
abbrev with_pages : List PageId → List PageId → Core
with_pages making unlinkable = core (zone 1 (at.Logical (record {
  zone = 0;
  notified = false;
  next = 0;
  places = [];
  held = [];
  waiting = [];
  retired = [];
  tree = leafy;
  making = making;
  lacking = [];
  unlinkable = unlinkable;
  settling = [];
  reported = [];
  slots = [];
})) ∷ []) []

page_unmade : ¬ Legal session (with_pages (leaf ∷ []) [])
page_unmade = λ legal. omega (arith, legal.making leaf)

page_dropped : ¬ Legal session (with_pages [] (leaf ∷ []))
page_dropped = λ legal. omega (arith, legal.dropped)

-- leases, holders: a lock is held by nobody; or by a request with another place
abbrev unheld : Core
unheld = core (zone 1 (logical 1 [] (lock 0 ∷ []) [] [] []) ∷ []) []

lock_unheld : ¬ Legal session unheld
lock_unheld = λ legal. omega (arith, legal.holders)

abbrev held_by : ℕ → Core
held_by n = core (record (zone 1 (logical 1 [] (lock 0 ∷ []) [] [] [])) { ports = record { inbox = Request (vio first asks.Write phase.Claim n) ∷ []; outboxes = [] } } ∷ []) []

held_by_another : ¬ Legal session (held_by 1)
held_by_another = λ legal. omega (arith, legal.leases 0 (λ n. n == 0))

-- entries: one that was handed in is nowhere
entry_lost : ¬ Legal session (core (zone 4 (journal false empty_log [] [] (of_first ∷ []) []) ∷ []) [])
entry_lost = λ legal. omega (arith, legal.entries)

-- one ticket is out in the physical zone, to which this block went; and a request that holds the ticket of this number
abbrev one_out : Option Pbn → List Item → Core
one_out got items =
    core
    (record (zone 3 (at.Physical (record { notified = false; strays = []; counts = stepped (zone_with (slab_with nothing nothing)) 0 1 (waiting second 0 got ∷ []) }))) { ports = record { inbox = items; outboxes = [] } } ∷ [])
    []

abbrev holder : ℕ → Item
holder number = Request (record (vio second asks.Write phase.Withdraw 1) { tickets = ticket 0 number ∷ [] })

-- blocks, claims: a counter is of no mapping, or a claim is of nobody; or a claim isn't counted, or that of a ticket
mapping_of_nothing : ¬ Legal session (core (zone 3 (physical seven nothing) ∷ []) [])
mapping_of_nothing = λ legal. omega (arith, legal.blocks (block 85))

claim_lost : ¬ Legal session (core (zone 3 (physical nothing one) ∷ []) [])
claim_lost = λ legal. omega (arith, legal.blocks (block 85))

claim_uncounted : ¬ Legal session (core (record (zone 3 (physical nothing nothing)) { ports = record { inbox = Request (has_block phase.AbortClaim) ∷ []; outboxes = [] } } ∷ []) [])
claim_uncounted = λ legal. omega (arith, legal.claims (block 85))

block_of_a_ticket_uncounted : ¬ Legal session (one_out (Some (block 85)) (holder 0 ∷ []))
block_of_a_ticket_uncounted = λ legal. omega (arith, legal.claims (block 85))

-- tickets: one that is out is held by nobody, by two, or with another number; and one is held that isn't out
ticket_lost : ¬ Legal session (one_out None [])
ticket_lost = λ legal. omega (arith, legal.tickets 0 (λ n. n == 0))

ticket_held_twice : ¬ Legal session (one_out None (holder 0 ∷ holder 0 ∷ []))
ticket_held_twice = λ legal. omega (arith, legal.tickets 0 (λ n. n == 0))

ticket_with_another_number : ¬ Legal session (one_out None (holder 1 ∷ []))
ticket_with_another_number = λ legal. omega (arith, legal.tickets 0 (λ n. n == 0))

ticket_of_nothing : ¬ Legal session (core (record (zone 3 (physical nothing nothing)) { ports = record { inbox = holder 0 ∷ []; outboxes = [] } } ∷ []) [])
ticket_of_nothing = λ legal. omega (arith, legal.tickets 0 (λ n. n == 0))

-- reports, waiters: a committed entry replaces a block, and its decrement is nowhere; or that is, and its request is nowhere
abbrev replaced : List Item → Core
replaced items = core (record (zone 4 (journal false empty_log [] [] (of_second ∷ []) (of_second ∷ []))) { ports = record { inbox = items; outboxes = [] } } ∷ []) []

decrement_lost : ¬ Legal session (replaced [])
decrement_lost = λ legal. omega (arith, legal.reports second)

waiter_lost : ¬ Legal session (replaced (Decrement of_second ∷ []))
waiter_lost = λ legal. omega (arith, legal.waiters second)

-- damage: it is told of, and nothing strayed
damage_of_nothing : ¬ Legal session (core (record (zone 3 (physical nothing nothing)) { ports = record { inbox = Damage (Stray (block 85) 0) ∷ []; outboxes = [] } } ∷ []) [])
damage_of_nothing = λ legal. omega (arith, legal.damage)

-- journal: it is busy, and no block is under way
block_lost : ¬ Legal session (core (zone 4 (journal true empty_log [] [] [] []) ∷ []) [])
block_lost = λ legal. omega (arith, legal.journal)

-- stop_notices: the device stopped, and no notice of it is under way or came
notice_lost : ¬ Legal session (core (zone 5 (device true 1) ∷ []) [])
notice_lost = λ legal. omega (arith, legal.stop_notices)

-- in_order: the desk sent three requests to the first logical zone, of which none came and none is in the lane
abbrev unsent : Core
unsent = core (zone 0 (desk [] [] 0 []) ∷ zone 1 (logical 0 [] [] [] [] []) ∷ []) begun

arrivals_lost : ¬ Legal session unsent
arrivals_lost = λ legal.
    let same = (legal.in_order 0 (omega arith)).in_order (zone 1 (logical 0 [] [] [] [] [])) (zone 0 (desk [] [] 0 [])) [] refl refl refl in
    let count : 3 ≡ 0 = ap (λ (ws : List Writer). length ws) same in
    omega (arith, count)

-- updates: the journal committed an entry, and its increment came to no physical zone and isn't on its way
abbrev unsent_update : Core
unsent_update =
    core
    (zone 0 (desk [] [] 0 []) ∷ zone 1 (logical 0 [] [] [] [] []) ∷ zone 2 (logical 0 [] [] [] [] []) ∷ zone 3 (physical nothing nothing) ∷ zone 4 (journal true empty_log [] [] [] []) ∷ [])
    lasting

update_lost : ¬ Legal session unsent_update
update_lost = λ legal.
    let same = (legal.updates 0 (omega arith)).in_order (zone 3 (physical nothing nothing)) (zone 4 (journal true empty_log [] [] [] [])) [] refl refl refl in
    let count : 1 ≡ 0 = ap (λ (us : List CountUpdate). length us) same in
    omega (arith, count)

-- gives_right: what a fair session shows is no other value
shows_another : (zones : List Zone) (t : Trace) → IsFair session t → ¬ GivesRight session t → ¬ Legal session (core zones t)
shows_another zones t fair wrong = λ legal. wrong (legal.gives_right fair)

-- right: an answer may not follow where nothing was begun
answers_early : (zones : List Zone) → ¬ Legal session (core zones (Says (line.Answer first reply.Ok) ∷ []))
answers_early zones = λ legal. omega (arith, legal.right.0.0.0)

-- The order of a stream in a zone.
later_number : ComesAfter 0 reader (place first 0 0)
later_number = λ here stream. omega arith

other_zone : ComesAfter 1 first (place reader 0 2)
other_zone = λ here. omega (arith, here)

other_stream : ComesAfter 0 first (place second 0 1)
other_stream = λ here stream. omega (arith, stream)

lower_number : ¬ ComesAfter 0 first (place reader 0 2)
lower_number = λ comes. omega (arith, comes refl refl)

-- three streams of two, with a decrement each, four stop notices, a block, and damage
share_is : share session ≡ 18
share_is = refl

-- What is left to hand out, and what may be sealed.
has_next : HasNext (log_with 2 [] (placed 1 0 (of_write ∷ [])) 0 2)
has_next = omega arith

all_handed : ¬ HasNext (log_with 2 [] (placed 1 0 (of_write ∷ [])) 1 2)
all_handed = λ next. omega (arith, next)

sealable : IsSealable (log_with 1 (of_write ∷ []) [] 0 1)
sealable = record { some = omega arith; durable = refl }

nothing_to_seal : ¬ IsSealable empty_log
nothing_to_seal = λ is. omega (arith, is.some)

one_is_written : ¬ IsSealable (log_with 2 (of_write ∷ []) [] 0 1)
one_is_written = λ is. omega (arith, is.durable)
