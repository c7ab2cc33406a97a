-- Facts of a physical zone: what a request that asks it for a block carries, the decrements that it takes, and what it keeps.
use Rattle.std.specs.Prelude.{ℕ, suc, ◌+◌, ◌%◌, ◌≡◌, ◌⊎◌, ◌<◌, ◌≤◌, false, Option, None, Some, IsSome, List, [], ◌∷◌, ◌++◌, length, Contains, All}
use Rattle.std.specs.List.{AllByRecursion}
use Rattle.blk_base.specs.declared.place.Mapping.TheVariants.{At}
use Rattle.blk_base.specs.declared.place.Pbn.{Pbn}
use Rattle.blk_base.specs.declared.request.Writer.{Writer}
use Rattle.blk_base.specs.Regions.{IsDataBlock}
use Rattle.vdo_model.specs.Places.{place_of}
use Rattle.data_vio.specs.declared.sizes.Sizes.{Sizes}
use Rattle.data_vio.specs.declared.logged.Remapping.{Remapping}
use Rattle.core_model.specs.declared.zones.PhysicalZone.{PhysicalZone}
use Rattle.core_model.specs.CountUpdates.{replaced_in}
use Rattle.core_model.specs.RightTraces.{WasRefused}
use Rattle.core_model.specs.Sessions.{Session}
use Rattle.core_model.specs.Trace.{Asks as AsksIn, Trace, places, durable, strayed, has_taken, last_asked}
use Rattle.core_model.specs.PhysicalRules.{HasTicketRoom, next_step}
use Rattle.core_model.specs.Uses.{counted, gained, issued, lost, ticket_at, uncounted}
use Rattle.slab_counts.specs.declared.tickets.Ticket.{Ticket}
use Rattle.slab_tickets.specs.declared.forms.Waiting.{Waiting}
use Rattle.slab_tickets.specs.Numbers.{AreNumbered, ticket_of}
use Rattle.zone_counts.specs.ByBlock.{claims_in, counter_in, out_with}
use Rattle.zone_counts.specs.Zone.{IsOfZone, IsZone, Zone as Counts}
use Rattle.data_vio.specs.declared.logged.Logged.TheVariants.{Remaps}

-- these tickets are of the zones that are asked in turn, from this turn on
abbrev pub AreInTurn : Sizes → (turn : ℕ) → List Ticket → Type 0
AreInTurn sizes turn [] = Unit {0}
AreInTurn sizes turn (k ∷ others) = (k.zone ≡ turn % sizes.physical) × AreInTurn sizes (suc turn) others

-- A write asks for a block: it was given these tickets, by the zones that it asked, and has one to ask.
pub record IsAsking (s : Session) (t : Trace) (w : Writer) (place : ℕ) (tickets : List Ticket) : Type 0 where
  pub in_turn : AreInTurn s.sizes place tickets
  pub fewer : length tickets < s.sizes.physical
  pub asked : AllByRecursion (λ k. Contains t (AsksIn w k)) tickets

-- It claimed no block for its data. It had asked each zone by a moment, and of each it has the ticket yet, or withdrew that, to which no
-- block went.
pub record LacksBlock (s : Session) (t : Trace) (w : Writer) (tickets : List Ticket) : Type 0 where
  pub newer : Trace
  pub older : Trace
  pub moment : t ≡ newer ++ older
  pub placed : IsSome (place_of (places older) w)
  pub none_taken : has_taken t w None ≡ false
  pub each : (zone : ℕ) → zone < s.sizes.physical
      → WasRefused newer older w zone ⊎ ((k : Ticket) × (k.zone ≡ zone) × Contains tickets k × Contains older (AsksIn w k))

-- the newest of its tickets, which it got in their order
abbrev pub newest_ticket : List Ticket → Option Ticket
newest_ticket [] = None
newest_ticket (k ∷ []) = Some k
newest_ticket (k ∷ j ∷ newer) = newest_ticket (j ∷ newer)

-- It withdraws its tickets: while none brought it a block, it asked each zone, and has yet the ticket that it was given last.
pub record IsWithdrawing (s : Session) (t : Trace) (w : Writer) (claim : Option Pbn) (tickets : List Ticket) : Type 0 where
  pub turn : ℕ
  pub in_turn : AreInTurn s.sizes turn tickets
  pub few : length tickets ≤ s.sizes.physical
  pub some : 0 < length tickets
  pub asked : AllByRecursion (λ k. Contains t (AsksIn w k)) tickets
  pub lacks : claim ≡ None → LacksBlock s t w tickets
  pub last : claim ≡ None → last_asked t w ≡ newest_ticket tickets

-- A decrement is that of a committed entry, which replaces the mapping to a data block.
pub record IsDecrement (s : Session) (t : Trace) (e : Remapping) : Type 0 where
  pub committed : Contains (durable t) (Remaps e)
  pub block : Pbn
  pub old_is : e.old ≡ At block
  pub is_data : IsDataBlock s.sizes.geometry block.0

-- a ticket that is out in a zone was given there, in the step in which it asked
abbrev pub WasIssued : Trace → (zone : ℕ) → Waiting → Type 0
WasIssued t zone waiting = Contains t (AsksIn waiting.writer (record { zone = zone; number = waiting.number; asked = waiting.asked }))

-- The counters of a physical zone are those of the opened image with the updates that were taken; and each use of its blocks, by a
-- mapping or a claim, is one of the trace.
pub record PhysicalLists (s : Session) (t : Trace) (p : PhysicalZone) : Type 0 where
  pub counters : (x : Pbn) → IsOfZone p.counts x → counter_in x p.counts.slabs + uncounted t x ≡ counted s t x
  pub uses : (x : Pbn) → IsOfZone p.counts x → counter_in x p.counts.slabs + claims_in x p.counts.slabs + lost t x ≡ gained s t x
  pub strays_are : p.strays ≡ replaced_in s.sizes p.counts.zone (strayed t)
  -- what it knows of its tickets is what happened to them
  pub tickets_are : (number : ℕ) → ticket_of p.counts.desk.out number ≡ ticket_at s.sizes t p.counts.zone number
  pub issued_is : p.counts.desk.issued ≡ issued t p.counts.zone
  pub out_are : All (WasIssued t p.counts.zone) p.counts.desk.out

-- While nothing is shared, a block on which there is a claim has no mapping and no other claim.
abbrev pub AreFirstClaims : Counts → Type 0
AreFirstClaims z = (x : Pbn) → 0 < claims_in x z.slabs → (counter_in x z.slabs ≡ 0) × (claims_in x z.slabs ≡ 1)

-- It has all slabs of the image, and its tickets have numbers of their own, at most one for each step in which it gave or took back one.
pub record IsSoundPhysical (s : Session) (p : PhysicalZone) : Type 0 where
  pub is_zone : IsZone p.counts
  pub geometry : p.counts.geometry ≡ s.sizes.geometry
  pub zones : p.counts.zones ≡ s.sizes.physical
  pub numbered : AreNumbered p.counts.desk
  pub few : p.counts.desk.issued ≤ next_step p.counts.desk.step
  pub room : HasTicketRoom s.sizes p.counts.desk.room
  -- what went to one is a block of the zone
  pub passed : (x : Pbn) → 0 < out_with x p.counts.desk → IsOfZone p.counts x
  pub first_claims : AreFirstClaims p.counts
