-- What the physical zone does: claims on data blocks, and the updates of their counters.
use Rattle.std.specs.Prelude.{ℕ, ◌+◌, ◌*◌, ◌≡◌, ◌<◌, ◌≤◌, if◌then◌else◌, nat_lt, length, Option, None, Some, List, [], ◌∷◌}
use Rattle.blk_base.specs.declared.place.Mapping.TheVariants.{At}
use Rattle.blk_base.specs.declared.place.PageId.{PageId}
use Rattle.blk_base.specs.declared.place.Pbn.{Pbn}
use Rattle.blk_base.specs.declared.place.ZoneId.TheVariants as id
use Rattle.blk_base.specs.declared.point.Half.TheVariants as half
use Rattle.blk_base.specs.declared.request.Answer.TheVariants as reply
use Rattle.data_vio.specs.declared.items.Item.TheVariants as item
use Rattle.data_vio.specs.declared.items.Phase.TheVariants as phase
use Rattle.data_vio.specs.declared.items.Vio.{Vio}
use Rattle.data_vio.specs.declared.logged.Remapping.{Remapping}
use Rattle.data_vio.specs.declared.sizes.Sizes.{Sizes}
use Rattle.core_model.specs.declared.zones.PhysicalZone.{PhysicalZone}
use Rattle.core_model.specs.Trace.{Trace, Takes, Asks, Withdraws, Drops, Adds, Removes, Strays}
use Rattle.data_vio.specs.Vios.{Post, claiming, counts_of, ended, holding, home_of, logged, refused, ticket_zone, turned, unclaiming, with_tickets, withdrawing}
use Rattle.slab_counts.specs.declared.tickets.Receipt.{Receipt}
use Rattle.slab_counts.specs.declared.tickets.Ticket.{Ticket}
use Rattle.slab_tickets.specs.declared.forms.Withdrawn.TheVariants.{Block, Nothing}
use Rattle.slab_counts.specs.Counts.{Counts, IsStray, Takes as Fits, unclaimed, with_page}
use Rattle.vdo_model.specs.declared.report.Damage.TheVariants.{Stray}
use Rattle.zone_counts.specs.ZoneAnswers.{GivesBlock, GivesTicket, WithdrawsFrom}
use Rattle.zone_counts.specs.ByBlock.{served_ticket}
use Rattle.zone_counts.specs.Zone.{Zone, BeginsStep, Changes, IsClaimedIn, IsOfZone, slab_of, with_slab}

-- the zone with other counts
abbrev pub with_counts : Zone → PhysicalZone → PhysicalZone
with_counts z p = record p { counts = z }

-- the claim on a block is spent: that of a page, from now on, is shared by nobody
abbrev pub spent_for : Option PageId → Zone → Pbn → Zone
spent_for None z x = z
spent_for (Some page) z x = with_slab z x (with_page (slab_of z x) x)

-- a zone has room for more tickets than requests are under way
abbrev pub HasTicketRoom : Sizes → (room : ℕ) → Type 0
HasTicketRoom sizes room = (32 ≤ room) × (32 * sizes.depth ≤ room)

-- the number of a zone's next step among those in which it gives or takes back a ticket
abbrev pub next_step : Option ℕ → ℕ
next_step None = 0
next_step (Some step) = step + 1

abbrev pub BeginsNext : Zone → Zone → Type 0
BeginsNext old new = BeginsStep old new (next_step old.desk.step)

-- where a write goes that was given a ticket: it asks the next zone, or has asked each, and withdraws them
abbrev pub asks_on : Sizes → Vio → Post
asks_on sizes v = if nat_lt (length v.tickets) sizes.physical then (counts_of sizes v, item.Request v) else (ticket_zone v.tickets, item.Request (withdrawing v))

-- where one goes that asks no more: it withdraws its tickets; with none left it stores its data or its page, or has no block
abbrev pub goes_on : Vio → List Ticket → Option Pbn → Post
goes_on v (k ∷ others) claim = (id.Physical k.zone, item.Request (turned phase.Withdraw v))
goes_on v [] (Some x) = (id.Device, item.Request (turned phase.Store v))
goes_on v [] None = (v.home, item.Request (ended phase.Abort reply.NoSpace v))

abbrev pub served : Vio → Post
served v = goes_on v v.tickets v.claim

pub data PhysicalServes (sizes : Sizes) (old : PhysicalZone) (v : Vio) (new : PhysicalZone) (made : Trace) (posts : List Post) : Type 0 where
  -- a write claims the lowest free block of the zone; or none is free there, and it is given a ticket, where it has fewer than there are zones
  claims : (x : Pbn) (z : Zone) → v.phase ≡ phase.Claim → GivesBlock old.counts z x
      → new ≡ with_counts z old → made ≡ Takes v.request v.page x ∷ [] → posts ≡ served (claiming x v) ∷ []
      → PhysicalServes sizes old v new made posts
  asks : (k : Ticket) (b z : Zone) → v.phase ≡ phase.Claim → length v.tickets < sizes.physical → BeginsNext old.counts b → GivesTicket b z v.request k
      → new ≡ with_counts z old → made ≡ Asks v.request k ∷ [] → posts ≡ asks_on sizes (holding k v) ∷ []
      → PhysicalServes sizes old v new made posts
  -- Its oldest ticket is withdrawn. The first block that went to one is its own, any other is dropped, and may go to another ticket.
  takes_block : (k : Ticket) (others : List Ticket) (x : Pbn) (b z : Zone) → v.phase ≡ phase.Withdraw → v.tickets ≡ k ∷ others → v.claim ≡ None
      → BeginsNext old.counts b → WithdrawsFrom b z k (Block x)
      → new ≡ with_counts z old → made ≡ Withdraws v.request k (Some x) ∷ [] → posts ≡ served (claiming x (with_tickets others v)) ∷ []
      → PhysicalServes sizes old v new made posts
  drops_block : (k : Ticket) (others : List Ticket) (x y : Pbn) (b m z : Zone) → v.phase ≡ phase.Withdraw → v.tickets ≡ k ∷ others → v.claim ≡ Some y
      → BeginsNext old.counts b → WithdrawsFrom b m k (Block x) → IsClaimedIn m x → (change : Changes m z x (unclaimed (slab_of m x) x))
      → new ≡ with_counts z old → made ≡ Drops v.request x (served_ticket change.serves) ∷ Withdraws v.request k (Some x) ∷ [] → posts ≡ served (with_tickets others v) ∷ []
      → PhysicalServes sizes old v new made posts
  has_none : (k : Ticket) (others : List Ticket) (receipt : Receipt) (b z : Zone) → v.phase ≡ phase.Withdraw → v.tickets ≡ k ∷ others
      → BeginsNext old.counts b → WithdrawsFrom b z k (Nothing receipt)
      → new ≡ with_counts z old → made ≡ Withdraws v.request k None ∷ [] → posts ≡ served (refused receipt (with_tickets others v)) ∷ []
      → PhysicalServes sizes old v new made posts
  -- the increment of its entry is taken, and its claim spent
  counts : (x : Pbn) (slab : Counts) (z : Zone) → v.phase ≡ phase.Count → v.claim ≡ Some x → IsClaimedIn old.counts x
      → Fits half.Increment (slab_of (spent_for v.page old.counts x) x) slab x → Changes (spent_for v.page old.counts x) z x slab
      → new ≡ with_counts z old → made ≡ Adds (logged v) ∷ [] → posts ≡ (v.home, item.Request (unclaiming phase.Settle v)) ∷ []
      → PhysicalServes sizes old v new made posts
  -- the claim of one that is aborted is dropped, where it has one; that of one whose entry was handed in stays counted
  drops : (x : Pbn) (z : Zone) → v.phase ≡ phase.AbortClaim → v.claim ≡ Some x → IsClaimedIn old.counts x → (change : Changes old.counts z x (unclaimed (slab_of old.counts x) x))
      → new ≡ with_counts z old → made ≡ Drops v.request x (served_ticket change.serves) ∷ [] → posts ≡ (v.home, item.Request (unclaiming phase.Abort v)) ∷ []
      → PhysicalServes sizes old v new made posts
  drops_none : v.phase ≡ phase.AbortClaim → v.claim ≡ None
      → new ≡ old → made ≡ [] → posts ≡ (v.home, item.Request (turned phase.Abort v)) ∷ []
      → PhysicalServes sizes old v new made posts
  spends : v.phase ≡ phase.AbortEnteredClaim
      → new ≡ old → made ≡ [] → posts ≡ (v.home, item.Request (unclaiming phase.AbortEntered v)) ∷ []
      → PhysicalServes sizes old v new made posts

-- the device's zone is told of the first decrement that found 0
abbrev pub tells : List Remapping → Pbn → List Post
tells [] x = (id.Device, item.Damage (Stray x 0)) ∷ []
tells (e ∷ strays) x = []

-- A decrement is taken, or its block's counter is 0; its report goes to the logical zone of its address.
pub data PhysicalTakes (sizes : Sizes) (old : PhysicalZone) (e : Remapping) (new : PhysicalZone) (made : Trace) (posts : List Post) : Type 0 where
  removes : (x : Pbn) (slab : Counts) (z : Zone) → e.old ≡ At x → IsOfZone old.counts x → Fits half.Decrement (slab_of old.counts x) slab x → (change : Changes old.counts z x slab)
      → new ≡ with_counts z old → made ≡ Removes e (served_ticket change.serves) ∷ [] → posts ≡ (home_of sizes e, item.Report e) ∷ []
      → PhysicalTakes sizes old e new made posts
  is_stray : (x : Pbn) → e.old ≡ At x → IsOfZone old.counts x → IsStray half.Decrement (slab_of old.counts x) x
      → new ≡ record old { strays = e ∷ old.strays } → made ≡ Strays e ∷ [] → posts ≡ (home_of sizes e, item.Report e) ∷ tells old.strays x
      → PhysicalTakes sizes old e new made posts
