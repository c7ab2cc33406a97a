-- What a zone answers to those who ask it for a block.
use Rattle.std.specs.Prelude.{◌≡◌, ◌⊎◌}
use Rattle.blk_base.specs.declared.place.Pbn.{Pbn}
use Rattle.blk_base.specs.declared.request.Writer.{Writer}
use Rattle.slab_counts.specs.Counts.{Shares, IsRefused}
use Rattle.slab_counts.specs.declared.refusals.Refusal.{Refusal}
use Rattle.slab_counts.specs.declared.refusals.Refusal.TheVariants.{NotData}
use Rattle.slab_counts.specs.declared.tickets.Ticket.{Ticket}
use Rattle.slab_tickets.specs.Tickets.{Issues, Withdraws}
use Rattle.slab_tickets.specs.declared.forms.Withdrawn.{Withdrawn}
use Rattle.zone_counts.specs.Zone.{Zone, IsOfZone, ClaimsLowest, NoneFree, slab_of, with_slab}
use Rattle.zone_counts.specs.declared.forms.Asked.{Asked}
use Rattle.zone_counts.specs.declared.forms.Asked.TheVariants as asked
use Rattle.slab_counts.specs.Counts.{Counts}

-- the lowest free block of the zone, which is claimed now
pub record GivesBlock (old new : Zone) (block : Pbn) : Type 0 where
  pub claims : ClaimsLowest old.slabs new.slabs block
  pub same : new ≡ record old { slabs = new.slabs }

-- a ticket, where no block is free
pub record GivesTicket (old new : Zone) (writer : Writer) (ticket : Ticket) : Type 0 where
  pub none_free : NoneFree old.slabs
  pub issues : Issues old.desk new.desk writer ticket
  pub same : new ≡ record old { desk = new.desk }

abbrev pub Asks : Zone → Zone → Writer → Asked → Type 0
Asks old new writer (asked.Block block) = GivesBlock old new block
Asks old new writer (asked.Ticket ticket) = GivesTicket old new writer ticket

-- the ticket is out no longer
pub record WithdrawsFrom (old new : Zone) (ticket : Ticket) (result : Withdrawn) : Type 0 where
  pub withdraws : Withdraws old.desk new.desk ticket result
  pub same : new ≡ record old { desk = new.desk }

-- the block is one of the zone, and is shared in its slab
pub record SharesIn (old new : Zone) (at : Pbn) : Type 0 where
  pub own : IsOfZone old at
  pub slab : Counts
  pub shares : Shares (slab_of old at) slab at
  pub after : new ≡ with_slab old at slab

-- why a block can't be shared here: it isn't of the zone, or its slab refuses it
abbrev pub IsRefusedIn : Refusal → Zone → Pbn → Type 0
IsRefusedIn refusal z at = ((refusal ≡ NotData) × (¬ IsOfZone z at)) ⊎ (IsOfZone z at × IsRefused refusal (slab_of z at) at)
