-- The counter of a block and the claims on it, over all slabs of a zone: a slab that hasn't the block adds nothing.
use Rattle.std.proofs.Common.{inl, inr}
use Rattle.std.specs.Prelude.{ℕ, Bool, not, ◌&&◌, if◌then◌else◌, nat_lt, ◌+◌, List, Option, None, Some}
use Rattle.blk_base.specs.Regions.{slab_start_of}
use Rattle.blk_base.specs.declared.place.Pbn.{Pbn}
use Rattle.blk_base.specs.declared.point.Half.TheVariants.{Increment, Decrement}
use Rattle.plain_laws.specs.Sums.{total}
use Rattle.slab_counts.specs.Operations.{one_of}
use Rattle.slab_counts.specs.Counts.{Counts, counter_of, claims_of}
use Rattle.slab_tickets.specs.Tickets.{Desk}
use Rattle.slab_tickets.specs.declared.forms.Waiting.{Waiting}
use Rattle.slab_tickets.specs.declared.forms.Withdrawn.TheVariants.{Block}
use Rattle.zone_counts.specs.Operations.{Operation, Asks', Withdraws', Shares', Extends, Drops, Applies, Does}
use Rattle.zone_counts.specs.Zone.{Zone, Serves}
use Rattle.zone_counts.specs.declared.forms.Asked.TheVariants as asked

-- whether the slab has the block
abbrev pub has_block : Pbn → Counts → Bool
has_block x c = not (nat_lt x.0 (slab_start_of c.geometry c.slab)) && nat_lt x.0 (slab_start_of c.geometry c.slab + c.geometry.slab_blocks)

-- its counter, and the claims on it, in a slab and in these slabs together
abbrev pub counter_at : Pbn → Counts → ℕ
counter_at x c = if has_block x c then counter_of c x else 0

abbrev pub claims_at : Pbn → Counts → ℕ
claims_at x c = if has_block x c then claims_of c x else 0

abbrev pub counter_in : Pbn → List Counts → ℕ
counter_in x slabs = total (counter_at x) slabs

abbrev pub claims_in : Pbn → List Counts → ℕ
claims_in x slabs = total (claims_at x) slabs

-- 1 where this is the block
abbrev pub is_at : Pbn → Option Pbn → ℕ
is_at x None = 0
is_at x (Some y) = one_of y x

-- how many of the tickets that are out have the block
abbrev pub waits_with : Pbn → Waiting → ℕ
waits_with x waiting = is_at x waiting.block

abbrev pub out_with : Pbn → Desk → ℕ
out_with x desk = total (waits_with x) desk.out

-- how many claims on the block a call made, and dropped; how many mappings of it were counted, and taken off; and how many
-- tickets with it were withdrawn
abbrev pub makes : Operation → Pbn → ℕ
makes (Asks' writer (asked.Block at)) x = one_of at x
makes (Shares' at) x = one_of at x
makes (Extends at) x = one_of at x
makes other x = 0

abbrev pub drops : Operation → Pbn → ℕ
drops (Drops at) x = one_of at x
drops other x = 0

abbrev pub maps : Operation → Pbn → ℕ
maps (Applies Increment at slab) x = one_of at x
maps other x = 0

abbrev pub unmaps : Operation → Pbn → ℕ
unmaps (Applies Decrement at slab) x = one_of at x
unmaps other x = 0

abbrev pub withdraws : Operation → Pbn → ℕ
withdraws (Withdraws' ticket (Block at)) x = one_of at x
withdraws other x = 0

-- the block that went to a ticket
abbrev pub served_block : {slabs slabs' : List Counts} {desk desk' : Desk} → Serves slabs desk slabs' desk' → Option Pbn
served_block (inl same) = None
served_block (inr serves) = Some serves.block

-- the number of the ticket to which it went
abbrev pub served_ticket : {slabs slabs' : List Counts} {desk desk' : Desk} → Serves slabs desk slabs' desk' → Option ℕ
served_ticket (inl same) = None
served_ticket (inr serves) = Some serves.gives.waiting.number

abbrev pub served_in : (call : Operation) (old new : Zone) → Does call old new → Option Pbn
served_in (Drops at) old new did = served_block did.1.serves
served_in (Applies half at slab) old new did = served_block did.2.serves
served_in other old new did = None
