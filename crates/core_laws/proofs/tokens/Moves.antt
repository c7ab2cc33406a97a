-- How a call of the physical zone moves the uses of each block, and the claims on it.
use Rattle.std.proofs.Common.{ℕ, ◌≡◌, ◌+◌, Bool, if◌then◌else◌, nat_eq, Option, None, Some, List, [], ◌∷◌, ap, refl, arith}
use Rattle.core_laws.proofs.Common.{Pbn, Vio, total}
use Rattle.blk_base.specs.declared.place.PageId.{PageId}
use Rattle.blk_base.specs.declared.point.Half.TheVariants.{Increment, Decrement}
use Rattle.core_model.specs.PhysicalRules.{spent_for}
use Rattle.core_model.specs.Tokens.{out_in, ticket_weight}
use Rattle.slab_counts.specs.declared.tickets.Ticket.{Ticket}
use Rattle.zone_counts.proofs.TicketLaws.{changed_counted}
use Rattle.slab_counts.specs.Operations.{one_of}
use Rattle.slab_counts.specs.Counts.{Counts, Takes, unclaimed, with_page}
use Rattle.slab_tickets.specs.Tickets.{Desk}
use Rattle.zone_counts.specs.ZoneAnswers.{GivesBlock}
use Rattle.zone_counts.specs.ByBlock.{claims_in, counter_in, is_at, out_with, served_block}
use Rattle.zone_counts.specs.Operations.{Applies, Drops, SpendsPage}
use Rattle.zone_counts.specs.Zone.{Zone, Changes, IsClaimedIn, IsOfZone, IsZone, Serves, slab_of, with_slab}
use Rattle.zone_counts.proofs.BlockLaws.{added_none, claimed, moved}
use Rattle.zone_counts.proofs.OperationLaws.{calls_keep}

-- so many uses of a block come, and go; and so many claims are spent, which are no more
pub record Moves (old new : Zone) (more less spent : Pbn → ℕ) : Type 0 where
  pub uses : (y : Pbn) → counter_in y new.slabs + claims_in y new.slabs + less y ≡ counter_in y old.slabs + claims_in y old.slabs + more y
  pub claims : (y : Pbn) → claims_in y new.slabs + spent y ≡ claims_in y old.slabs + more y

abbrev pub no_block : Pbn → ℕ
no_block y = 0

pub given_moves : (old new : Zone) (x : Pbn) → IsZone old → GivesBlock old new x → Moves old new (one_of x) no_block no_block
given_moves old new x is gives =
    let c = claimed old.geometry old.zone old.zones old.slabs new.slabs x is.slabs gives.claims in
    record { uses = λ y. omega (arith, c.counters y, c.claims y); claims = λ y. omega (arith, c.claims y) }

-- what a change passes to a ticket
abbrev pub passes : {slabs slabs' : List Counts} {desk desk' : Desk} → Serves slabs desk slabs' desk' → Pbn → ℕ
passes serves y = is_at y (served_block serves)

pub dropped_moves : (old new : Zone) (x : Pbn) → IsZone old → IsClaimedIn old x → (change : Changes old new x (unclaimed (slab_of old x) x)) → Moves old new (passes change.serves) (one_of x) (one_of x)
dropped_moves old new x is claim change =
    let m = moved (Drops x) old new is (claim, change) in
    record { uses = λ y. omega (arith, m.counters y, m.claims y); claims = λ y. omega (arith, m.claims y) }

pub removed_moves : (old new : Zone) (x : Pbn) (slab : Counts) → IsZone old → IsOfZone old x → Takes Decrement (slab_of old x) slab x → (change : Changes old new x slab) → Moves old new (passes change.serves) (one_of x) no_block
removed_moves old new x slab is own takes change =
    let m = moved (Applies Decrement x slab) old new is (own, takes, change) in
    record { uses = λ y. omega (arith, m.counters y, m.claims y); claims = λ y. omega (arith, m.claims y) }

-- and so many of its tickets get a block, and are withdrawn with one
pub record Passes (old new : Zone) (given taken : Pbn → ℕ) : Type 0 where
  pub out : (y : Pbn) → out_with y new.desk + taken y ≡ out_with y old.desk + given y
  pub numbers : (test : ℕ → Bool) → out_in test new ≡ out_in test old
  pub zone : new.zone ≡ old.zone

pub dropped_passes : (old new : Zone) (x : Pbn) → IsZone old → IsClaimedIn old x → (change : Changes old new x (unclaimed (slab_of old x) x)) → Passes old new (passes change.serves) no_block
dropped_passes old new x is claim change =
    let m = moved (Drops x) old new is (claim, change) in
    record { out = λ y. omega (arith, m.tickets y); numbers = λ test. changed_counted test old new x (unclaimed (slab_of old x) x) change; zone = ap (λ (z : Zone). z.zone) change.same }

pub removed_passes : (old new : Zone) (x : Pbn) (slab : Counts) → IsZone old → IsOfZone old x → Takes Decrement (slab_of old x) slab x → (change : Changes old new x slab) → Passes old new (passes change.serves) no_block
removed_passes old new x slab is own takes change =
    let m = moved (Applies Decrement x slab) old new is (own, takes, change) in
    record { out = λ y. omega (arith, m.tickets y); numbers = λ test. changed_counted test old new x slab change; zone = ap (λ (z : Zone). z.zone) change.same }

added_passes : (old new : Zone) (x : Pbn) (slab : Counts) → IsZone old → IsOfZone old x → Takes Increment (slab_of old x) slab x → Changes old new x slab → Passes old new no_block no_block
added_passes old new x slab is own takes change =
    let m = moved (Applies Increment x slab) old new is (own, takes, change) in
    let served = (added_none old new x slab is own takes change).0 in
    let to : (y : Pbn) → is_at y (served_block change.serves) ≡ 0 = λ y. ap (is_at y) served in
    record { out = λ y. omega (arith, m.tickets y, to y); numbers = λ test. changed_counted test old new x slab change; zone = ap (λ (z : Zone). z.zone) change.same }

pub counted_passes : (page : Option PageId) (old new : Zone) (x : Pbn) (slab : Counts) → IsZone old → IsClaimedIn old x → Takes Increment (slab_of (spent_for page old x) x) slab x → Changes (spent_for page old x) new x slab
    → Passes old new no_block no_block
counted_passes None old new x slab is claim takes change = added_passes old new x slab is claim.own takes change
counted_passes (Some page) old new x slab is claim takes change =
    let between = with_slab old x (with_page (slab_of old x) x) in
    let own : IsOfZone between x = record { data_block = claim.own.data_block; own = claim.own.own } in
    let n = added_passes between new x slab (calls_keep old between (SpendsPage x ∷ []) is (old, refl, (claim, refl))) own takes change in
    record { out = λ y. n.out y; numbers = λ test. n.numbers test; zone = n.zone }

-- A request that asks, or withdraws a ticket: how its claim and its tickets, and those of the zone, change together.
pub record AsksIn (p z : Zone) (v : Vio) (claim : Option Pbn) (tickets : List Ticket) : Type 0 where
  pub more : Pbn → ℕ
  pub less : Pbn → ℕ
  pub uses : (y : Pbn) → counter_in y z.slabs + claims_in y z.slabs + less y ≡ counter_in y p.slabs + claims_in y p.slabs + more y
  pub held : (y : Pbn) → is_at y claim + out_with y z.desk + less y ≡ is_at y v.claim + out_with y p.desk + more y
  pub claims : (y : Pbn) → is_at y claim + out_with y z.desk + claims_in y p.slabs ≡ is_at y v.claim + out_with y p.desk + claims_in y z.slabs
  pub zone : z.zone ≡ p.zone
  pub numbers : (zone : ℕ) (test : ℕ → Bool) → total (ticket_weight zone test) tickets + (if nat_eq p.zone zone then out_in test p else 0) ≡ total (ticket_weight zone test) v.tickets + (if nat_eq p.zone zone then out_in test z else 0)

-- an increment, by which a claim becomes a mapping
added_moves : (old new : Zone) (x : Pbn) (slab : Counts) → IsZone old → IsOfZone old x → Takes Increment (slab_of old x) slab x → Changes old new x slab → Moves old new no_block no_block (one_of x)
added_moves old new x slab is own takes change =
    let m = moved (Applies Increment x slab) old new is (own, takes, change) in
    let served = (added_none old new x slab is own takes change).0 in
    let to : (y : Pbn) → is_at y (served_block change.serves) ≡ 0 = λ y. ap (is_at y) served in
    record { uses = λ y. omega (arith, m.counters y, m.claims y, to y); claims = λ y. omega (arith, m.claims y, to y) }

-- also where the block becomes that of a page before
pub counted_moves : (page : Option PageId) (old new : Zone) (x : Pbn) (slab : Counts) → IsZone old → IsClaimedIn old x → Takes Increment (slab_of (spent_for page old x) x) slab x → Changes (spent_for page old x) new x slab
    → Moves old new no_block no_block (one_of x)
counted_moves None old new x slab is claim takes change = added_moves old new x slab is claim.own takes change
counted_moves (Some page) old new x slab is claim takes change =
    let between = with_slab old x (with_page (slab_of old x) x) in
    let m = moved (SpendsPage x) old between is (claim, refl) in
    let own : IsOfZone between x = record { data_block = claim.own.data_block; own = claim.own.own } in
    let n = added_moves between new x slab (calls_keep old between (SpendsPage x ∷ []) is (old, refl, (claim, refl))) own takes change in
    record { uses = λ y. omega (arith, m.counters y, m.claims y, n.uses y); claims = λ y. omega (arith, m.claims y, n.claims y) }
