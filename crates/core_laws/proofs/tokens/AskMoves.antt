-- How asking a physical zone for a block, and withdrawing a ticket, moves the claims and tickets of the request and of the zone.
use Rattle.std.proofs.Common.{ℕ, ◌≡◌, ◌+◌, Bool, true, false, ◌&&◌, if◌then◌else◌, nat_eq, None, Some, List, [], ◌∷◌, ◌++◌, ap, refl, sym, ◌∙◌, arith}
use Rattle.core_laws.proofs.Common.{Pbn, Vio, bit, total, total-append}
use Rattle.core_model.specs.PhysicalRules.{BeginsNext}
use Rattle.core_model.specs.Tokens.{out_in, ticket_weight}
use Rattle.slab_counts.specs.Operations.{one_of}
use Rattle.slab_counts.specs.Counts.{unclaimed}
use Rattle.slab_counts.specs.declared.tickets.Receipt.{Receipt}
use Rattle.slab_counts.specs.declared.tickets.Ticket.{Ticket}
use Rattle.slab_tickets.specs.Tickets.{Desk}
use Rattle.slab_tickets.specs.declared.forms.Withdrawn.TheVariants.{Block, Nothing}
use Rattle.slab_tickets.specs.declared.forms.Withdrawn.{Withdrawn}
use Rattle.zone_counts.specs.ZoneAnswers.{GivesBlock, GivesTicket, WithdrawsFrom}
use Rattle.zone_counts.specs.ByBlock.{claims_in, counter_in, is_at, out_with}
use Rattle.zone_counts.specs.Zone.{Zone, Changes, IsClaimedIn, IsZone, slab_of}
use Rattle.zone_counts.proofs.BlockLaws.{issues_out, withdraws_out, worth_block, worth_none}
use Rattle.zone_counts.proofs.TicketLaws.{begun_counted, begun_out, begun_slabs, issued_counted, issued_slabs, withdrawn_counted, withdrawn_slabs}
use Rattle.core_laws.proofs.tokens.Moves.{AsksIn, dropped_moves, dropped_passes, given_moves, no_block, passes}

-- one ticket more that is out, held by the request
weighed : (b c : Bool) (n m : ℕ) → m ≡ n + bit c → bit (b && c) + (if b then n else 0) ≡ (if b then m else 0)
weighed true c n m more = omega (arith, more)
weighed false c n m more = refl

module _ (p : Zone) (v : Vio) where
  -- what a step begins with
  module _ (b : Zone) (begins : BeginsNext p b) where
    begun_zone : b.zone ≡ p.zone
    begun_zone = ap (λ (z : Zone). z.zone) begins.1.after

    counter_same : (y : Pbn) → counter_in y b.slabs ≡ counter_in y p.slabs
    counter_same y = ap (counter_in y) (begun_slabs p b _ begins)

    claims_same : (y : Pbn) → claims_in y b.slabs ≡ claims_in y p.slabs
    claims_same y = ap (claims_in y) (begun_slabs p b _ begins)

    out_same : (y : Pbn) → out_with y b.desk ≡ out_with y p.desk
    out_same y = ap (λ (out : List _). total (λ w. is_at y w.block) out) (begun_out p b _ begins)

    -- No block is free, and it is given a ticket.
    module _ (z : Zone) (k : Ticket) (gives : GivesTicket b z v.request k) (here : k.zone ≡ p.zone) where
      given_zone : z.zone ≡ p.zone
      given_zone = ap (λ (w : Zone). w.zone) gives.same ∙ begun_zone

      pub asks_ticket : AsksIn p z v v.claim (v.tickets ++ k ∷ [])
      asks_ticket = record {
        more = no_block;
        less = no_block;
        uses = λ y. omega (arith, ap (counter_in y) (issued_slabs b z v.request k gives), ap (claims_in y) (issued_slabs b z v.request k gives), counter_same y, claims_same y);
        held = λ y. omega (arith, issues_out b.desk z.desk v.request k y gives.issues, out_same y);
        claims = λ y. omega (arith, issues_out b.desk z.desk v.request k y gives.issues, out_same y, ap (claims_in y) (issued_slabs b z v.request k gives), claims_same y);
        zone = given_zone;
        numbers = λ zone test.
            let more = issued_counted test b z v.request k gives in
            let was = begun_counted test p b _ begins in
            let one = weighed (nat_eq p.zone zone) (test k.number) (out_in test p) (out_in test z) (omega (arith, more, was)) in
            let its : ticket_weight zone test k ≡ bit (nat_eq p.zone zone && test k.number) = ap (λ (n : ℕ). bit (nat_eq n zone && test k.number)) here in
            omega (arith, total-append (ticket_weight zone test) v.tickets (k ∷ []), its, one);
      }

    -- A ticket is withdrawn.
    module _ (z : Zone) (k : Ticket) (others : List Ticket) (worth : Withdrawn) (from : WithdrawsFrom b z k worth) (has : v.tickets ≡ k ∷ others) (here : k.zone ≡ p.zone) where
      from_zone : z.zone ≡ p.zone
      from_zone = ap (λ (w : Zone). w.zone) from.same ∙ begun_zone

      counter_from : (y : Pbn) → counter_in y z.slabs ≡ counter_in y p.slabs
      counter_from y = ap (counter_in y) (withdrawn_slabs b z k worth from) ∙ counter_same y

      claims_from : (y : Pbn) → claims_in y z.slabs ≡ claims_in y p.slabs
      claims_from y = ap (claims_in y) (withdrawn_slabs b z k worth from) ∙ claims_same y

      out_from : (y : Pbn) → out_with y z.desk + is_at y from.withdraws.waiting.block ≡ out_with y p.desk
      out_from y = omega (arith, withdraws_out b.desk z.desk k worth y from.withdraws, out_same y)

      numbers_from : (zone : ℕ) (test : ℕ → Bool) → total (ticket_weight zone test) others + (if nat_eq p.zone zone then out_in test p else 0) ≡ total (ticket_weight zone test) v.tickets + (if nat_eq p.zone zone then out_in test z else 0)
      numbers_from zone test =
          let less = withdrawn_counted test b z k worth from in
          let was = begun_counted test p b _ begins in
          let one = weighed (nat_eq p.zone zone) (test k.number) (out_in test z) (out_in test p) (omega (arith, less, was)) in
          let its : ticket_weight zone test k ≡ bit (nat_eq p.zone zone && test k.number) = ap (λ (n : ℕ). bit (nat_eq n zone && test k.number)) here in
          let all : total (ticket_weight zone test) v.tickets ≡ ticket_weight zone test k + total (ticket_weight zone test) others = ap (total (ticket_weight zone test)) has in
          omega (arith, all, its, one)

  -- A free block is claimed.
  pub asks_block : (z : Zone) (x : Pbn) → IsZone p → GivesBlock p z x → v.claim ≡ None → AsksIn p z v (Some x) v.tickets
  asks_block z x is gives none =
      let moves = given_moves p z x is gives in
      let desk : z.desk ≡ p.desk = ap (λ (w : Zone). w.desk) gives.same in
      record {
        more = one_of x;
        less = no_block;
        uses = moves.uses;
        held = λ y. omega (arith, ap (out_with y) desk, ap (is_at y) none);
        claims = λ y. omega (arith, ap (out_with y) desk, ap (is_at y) none, moves.claims y);
        zone = ap (λ (w : Zone). w.zone) gives.same;
        numbers = λ zone test. ap (λ (d : Desk). total (ticket_weight zone test) v.tickets + (if nat_eq p.zone zone then total (λ w. bit (test w.number)) d.out else 0)) (sym desk);
      }

  -- The block that went to a ticket is the request's own; or none went to it.
  pub takes_block : (b z : Zone) (k : Ticket) (others : List Ticket) (x : Pbn) → BeginsNext p b → WithdrawsFrom b z k (Block x) → v.tickets ≡ k ∷ others → k.zone ≡ p.zone → v.claim ≡ None → AsksIn p z v (Some x) others
  takes_block b z k others x begins from has here none =
      let got : (y : Pbn) → is_at y from.withdraws.waiting.block ≡ one_of x y = λ y. ap (is_at y) (worth_block b.desk z.desk k x from.withdraws) in
      record {
        more = no_block;
        less = no_block;
        uses = λ y. omega (arith, counter_from b begins z k others (Block x) from has here y, claims_from b begins z k others (Block x) from has here y);
        held = λ y. omega (arith, out_from b begins z k others (Block x) from has here y, got y, ap (is_at y) none);
        claims = λ y. omega (arith, out_from b begins z k others (Block x) from has here y, got y, ap (is_at y) none, claims_from b begins z k others (Block x) from has here y);
        zone = from_zone b begins z k others (Block x) from has here;
        numbers = numbers_from b begins z k others (Block x) from has here;
      }

  pub has_none : (b z : Zone) (k : Ticket) (others : List Ticket) (r : Receipt) → BeginsNext p b → WithdrawsFrom b z k (Nothing r) → v.tickets ≡ k ∷ others → k.zone ≡ p.zone → AsksIn p z v v.claim others
  has_none b z k others r begins from has here =
      let got : (y : Pbn) → is_at y from.withdraws.waiting.block ≡ 0 = λ y. ap (is_at y) (worth_none b.desk z.desk k r from.withdraws) in
      record {
        more = no_block;
        less = no_block;
        uses = λ y. omega (arith, counter_from b begins z k others (Nothing r) from has here y, claims_from b begins z k others (Nothing r) from has here y);
        held = λ y. omega (arith, out_from b begins z k others (Nothing r) from has here y, got y);
        claims = λ y. omega (arith, out_from b begins z k others (Nothing r) from has here y, got y, claims_from b begins z k others (Nothing r) from has here y);
        zone = from_zone b begins z k others (Nothing r) from has here;
        numbers = numbers_from b begins z k others (Nothing r) from has here;
      }

  -- A block that it doesn't need is dropped at once, and may go to another ticket.
  pub drops_block : (b m z : Zone) (k : Ticket) (others : List Ticket) (x : Pbn) → BeginsNext p b → WithdrawsFrom b m k (Block x) → IsZone m → IsClaimedIn m x → Changes m z x (unclaimed (slab_of m x) x)
      → v.tickets ≡ k ∷ others → k.zone ≡ p.zone → AsksIn p z v v.claim others
  drops_block b m z k others x begins from is claim change has here =
      let got : (y : Pbn) → is_at y from.withdraws.waiting.block ≡ one_of x y = λ y. ap (is_at y) (worth_block b.desk m.desk k x from.withdraws) in
      let moves = dropped_moves m z x is claim change in
      let passed = dropped_passes m z x is claim change in
      record {
        more = passes change.serves;
        less = one_of x;
        uses = λ y. omega (arith, counter_from b begins m k others (Block x) from has here y, claims_from b begins m k others (Block x) from has here y, moves.uses y);
        held = λ y. omega (arith, out_from b begins m k others (Block x) from has here y, got y, passed.out y);
        claims = λ y. omega (arith, out_from b begins m k others (Block x) from has here y, got y, passed.out y, claims_from b begins m k others (Block x) from has here y, moves.claims y);
        zone = ap (λ (w : Zone). w.zone) change.same ∙ from_zone b begins m k others (Block x) from has here;
        numbers = λ zone test.
            numbers_from b begins m k others (Block x) from has here zone test
            ∙ ap (λ (n : ℕ). total (ticket_weight zone test) v.tickets + (if nat_eq p.zone zone then n else 0)) (sym (passed.numbers test));
      }
