-- What is known of each ticket that is out in a zone stays over each call, where it doesn't depend on the block that went to it.
use Rattle.std.proofs.Common.{◌≡◌, ◌==◌, not, true, Option, None, Some, All, sym, subst, ap, inl, inr}
use Rattle.std.proofs.lemmas.Bool.{eqb-true}
use Rattle.std.proofs.lemmas.List.Elements.{All-push, All-set}
use Rattle.std.proofs.lemmas.List.Quantifiers.{position-Some}
use Rattle.blk_base.specs.declared.request.Writer.{Writer}
use Rattle.core_laws.proofs.Common.{Pbn}
use Rattle.plain_laws.proofs.FirstLaws.{All-but_first, remove-position}
use Rattle.slab_counts.specs.Counts.{Counts}
use Rattle.slab_counts.specs.declared.tickets.Receipt.{Receipt}
use Rattle.slab_counts.specs.declared.tickets.Ticket.{Ticket}
use Rattle.slab_tickets.specs.Tickets.{Desk, is_served, worth_of}
use Rattle.slab_tickets.specs.declared.forms.Waiting.{Waiting}
use Rattle.slab_tickets.specs.declared.forms.Withdrawn.TheVariants.{Nothing}
use Rattle.slab_tickets.specs.declared.forms.Withdrawn.{Withdrawn}
use Rattle.zone_counts.specs.ZoneAnswers.{GivesTicket, WithdrawsFrom}
use Rattle.zone_counts.specs.Zone.{Changes, Zone}

-- a receipt tells the step in which its ticket asked
receipt_asked : (block : Option Pbn) (given receipt : Receipt) → Nothing receipt ≡ worth_of block given → receipt.asked ≡ given.asked
receipt_asked None given receipt is = let same : receipt ≡ given = cc in ap (λ (r : Receipt). r.asked) same
receipt_asked (Some b) given receipt is = absurd cc

module _ (P : Waiting → Type 0) where
  -- a ticket is given
  pub issued_all : (old new : Zone) (w : Writer) (k : Ticket) → GivesTicket old new w k → P (record { number = k.number; asked = k.asked; writer = w; block = None }) → All P old.desk.out → All P new.desk.out
  issued_all old new w k did one all = subst (λ (d : Desk). All P d.out) (sym did.issues.after) (All-push P old.desk.out _ all one)

  -- one is withdrawn ..
  pub withdrawn_all : (old new : Zone) (k : Ticket) (worth : Withdrawn) → WithdrawsFrom old new k worth → All P old.desk.out → All P new.desk.out
  withdrawn_all old new k worth did all =
      let is = did.withdraws in
      subst (λ (d : Desk). All P d.out) (sym is.after)
      (subst (All P) (sym (remove-position (λ (w : Waiting). w.number == k.number) old.desk.out is.place is.here)) (All-but_first (λ (w : Waiting). w.number == k.number) P old.desk.out all))

  -- .. of which it was known, and its receipt tells the step in which it asked
  pub withdrawn_one : (old new : Zone) (k : Ticket) (r : Receipt) → WithdrawsFrom old new k (Nothing r) → All P old.desk.out → (waiting : Waiting) × P waiting × (waiting.number ≡ k.number) × (r.asked ≡ waiting.asked)
  withdrawn_one old new k r did all =
      let is = did.withdraws in
      let place = position-Some (λ (w : Waiting). w.number == k.number) old.desk.out is.place is.waiting is.here in (
        is.waiting,
        subst P is.is (all is.place is.waiting place.0),
        eqb-true _ _ (subst (λ (w : Waiting). (w.number == k.number) ≡ true) is.is place.1),
        receipt_asked is.waiting.block _ r is.worth_is,
      )

  -- a block goes to one, or to none
  pub changed_all : ((waiting : Waiting) (b : Option Pbn) → P waiting → P (record waiting { block = b })) → (old new : Zone) (x : Pbn) (slab : Counts) → Changes old new x slab → All P old.desk.out → All P new.desk.out
  changed_all any old new x slab change all = elim change.serves [
    | inl same ↦ subst (λ (d : Desk). All P d.out) (sym same.2) all
    | inr serves ↦
        let gives = serves.gives in
        let place = position-Some (λ (w : Waiting). not (is_served w)) old.desk.out gives.place gives.waiting gives.oldest in
        let had = subst P gives.is (all gives.place gives.waiting place.0) in
        subst (λ (d : Desk). All P d.out) (sym gives.after) (All-set P old.desk.out gives.place _ (any gives.waiting (Some serves.block) had) all)
  ]
