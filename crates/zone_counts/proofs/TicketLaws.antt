-- The tickets of a zone by their numbers, and how many are out, behind each of its calls.
use Rattle.std.specs.Prelude.{ℕ, ◌≡◌, ◌+◌, ◌<◌, ◌≤◌, ◌==◌, if◌then◌else◌, Bool, true, false, not, List, [], ◌∷◌, Option, None, Some}
use Rattle.std.proofs.Common.{refl, ap, sym, ◌∙◌, subst, arith, inl, inr}
use Rattle.std.proofs.lemmas.Bool.{eqb-true}
use Rattle.std.proofs.lemmas.List.Quantifiers.{position-Some}
use Rattle.std.proofs.lemmas.Option.{same_Some}
use Rattle.blk_base.specs.declared.place.Pbn.{Pbn}
use Rattle.blk_base.specs.declared.point.Half.TheVariants.{Decrement}
use Rattle.blk_base.specs.declared.request.Writer.{Writer}
use Rattle.plain_laws.specs.Sums.{bit, total}
use Rattle.plain_laws.proofs.ListLaws.{total-append, total-set, summand}
use Rattle.slab_counts.proofs.OperationLaws.{one_same}
use Rattle.slab_counts.specs.Counts.{Counts, Takes, unclaimed}
use Rattle.slab_counts.specs.declared.tickets.Receipt.{Receipt}
use Rattle.slab_counts.specs.declared.tickets.Ticket.{Ticket}
use Rattle.slab_tickets.proofs.NumberLaws.{get_read, gives_oldest, gives_tickets, issues_tickets, out_read, withdraws_tickets}
use Rattle.slab_tickets.proofs.ReceiptLaws.{behind_receipt, found_or, issued_behind as desk_issued, call_keeps as desk_keeps}
use Rattle.slab_tickets.specs.Operations as tickets
use Rattle.slab_tickets.specs.Numbers.{AreNumbered, IsBehind, ticket_of}
use Rattle.slab_tickets.specs.Tickets.{Desk, IsBelow, IsOutAt, begun, is_served}
use Rattle.slab_tickets.specs.declared.forms.Waiting.{Waiting}
use Rattle.slab_tickets.specs.declared.forms.Withdrawn.TheVariants.{Block, Nothing}
use Rattle.slab_tickets.specs.declared.forms.Withdrawn.{Withdrawn}
use Rattle.std.specs.List.{position}
use Rattle.zone_counts.proofs.BlockLaws.{dropped_is, moved, none_free, removed_is, total-remove, worth_block, worth_none}
use Rattle.zone_counts.proofs.OperationLaws.{as_zone, call_keeps, quiet}
use Rattle.zone_counts.proofs.FitLaws.{none_is_free}
use Rattle.zone_counts.proofs.ZoneLaws.{zone_withdrawn}
use Rattle.zone_counts.specs.ZoneAnswers.{GivesTicket, WithdrawsFrom}
use Rattle.zone_counts.specs.ByBlock.{claims_in, counter_in, is_at, served_block, served_ticket}
use Rattle.zone_counts.specs.Operations.{Applies, Drops}
use Rattle.zone_counts.specs.Zone.{BeginsStep, Changes, IsClaimedIn, IsOfZone, IsZone, Serves, Zone, slab_of}

-- a step that begins changes no ticket, no number and no slab
begun_desk : (free : Bool) (step : ℕ) (desk : Desk) → ((begun free step desk).out ≡ desk.out) × ((begun free step desk).issued ≡ desk.issued)
begun_desk true step desk = (refl, refl)
begun_desk false step desk = (refl, refl)

pub begun_out : (old new : Zone) (step : ℕ) → BeginsStep old new step → new.desk.out ≡ old.desk.out
begun_out old new step (free, did) = ap (λ (z : Zone). z.desk.out) did.after ∙ (begun_desk free step old.desk).0

pub begun_next : (old new : Zone) (step : ℕ) → BeginsStep old new step → new.desk.issued ≡ old.desk.issued
begun_next old new step (free, did) = ap (λ (z : Zone). z.desk.issued) did.after ∙ (begun_desk free step old.desk).1

pub begun_slabs : (old new : Zone) (step : ℕ) → BeginsStep old new step → new.slabs ≡ old.slabs
begun_slabs old new step (free, did) = ap (λ (z : Zone). z.slabs) did.after

-- an issued ticket has the next number, and no block
pub issued_tickets : (old new : Zone) (writer : Writer) (ticket : Ticket) (k : ℕ) → AreNumbered old.desk → GivesTicket old new writer ticket
    → ticket_of new.desk.out k ≡ (if ticket.number == k then Some None else ticket_of old.desk.out k)
issued_tickets old new writer ticket k numbered did = (issues_tickets old.desk new.desk writer ticket did.issues numbered).0 k

pub issued_next : (old new : Zone) (writer : Writer) (ticket : Ticket) → GivesTicket old new writer ticket → new.desk.issued ≡ old.desk.issued + 1
issued_next old new writer ticket did = ap (λ (d : Desk). d.issued) did.issues.after

pub issued_number : (old new : Zone) (writer : Writer) (ticket : Ticket) → GivesTicket old new writer ticket → ticket.number ≡ old.desk.issued
issued_number old new writer ticket did = did.issues.number

pub issued_zone : (old new : Zone) (writer : Writer) (ticket : Ticket) → GivesTicket old new writer ticket → ticket.zone ≡ old.desk.zone
issued_zone old new writer ticket did = did.issues.zone

pub issued_slabs : (old new : Zone) (writer : Writer) (ticket : Ticket) → GivesTicket old new writer ticket → new.slabs ≡ old.slabs
issued_slabs old new writer ticket did = ap (λ (z : Zone). z.slabs) did.same

-- a withdrawn ticket is out no longer, and is worth what was said of its number
pub withdrawn_tickets : (old new : Zone) (ticket : Ticket) (result : Withdrawn) (k : ℕ) → AreNumbered old.desk → WithdrawsFrom old new ticket result
    → ticket_of new.desk.out k ≡ (if ticket.number == k then None else ticket_of old.desk.out k)
withdrawn_tickets old new ticket result k numbered did = (withdraws_tickets old.desk new.desk ticket result did.withdraws numbered).0 k

pub withdrawn_block : (old new : Zone) (ticket : Ticket) (x : Pbn) → AreNumbered old.desk → WithdrawsFrom old new ticket (Block x) → ticket_of old.desk.out ticket.number ≡ Some (Some x)
withdrawn_block old new ticket x numbered did =
    (withdraws_tickets old.desk new.desk ticket (Block x) did.withdraws numbered).3 ∙ ap (λ (o : Option Pbn). Some o) (worth_block old.desk new.desk ticket x did.withdraws)

pub withdrawn_nothing : (old new : Zone) (ticket : Ticket) (receipt : Receipt) → AreNumbered old.desk → WithdrawsFrom old new ticket (Nothing receipt) → ticket_of old.desk.out ticket.number ≡ Some None
withdrawn_nothing old new ticket receipt numbered did =
    (withdraws_tickets old.desk new.desk ticket (Nothing receipt) did.withdraws numbered).3 ∙ ap (λ (o : Option Pbn). Some o) (worth_none old.desk new.desk ticket receipt did.withdraws)

pub withdrawn_next : (old new : Zone) (ticket : Ticket) (result : Withdrawn) → WithdrawsFrom old new ticket result → new.desk.issued ≡ old.desk.issued
withdrawn_next old new ticket result did = ap (λ (d : Desk). d.issued) did.withdraws.after

pub withdrawn_slabs : (old new : Zone) (ticket : Ticket) (result : Withdrawn) → WithdrawsFrom old new ticket result → new.slabs ≡ old.slabs
withdrawn_slabs old new ticket result did = ap (λ (z : Zone). z.slabs) did.same

-- where something is served, that is a ticket and a block
pub served_both : {slabs slabs' : List Counts} {desk desk' : Desk} (serves : Serves slabs desk slabs' desk') (n : ℕ) → served_ticket serves ≡ Some n → (x : Pbn) × (served_block serves ≡ Some x)
served_both (inl same) n said = absurd cc
served_both (inr serves) n said = (serves.block, refl)

pub served_neither : {slabs slabs' : List Counts} {desk desk' : Desk} (serves : Serves slabs desk slabs' desk') → served_ticket serves ≡ None → served_block serves ≡ None
served_neither (inl same) said = refl
served_neither (inr serves) said = absurd cc

-- where nothing is served, no ticket changes
pub unserved_tickets : (old new : Zone) (at : Pbn) (slab : Counts) (k : ℕ) → (change : Changes old new at slab) → served_ticket change.serves ≡ None → ticket_of new.desk.out k ≡ ticket_of old.desk.out k
unserved_tickets old new at slab k change = by change.serves
  where
    by : {slabs : List Counts} (serves : Serves slabs old.desk new.slabs new.desk) → served_ticket serves ≡ None → ticket_of new.desk.out k ≡ ticket_of old.desk.out k
    by (inl same) said = ap (λ (d : Desk). ticket_of d.out k) same.2
    by (inr serves) said = absurd cc

-- the ticket with this number had no block and has this one, and no older ticket waited
abbrev pub GoesTo : Zone → Zone → Pbn → ℕ → Type 0
GoesTo old new x n =
    ((k : ℕ) → ticket_of new.desk.out k ≡ (if n == k then Some (Some x) else ticket_of old.desk.out k)) × (ticket_of old.desk.out n ≡ Some None) × ((j : ℕ) → j < n → ¬ (ticket_of old.desk.out j ≡ Some None))

-- what is served goes to the oldest that waits
pub served_tickets : (old new : Zone) (at : Pbn) (slab : Counts) (n : ℕ) (x : Pbn) → AreNumbered old.desk → (change : Changes old new at slab) → served_ticket change.serves ≡ Some n → served_block change.serves ≡ Some x
    → GoesTo old new x n
served_tickets old new at slab n x numbered change = by change.serves
  where
    by : {slabs : List Counts} (serves : Serves slabs old.desk new.slabs new.desk) → served_ticket serves ≡ Some n → served_block serves ≡ Some x → GoesTo old new x n
    by (inl same) said said' = absurd cc
    by (inr serves) said said' =
        let gone = gives_tickets old.desk new.desk serves.block serves.gives numbered in
        let oldest = gives_oldest old.desk new.desk serves.block 0 serves.gives numbered in
        subst (λ (b : Pbn). GoesTo old new b n) (same_Some _ _ said') (subst (λ (m : ℕ). GoesTo old new serves.block m) (same_Some _ _ said) (gone.0, oldest.0, oldest.1))

-- no number is given out by that
pub changed_next : (old new : Zone) (at : Pbn) (slab : Counts) → Changes old new at slab → new.desk.issued ≡ old.desk.issued
changed_next old new at slab change = elim change.serves [ inl same ↦ ap (λ (d : Desk). d.issued) same.2 | inr serves ↦ ap (λ (d : Desk). d.issued) serves.gives.after ]

-- each call keeps that the tickets have numbers of their own
pub begun_numbered : (old new : Zone) (step : ℕ) → AreNumbered old.desk → BeginsStep old new step → AreNumbered new.desk
begun_numbered old new step numbered (true, did) = subst (λ (z : Zone). AreNumbered z.desk) (sym did.after) numbered
begun_numbered old new step numbered (false, did) = subst (λ (z : Zone). AreNumbered z.desk) (sym did.after) numbered

pub issued_numbered : (old new : Zone) (writer : Writer) (ticket : Ticket) → AreNumbered old.desk → GivesTicket old new writer ticket → AreNumbered new.desk
issued_numbered old new writer ticket numbered did = (issues_tickets old.desk new.desk writer ticket did.issues numbered).1

pub withdrawn_numbered : (old new : Zone) (ticket : Ticket) (result : Withdrawn) → AreNumbered old.desk → WithdrawsFrom old new ticket result → AreNumbered new.desk
withdrawn_numbered old new ticket result numbered did = (withdraws_tickets old.desk new.desk ticket result did.withdraws numbered).1

pub changed_numbered : (old new : Zone) (at : Pbn) (slab : Counts) → AreNumbered old.desk → Changes old new at slab → AreNumbered new.desk
changed_numbered old new at slab numbered change = elim change.serves [
  | inl same ↦ subst (λ (d : Desk). AreNumbered d) (sym same.2) numbered
  | inr serves ↦ (gives_tickets old.desk new.desk serves.block serves.gives numbered).1
]

-- each call keeps that the tickets that wait asked behind the last step that ended with a free block, and a receipt tells so
pub begun_behind : (old new : Zone) (step : ℕ) → IsZone old → IsBehind old.desk → IsBelow old.desk.step step → BeginsStep old new step → IsBehind new.desk
begun_behind old new step is behind below (true, did) = desk_keeps (tickets.Begins true step) old.desk new.desk behind (quiet old is (did.some refl), below, ap (λ (z : Zone). z.desk) did.after)
begun_behind old new step is behind below (false, did) = desk_keeps (tickets.Begins false step) old.desk new.desk behind (below, ap (λ (z : Zone). z.desk) did.after)

pub issued_behind : (old new : Zone) (writer : Writer) (ticket : Ticket) → IsBehind old.desk → GivesTicket old new writer ticket → IsBehind new.desk
issued_behind old new writer ticket behind did = desk_issued old.desk new.desk writer ticket behind did.issues

pub withdrawn_behind : (old new : Zone) (ticket : Ticket) (result : Withdrawn) → IsBehind old.desk → WithdrawsFrom old new ticket result → IsBehind new.desk
withdrawn_behind old new ticket result behind did = desk_keeps (tickets.Withdrawn' ticket result) old.desk new.desk behind did.withdraws

pub changed_behind : (old new : Zone) (at : Pbn) (slab : Counts) → IsBehind old.desk → Changes old new at slab → IsBehind new.desk
changed_behind old new at slab behind change = elim change.serves [
  | inl same ↦ subst (λ (d : Desk). IsBehind d) (sym same.2) behind
  | inr serves ↦ desk_keeps (tickets.Given serves.block) old.desk new.desk behind serves.gives
]

pub receipt_behind : (old new : Zone) (ticket : Ticket) (receipt : Receipt) → IsBehind old.desk → WithdrawsFrom old new ticket (Nothing receipt) → IsBelow old.desk.last_free receipt.asked
receipt_behind old new ticket receipt behind did = behind_receipt old.desk new.desk ticket receipt behind did.withdraws

-- each call keeps what is true of a zone at every moment
pub begun_is_zone : (old new : Zone) (step : ℕ) → IsZone old → BeginsStep old new step → IsZone new
begun_is_zone old new step is (true, did) = as_zone new _ did.after (record { slabs = is.slabs; desk = is.desk; settled = is.settled })
begun_is_zone old new step is (false, did) = as_zone new _ did.after (record { slabs = is.slabs; desk = is.desk; settled = is.settled })

pub issued_is_zone : (old new : Zone) (writer : Writer) (ticket : Ticket) → IsZone old → GivesTicket old new writer ticket → IsZone new
issued_is_zone old new writer ticket is did =
    as_zone new _ did.same (record { slabs = is.slabs; desk = ap (λ (d : Desk). d.zone) did.issues.after ∙ is.desk; settled = inr did.none_free })

pub withdrawn_is_zone : (old new : Zone) (ticket : Ticket) (result : Withdrawn) → IsZone old → WithdrawsFrom old new ticket result → IsZone new
withdrawn_is_zone old new ticket result is did = as_zone new _ did.same (zone_withdrawn old new.desk ticket result is did.withdraws)

pub dropped_is_zone : (old new : Zone) (at : Pbn) → IsZone old → IsClaimedIn old at → Changes old new at (unclaimed (slab_of old at) at) → IsZone new
dropped_is_zone old new at is claim change = call_keeps (Drops at) old new is (claim, change)

pub removed_is_zone : (old new : Zone) (at : Pbn) (slab : Counts) → IsZone old → IsOfZone old at → Takes Decrement (slab_of old at) slab at → Changes old new at slab → IsZone new
removed_is_zone old new at slab is own takes change = call_keeps (Applies Decrement at slab) old new is (own, takes, change)

-- a block stays of its zone
pub still_own : (old new : Zone) (at x : Pbn) (slab : Counts) → IsOfZone old x → Changes old new at slab → IsOfZone new x
still_own old new at x slab own change = subst (λ (z : Zone). IsOfZone z x) (sym change.same) (record { data_block = own.data_block; own = own.own })

-- where a block is free, nobody waits
pub free_none_waits : (z : Zone) (at : Pbn) → IsZone z → IsOfZone z at → counter_in at z.slabs + claims_in at z.slabs ≡ 0 → (k : ℕ) → ¬ (ticket_of z.desk.out k ≡ Some None)
free_none_waits z at is own free k waits = omega (arith, free, none_is_free z at is (none_free z k is waits) own)

pub dropped_none_waits : (old new : Zone) (at : Pbn) → IsZone old → IsClaimedIn old at → (change : Changes old new at (unclaimed (slab_of old at) at)) → served_ticket change.serves ≡ None
    → counter_in at new.slabs + claims_in at new.slabs ≡ 0 → (k : ℕ) → ¬ (ticket_of new.desk.out k ≡ Some None)
dropped_none_waits old new at is claim change said = free_none_waits new at (dropped_is_zone old new at is claim change) (still_own old new at at _ claim.own change)

pub removed_none_waits : (old new : Zone) (at : Pbn) (slab : Counts) → IsZone old → IsOfZone old at → Takes Decrement (slab_of old at) slab at → (change : Changes old new at slab) → served_ticket change.serves ≡ None
    → counter_in at new.slabs + claims_in at new.slabs ≡ 0 → (k : ℕ) → ¬ (ticket_of new.desk.out k ≡ Some None)
removed_none_waits old new at slab is own takes change said = free_none_waits new at (removed_is_zone old new at slab is own takes change) (still_own old new at at slab own change)

-- what is served is the block that became free: its last use went, and the ticket has the one claim on it
pub dropped_served : (old new : Zone) (at : Pbn) (n : ℕ) → IsZone old → IsClaimedIn old at → (change : Changes old new at (unclaimed (slab_of old at) at)) → served_ticket change.serves ≡ Some n
    → (served_block change.serves ≡ Some at) × (counter_in at new.slabs ≡ 0) × (claims_in at new.slabs ≡ 1) × (counter_in at old.slabs + claims_in at old.slabs ≡ 1)
dropped_served old new at n is claim change said =
    let both = served_both change.serves n said in
    let fresh = dropped_is old new at both.0 is claim change both.1 in
    let block : served_block change.serves ≡ Some at = both.1 ∙ ap (λ (x : Pbn). Some x) fresh.0 in
    let moves = moved (Drops at) old new is (claim, change) in
    (block, fresh.1, fresh.2, omega (arith, fresh.1, fresh.2, moves.counters at, moves.claims at, ap (is_at at) block, one_same at at refl))

pub removed_served : (old new : Zone) (at : Pbn) (slab : Counts) (n : ℕ) → IsZone old → IsOfZone old at → Takes Decrement (slab_of old at) slab at → (change : Changes old new at slab) → served_ticket change.serves ≡ Some n
    → (served_block change.serves ≡ Some at) × (counter_in at new.slabs ≡ 0) × (claims_in at new.slabs ≡ 1) × (counter_in at old.slabs + claims_in at old.slabs ≡ 1)
removed_served old new at slab n is own takes change said =
    let both = served_both change.serves n said in
    let fresh = removed_is old new at both.0 slab is own takes change both.1 in
    let block : served_block change.serves ≡ Some at = both.1 ∙ ap (λ (x : Pbn). Some x) fresh.0 in
    let moves = moved (Applies Decrement at slab) old new is (own, takes, change) in
    (block, fresh.1, fresh.2, omega (arith, fresh.1, fresh.2, moves.counters at, moves.claims at, ap (is_at at) block, one_same at at refl))

-- how many of the tickets that are out have a number that passes a test
pub begun_counted : (test : ℕ → Bool) (old new : Zone) (step : ℕ) → BeginsStep old new step
    → total (λ (w : Waiting). bit (test w.number)) new.desk.out ≡ total (λ (w : Waiting). bit (test w.number)) old.desk.out
begun_counted test old new step did = ap (total (λ (w : Waiting). bit (test w.number))) (begun_out old new step did)

pub issued_counted : (test : ℕ → Bool) (old new : Zone) (writer : Writer) (ticket : Ticket) → GivesTicket old new writer ticket
    → total (λ (w : Waiting). bit (test w.number)) new.desk.out ≡ total (λ (w : Waiting). bit (test w.number)) old.desk.out + bit (test ticket.number)
issued_counted test old new writer ticket did =
    let counted : Waiting → ℕ = λ w. bit (test w.number) in
    let one : Waiting = record { number = ticket.number; asked = ticket.asked; writer = writer; block = None } in
    ap (λ (d : Desk). total counted d.out) did.issues.after ∙ omega (arith, total-append counted old.desk.out (one ∷ []))

pub withdrawn_counted : (test : ℕ → Bool) (old new : Zone) (ticket : Ticket) (result : Withdrawn) → WithdrawsFrom old new ticket result
    → total (λ (w : Waiting). bit (test w.number)) new.desk.out + bit (test ticket.number) ≡ total (λ (w : Waiting). bit (test w.number)) old.desk.out
withdrawn_counted test old new ticket result did =
    let counted : Waiting → ℕ = λ w. bit (test w.number) in
    let is = did.withdraws in
    let p = position-Some (λ (w : Waiting). w.number == ticket.number) old.desk.out is.place is.waiting is.here in
    let read = out_read old.desk.out is.place is.waiting p.0 is.is in
    let number : is.waiting.number ≡ ticket.number = eqb-true _ _ (subst (λ (w : Waiting). (w.number == ticket.number) ≡ true) is.is p.1) in
    omega (arith, total-remove counted old.desk.out is.place is.waiting read, ap (λ (d : Desk). total counted d.out) is.after, ap (λ (n : ℕ). bit (test n)) number)

pub changed_counted : (test : ℕ → Bool) (old new : Zone) (at : Pbn) (slab : Counts) → Changes old new at slab
    → total (λ (w : Waiting). bit (test w.number)) new.desk.out ≡ total (λ (w : Waiting). bit (test w.number)) old.desk.out
changed_counted test old new at slab change = elim change.serves [
  | inl same ↦ ap (λ (d : Desk). total (λ (w : Waiting). bit (test w.number)) d.out) same.2
  | inr serves ↦
      let counted : Waiting → ℕ = λ w. bit (test w.number) in
      let gives = serves.gives in
      let p = position-Some (λ (w : Waiting). not (is_served w)) old.desk.out gives.place gives.waiting gives.oldest in
      let read = out_read old.desk.out gives.place gives.waiting p.0 gives.is in
      let e = total-set counted old.desk.out gives.place gives.waiting (record gives.waiting { block = Some serves.block }) read in
      omega (arith, e, ap (λ (d : Desk). total counted d.out) gives.after)
]

-- a ticket is out where one with its number is counted
pub counted_is_out : (desk : Desk) (ticket : Ticket) → 1 ≤ total (λ (w : Waiting). bit (w.number == ticket.number)) desk.out → (place : ℕ) × IsOutAt desk ticket place
counted_is_out desk ticket some =
    let found = summand (λ (w : Waiting). bit (w.number == ticket.number)) desk.out some in
    let r = get_read desk.out found.at found.item found.is in
    let number : found.item.number ≡ ticket.number = by_bit (found.item.number == ticket.number) refl found.some in
    found_or ticket desk.out (position (λ (w : Waiting). w.number == ticket.number) desk.out) found.at found.item refl r.0 (ap (λ (w : Waiting). w.number) r.1 ∙ number)
  where
    by_bit : {m : ℕ} (b : Bool) → (m == ticket.number) ≡ b → 1 ≤ bit b → m ≡ ticket.number
    by_bit true is some = eqb-true _ _ is
    by_bit false is some = absurd (omega (arith, some))
