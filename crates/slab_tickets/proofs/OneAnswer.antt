-- A call on the tickets of a zone has one result.
use Rattle.std.specs.Prelude.{ℕ, ◌≡◌, ◌+◌, ◌<◌, ◌==◌, ◌++◌, [], ◌∷◌, not, Bool, List, length, None, Some, position}
use Rattle.std.specs.List.{remove}
use Rattle.std.proofs.Common.{sym, ◌∙◌, ap, get_or, set}
use Rattle.std.proofs.lemmas.List.{get_or_default}
use Rattle.std.proofs.lemmas.List.Quantifiers.{position-Some}
use Rattle.std.proofs.lemmas.Option.{same_Some}
use Rattle.blk_base.specs.declared.place.Pbn.{Pbn}
use Rattle.blk_base.specs.declared.request.Writer.{Writer}
use Rattle.slab_counts.specs.declared.tickets.Ticket.{Ticket}
use Rattle.slab_tickets.specs.Tickets.{Desk, Issues, Gives, Withdraws, is_served, worth}
use Rattle.slab_tickets.specs.declared.forms.Waiting.{Waiting}
use Rattle.slab_tickets.specs.declared.forms.Withdrawn.{Withdrawn}

-- what stands at one place
one_there : (test : Waiting → Bool) (out : List Waiting) (k k' : ℕ) (w w' : Waiting) → position test out ≡ Some k → position test out ≡ Some k' → get_or out k w ≡ w → get_or out k' w' ≡ w'
    → (k ≡ k') × (w ≡ w')
one_there test out k k' w w' found found' is is' =
    let place : k ≡ k' = same_Some _ _ (sym found ∙ found') in
    let inside : k < length out = (position-Some test out k w found).0 in
    (place, sym is ∙ get_or_default out k w w' inside ∙ ap (λ (n : ℕ). get_or out n w') place ∙ is')

abbrev ticket_as : ℕ → ℕ → ℕ → Ticket
ticket_as zone number asked = record { zone = zone; number = number; asked = asked }

abbrev issued_to : Desk → Writer → Ticket → Desk
issued_to old writer t = record old { issued = old.issued + 1; out = old.out ++ record { number = t.number; asked = t.asked; writer = writer; block = None } ∷ [] }

pub one_issued : (old new new' : Desk) (writer : Writer) (ticket ticket' : Ticket) → Issues old new writer ticket → Issues old new' writer ticket' → (new ≡ new') × (ticket ≡ ticket')
one_issued old new new' writer ticket ticket' one other =
    let asked : ticket.asked ≡ ticket'.asked = same_Some _ _ (sym one.now ∙ other.now) in
    let number : ticket.number ≡ ticket'.number = one.number ∙ sym other.number in
    let zone : ticket.zone ≡ ticket'.zone = one.zone ∙ sym other.zone in
    let same : ticket ≡ ticket'
    = ap (λ (n : ℕ). ticket_as n ticket.number ticket.asked) zone ∙ ap (λ (n : ℕ). ticket_as ticket'.zone n ticket.asked) number
    ∙ ap (λ (n : ℕ). ticket_as ticket'.zone ticket'.number n) asked in
    (one.after ∙ ap (λ (t : Ticket). issued_to old writer t) same ∙ sym other.after, same)

abbrev given_at : Desk → Pbn → ℕ → Waiting → Desk
given_at old block place waiting = record old { out = set old.out place (record waiting { block = Some block }) }

-- the oldest without a block is one
pub one_waiting : (old new new' : Desk) (block block' : Pbn) → (one : Gives old new block) → (other : Gives old new' block') → one.waiting ≡ other.waiting
one_waiting old new new' block block' one other =
    (one_there (λ (w : Waiting). not (is_served w)) old.out one.place other.place one.waiting other.waiting one.oldest other.oldest one.is other.is).1

pub one_given : (old new new' : Desk) (block : Pbn) → Gives old new block → Gives old new' block → new ≡ new'
one_given old new new' block one other =
    let there = one_there (λ (w : Waiting). not (is_served w)) old.out one.place other.place one.waiting other.waiting one.oldest other.oldest one.is other.is in
    one.after ∙ ap (λ (k : ℕ). given_at old block k one.waiting) there.0 ∙ ap (λ (w : Waiting). given_at old block other.place w) there.1 ∙ sym other.after

pub one_withdrawn : (old new new' : Desk) (ticket : Ticket) (result result' : Withdrawn) → Withdraws old new ticket result → Withdraws old new' ticket result' → (new ≡ new') × (result ≡ result')
one_withdrawn old new new' ticket result result' one other =
    let there = one_there (λ (w : Waiting). w.number == ticket.number) old.out one.place other.place one.waiting other.waiting one.here other.here one.is other.is in
    let step : one.step ≡ other.step = same_Some _ _ (sym one.now ∙ other.now) in (
      one.after ∙ ap (λ (k : ℕ). record old { out = remove old.out k }) there.0 ∙ sym other.after,
      one.worth_is ∙ ap (λ (s : ℕ). worth old s one.waiting) step ∙ ap (λ (w : Waiting). worth old other.step w) there.1 ∙ sym other.worth_is,
    )
