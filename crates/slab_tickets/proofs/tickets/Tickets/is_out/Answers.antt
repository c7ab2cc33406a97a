use Rattle.std.proofs.Common.{ap, ◌∙◌, sym, subst, ◌==◌, Bool, List, position, IsTrue}
use Rattle.slab_tickets.specs.declared.forms.Waiting.{Waiting}
use Rattle.slab_tickets.specs.Tickets.{Desk}
use Rattle.slab_tickets.proofs.ReceiptLaws.{some_there}
use Rattle.slab_tickets.proofs.tickets.Tickets.is_out.Goals as goal

pub returns-clause-yes : goal.returns-clause-yes
returns-clause-yes c = λ yes.
    let number = c.args.ticket.now.number in
    let there = some_there c.index_of.result (subst (λ (b : Bool). IsTrue b) c.is_some.ensures yes) in (
      there.0,
      ap (λ (desk : Desk). position (λ (w : Waiting). w.number == number) desk.out) (sym c.self.view_is)
          ∙ ap (λ (ws : List Waiting). position (λ (w : Waiting). w.number == number) ws) (sym c.deref.ensures.value) ∙ sym c.index_of.ensures ∙ there.1,
    )
