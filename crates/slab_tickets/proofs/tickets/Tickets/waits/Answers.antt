use Rattle.std.proofs.Common.{ap, ◌∙◌, sym, subst, not, Bool, List, position, IsTrue}
use Rattle.slab_tickets.specs.declared.forms.Waiting.{Waiting}
use Rattle.slab_tickets.specs.Tickets.{Desk, is_served}
use Rattle.slab_tickets.proofs.ReceiptLaws.{some_there}
use Rattle.slab_tickets.proofs.tickets.Tickets.waits.Goals as goal

pub returns-clause-yes : goal.returns-clause-yes
returns-clause-yes c = λ yes.
    let there = some_there c.first_unserved.result (subst (λ (b : Bool). IsTrue b) c.is_some.ensures yes) in (
      there.0,
      ap (λ (desk : Desk). position (λ (w : Waiting). not (is_served w)) desk.out) (sym c.self.view_is) ∙ ap (λ (ws : List Waiting). position (λ (w : Waiting). not (is_served w)) ws) (sym c.deref.ensures.value)
          ∙ sym c.first_unserved.ensures ∙ there.1,
    )
