use Rattle.vdo_core.proofs.dispatch.begin.Goals as goal

pub returns-in-Desk-clause-begun : goal.returns-in-Desk-clause-begun
returns-in-Desk-clause-begun c = λ yes. rw c.in-Desk.is (c.begin_next.ensures.begun yes)
