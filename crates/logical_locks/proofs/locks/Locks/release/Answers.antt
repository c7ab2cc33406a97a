use Rattle.logical_locks.proofs.LockLaws.{frees, holds_next}
use Rattle.logical_locks.proofs.locks.Locks.release.Goals as goal

pub returns-in_err-next-clause-none : goal.returns-in_err-next-clause-none
returns-in_err-next-clause-none g c =
    rw c.from_residual.ensures
    (frees _ _ c.self.inside.held.items _ c.self.inside.waiting.items _ c.args.at _ c.self.view_is c.leave_out.ensures.items c.deref.ensures.value c.in_err-next.ensures)

pub returns-clause-next : goal.returns-clause-next
returns-clause-next g c = (
  c.remove-place.result.place,
  holds_next _ _ c.self.inside.held.items _ _ c.self.inside.waiting.items _ _ c.in_ok-next.next c.args.at c.remove-place.result _ c.self.view_is c.leave_out.ensures.items
      c.deref.ensures.value c.in_ok-next.ensures c.remove-place.ensures.value c.remove-place.ensures.items c.push_reserved.ensures.items,
)
