use Rattle.std.proofs.Common.{refl, arith}
use Rattle.hash_locks.proofs.SharingLaws.{leaves_in_order}
use Rattle.hash_locks.proofs.CodeLaws.{leaves, none_found}
use Rattle.hash_locks.proofs.locks.HashLocks.settle.Goals as goal

pub invariant_of-self : goal.invariant_of-self
invariant_of-self g c = record {
  blocks = omega arith;
  spare_room = omega arith;
  held_room = omega arith;
  waiting_room = omega arith;
  order = leaves_in_order g.V.HasBlock.bytes_of _ _ _ c.self.invariant.order
      (leaves g.V.HasBlock.bytes_of _ _ refl c.deref.result.now _ c.in_ok-first.first c.args.name.now c.remove-vio.result c.self.invariant.order c.deref.ensures.value
      c.in_ok-first.ensures c.remove-vio.ensures.value c.remove-vio.ensures.items);
}

pub returns-clause-some : goal.returns-clause-some
returns-clause-some g c =
    leaves g.V.HasBlock.bytes_of _ _ c.self.view_is c.deref.result.now _ c.in_ok-first.first c.args.name.now c.remove-vio.result c.self.invariant.order c.deref.ensures.value
    c.in_ok-first.ensures c.remove-vio.ensures.value c.remove-vio.ensures.items

pub returns-in_err-first-clause-none : goal.returns-in_err-first-clause-none
returns-in_err-first-clause-none g c =
    rw c.from_residual.ensures (none_found _ _ c.self.view_is c.deref.result.now c.args.name.now c.deref.ensures.value c.in_err-first.ensures, refl)
