use Rattle.std.proofs.Common.{◌<◌, ◌∙◌, sym, length, arith}
use Rattle.std.proofs.lemmas.Bool.Decides.{nat_tests}
use Rattle.hash_locks.proofs.SharingLaws.{oldest_in_order}
use Rattle.hash_locks.proofs.CodeLaws.{oldest_leaves}
use Rattle.hash_locks.proofs.locks.HashLocks.next_waiter.Goals as goal

pub invariant_of-self : goal.invariant_of-self
invariant_of-self g c =
    let size = c.self.inside.waiting.ok in
    let some : 0 < length c.self.inside.waiting.items = grind (arith, nat_tests) in
    record {
      blocks = omega arith;
      spare_room = omega arith;
      held_room = omega arith;
      waiting_room = omega arith;
      order = oldest_in_order g.V.HasBlock.bytes_of _ _ c.remove-vio.result c.self.invariant.order
          (oldest_leaves g.V.HasBlock.bytes_of _ _ c.remove-vio.result some c.remove-vio.ensures.value c.remove-vio.ensures.items);
    }

pub returns-clause-some : goal.returns-clause-some
returns-clause-some g c =
    let size = c.self.inside.waiting.ok in
    let some : 0 < length c.self.inside.waiting.items = grind (arith, nat_tests) in (
      c.remove-vio.result.name,
      sym c.self.view_is ∙ oldest_leaves g.V.HasBlock.bytes_of _ _ c.remove-vio.result some c.remove-vio.ensures.value c.remove-vio.ensures.items,
    )
