use Rattle.std.proofs.Common.{refl, subst, sym, arith}
use Rattle.hash_locks.specs.LockedNames.{Sharing, HasRoom}
use Rattle.hash_locks.specs.declared.role.Role.TheVariants.{Agent, Waits}
use Rattle.hash_locks.proofs.SharingLaws.{arrives_in_order}
use Rattle.hash_locks.proofs.CodeLaws.{takes, waits, goes_alone}
use Rattle.hash_locks.proofs.locks.HashLocks.arrive.Goals as goal

pub invariant_of-self : goal.invariant_of-self
invariant_of-self g c =
    let room = subst (λ (k : Sharing _). HasRoom k) (sym c.self.view_is) c.requires in
    record {
      blocks = omega arith;
      spare_room = omega arith;
      held_room = omega arith;
      waiting_room = omega arith;
      order = arrives_in_order g.V.HasBlock.bytes_of _ _ c.args.name.now c.args.vio Waits c.self.invariant.order room
          (waits g.V.HasBlock.bytes_of _ _ refl c.deref.result.now _ c.args.name.now c.block.result.now c.args.vio c.deref.ensures.value c.block.ensures
          (rw c.in-Some-true.field-0-test at c.in-Some-true.ensures) c.push_reserved.ensures.items);
    }

pub invariant_of-self-in-None : goal.invariant_of-self-in-None
invariant_of-self-in-None g c =
    let room = subst (λ (k : Sharing _). HasRoom k) (sym c.self.view_is) c.requires in
    record {
      blocks = omega arith;
      spare_room = omega arith;
      held_room = omega arith;
      waiting_room = omega arith;
      order = arrives_in_order g.V.HasBlock.bytes_of _ _ c.args.name.now c.args.vio (Agent c.args.vio) c.self.invariant.order room
          (takes g.V.HasBlock.bytes_of _ _ refl c.deref.result.now _ c.args.name.now c.block.result.now c.block-in-None.result.now c.args.vio
          c.deref.ensures.value c.block-in-None.ensures c.in-None.ensures c.hold.ensures.items);
    }

pub returns-in-Some-true-clause-role : goal.returns-in-Some-true-clause-role
returns-in-Some-true-clause-role g c =
    waits g.V.HasBlock.bytes_of _ _ c.self.view_is c.deref.result.now _ c.args.name.now c.block.result.now c.args.vio c.deref.ensures.value c.block.ensures
    (rw c.in-Some-true.field-0-test at c.in-Some-true.ensures) c.push_reserved.ensures.items

pub returns-in-Some-false-clause-role : goal.returns-in-Some-false-clause-role
returns-in-Some-false-clause-role g c =
    goes_alone g.V.HasBlock.bytes_of _ _ c.self.view_is c.deref.result.now c.args.name.now c.block.result.now c.args.vio c.deref.ensures.value c.block.ensures
    (rw c.in-Some-false.field-0-test at c.in-Some-false.ensures)
