use Rattle.std.proofs.Common.{refl, ap, ◌∙◌, arith}
use Rattle.hash_locks.specs.LockedNames.{Sharing, first_for}
use Rattle.hash_locks.proofs.SharingLaws.{frees_in_order}
use Rattle.hash_locks.proofs.CodeLaws.{frees, frees_none}
use Rattle.hash_locks.proofs.locks.HashLocks.free.Goals as goal

pub invariant_of-self : goal.invariant_of-self
invariant_of-self g c =
    let none = ap (λ (k : Sharing _). first_for c.args.name.now k.waiting) c.self.view_is ∙ c.requires in
    record {
      blocks = omega arith;
      spare_room = omega arith;
      held_room = omega arith;
      waiting_room = omega arith;
      order = frees_in_order g.V.HasBlock.bytes_of _ _ c.args.name.now c.self.invariant.order
          (frees g.V.HasBlock.bytes_of _ _ refl c.deref.result.now _ c.in-Some.place c.args.name.now c.self.invariant.order none c.deref.ensures.value
          c.in-Some.ensures c.remove-lock.ensures.items);
    }

pub returns-in-Some : goal.returns-in-Some
returns-in-Some g c =
    frees g.V.HasBlock.bytes_of _ _ c.self.view_is c.deref.result.now _ c.in-Some.place c.args.name.now c.self.invariant.order c.requires c.deref.ensures.value
    c.in-Some.ensures c.remove-lock.ensures.items

pub returns-in_default : goal.returns-in_default
returns-in_default g c =
    frees_none g.V.HasBlock.bytes_of _ _ c.self.view_is c.deref.result.now c.args.name.now c.requires c.deref.ensures.value c.in_default.ensures
