use Rattle.std.proofs.Common.{ℕ, ◌≡◌, subst, arith}
use Rattle.blk_base.specs.declared.sizes.TheConstants.{PAGE_SLOTS}
use Rattle.grow_image.proofs.LeafLaws.{no_slots, slot_more}
use Rattle.grow_image.specs.NewAddresses.{AreAdded}
use Rattle.grow_image.proofs.leaves.push_slots.Goals as goal

pub loop-slot-init : goal.loop-slot-init
loop-slot-init c = no_slots c.args.range c.args.page.now c.args.leaves.now.items

pub loop-slot-preserved : goal.loop-slot-preserved
loop-slot-preserved c = slot_more c.args.range c.args.page.now c.loop-slot.slot _ _ _ c.loop-slot.invariant c.in_ok-push_slot.ensures

pub returns : goal.returns
returns c =
    let inside = c.loop-slot.auto.slot-end in
    let ended = c.loop-slot-test.false in
    let all : c.loop-slot.slot ≡ PAGE_SLOTS = omega (arith, inside, ended) in
    subst (λ (n : ℕ). AreAdded c.args.range c.args.page.now n c.args.leaves.now.items c.loop-slot.leaves.items) all c.loop-slot.invariant
