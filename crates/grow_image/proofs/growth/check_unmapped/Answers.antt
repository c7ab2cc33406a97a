use Rattle.std.proofs.Common.{List, subst, sym}
use Rattle.replay_map.specs.declared.links.Link.{Link}
use Rattle.grow_image.proofs.OpenedLaws.{leaf_data, searching_failed}
use Rattle.grow_image.specs.Growth.{new_addresses}
use Rattle.grow_image.specs.NewAddresses.{AreNewLeaves}
use Rattle.grow_image.proofs.growth.check_unmapped.Goals as goal

pub least_mapped-requires-clause-blocks : goal.least_mapped-requires-clause-blocks
least_mapped-requires-clause-blocks g c leaf has =
    let leaves = subst (λ (list : List Link). AreNewLeaves (new_addresses c.args.opened.now.head.geometry c.args.logical) c.args.opened.now.pages.items list) (sym c.deref-2.ensures.value)
    (rw c.deref.ensures.value at c.in-Ok.ensures) in
    leaf_data c.args.opened.now.head.geometry c.args.opened.now.pages.items c.requires.fits.pages leaf (leaves.each leaf has)

pub least_mapped-requires-clause-trees : goal.least_mapped-requires-clause-trees
least_mapped-requires-clause-trees g c leaf has =
    let leaves = subst (λ (list : List Link). AreNewLeaves (new_addresses c.args.opened.now.head.geometry c.args.logical) c.args.opened.now.pages.items list) (sym c.deref-2.ensures.value)
    (rw c.deref.ensures.value at c.in-Ok.ensures) in
    let is = leaves.each leaf has in
    (is.level, is.tree)

pub returns-clause-fault : goal.returns-clause-fault
returns-clause-fault g c =
    searching_failed _ c.args.opened.now c.args.logical c.deref-2.result.now _ _ c.in-Err.why
    (subst (λ (list : List Link). AreNewLeaves (new_addresses c.args.opened.now.head.geometry c.args.logical) c.args.opened.now.pages.items list) (sym c.deref-2.ensures.value)
    (rw c.deref.ensures.value at c.in-Ok.ensures))
    c.in-Err.ensures.fault
