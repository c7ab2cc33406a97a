use Rattle.std.proofs.Common.{◌+◌, ◌∙◌, List, take, ap, subst}
use Rattle.uds_index.specs.declared.tags.Tagged.{Tagged}
use Rattle.uds_index.specs.Tags.{ArePartedAt}
use Rattle.uds_index.proofs.ListLaws.{part_is, take_rest}
use Rattle.uds_index.proofs.tags.part_with.Goals as goal

pub returns : goal.returns
returns c =
    let same = take_rest c.count_below.result c.args.tags.now in
    ap (take c.count_up_to.result) same
    ∙ part_is c.args.tag c.args.tags.now c.count_below.result c.count_up_to.result c.count_below.ensures
    (subst (λ (ts : List Tagged). ArePartedAt (c.args.tag + 1) ts c.count_up_to.result) same c.count_up_to.ensures)
