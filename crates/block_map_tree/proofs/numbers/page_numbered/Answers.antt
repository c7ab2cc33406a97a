use Rattle.block_map_tree.proofs.PageLaws.{numbered, numbered_below}
use Rattle.block_map_tree.proofs.numbers.page_numbered.Goals as goal

pub returns-then-row-eq0 : goal.returns-then-row-eq0
returns-then-row-eq0 c =
    let all = numbered c.args.forest.now c.args.number c.count_trees-trees.result c.requires.forest c.count_trees-trees.ensures.count c.if-row-eq0.true in
    record { inner = all.0; number = all.1 }

pub returns-else-row-eq0 : goal.returns-else-row-eq0
returns-else-row-eq0 c =
    let all = numbered_below c.args.forest.now c.args.number c.count_trees-trees.result c.requires.forest c.count_trees-trees.ensures.count c.requires.inside c.if-row-eq0.false in
    record { inner = all.0; number = all.1 }
