use Rattle.std.proofs.Common.{ℕ, ◌*◌, ap}
use Rattle.block_map_tree.proofs.OpeningLaws.{numbers_inside}
use Rattle.block_map_tree.proofs.opened_pages.count_pages.Goals as goal

pub returns : goal.returns
returns c =
    let all = numbers_inside c.args.forest.now c.args.opened.now c.count_rows.result _ c.requires.forest c.count_rows.ensures
    (ap (λ (trees : ℕ). c.count_rows.result * trees) c.count_trees.ensures.count) in
    record { most = all.0; paths = all.1; opened = all.2 }
