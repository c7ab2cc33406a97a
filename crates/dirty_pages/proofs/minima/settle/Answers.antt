use Rattle.std.proofs.Common.{◌<◌, ◌∙◌, length, arith}
use Rattle.std.proofs.lemmas.List.{drop-set-lt}
use Rattle.dirty_pages.proofs.MinimaLaws.{node_settled}
use Rattle.dirty_pages.proofs.minima.settle.Goals as goal

pub loop-at-preserved : goal.loop-at-preserved
loop-at-preserved c =
    let before = c.loop-at.invariant in
    let there : c.loop-at.at < length c.loop-at.nodes = omega (arith, c.requires.size, before.inside, c.loop-at.auto.nodes) in
    record {
      inside = omega (arith, before.inside);
      tree = node_settled c.loop-at.nodes c.loop-at.at c.lesser.result c.args.leaves there c.loop-at-test.true before.tree c.lesser.ensures;
      kept = drop-set-lt c.args.leaves c.loop-at.nodes c.loop-at.at c.lesser.result before.inside ∙ before.kept;
    }
