use Rattle.block_map_tree.proofs.HistoryLaws.{is_out}
use Rattle.part_tests.proofs.trees.write_changed.Goals as goal

pub written-requires : goal.written-requires
written-requires c = is_out _ _ _ _ _ c.in_ok-page.ensures.some
