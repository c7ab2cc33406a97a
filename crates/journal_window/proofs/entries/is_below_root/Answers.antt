use Rattle.std.proofs.Common.{arith}
use Rattle.journal_window.proofs.PageLaws.{below_root_is}
use Rattle.journal_window.proofs.entries.is_below_root.Goals as goal

pub returns-then-page-lt-TREES : goal.returns-then-page-lt-TREES
returns-then-page-lt-TREES c =
    let level = c.from.ensures in
    let inner = c.if-page-lt-TREES.true.0 in
    below_root_is c.args.layout.now.geometry c.args.page _ _ c.args.layout.now.sizes.height.1 (omega (arith, level, inner)) c.if-page-lt-TREES.true.1
    c.first_address.ensures c.from-then-page-lt-TREES.ensures
