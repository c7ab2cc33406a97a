use Rattle.std.proofs.Common.{arith}
use Rattle.rebuild.proofs.ActLaws.{read_stops}
use Rattle.rebuild.proofs.TurnLaws.{page_written}
use Rattle.rebuild.proofs.pages.write_page.Goals as goal

pub returns-in_err-block : goal.returns-in_err-block
returns-in_err-block g c = read_stops _ _ _ _ c.args.link.at _ _ c.from_residual.result c.from_residual.ensures.0 c.in_err-block.ensures.failed

pub returns : goal.returns
returns g c =
    page_written _ _ (g.D.Disk.seen c.read_block.new.device) _ _ c.args.link c.in_ok-block.block c.put_changes.new.block c.put.result (omega arith)
    c.in_ok-block.ensures.read c.put_changes.ensures c.put.ensures
