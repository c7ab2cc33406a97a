use Rattle.std.proofs.Common.{arith}
use Rattle.rebuild.proofs.ActLaws.{read_stops}
use Rattle.rebuild.proofs.TurnLaws.{block_written}
use Rattle.rebuild.proofs.counters.write_block.Goals as goal

pub returns-in_err-block : goal.returns-in_err-block
returns-in_err-block g c = read_stops _ _ _ _ c.reference_block-at.result _ _ c.from_residual.result c.from_residual.ensures.0 c.in_err-block.ensures.failed

pub returns : goal.returns
returns g c =
    block_written _ _ (g.D.Disk.seen c.read_block.new.device) _ _ _ _ c.reference_block-at.result _ _ c.in_ok-block.block c.put_counts.new.block c.put.result
    c.requires.inside c.reference_block-at.ensures.block
    (let inside = c.reference_block-at.ensures.inside in let room = c.requires.room in omega (arith, inside, room))
    c.in_ok-block.ensures.read.told c.in_ok-block.ensures.read c.put_counts.ensures.whole c.put_counts.ensures.put c.put.ensures
