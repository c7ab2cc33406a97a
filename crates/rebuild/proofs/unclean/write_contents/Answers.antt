use Rattle.std.proofs.Common.{arith}
use Rattle.rebuild.proofs.UncleanLaws.{all_written, blocks_failed}
use Rattle.rebuild.proofs.unclean.write_contents.Goals as goal

pub returns-in_err-write_blocks : goal.returns-in_err-write_blocks
returns-in_err-write_blocks g c = blocks_failed _ _ _ _ c.args.last _ c.from_residual.result c.from_residual.ensures.0 c.in_err-write_blocks.ensures

pub close-requires : goal.close-requires
close-requires g c = let size = c.in_ok-write_blocks.ensures.stays.size in let room = c.requires.room in omega (arith, size, room)

pub returns : goal.returns
returns g c = all_written _ _ _ _ _ c.args.last c.args.layout.now.geometry c.close.result (λ image has. has.sizes) c.in_ok-write_blocks.ensures c.close.ensures
