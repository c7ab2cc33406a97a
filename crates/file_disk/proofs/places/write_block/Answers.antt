use Rattle.std.proofs.Common.{◌*◌, arith}
use Rattle.file_disk.proofs.places.write_block.Goals as goal

pub write_all_at-requires : goal.write_all_at-requires
write_all_at-requires g c = (8 * c.args.at.0, omega (arith, c.from-2.ensures))
