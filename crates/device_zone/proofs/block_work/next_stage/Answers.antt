use Rattle.std.proofs.Common.{rules}
use Rattle.device_zone.proofs.block_work.next_stage.Goals as goal

pub returns-in-Write : goal.returns-in-Write
returns-in-Write c = search rules
