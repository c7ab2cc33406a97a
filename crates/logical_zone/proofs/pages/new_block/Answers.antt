use Rattle.logical_zone.specs.Served.{IsToBlock}
use Rattle.std.proofs.Common.{subst}
use Rattle.logical_zone.proofs.pages.new_block.Goals as goal

pub unreachable-requires : goal.unreachable-requires
unreachable-requires c = subst IsToBlock c.in-Unmapped.is c.requires

pub unreachable-requires-in-Zero : goal.unreachable-requires-in-Zero
unreachable-requires-in-Zero c = subst IsToBlock c.in-Zero.is c.requires
