use Rattle.std.proofs.Common.{◌*◌}
use Rattle.replay_map.specs.Taken.{GainedMapped}
use Rattle.replay_map.proofs.taken_pages.push_mapped.Given as goal

abbrev pub invariant-loop-run : goal.invariant-loop-run
invariant-loop-run l = GainedMapped l.mappings (116 * l.run) l.initial.mapped.items l.mapped.items
