use Rattle.std.proofs.Common.{List, ◌*◌}
use Rattle.blk_base.specs.declared.place.Pbn.{Pbn}
use Rattle.replay_map.specs.Taken.{GainedMapped}
use Rattle.replay_map.proofs.taken_pages.push_run.Given as goal

abbrev pub invariant-loop-slot : goal.invariant-loop-slot
invariant-loop-slot l = (first : List Pbn) → GainedMapped l.mappings (116 * l.run) first l.initial.mapped.items → GainedMapped l.mappings l.slot first l.mapped.items
