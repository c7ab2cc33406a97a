use Rattle.std.proofs.Common.{◌≡◌}
use Rattle.replay_map.specs.Forms.{links_in}
use Rattle.replay_map.proofs.links.push_run.Given as goal

abbrev pub invariant-loop-slot : goal.invariant-loop-slot
invariant-loop-slot l = l.links.items ≡ links_in l.page l.mappings l.slot
