use Rattle.std.proofs.Common.{◌≡◌, ◌*◌}
use Rattle.replay_map.specs.Forms.{links_in}
use Rattle.replay_map.proofs.links.links_of_slots.Given as goal

abbrev pub invariant-loop-run : goal.invariant-loop-run
invariant-loop-run l = l.links.items ≡ links_in l.page l.mappings (116 * l.run)
