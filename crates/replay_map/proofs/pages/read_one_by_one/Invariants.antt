use Rattle.replay_map.specs.Pages.{AreSaid}
use Rattle.replay_map.proofs.pages.read_one_by_one.Given as goal

abbrev pub invariant-loop-slot : goal.invariant-loop-slot
invariant-loop-slot l = AreSaid l.want l.block l.changes l.slot l.into
