use Rattle.std.proofs.Common.{◌≡◌, map, take}
use Rattle.session_opening.proofs.counts.blocks_of.Given as goal

abbrev pub invariant-loop-link : goal.invariant-loop-link
invariant-loop-link l = l.blocks.items ≡ map (λ link. link.at) (take l.link-index l.links)
