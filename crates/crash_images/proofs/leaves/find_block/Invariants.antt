use Rattle.std.proofs.Common.{◌≡◌, take, Contains}
use Rattle.replay_map.specs.declared.links.Link.{Link}
use Rattle.crash_images.proofs.leaves.find_block.Given as goal

abbrev pub invariant-loop-link : goal.invariant-loop-link
invariant-loop-link l = (other : Link) → Contains (take l.link-index l.links) other → other.page ≡ l.page → ⊥
