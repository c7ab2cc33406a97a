use Rattle.std.proofs.Common.{ℕ, ◌<◌, get_or}
use Rattle.replay_map.specs.declared.links.Link.{Link}
use Rattle.replay_map.proofs.shared_pages.blocks_to_last.Given as goal

abbrev pub invariant-loop-link : goal.invariant-loop-link
invariant-loop-link l = (k : ℕ) (d : Link) → k < l.link-index → (get_or l.links k d).at.0 < l.count
