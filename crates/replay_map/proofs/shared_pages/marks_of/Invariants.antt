use Rattle.std.proofs.Common.{ℕ, ◌≡◌, ◌<◌, get_or, length, take}
use Rattle.replay_map.specs.Shares.{has_page, is_marked}
use Rattle.replay_map.specs.declared.links.Link.{Link}
use Rattle.replay_map.proofs.shared_pages.marks_of.Given as goal

abbrev pub invariant-loop-link : goal.invariant-loop-link
invariant-loop-link l = record {
  inside : (k : ℕ) (d : Link) → k < length l.links → (get_or l.links k d).at.0 < length l.marks.items;
  marked : (block : ℕ) → is_marked l.marks.items block ≡ has_page (take l.link-index l.links) block;
}
