use Rattle.std.proofs.Common.{List}
use Rattle.replay_map.specs.declared.links.Link.{Link}
use Rattle.session_opening.specs.Pages.{AreAdded, roots_below}
use Rattle.session_opening.specs.Places.{ArePlaces}
use Rattle.session_opening.proofs.pages.push_roots.Given as goal

abbrev pub invariant-loop-tree : goal.invariant-loop-tree
invariant-loop-tree l = (links : List Link) → ArePlaces links l.places → AreAdded links (roots_below l.layout.geometry l.tree) l.fn.pages.items l.pages.items
