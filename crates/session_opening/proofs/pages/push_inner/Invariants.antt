use Rattle.std.proofs.Common.{List, take}
use Rattle.replay_map.specs.declared.links.Link.{Link}
use Rattle.session_opening.specs.Pages.{AreAdded}
use Rattle.session_opening.specs.Places.{ArePlaces}
use Rattle.session_opening.proofs.pages.push_inner.Given as goal

abbrev pub invariant-loop-link : goal.invariant-loop-link
invariant-loop-link l = (links : List Link) → ArePlaces links l.places → AreAdded links (take l.link-index l.link-items) l.fn.pages.items l.pages.items
