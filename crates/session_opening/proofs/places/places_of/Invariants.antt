use Rattle.std.proofs.Common.{reverse, take}
use Rattle.session_opening.specs.Places.{ArePlaces}
use Rattle.session_opening.proofs.places.places_of.Given as goal

abbrev pub invariant-loop-link : goal.invariant-loop-link
invariant-loop-link l = ArePlaces (reverse (take l.link-index l.links)) l.places
