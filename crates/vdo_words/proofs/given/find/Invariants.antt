use Rattle.std.proofs.Common.{◌≡◌, length, map, string_bytes}
use Rattle.vdo_words.specs.Given.{given, find}
use Rattle.vdo_words.proofs.given.find.Given as goal

abbrev pub invariant-options : goal.invariant-options
invariant-options l = find l.name (given (map string_bytes l.left)) ≡ find l.name (given (map string_bytes l.words))

abbrev pub decreases-options : goal.decreases-options
decreases-options l = length l.left
