use Rattle.std.proofs.Common.{◌≡◌, map, string_bytes, length}
use Rattle.vdo_words.specs.Given.{given}
use Rattle.vdo_words.specs.Refused.{first_wrong}
use Rattle.vdo_words.proofs.rules.first_wrong.Given as goal

abbrev pub invariant-options : goal.invariant-options
invariant-options l = first_wrong l.names (given (map string_bytes l.left)) ≡ first_wrong l.names (given (map string_bytes l.words))

abbrev pub decreases-options : goal.decreases-options
decreases-options l = length l.left
