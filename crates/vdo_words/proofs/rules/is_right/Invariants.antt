use Rattle.std.proofs.Common.{◌≡◌, length}
use Rattle.vdo_words.specs.Options.{is_right}
use Rattle.vdo_words.proofs.rules.is_right.Given as goal

abbrev pub invariant-names : goal.invariant-names
invariant-names l = is_right l.left l.option ≡ is_right l.names l.option

abbrev pub decreases-names : goal.decreases-names
decreases-names l = length l.left
