use Rattle.std.proofs.Common.{◌≡◌, length}
use Rattle.std.specs.Str.{all_ascii_digits}
use Rattle.vdo_words.proofs.options.is_digits.Given as goal

abbrev pub invariant-digits : goal.invariant-digits
invariant-digits l = all_ascii_digits l.left ≡ all_ascii_digits l.text

abbrev pub decreases-digits : goal.decreases-digits
decreases-digits l = length l.left
