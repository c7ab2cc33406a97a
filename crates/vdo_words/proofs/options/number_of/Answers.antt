use Rattle.std.proofs.Common.{rules, ◌≡◌, ◌<◌, ◌^◌, ◌∙◌, true, false, length, inl, inr, sym, arith}
use Rattle.std.specs.Str.{all_ascii_digits}
use Rattle.std.specs.Str.Parse.{digits_value}
use Rattle.std.specs.Prelude.{◌==◌}
use Rattle.std.proofs.lemmas.Bool.{cases_lt}
use Rattle.std.proofs.lemmas.Bool.Decides.{nat_tests}
use Rattle.std.proofs.lemmas.Result.{OkIff-at_err}
use Rattle.std.proofs.lemmas.Str.Parse.{numerals_by_value, parse_digits, tells_all_ascii_digits}
use Rattle.vdo_words.proofs.NumberLaws.{greatest-fits, number-above}
use Rattle.vdo_words.proofs.options.number_of.Goals as goal

pub returns-in_default : goal.returns-in_default
returns-in_default c =
    let text = c.args.text.now in
    let digits : all_ascii_digits text ≡ true = search rules in
    let nonzero : (length text == 0) ≡ false = sym c.is_empty.ensures ∙ c.if-is_empty.false in
    let some : 0 < length text = grind (arith, nat_tests, nonzero) in
    let told = parse_digits (numerals_by_value _ tells_all_ascii_digits) 64 text c.parse.result c.parse.ensures.value.0 digits in
    elim (cases_lt (digits_value 10 text) (2 ^ 64)) [
      | inl small ↦ absurd (OkIff-at_err c.parse.result _ _ c.in_default.field-0 told c.in_default.is (some, small))
      | inr large ↦ number-above c.args.name text (omega (arith, large, greatest-fits c.args.name))
    ]
