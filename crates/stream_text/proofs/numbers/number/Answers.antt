use Rattle.std.proofs.Common.{◌≡◌, ◌+◌, ◌*◌, ◌-◌, suc, min, get_or, drop, true, sym, ◌∙◌, ap, refl, arith}
use Rattle.std.specs.Char.{is_ascii_digit}
use Rattle.std.proofs.Math.Seq.{drop-cons}
use Rattle.stream_text.proofs.NumberLaws.{number_after, number-digit}
use Rattle.stream_text.proofs.numbers.number.Goals as goal

pub loop-byte-preserved : goal.loop-byte-preserved
loop-byte-preserved c =
    let word = c.args.word.now in
    let i = c.loop-byte.byte-index in
    let byte = get_or word i 0 in
    let digit : is_ascii_digit byte ≡ true = sym c.if-not-is_ascii_digit.ensures.value in
    let next : suc i ≡ i + 1 = omega arith in
    let least : c.min-value.result ≡ min (c.loop-byte.value * 10 + (byte - 48)) 4294967296 = omega (arith, c.min-value.ensures) in
    record {
      same = c.loop-byte.invariant.same
          ∙ ap (number_after 4294967296 c.loop-byte.value) (drop-cons word i 0 c.loop-byte-test.true)
          ∙ number-digit 4294967296 c.loop-byte.value byte (drop (suc i) word) digit
          ∙ rw (next, ← least) refl;
      small = omega (arith, least);
    }
