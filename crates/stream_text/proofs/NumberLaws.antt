-- The parts of a text between separators, and the number that digits write, told up to a greatest one.
use Rattle.std.specs.Prelude.{ℕ, ◌≡◌, ◌≢◌, ◌<◌, ◌≤◌, ◌+◌, ◌*◌, ◌-◌, ◌==◌, zero, suc, min, nat_lt, Bool, true, false, List, [], ◌∷◌, length, take, drop, get_or, Option, Some, None, if◌then◌else◌, refl}
use Rattle.std.specs.List.{slice_split, onto_first}
use Rattle.std.specs.Char.{digit_value, is_ascii_digit}
use Rattle.std.specs.Str.{all_ascii_digits}
use Rattle.std.specs.Str.Parse.{digits_value_after}
use Rattle.std.proofs.Common.{◌∙◌, ap, arith, inl, inr}
use Rattle.std.proofs.lemmas.Bool.{cases_lt}
use Rattle.std.proofs.lemmas.Bool.Decides.{eqb_tells, nat_tests}
use Rattle.stream_text.specs.LineWords.{number_of, least_number}

-- the parts of a text
abbrev pub parts_of : ℕ → List ℕ → List (List ℕ)
parts_of separator bytes = slice_split (λ byte. byte == separator) bytes

parts_of-other : (separator byte : ℕ) (rest : List ℕ) → byte ≢ separator → parts_of separator (byte ∷ rest) ≡ onto_first byte (parts_of separator rest)
parts_of-other separator byte rest ne = elim (eqb_tells byte separator) [ inl same ↦ absurd (ne same.1) | inr other ↦ rw other.0 ]

-- no separator
pub parts_of-whole : (separator : ℕ) (bytes : List ℕ) → ((k : ℕ) → k < length bytes → get_or bytes k 0 ≢ separator) → parts_of separator bytes ≡ bytes ∷ []
parts_of-whole separator [] none = refl
parts_of-whole separator (byte ∷ bytes) none =
    parts_of-other separator byte bytes (none 0 (omega arith))
    ∙ ap (onto_first byte) (parts_of-whole separator bytes (λ k below. none (suc k) (omega arith)))

-- the first separator
pub parts_of-cut : (separator : ℕ) (bytes : List ℕ) (at : ℕ) → at < length bytes → ((k : ℕ) → k < at → get_or bytes k 0 ≢ separator)
    → get_or bytes at 0 ≡ separator → parts_of separator bytes ≡ take at bytes ∷ parts_of separator (drop (suc at) bytes)
parts_of-cut separator [] at within none found = absurd (omega arith)
parts_of-cut separator (byte ∷ bytes) zero within none found = elim (eqb_tells byte separator) [ inl same ↦ rw same.0 refl | inr other ↦ absurd (other.1 found) ]
parts_of-cut separator (byte ∷ bytes) (suc at) within none found =
    parts_of-other separator byte bytes (none 0 (omega arith))
    ∙ ap (onto_first byte) (parts_of-cut separator bytes at (omega arith) (λ k below. none (suc k) (omega arith)) found)

-- the number that these digits write behind those of a number, told up to a greatest one
abbrev pub number_after : ℕ → ℕ → List ℕ → Option ℕ
number_after most value digits = if all_ascii_digits digits then Some (min (digits_value_after 10 value digits) most) else None

pub number-none : (most : ℕ) → least_number most (number_of []) ≡ None
number-none most = refl

told : (most : ℕ) (word : List ℕ) (value : ℕ) (taken : Bool) → least_number most (if taken then Some value else None) ≡ (if taken then Some (min value most) else None)
told most word value true = refl
told most word value false = refl

pub number-start : (most : ℕ) (word : List ℕ) → 0 < length word → least_number most (number_of word) ≡ number_after most 0 word
number-start most [] some = absurd (omega arith)
number-start most (byte ∷ word) some =
    let first : nat_lt 0 (length (byte ∷ word)) ≡ true = grind (arith, nat_tests) in
    rw first (told most (byte ∷ word) (digits_value_after 10 0 (byte ∷ word)) (all_ascii_digits (byte ∷ word)))

value_grows : (value : ℕ) (digits : List ℕ) → value ≤ digits_value_after 10 value digits
value_grows value [] = omega arith
value_grows value (byte ∷ digits) = omega (arith, value_grows (value * 10 + digit_value byte) digits)

capped : (most value : ℕ) (digits : List ℕ) → min (digits_value_after 10 value digits) most ≡ min (digits_value_after 10 (min value most) digits) most
capped most value digits =
    elim (cases_lt value most) [
      | inl small ↦ let same : min value most ≡ value = omega arith in rw same refl
      | inr large ↦
          let same : min value most ≡ most = omega arith in
          let one = value_grows value digits in
          let other = value_grows most digits in
          rw same (omega (arith, one, other, large))
    ]

pub number-digit : (most value byte : ℕ) (digits : List ℕ) → is_ascii_digit byte ≡ true
    → number_after most value (byte ∷ digits) ≡ number_after most (min (value * 10 + (byte - 48)) most) digits
number-digit most value byte digits digit =
    let same : digit_value byte ≡ byte - 48 = grind (arith, nat_tests) in
    rw (digit, same) (ap (λ (n : ℕ). if all_ascii_digits digits then Some n else None) (capped most (value * 10 + (byte - 48)) digits))

pub number-other : (most value byte : ℕ) (digits : List ℕ) → is_ascii_digit byte ≡ false → number_after most value (byte ∷ digits) ≡ None
number-other most value byte digits other = rw other refl
