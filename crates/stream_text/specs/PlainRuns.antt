-- A word that begins with a run as it is mostly written: digits, an asterisk and two bytes.
use Rattle.std.specs.Prelude.{ℕ, ◌≡◌, ◌≢◌, ◌<◌, ◌≤◌, ◌+◌, ◌==◌, true, List, ◌∷◌, length, slice_index, Result}
use Rattle.std.specs.Char.{is_ascii_digit}
use Rattle.std.specs.List.{slice_split}
use Rattle.stream_text.specs.LineWords.{run_of_part}
use Rattle.stream_text.specs.Runs.{Run}
use Rattle.stream_text.specs.declared.refusal.LineFault.{LineFault}

-- a byte that is neither an asterisk nor a plus sign
abbrev pub IsNoSign : ℕ → Type 0
IsNoSign byte = (byte ≢ 42) × (byte ≢ 43)

-- an asterisk stands there, behind it two bytes that are no signs, and then a plus sign or nothing
pub record EndsPlainly (word : List ℕ) (at : ℕ) : Type 0 where
  pub room : at + 3 ≤ length word
  pub asterisk : slice_index word at ≡ 42
  pub one : IsNoSign (slice_index word (at + 1))
  pub two : IsNoSign (slice_index word (at + 2))
  pub last : at + 3 < length word → slice_index word (at + 3) ≡ 43

-- and before it digits alone
pub record BeginsPlainly (word : List ℕ) (at : ℕ) : Type 0 where
  pub digits : (k : ℕ) → k < at → is_ascii_digit (slice_index word k) ≡ true
  pub end : EndsPlainly word at

-- the first part of a word says this run, and the others are these
pub record BeginsWith (run : Result Run LineFault) (word : List ℕ) (others : List (List ℕ)) : Type 0 where
  pub part : List ℕ
  pub parts : slice_split (λ byte. byte == 43) word ≡ part ∷ others
  pub says : run ≡ run_of_part part
