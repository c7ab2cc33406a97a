-- What one word of a line says: a number, or the bytes of a block.
use Rattle.std.specs.Prelude.{ℕ, ◌+◌, ◌-◌, ◌&&◌, ◌==◌, nat_lt, nat_le, List, [], ◌∷◌, ◌++◌, length, replicate, min, Option, Some, None, Result, Ok, Err, if◌then◌else◌}
use Rattle.std.specs.List.{slice_split}
use Rattle.std.specs.Str.{all_ascii_digits}
use Rattle.std.specs.Str.Parse.{digits_value}
use Rattle.hex.specs.Hex.{decode_sized}
use Rattle.hex.specs.declared.error.FromHexError.{FromHexError}
use Rattle.stream_text.specs.Runs.{Run}
use Rattle.stream_text.specs.LineFaults.{both}
use Rattle.stream_text.specs.declared.refusal.LineFault.{LineFault}
use Rattle.stream_text.specs.declared.refusal.LineFault.TheVariants.{Word, Number, Stream, Range, BlockLength}

-- the number that one or more digits write
abbrev pub number_of : List ℕ → Option ℕ
number_of word = if nat_lt 0 (length word) && all_ascii_digits word then Some (digits_value 10 word) else None

-- a number, or this one if it is greater
abbrev pub least_number : ℕ → Option ℕ → Option ℕ
least_number most None = None
least_number most (Some n) = Some (min n most)

-- a number between these two, both included
abbrev pub within : ℕ → ℕ → LineFault → Option ℕ → Result ℕ LineFault
within least most fault None = Err Number
within least most fault (Some n) = if nat_le least n && nat_le n most then Ok n else Err fault

abbrev pub stream_number : List ℕ → Result ℕ LineFault
stream_number word = within 0 15 Stream (number_of word)

abbrev pub address_number : List ℕ → Result ℕ LineFault
address_number word = within 0 4294967295 Range (number_of word)

abbrev pub count_number : List ℕ → Result ℕ LineFault
count_number word = within 1 65536 Range (number_of word)

abbrev pub run_number : List ℕ → Result ℕ LineFault
run_number word = within 1 4096 Range (number_of word)

-- the first and the last of so many addresses, if the last is one too
abbrev pub extent_of : Result (ℕ × ℕ) LineFault → Result (ℕ × ℕ) LineFault
extent_of (Ok (at, count)) = if nat_le (at + count - 1) 4294967295 then Ok (at, at + count - 1) else Err Range
extent_of (Err fault) = Err fault

-- the byte that was decoded
abbrev pub first_byte : Result (List ℕ) FromHexError → Option ℕ
first_byte (Ok []) = None
first_byte (Ok (byte ∷ bytes)) = Some byte
first_byte (Err e) = None

-- a run: its form is judged before its length
abbrev pub run_of : Result ℕ LineFault → Option ℕ → Result Run LineFault
run_of length None = Err Word
run_of (Ok count) (Some byte) = Ok (record { count = count; byte = byte })
run_of (Err fault) (Some byte) = Err fault

-- what stands around the asterisk: a length, and two hexadecimal digits
abbrev pub run_of_pieces : List (List ℕ) → Result Run LineFault
run_of_pieces (count ∷ digits ∷ []) = run_of (run_number count) (first_byte (decode_sized digits 1))
run_of_pieces pieces = Err Word

-- `3*ff`
abbrev pub run_of_part : List ℕ → Result Run LineFault
run_of_part part = run_of_pieces (slice_split (λ byte. byte == 42) part)

-- the bytes of a run and those behind it
abbrev pub run_before : Result (Run × List ℕ) LineFault → Result (List ℕ) LineFault
run_before (Ok (run, bytes)) = Ok (replicate run.count run.byte ++ bytes)
run_before (Err fault) = Err fault

-- the bytes of some runs
abbrev pub bytes_of_parts : List (List ℕ) → Result (List ℕ) LineFault
bytes_of_parts [] = Ok []
bytes_of_parts (part ∷ parts) = run_before (both (run_of_part part) (bytes_of_parts parts))

-- as many bytes as a block has
abbrev pub block_of_bytes : Result (List ℕ) LineFault → Result (List ℕ) LineFault
block_of_bytes (Ok bytes) = if length bytes == 4096 then Ok bytes else Err BlockLength
block_of_bytes (Err fault) = Err fault

-- `1*41+4095*00`
abbrev pub block_of_word : List ℕ → Result (List ℕ) LineFault
block_of_word word = block_of_bytes (bytes_of_parts (slice_split (λ byte. byte == 43) word))
