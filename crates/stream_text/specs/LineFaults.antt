-- Which fault of a line is named.
use Rattle.std.specs.Prelude.{ℕ, nat_le, Result, Ok, Err, if◌then◌else◌}
use Rattle.stream_text.specs.declared.refusal.LineFault.{LineFault}
use Rattle.stream_text.specs.declared.refusal.LineFault.TheVariants.{TooLong, Word, Number, Stream, Range, BlockLength, TooMany}

-- the place of a fault in the order in which a line is judged
abbrev pub rank : LineFault → ℕ
rank TooLong = 0
rank Word = 1
rank Number = 2
rank Stream = 3
rank Range = 4
rank BlockLength = 5
rank TooMany = 6

-- of two faults of a line the one that is judged first
abbrev pub first_of : LineFault → LineFault → LineFault
first_of one other = if nat_le (rank one) (rank other) then one else other

-- two values, or that fault of theirs which is judged first
abbrev pub both : {A B : Type 0} → Result A LineFault → Result B LineFault → Result (A × B) LineFault
both (Ok a) (Ok b) = Ok (a, b)
both (Ok a) (Err fault) = Err fault
both (Err fault) (Ok b) = Err fault
both (Err one) (Err other) = Err (first_of one other)
