-- What a line asks for.
use Rattle.std.specs.Prelude.{ℕ, ◌≡◌, ◌==◌, false, List, [], ◌∷◌, codes, bytes_eq, Result, Ok, Err, if◌then◌else◌}
use Rattle.std.specs.List.{slice_split}
use Rattle.blk_base.specs.declared.request.Request.TheVariants.{Read, Write, Flush}
use Rattle.stream_text.specs.LineFaults.{both}
use Rattle.stream_text.specs.LineWords.{stream_number, address_number, count_number, extent_of, block_of_word}
use Rattle.stream_text.specs.declared.refusal.LineFault.{LineFault}
use Rattle.stream_text.specs.declared.refusal.LineFault.TheVariants.{Word}
use Rattle.stream_text.specs.declared.refusal.AddFault.{AddFault}
use Rattle.stream_text.specs.declared.refusal.AddFault.TheVariants as stop
use Rattle.stream_text.specs.declared.asked.Asked.{Asked}
use Rattle.stream_text.specs.declared.asked.Asked.TheVariants.{One, Discards}

abbrev pub flush_asked : Result ℕ LineFault → Result Asked LineFault
flush_asked (Ok stream) = Ok (One stream Flush)
flush_asked (Err fault) = Err fault

abbrev pub read_asked : Result (ℕ × ℕ) LineFault → Result Asked LineFault
read_asked (Ok (stream, at)) = Ok (One stream (Read (record { 0 = at })))
read_asked (Err fault) = Err fault

abbrev pub write_asked : Result (ℕ × (ℕ × List ℕ)) LineFault → Result Asked LineFault
write_asked (Ok (stream, (at, block))) = Ok (One stream (Write (record { 0 = at }) block false))
write_asked (Err fault) = Err fault

abbrev pub discard_asked : Result (ℕ × (ℕ × ℕ)) LineFault → Result Asked LineFault
discard_asked (Ok (stream, (at, last))) = Ok (Discards stream at last)
discard_asked (Err fault) = Err fault

-- what these words ask for
abbrev pub asked_of_words : List (List ℕ) → Result Asked LineFault
asked_of_words (stream ∷ command ∷ []) = if bytes_eq command (codes "flush") then flush_asked (stream_number stream) else Err Word
asked_of_words (stream ∷ command ∷ address ∷ []) =
    if bytes_eq command (codes "read") then read_asked (both (stream_number stream) (address_number address)) else Err Word
asked_of_words (stream ∷ command ∷ address ∷ last ∷ []) =
    if bytes_eq command (codes "write") then write_asked (both (stream_number stream) (both (address_number address) (block_of_word last))) else
    (if bytes_eq command (codes "discard") then discard_asked (both (stream_number stream) (extent_of (both (address_number address) (count_number last)))) else Err Word)
asked_of_words words = Err Word

-- the words: what stands between single spaces
abbrev pub words_of : List ℕ → List (List ℕ)
words_of line = slice_split (λ byte. byte == 32) line

-- what a line asks for
abbrev pub asked_of_line : List ℕ → Result Asked LineFault
asked_of_line line = asked_of_words (words_of line)

-- what is said of a line is what it asks for, or its first fault; that memory ran out says nothing of the line
abbrev pub SaysAsked : Result Asked AddFault → Result Asked LineFault → Type 0
SaysAsked (Ok asked) asks = asks ≡ Ok asked
SaysAsked (Err (stop.Fault fault)) asks = asks ≡ Err fault
SaysAsked (Err stop.Memory) asks = Unit {0}

-- the stream that is asked for
abbrev pub stream_asked : Asked → ℕ
stream_asked (One stream request) = stream
stream_asked (Discards stream at last) = stream
