-- The parts of a line.
use Rattle.std.specs.Prelude.{ℕ, List, decimal}
use Rattle.stream_text.specs.Runs.{runs_of, runs_text}
use Rattle.command_text.specs.declared.pieces.Piece.{Piece}
use Rattle.command_text.specs.declared.pieces.Piece.TheVariants.{Word, U8, U32, U64, U128, Usize, Runs}

-- a word as it is, a number in decimal, bytes as their longest runs
abbrev pub piece_text : Piece → List ℕ
piece_text (Word text) = text.now
piece_text (U8 n) = decimal n
piece_text (U32 n) = decimal n
piece_text (U64 n) = decimal n
piece_text (U128 n) = decimal n
piece_text (Usize n) = decimal n
piece_text (Runs bytes) = runs_text (runs_of bytes.now)
