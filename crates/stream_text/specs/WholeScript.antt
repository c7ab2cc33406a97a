-- Which requests a script has, said over all of its bytes.
use Rattle.std.specs.Prelude.{ℕ, ◌+◌, ◌==◌, ◌||◌, nat_lt, Bool, true, List, [], ◌∷◌, length, Result, Ok, Err, if◌then◌else◌}
use Rattle.std.specs.List.{onto_first}
use Rattle.vdo_model.specs.Scripts.{Script}
use Rattle.stream_text.specs.LineGrammar.{asked_of_line}
use Rattle.stream_text.specs.StreamRequests.{no_requests, with_asked}
use Rattle.stream_text.specs.declared.refusal.LineFault.{LineFault}
use Rattle.stream_text.specs.declared.refusal.LineFault.TheVariants.{TooLong}
use Rattle.stream_text.specs.declared.refusal.ScriptFault.{ScriptFault}

-- the lines with their newlines, which the last may lack
abbrev pub lines_with_ends : List ℕ → List (List ℕ)
lines_with_ends [] = []
lines_with_ends (byte ∷ bytes) = if byte == 10 then (byte ∷ []) ∷ lines_with_ends bytes else onto_first byte (lines_with_ends bytes)

-- a line without its newline
abbrev pub text_of : List ℕ → List ℕ
text_of [] = []
text_of (byte ∷ bytes) = if byte == 10 then [] else byte ∷ text_of bytes

-- empty lines and comments are passed over
abbrev pub is_passed_over : List ℕ → Bool
is_passed_over [] = true
is_passed_over (byte ∷ bytes) = byte == 35

-- the streams with what the text of a line asks for
abbrev pub after_text : Script → List ℕ → Result Script LineFault
after_text script text = if is_passed_over text then Ok script else with_asked script (asked_of_line text)

-- the line is longer than 32,768 bytes, or holds the first byte beyond a script's 134,217,728
abbrev pub is_too_long : ℕ → List ℕ → Bool
is_too_long before line = nat_lt 32768 (length (text_of line)) || nat_lt 134217728 (before + length line)

-- the streams with what a line asks for that stands behind so many bytes
abbrev pub after_line : ℕ → Script → List ℕ → Result Script LineFault
after_line before script line = if is_too_long before line then Err TooLong else after_text script (text_of line)

-- what the later lines make of the streams, or the refusal of this line
abbrev pub go_on : ℕ → Result Script LineFault → (Script → Result Script ScriptFault) → Result Script ScriptFault
go_on line (Ok script) later = later script
go_on line (Err fault) later = Err (record { line = line; fault = fault })

-- the streams with what these lines ask for; the first has this number, and stands behind so many bytes
abbrev pub script_from : ℕ → ℕ → Script → List (List ℕ) → Result Script ScriptFault
script_from number before script [] = Ok script
script_from number before script (line ∷ lines) =
    go_on number (after_line before script line) (λ (more : Script). script_from (number + 1) (before + length line) more lines)

-- the requests of the streams 0 to 15, or the first line with a fault
abbrev pub whole_script : List ℕ → Result Script ScriptFault
whole_script bytes = script_from 1 0 no_requests (lines_with_ends bytes)
