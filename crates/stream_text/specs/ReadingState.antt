-- A script that is read in part, as the code keeps it.
use Rattle.std.specs.Prelude.{ℕ, ◌≢◌, ◌+◌, List, length, Result}
use Rattle.std.specs.List.{AllByRecursion}
use Rattle.vdo_model.specs.Scripts.{Script}
use Rattle.stream_text.specs.ReadingBytes.{IsReadingBytes, goes_on_from}
use Rattle.stream_text.specs.declared.script_reader.ReadingBytes.{ReadingBytes as Reading}
use Rattle.stream_text.specs.declared.refusal.ScriptFault.{ScriptFault}

-- what is kept while a script is read
abbrev pub IsReading : Reading → Type 0
IsReading r = IsReadingBytes r.count r.number r.before r.streams r.line.items

-- what the whole script is, if these bytes are the rest
abbrev pub comes_to : Reading → List ℕ → Result Script ScriptFault
comes_to r rest = goes_on_from r.number r.before r.streams r.line.items rest

-- how many bytes were read
abbrev pub bytes_read : Reading → ℕ
bytes_read r = r.before + length r.line.items

-- no byte is a newline
abbrev pub OneLine : List ℕ → Type 0
OneLine line = AllByRecursion (λ byte. byte ≢ 10) line
