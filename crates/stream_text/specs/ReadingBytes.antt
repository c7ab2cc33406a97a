-- A script that is read in part: the streams so far, and the beginning of a line.
use Rattle.std.specs.Prelude.{ℕ, ◌≡◌, ◌≢◌, ◌≤◌, ◌+◌, List, ◌++◌, length, Result, Ok, Err}
use Rattle.std.specs.List.{AllByRecursion}
use Rattle.blk_base.specs.declared.request.Request.{Request}
use Rattle.vdo_model.specs.Scripts.{IsServed, Script}
use Rattle.stream_text.specs.StreamRequests.{count_of}
use Rattle.stream_text.specs.WholeScript.{lines_with_ends, script_from}
use Rattle.stream_text.specs.declared.refusal.LineFault.{LineFault}
use Rattle.stream_text.specs.declared.refusal.ScriptFault.{ScriptFault}
use Rattle.stream_text.specs.declared.refusal.ReadScript.{ReadScript}
use Rattle.stream_text.specs.declared.refusal.ReadScript.TheVariants as read
use Rattle.stream_text.specs.declared.refusal.AddFault.{AddFault}
use Rattle.stream_text.specs.declared.refusal.AddFault.TheVariants as stop

-- what the whole script is, if these bytes are the rest
abbrev pub goes_on_from : ℕ → ℕ → Script → List ℕ → List ℕ → Result Script ScriptFault
goes_on_from number before script line rest = script_from number before script (lines_with_ends (line ++ rest))

-- every request of every stream
abbrev pub EachRequest : (Request → Type 0) → Script → Type 0
EachRequest P script = AllByRecursion (AllByRecursion P) script

-- what is kept while a script is read
pub record IsReadingBytes (count number before : ℕ) (script : Script) (line : List ℕ) : Type 0 where
  pub rows : length script ≡ 16
  pub counted : count ≡ count_of script
  pub few : count ≤ 65536
  pub short : length line ≤ 32768
  pub one_line : AllByRecursion (λ byte. byte ≢ 10) line
  pub within : before + length line ≤ 134217728
  pub numbered : number ≤ before + 1
  pub writes : EachRequest IsServed script

-- what a refusal says of the script
abbrev pub RefusesScript : ReadScript → Result Script ScriptFault → Type 0
RefusesScript (read.Script refusal) script = script ≡ Err refusal
RefusesScript read.Read script = Unit {0}
RefusesScript read.Memory script = Unit {0}

-- why a line adds nothing
abbrev pub StopsLine : AddFault → Result Script LineFault → Type 0
StopsLine (stop.Fault fault) script = script ≡ Err fault
StopsLine stop.Memory script = Unit {0}

-- the streams have what a line asks for, and so many requests
pub record IsAdded (after : Result Script LineFault) (new : Script) (count : ℕ) : Type 0 where
  pub same : after ≡ Ok new
  pub counted : count ≡ count_of new
  pub few : count ≤ 65536

-- what is said of a line that adds nothing
abbrev pub refusal_said : ℕ → AddFault → ReadScript
refusal_said number (stop.Fault fault) = read.Script (record { line = number; fault = fault })
refusal_said number stop.Memory = read.Memory

-- 16 streams of at most 65,536 requests in all; each write has a whole block, and isn't forced
pub record IsWholeScript (script : Script) : Type 0 where
  pub rows : length script ≡ 16
  pub few : count_of script ≤ 65536
  pub writes : EachRequest IsServed script
