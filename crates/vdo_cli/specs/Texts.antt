-- The texts and the statuses of a run.
use Rattle.std.specs.List.{list_any}
use Rattle.std.specs.Prelude.{ℕ, ◌++◌, Bool, true, false, List, [], Option, Some, None, is_some, option_map, codes, decimal, if◌then◌else◌}
use Rattle.blk_base.specs.declared.request.Answer.{Answer as Reply}
use Rattle.blk_base.specs.declared.request.Answer.TheVariants as reply
use Rattle.command_text.specs.Audits.{differs_text}
use Rattle.command_text.specs.Faults.{image_fault_line}
use Rattle.command_text.specs.Formats.{layout_line}
use Rattle.command_text.specs.Growths.{grow_fault_line}
use Rattle.grow_image.specs.declared.fault.GrowFault.{GrowFault}
use Rattle.grow_image.specs.declared.fault.GrowFault.TheVariants as grow_fault
use Rattle.command_text.specs.Parts.{recovered_text}
use Rattle.command_text.specs.Runs.{run_text}
use Rattle.command_text.specs.declared.parts.DamagedPlace.{DamagedPlace}
use Rattle.command_text.specs.declared.parts.DamagedPlace.TheVariants as place
use Rattle.command_text.specs.declared.runs.RunNotes.{RunNotes}
use Rattle.stream_text.specs.declared.refusal.LineFault.{LineFault}
use Rattle.stream_text.specs.declared.refusal.LineFault.TheVariants as line_fault
use Rattle.vdo_model.specs.declared.report.Damage.{Damage}
use Rattle.vdo_model.specs.declared.report.Damage.TheVariants as damage
use Rattle.vdo_model.specs.declared.report.DeskLine.{DeskLine}
use Rattle.vdo_model.specs.declared.report.DeskLine.TheVariants.{Begin, Answer}
use Rattle.vdo_model.specs.declared.report.RunReport.{RunReport}
use Rattle.vdo_cli.specs.declared.fault.Fault.{Fault}
use Rattle.vdo_cli.specs.declared.fault.Fault.TheVariants as fault

-- what is wrong with a line
abbrev pub line_fault_text : LineFault → List ℕ
line_fault_text line_fault.TooLong = codes "too long"
line_fault_text line_fault.Word = codes "word"
line_fault_text line_fault.Number = codes "number"
line_fault_text line_fault.Stream = codes "stream"
line_fault_text line_fault.Range = codes "range"
line_fault_text line_fault.BlockLength = codes "block length"
line_fault_text line_fault.TooMany = codes "too many"

-- the line of a script that is refused
abbrev pub script_fault_line : ℕ → List ℕ → List ℕ
script_fault_line line why = codes "script line " ++ decimal line ++ (codes ": " ++ why ++ codes "\n")

-- the line of a fault
abbrev pub fault_text : Fault → List ℕ
fault_text fault.Usage = codes "usage\n"
fault_text (fault.Script why) = script_fault_line why.line (line_fault_text why.fault)
fault_text (fault.Layout why) = layout_line why
fault_text fault.Device = codes "device fault\n"
fault_text (fault.Image why) = image_fault_line why
fault_text fault.Memory = codes "no memory\n"
fault_text (fault.Differs count) = differs_text count
fault_text (fault.Grow why) = grow_fault_line why
fault_text fault.Read = codes "read fault\n"
fault_text fault.Sink = []

-- the status of an image that didn't grow: its sizes can't be had, or it has a fault
abbrev pub grow_status : GrowFault → ℕ
grow_status (grow_fault.Image why) = 4
grow_status (grow_fault.Mapped at) = 4
grow_status (grow_fault.Smaller field) = 8
grow_status (grow_fault.Layout why) = 8

-- and behind what was recovered before, where no session was begun
abbrev pub refusal_text : Option ℕ → Fault → List ℕ
refusal_text recovered why = recovered_text recovered ++ fault_text why

-- the status of a fault
abbrev pub fault_status : Fault → ℕ
fault_status fault.Usage = 2
fault_status (fault.Script why) = 2
fault_status (fault.Layout why) = 8
fault_status fault.Device = 3
fault_status (fault.Image why) = 4
fault_status fault.Memory = 5
fault_status (fault.Differs count) = 6
fault_status (fault.Grow why) = grow_status why
fault_status fault.Read = 7
fault_status fault.Sink = 7

-- an answer that says that the device failed, or that the session was stopped
abbrev pub is_lost : Reply → Bool
is_lost reply.Stopped = true
is_lost reply.ReadFault = true
is_lost reply.Ok = false
is_lost (reply.Bytes bytes) = false
is_lost reply.Range = false
is_lost reply.NoSpace = false
is_lost reply.Full = false
is_lost reply.Damaged = true

-- one that says that there was no room
abbrev pub is_full : Reply → Bool
is_full reply.Full = true
is_full reply.Stopped = false
is_full reply.ReadFault = false
is_full reply.Ok = false
is_full (reply.Bytes bytes) = false
is_full reply.Range = false
is_full reply.NoSpace = true
is_full reply.Damaged = false

-- a line of the desk log that says so
abbrev pub lost_line : DeskLine → Bool
lost_line (Begin w) = false
lost_line (Answer w a) = is_lost a

abbrev pub full_line : DeskLine → Bool
full_line (Begin w) = false
full_line (Answer w a) = is_full a

-- a request was answered so
abbrev pub some_lost : List DeskLine → Bool
some_lost desk = list_any lost_line desk

abbrev pub some_full : List DeskLine → Bool
some_full desk = list_any full_line desk

-- the status of a session that met damage, or of which the device failed, whatever becomes of its text
abbrev pub struck_status : RunReport → Option ℕ
struck_status report = if is_some report.damage then Some 4 else (if some_lost report.desk then Some 3 else None)

-- that of any other, whose text was put
abbrev pub served_status : List DeskLine → ℕ
served_status desk = if some_full desk then 1 else 0

-- the place of a damage, as it is put
abbrev pub damaged_place : Damage → DamagedPlace
damaged_place (damage.Page at fault) = place.Page at
damaged_place (damage.Stray at count) = place.Count at

-- what is put beside the answers of a session: how many entries were recovered before, its damage, and how much of the space
-- is used
abbrev pub session_notes : Option ℕ → RunReport → RunNotes
session_notes recovered report = record { recovered = recovered; damage = option_map damaged_place report.damage; space = Some (record { used = report.used; total = report.total }) }

-- the text of a session
abbrev pub session_text : Option ℕ → RunReport → List ℕ
session_text recovered report = run_text report.requests report.desk report.places (session_notes recovered report)
