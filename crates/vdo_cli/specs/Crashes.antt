-- How a crash ends: a script is run on a copy of the device that is cut off, and one of the images is looked at that a stop may
-- leave there.
use Rattle.std.specs.Prelude.{ℕ, ◌≡◌, ◌⊎◌, ◌++◌, ◌<◌, ◌≤◌, Bool, true, IsTrue, List, [], length, map, Option, Some, None, IsSome, Ok}
use Rattle.audit.specs.declared.forms.Report.{Report}
use Rattle.blk_base.specs.declared.geometry.Geometry.{Geometry}
use Rattle.blk_base.specs.declared.opened.Opened.{Opened}
use Rattle.blk_base.specs.declared.place.Lba.{Lba}
use Rattle.command_text.specs.Crashes.{head_text, stop_text, values_text}
use Rattle.command_text.specs.declared.crashes.CrashStop.{CrashStop}
use Rattle.crash_images.specs.Addresses.{AreAddresses}
use Rattle.crash_images.specs.Copies.{IsCopy}
use Rattle.crash_images.specs.Copies.{KeepsImage as CopyKeepsImage}
use Rattle.crash_images.specs.Cuts.{IsCutOff, stop_of}
use Rattle.crash_images.specs.Shows.{IsPickShown, PickFails}
use Rattle.crash_images.specs.Values.{value_in}
use Rattle.crash_images.specs.declared.shown.Shown.{Shown}
use Rattle.disk_model.specs.declared.call.Call.{Call}
use Rattle.disk_model.specs.Images.{IsImage}
use Rattle.disk_model.specs.Log.{Blocks}
use Rattle.disk_model.specs.Memory.{Memory, seen_of}
use Rattle.disk_model.specs.Seen.{Seen}
use Rattle.disk_model.specs.Trust.{Trust, trust_of}
use Rattle.disk_model.specs.Since.{IsUntouched, StopsBefore}
use Rattle.disk_model.specs.Streams.{SinkSeen}
use Rattle.image_layout.specs.declared.fault.LayoutFault.TheVariants.{TooLargeToCrash}
use Rattle.image_model.specs.Sound.{IsSound}
use Rattle.image_model.specs.declared.fault.ImageFault.{ImageFault}
use Rattle.rebuild.specs.declared.forms.Recovered.{Recovered}
use Rattle.recovery_laws.specs.Kept.{image_in}
use Rattle.stream_text.specs.WholeScript.{whole_script}
use Rattle.vdo_model.specs.Scripts.{Script}
use Rattle.vdo_model.specs.declared.report.RunReport.{RunReport}
use Rattle.vdo_words.specs.declared.commands.CrashOptions.{CrashOptions}
use Rattle.vdo_cli.specs.declared.fault.Fault.{Fault}
use Rattle.vdo_cli.specs.declared.fault.Fault.TheVariants as fault
use Rattle.vdo_cli.specs.declared.words.Course.{Course}
use Rattle.vdo_cli.specs.declared.words.Served.{Served}
use Rattle.vdo_cli.specs.declared.words.Served.TheVariants as served
use Rattle.vdo_cli.specs.Commands.{course_of}
use Rattle.vdo_cli.specs.Endings.{ScriptFails, ServesRequests}
use Rattle.vdo_cli.specs.Flushes.{BehindFlush, IsNotFlushed}
use Rattle.vdo_cli.specs.Inspections.{told_as}
use Rattle.vdo_cli.specs.Openings.{IsUnready}
use Rattle.vdo_cli.specs.Outsides.{InputSetting, Inputs, Outcome, Outside, PutsOrFails, Refuses, Setting, Tells, input_setting_of, inputs_of, no_report}
use Rattle.vdo_cli.specs.Texts.{fault_status, fault_text}

-- The copy.

-- a device in memory tells, and is honest
abbrev pub of_memory : Trust
of_memory = trust_of true true

-- the device has few enough blocks, and they were copied: the one image of an honest device is that of the copy
pub record IsWholeCopy (trust : Trust) (before after : Seen) (copy : Memory) : Type 0 where
  pub few : before.size ≤ 65536
  pub copied : IsCopy trust before after copy
  pub keeps : CopyKeepsImage trust before (seen_of copy)

-- why there is no copy: the device has too many blocks, and then it wasn't called; a read failed; or there was no memory
abbrev pub CopyFails : Trust → Seen → Seen → Fault → Type 0
CopyFails trust before after (fault.Layout why) = (why ≡ TooLargeToCrash before.size) × (65536 < before.size) × (after ≡ before)
CopyFails trust before after fault.Device = StopsBefore trust 0 before.size before after
CopyFails trust before after fault.Memory = Unit {0}
CopyFails trust before after other = ⊥

-- The run on the copy.

-- a session served the requests
pub record IsServed (trust : Trust) (course : Course) (report : RunReport) (before after : Seen) : Type 0 where
  pub found : Recovered
  pub start : Opened
  pub serves : ServesRequests trust course found start report before after

-- what is reported of requests of which none was begun
abbrev pub unserved : Script → RunReport
unserved script = record no_report { requests = script }

-- the image wasn't recovered or opened, so none was begun
pub record IsNotServed (trust : Trust) (report : RunReport) (before after : Seen) : Type 0 where
  pub recovered : Option ℕ
  pub why : ImageFault
  pub unready : IsUnready trust before after recovered why
  pub report_is : report ≡ unserved report.requests

-- they were served, or none was begun
abbrev pub IsServedOrNot : Trust → Course → RunReport → Seen → Seen → Type 0
IsServedOrNot trust course report before after = IsServed trust course report before after ⊎ IsNotServed trust report before after

-- the copy was flushed, and then as above; or the flush failed, and none was begun
abbrev pub RunsFlushed : Trust → Course → RunReport → Seen → Seen → Type 0
RunsFlushed trust course report before after =
    BehindFlush trust.tells before (λ (flushed : Seen). IsServedOrNot trust course report flushed after)
    ⊎ (IsNotFlushed trust.tells before after × (report ≡ unserved report.requests))

-- so the requests were run on a copy, of which all calls behind the first so many failed
pub record IsTried (options : CrashOptions) (report : RunReport) (first copy : Memory) : Type 0 where
  pub runs : RunsFlushed of_memory (course_of options.schedule options.core) report (seen_of first) (seen_of copy)
  pub cut : IsCutOff options.after copy

-- the device was copied, and the script was read to its end and run on the copy
pub record RunsOnCopy (s : InputSetting) (options : CrashOptions) (report : RunReport) (before after : Inputs) (copy : Memory) : Type 0 where
  pub first : Memory
  pub copied : IsWholeCopy s.device before.device after.device first
  pub script_is : IsTrue s.source_tells → whole_script before.source.left ≡ Ok report.requests
  pub to_its_end : IsTrue s.source_tells → after.source.left ≡ []
  pub tried : IsTried options report first copy

-- why nothing was run: there is no copy, and then the script wasn't looked at; or the script can't be served
abbrev pub CrashFails : InputSetting → Inputs → Inputs → Fault → Type 0
CrashFails s before after why =
    (CopyFails s.device before.device after.device why × (after.source ≡ before.source))
    ⊎ ((before.device.size ≤ 65536) × ScriptFails s.source_tells before.source after.source why)

-- How it ends.

-- the text of what an image shows
abbrev pub shown_text : CrashStop → Shown → List ℕ
shown_text stop shown = head_text stop shown.recovery ++ values_text shown.values.items shown.audit

-- that of one that is refused
abbrev pub not_shown_text : CrashStop → Fault → List ℕ
not_shown_text stop why = stop_text stop ++ fault_text why

-- a text with an audit is put: where blocks differ, with status 6 and their number, also where the sink failed; else with
-- status 0, or with 7 where the sink failed
abbrev pub TellsAudit : Bool → List ℕ → Report → ℕ → Option Fault → SinkSeen → SinkSeen → Type 0
TellsAudit tells text report status (Some (fault.Differs count)) before after =
    (1 ≤ count) × (count ≡ length report.differs.items) × (status ≡ 6) × PutsOrFails tells text before after
TellsAudit tells text report status ended before after = (report.differs.items ≡ []) × Tells tells text status ended before after

-- the picked image was looked at, and what it shows was put
pub record IsCrashTold (s : Setting) (options : CrashOptions) (before after : Outside) (outcome : Outcome) (copy : Memory) : Type 0 where
  pub run : RunsOnCopy (input_setting_of s) options outcome.report (inputs_of before) (inputs_of after) copy
  pub shown : Shown
  pub shows : IsPickShown copy options.image outcome.report.requests shown
  pub told : TellsAudit s.sink_tells (shown_text (stop_of options.after copy.log) shown) shown.audit outcome.status outcome.fault before.sink after.sink

-- it is refused, and its fault's line was put
pub record IsCrashRefused (s : Setting) (options : CrashOptions) (before after : Outside) (outcome : Outcome) (copy : Memory) : Type 0 where
  pub run : RunsOnCopy (input_setting_of s) options outcome.report (inputs_of before) (inputs_of after) copy
  pub why : ImageFault
  pub cause : PickFails copy options.image why
  pub fault_is : outcome.fault ≡ Some (told_as why)
  pub status_is : outcome.status ≡ fault_status (told_as why)
  pub puts : PutsOrFails s.sink_tells (not_shown_text (stop_of options.after copy.log) (told_as why)) before.sink after.sink

-- nothing was run
pub record IsNotRun (s : Setting) (before after : Outside) (outcome : Outcome) : Type 0 where
  pub why : Fault
  pub fault_is : outcome.fault ≡ Some why
  pub cause : CrashFails (input_setting_of s) (inputs_of before) (inputs_of after) why
  pub refuses : Refuses s.sink_tells why outcome.status outcome.report before.sink after.sink

-- there is a copy where the script was run on it, and then the picked image was told or refused; else nothing was run
abbrev pub EndsCrashBy : Option Memory → Setting → CrashOptions → Outside → Outside → Outcome → Type 0
EndsCrashBy (Some copy) s options before after outcome = IsCrashTold s options before after outcome copy ⊎ IsCrashRefused s options before after outcome copy
EndsCrashBy None s options before after outcome = IsNotRun s before after outcome

-- how a crash ends; and the device was read and no more
pub record EndsCrash (s : Setting) (options : CrashOptions) (before after : Outside) (outcome : Outcome) : Type 0 where
  pub ends : EndsCrashBy outcome.copy s options before after outcome
  pub untouched : IsUntouched s.device.tells before.device after.device

-- Of a sound image.

-- A picked image, which a stop may leave at a moment of the run on the copy, is sound and of these sizes; what it shows are its
-- values at the addresses of the script, and that no block differs.
pub record ShowsSound (g : Geometry) (script : Script) (copy : Memory) (picked : Blocks) (shown : Shown) : Type 0 where
  pub newer : List Call
  pub older : List Call
  pub parts : copy.log ≡ newer ++ older
  pub may_stand : IsImage copy.opening older picked
  pub sound : IsSound picked
  pub sizes : sound.head.geometry ≡ g
  pub addresses : List Lba
  pub named : AreAddresses script g.logical addresses
  pub values : shown.values.items ≡ map (value_in (image_in picked sound)) addresses
  pub none : shown.audit.differs.items ≡ []

-- the script was run on a copy, and what was picked was told
pub record IsToldWhole (script : Script) (outcome : Outcome) : Type 0 where
  pub ended : outcome.fault ≡ None
  pub status : outcome.status ≡ 0
  pub requests : outcome.report.requests ≡ script
  pub copied : IsSome outcome.copy

-- or memory ran out
abbrev pub IsCrashComplete : Script → Outcome → Type 0
IsCrashComplete script outcome = IsToldWhole script outcome ⊎ ((outcome.fault ≡ Some fault.Memory) × (outcome.status ≡ 5))

-- Which commands make a copy.

-- all that are served but a crash
abbrev pub IsOnDevice : Option Served → Type 0
IsOnDevice (Some (served.Crash options)) = ⊥
IsOnDevice other = Unit {0}

-- a command that is no crash has none
abbrev pub HasCopyOf : Option Served → Option Memory → Type 0
HasCopyOf (Some (served.Crash options)) copy = Unit {0}
HasCopyOf other copy = copy ≡ None
