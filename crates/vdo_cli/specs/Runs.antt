-- What a run promises, by what its words ask for and how it ended.
use Rattle.std.specs.Prelude.{ℕ, ◌≡◌, ◌⊎◌, List, Option, Some, None}
use Rattle.rebuild.specs.declared.forms.Recovered.{Recovered}
use Rattle.vdo_cli.specs.declared.fault.Fault.{Fault}
use Rattle.vdo_cli.specs.declared.fault.Fault.TheVariants as fault
use Rattle.disk_model.specs.Seen.{Seen}
use Rattle.vdo_cli.specs.declared.words.Course.{Course}
use Rattle.vdo_cli.specs.declared.words.Change.{Change}
use Rattle.vdo_cli.specs.declared.words.Change.TheVariants as change
use Rattle.vdo_cli.specs.declared.words.Served.{Served}
use Rattle.vdo_cli.specs.declared.words.Served.TheVariants as served
use Rattle.vdo_cli.specs.Closings.{Closes}
use Rattle.vdo_cli.specs.Commands.{served_of}
use Rattle.vdo_cli.specs.Crashes.{EndsCrash}
use Rattle.vdo_cli.specs.Endings.{KeepsImage, PlayFails, RunsSession}
use Rattle.vdo_cli.specs.Flushes.{BehindFlush, IsNotFlushed}
use Rattle.vdo_cli.specs.Growths.{EndsGrowth}
use Rattle.vdo_cli.specs.Inspections.{EndsAudit, EndsStatus}
use Rattle.vdo_cli.specs.Openings.{recovered_of}
use Rattle.vdo_cli.specs.NewImages.{MakesImage}
use Rattle.vdo_cli.specs.Rebuilds.{EndsRebuild}
use Rattle.vdo_cli.specs.Recoveries.{EndsRecovery}
use Rattle.vdo_cli.specs.Outsides.{Outcome, Outside, Refuses, RefusesAfter, Setting, input_setting_of, inputs_of}
use Rattle.vdo_cli.specs.Texts.{session_text}
use Rattle.vdo_cli.specs.Workloads.{EndsWorkload}

-- No session was begun: the cause is the fault's, and where that is of the image or its device nothing was taken of the script.
-- The image may have been recovered before: whatever a stop leaves of a sound one says the same.
pub record NotBegun (s : Setting) (before after : Outside) (outcome : Outcome) (why : Fault) : Type 0 where
  pub recovered : Option ℕ
  pub cause : PlayFails (input_setting_of s) (inputs_of before) (inputs_of after) recovered why
  pub early : KeepsImage s.device before.device after.device
  pub refuses : RefusesAfter s.sink_tells recovered why outcome.status outcome.report before.sink after.sink

-- a session was served to its end so, and its answers were put
pub record PlayedOut (s : Setting) (course : Course) (before after : Outside) (outcome : Outcome) : Type 0 where
  pub found : Recovered
  pub session : RunsSession (input_setting_of s) course found outcome.report (inputs_of before) (inputs_of after)
  pub closes : Closes s.sink_tells (session_text (recovered_of found) outcome.report) outcome.report outcome.status outcome.fault before.sink after.sink

-- how the run of a script ends that has this fault, or none
abbrev pub RunsScriptBy : Option Fault → Setting → Course → Outside → Outside → Outcome → Type 0
RunsScriptBy None s course before after outcome = PlayedOut s course before after outcome
RunsScriptBy (Some fault.Sink) s course before after outcome = PlayedOut s course before after outcome
RunsScriptBy (Some why) s course before after outcome = NotBegun s before after outcome why

-- how the run of a script ends
abbrev pub RunsScript : Setting → Course → Outside → Outside → Outcome → Type 0
RunsScript s course before after outcome = RunsScriptBy outcome.fault s course before after outcome

-- the words are no command that is served: nothing else was looked at
pub record IsUsage (s : Setting) (before after : Outside) (outcome : Outcome) : Type 0 where
  pub fault_is : outcome.fault ≡ Some fault.Usage
  pub device : after.device ≡ before.device
  pub source : after.source ≡ before.source
  pub refuses : Refuses s.sink_tells fault.Usage outcome.status outcome.report before.sink after.sink

-- how a change of an image ends, of a device that was flushed before
abbrev pub EndsChange : Setting → Change → Outside → Outside → Outcome → Type 0
EndsChange s (change.Script course) before after outcome = RunsScript s course before after outcome
EndsChange s (change.Workload options) before after outcome = EndsWorkload s options before after outcome
EndsChange s change.Recover before after outcome = EndsRecovery s before after outcome
EndsChange s change.ForceRebuild before after outcome = EndsRebuild s before after outcome
EndsChange s (change.Grow options) before after outcome = EndsGrowth s options before after outcome

-- the flush failed: nothing else was looked at, and the line of that fault was put
pub record FlushFails (s : Setting) (before after : Outside) (outcome : Outcome) : Type 0 where
  pub fault_is : outcome.fault ≡ Some fault.Device
  pub device : IsNotFlushed s.device.tells before.device after.device
  pub source : after.source ≡ before.source
  pub refuses : Refuses s.sink_tells fault.Device outcome.status outcome.report before.sink after.sink

-- The device was flushed, and from then on the change ends so; or the flush failed.
abbrev pub EndsFlushed : Setting → Change → Outside → Outside → Outcome → Type 0
EndsFlushed s asked before after outcome =
    BehindFlush s.device.tells before.device (λ (flushed : Seen). EndsChange s asked (record before { device = flushed }) after outcome)
    ⊎ FlushFails s before after outcome

-- how a run of what is served ends
abbrev pub EndsAs : Setting → Option Served → Outside → Outside → Outcome → Type 0
EndsAs s None before after outcome = IsUsage s before after outcome
EndsAs s (Some (served.Change asked)) before after outcome = EndsFlushed s asked before after outcome
EndsAs s (Some (served.Crash options)) before after outcome = EndsCrash s options before after outcome
EndsAs s (Some (served.Format sizes)) before after outcome = MakesImage s sizes before after outcome
EndsAs s (Some served.Audit) before after outcome = EndsAudit s before after outcome
EndsAs s (Some served.Status) before after outcome = EndsStatus s before after outcome

-- how a run of these words ends
abbrev pub EndsSo : Setting → List (List ℕ) → Outside → Outside → Outcome → Type 0
EndsSo s words before after outcome = EndsAs s (served_of words) before after outcome
