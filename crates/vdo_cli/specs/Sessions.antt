-- What a session did: a core began over the image that was opened, and a schedule led it to its end.
use Rattle.std.specs.Prelude.{ℕ, ◌≡◌, ◌⊎◌, ◌++◌, ◌∷◌, [], List, Some, IsSome}
use Rattle.blk_base.specs.declared.opened.Opened.{Opened}
use Rattle.blk_base.specs.declared.request.Answer.{Answer as Reply}
use Rattle.blk_base.specs.declared.request.Answer.TheVariants as reply
use Rattle.blk_base.specs.declared.request.Request.{Request}
use Rattle.blk_base.specs.declared.request.Writer.{Writer}
use Rattle.blk_base.specs.declared.place.Mapping.TheVariants.{At}
use Rattle.blk_base.specs.declared.place.Pbn.{Pbn}
use Rattle.disk_model.specs.Causes.{Rose}
use Rattle.disk_model.specs.Seen.{Seen}
use Rattle.disk_model.specs.Trust.{Trust}
use Rattle.data_vio.specs.declared.logged.Remapping.{Remapping}
use Rattle.data_vio.specs.declared.sizes.Sizes.{Sizes}
use Rattle.core_model.specs.declared.zones.Zone.{Zone}
use Rattle.core_model.specs.Reports.{progress_of, report_of}
use Rattle.core_model.specs.RightTraces.{HarmMayFollow, MayAnswer, StopsAtFailure, StrayMayFollow}
use Rattle.core_model.specs.Sessions.{Session}
use Rattle.core_model.specs.Start.{IsFirst}
use Rattle.core_model.specs.Trace.{Trace, Harms, Says, Strays}
use Rattle.vdo_core.specs.Cores.{sizes_of}
use Rattle.vdo_core.specs.Done.{IsDone}
use Rattle.vdo_core.specs.Plays.{core_with}
use Rattle.vdo_core.specs.Starts.{IsOf}
use Rattle.vdo_core.specs.declared.cores.Setup.{Setup}
use Rattle.vdo_core.specs.declared.events.Event.{Event}
use Rattle.schedule.specs.Turns.{Drives, driving}
use Rattle.vdo_model.specs.DeskLog.{answer_of}
use Rattle.vdo_model.specs.RightRuns.{RunRight}
use Rattle.vdo_model.specs.Scripts.{Script, request_at}
use Rattle.page_codec.specs.declared.fault.PageFault.{PageFault}
use Rattle.vdo_model.specs.declared.report.Damage.TheVariants.{Page, Stray}
use Rattle.vdo_model.specs.declared.report.DeskLine.TheVariants as line
use Rattle.vdo_model.specs.declared.report.RunReport.{RunReport}

-- what is asked of a session: the requests, over an image that was opened, of a core that is set up so
pub record Task : Type 0 where
  pub setup : Setup
  pub start : Opened
  pub script : Script

abbrev pub task : Setup → Opened → Script → Task
task setup start script = record { setup = setup; start = start; script = script }

-- the sizes of its session: its zones and its depth are those of the setup
abbrev pub task_sizes : Task → Sizes
task_sizes task = sizes_of task.setup task.start.head

-- a session over that image, with this script: the counters of its data blocks are those of the image
abbrev pub IsOver : Task → Session → Type 0
IsOver task s = IsOf s (task_sizes task) task.script task.start

-- A core began with the script over the image, the turns of a schedule led it to its end, and this is what happened by
-- them, with what was seen of the device before and after.
pub record IsDriven (trust : Trust) (schedule : ℕ) (task : Task) (trace : Trace) (before after : Seen) : Type 0 where
  pub first : List Zone
  pub last : List Zone
  pub begins : (s : Session) → IsOver task s → IsFirst s (core_with first [])
  pub events : List Event
  pub state : ℕ
  pub drives : Drives trust (task_sizes task) events (driving schedule first before) (driving state last after) trace
  pub done : IsDone last

-- An answer that says that the device failed, or that the session was stopped, is explained: the device's count of faults rose, or
-- the report has damage.
abbrev pub IsExplained : RunReport → Seen → Seen → Reply → Type 0
IsExplained report before after reply.ReadFault = Rose before.faults after.faults
IsExplained report before after reply.Stopped = Rose before.faults after.faults ⊎ IsSome report.damage
IsExplained report before after reply.Damaged = IsSome report.damage
IsExplained report before after other = Unit {0}

-- a leaf that was read for a request was found not to decode, for this reason
pub record HasDamage (s : Session) (t : Trace) (at : Pbn) (fault : PageFault) : Type 0 where
  pub request : Writer
  pub bytes : List ℕ
  pub newer : Trace
  pub older : Trace
  pub is : t ≡ newer ++ Harms request at bytes fault ∷ older
  pub cause : HarmMayFollow s request at bytes fault older

-- a decrement of this entry found the counter of its block at 0, at this moment
pub record IsStrayAt (s : Session) (t : Trace) (e : Remapping) : Type 0 where
  pub newer : Trace
  pub older : Trace
  pub is : t ≡ newer ++ Strays e ∷ older
  pub cause : StrayMayFollow s e older

-- one of this block did
pub record HasStray (s : Session) (t : Trace) (at : Pbn) (count : ℕ) : Type 0 where
  pub entry : Remapping
  pub old_is : entry.old ≡ At at
  pub none : count ≡ 0
  pub found : IsStrayAt s t entry

-- Of what happened the report tells, and it is right: every request is answered, by the desk log, the places and the
-- histories that belong to it, each answer has its cause in what happened before, and so has the damage.
pub record IsReported (setup : Setup) (start : Opened) (report : RunReport) (trace : Trace) (before after : Seen) : Type 0 where
  pub session : Session
  pub is_over : IsOver (task setup start report.requests) session
  pub report_is : report ≡ report_of session trace
  pub run_right : RunRight setup.logical_zones setup.depth start.head.geometry.logical (progress_of trace) report.requests report.desk report.places report.histories
  pub causes : (newer older : Trace) (w : Writer) (r : Request) (a : Reply) → trace ≡ newer ++ Says (line.Answer w a) ∷ older
      → request_at report.requests w ≡ Some r → MayAnswer session older w r a
  pub faults : (w : Writer) (r : Request) (a : Reply) → request_at report.requests w ≡ Some r
      → answer_of report.desk w ≡ Some a → IsExplained report before after a
  pub damage : (at : Pbn) (fault : PageFault) → report.damage ≡ Some (Page at fault) → HasDamage session trace at fault
  pub stray : (at : Pbn) (count : ℕ) → report.damage ≡ Some (Stray at count) → HasStray session trace at count
  -- after a write or flush that failed, and after damage, there is no other
  pub stops : StopsAtFailure trace
