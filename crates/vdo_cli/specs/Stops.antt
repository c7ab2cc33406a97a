-- What a run's calls were, in their order with the lines of its desk log.
use Rattle.std.specs.Prelude.{◌≡◌, ◌++◌, List}
use Rattle.disk_model.specs.declared.call.Call.{Call}
use Rattle.disk_model.specs.Seen.{Seen}
use Rattle.vdo_model.specs.declared.report.RunReport.{RunReport}
use Rattle.vdo_model.specs.FlushMarks.{Moment, lines_of, calls_of, AreFlushMarks}

-- What happened in a run: the image was recovered and opened, and then the session went on, of which these are the moments.
pub record Happens (moments : List Moment) (report : RunReport) (before opened after : Seen) : Type 0 where
  pub earlier : List Call
  pub earlier_is : opened.log ≡ earlier ++ before.log
  -- the moments are the lines of the desk log and the calls that the device's log has since
  pub lines : lines_of moments ≡ report.desk
  pub calls : after.log ≡ calls_of moments ++ opened.log
  -- each flush that was answered Ok has one mark: a flush of the device after it was begun and before it was answered
  pub flushes : AreFlushMarks report.requests moments report.marks
