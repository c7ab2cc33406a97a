-- What `crash` prints.
use Rattle.std.specs.Prelude.{ℕ, List, [], ◌∷◌, ◌++◌, map, codes, decimal}
use Rattle.std.specs.List.{concat}
use Rattle.audit.specs.declared.forms.Report.{Report}
use Rattle.rebuild.specs.declared.forms.Recovered.{Recovered}
use Rattle.stream_text.specs.Runs.{runs_of, runs_text}
use Rattle.command_text.specs.declared.crashes.CrashStop.{CrashStop}
use Rattle.command_text.specs.declared.crashes.CrashStop.TheVariants.{Stopped, Ended}
use Rattle.command_text.specs.declared.crashes.AddressValue.{AddressValue}
use Rattle.command_text.specs.declared.crashes.Crash.{Crash}
use Rattle.command_text.specs.Parts.{recovery_text}
use Rattle.command_text.specs.Audits.{report_text}

-- `stopped` where a call failed by the fuse, else `ended`
abbrev pub stop_text : CrashStop → List ℕ
stop_text Stopped = codes "stopped\n"
stop_text Ended = codes "ended\n"

-- how the run ended, and what the recovery found
abbrev pub head_text : CrashStop → Recovered → List ℕ
head_text stop recovery = stop_text stop ++ recovery_text recovery

-- `5 4096*61`
abbrev pub value_text : AddressValue → List ℕ
value_text value = concat (decimal value.at.0 ∷ codes " " ∷ runs_text (runs_of value.block) ∷ codes "\n" ∷ [])

-- the values, and the audit
abbrev pub values_text : List AddressValue → Report → List ℕ
values_text values audit = concat (map value_text values) ++ report_text audit

-- the whole text
abbrev pub crash_text : Crash → List ℕ
crash_text crash = head_text crash.stop crash.recovery ++ values_text crash.values.now crash.audit.now
