-- How the recovery of an image ends.
use Rattle.command_text.specs.Parts.{recovery_text}
use Rattle.rebuild.specs.Recoveries.{IsRecovery}
use Rattle.rebuild.specs.declared.forms.Recovered.{Recovered}
use Rattle.vdo_cli.specs.Inspections.{told_as}
use Rattle.vdo_cli.specs.Outsides.{Outcome, Outside, Setting, Tells}
use Rattle.vdo_cli.specs.Results.{EndsBy, TellsResult}

-- the image was recovered, or had nothing to recover, and the line was put, or a part of it and the sink failed; or the image
-- was refused, or the last call failed, and the fault's line was put
abbrev pub EndsRecovery : Setting → Outside → Outside → Outcome → Type 0
EndsRecovery s before after outcome =
    EndsBy (IsRecovery s.device) (TellsResult s.sink_tells (λ (found : Recovered). Tells s.sink_tells (recovery_text found)) told_as) before after outcome
