-- Rows that pin how a status ends (`EndsSo` of the word `status`): for each part some that it accepts, and some that break this part
-- alone. What an audit and a status have in common is pinned with the audit, and what no command's work decides in `ResultPins`.
use Rattle.std.proofs.Common.{ℕ, true, false, List, [], ◌∷◌, take, Option, Some, Result, None, refl, inl, arith}
use Rattle.disk_model.specs.declared.call.Call.TheVariants.{Flush}
use Rattle.disk_model.specs.Seen.{Seen}
use Rattle.disk_model.specs.Trust.{trust_of}
use Rattle.disk_model.specs.Since.{IsUntouched}
use Rattle.disk_model.proofs.StreamExample.{sink}
use Rattle.image_layout.specs.declared.fault.SuperFault.TheVariants.{NotAnImage}
use Rattle.image_model.specs.declared.fault.ImageFault.TheVariants as image
use Rattle.image_status.specs.Statuses.{IsStatusRead}
use Rattle.image_status.specs.declared.forms.ImageStatus.{ImageStatus}
use Rattle.command_text.specs.Statuses.{status_text}
use Rattle.vdo_model.specs.declared.report.RunReport.{RunReport}
use Rattle.vdo_cli.specs.declared.fault.Fault.{Fault}
use Rattle.vdo_cli.specs.declared.fault.Fault.TheVariants as fault
use Rattle.vdo_cli.specs.Inspections.{Looks, told_as}
use Rattle.vdo_cli.specs.Outsides.{Outside, Tells, no_report, outcome, outside}
use Rattle.vdo_cli.specs.Results.{TellsResult}
use Rattle.vdo_cli.specs.Texts.{fault_text}
use Rattle.vdo_cli.proofs.CommandPins.{status_words}
use Rattle.vdo_cli.proofs.PlayPins.{bare, begins, no_image, source}
use Rattle.vdo_cli.proofs.ResultPins as pins
use Rattle.vdo_cli.proofs.RunPins.{Ends, some_report}
use Rattle.image_model.specs.declared.fault.ImageFault.{ImageFault}

-- what reading a status does
abbrev Reads_so : Seen → Seen → Result ImageStatus ImageFault → Type 0
Reads_so before after result = Looks (trust_of true false) (IsStatusRead (trust_of true false) before after) before after result

-- Image. There is none, nothing was done, and the line says so
image-refused : Ends status_words begins (bare [] (7 ∷ []) (fault_text no_image) 0) 4 no_report (Some no_image)
image-refused = pins.refused Reads_so status_text told_as begins.device (image.Super NotAnImage) (record {
  found = tt;
  failed = inl (inl (record { none = refl; fault_is = refl; same = refl }));
  untouched = pins.untouched;
})

image-not_another_status : (after : Outside) → Ends status_words begins after 0 no_report (Some no_image) → ⊥
image-not_another_status = pins.refused-not_another_status Reads_so status_text told_as

-- Nothing is written, and the script isn't looked at
looks-not_written : (status : ℕ) (report : RunReport) (ended : Option Fault) → Ends status_words begins (bare (Flush true ∷ []) (7 ∷ []) [] 0) status report ended → ⊥
looks-not_written status report ended ends = pins.not_flushed ends.works.untouched

looks-not_taken : (held : List ℕ) (status : ℕ) (report : RunReport) (ended : Option Fault) → Ends status_words begins (bare [] [] held 0) status report ended → ⊥
looks-not_taken held status report ended = pins.not_taken Reads_so (TellsResult true (λ found. Tells true (status_text found)) told_as) held (outcome status report ended)

-- Told. The image was looked at, and its lines were put, with status 0;
module _ (before after : Seen) (found : ImageStatus) (read : IsStatusRead (trust_of true false) before after found) (untouched : IsUntouched true before after) where
  told-put : Ends status_words (outside before (source [] 0) (sink [] 0)) (outside after (source [] 0) (sink (status_text found) 0)) 0 no_report None
  told-put = pins.put Reads_so status_text told_as before after found (record { found = read; failed = tt; untouched = untouched })

  -- or a part of them, with 7
  told-part : (n : ℕ) → Ends status_words (outside before (source [] 0) (sink [] 0)) (outside after (source [] 0) (sink (take n (status_text found)) 1)) 7 no_report (Some fault.Sink)
  told-part = pins.put_part Reads_so status_text told_as before after found (record { found = read; failed = tt; untouched = untouched })

told-not_another_status : (before after : Outside) (report : RunReport) → Ends status_words before after 6 report None → ⊥
told-not_another_status = pins.put-not_another_status Reads_so status_text told_as 6 (omega arith)

told-not_reported : (before after : Outside) → Ends status_words before after 0 some_report None → ⊥
told-not_reported = pins.not_reported Reads_so (λ found. Tells true (status_text found)) told_as
