-- Rows that pin how a recovery ends (`EndsChange` of `recover`): for each part some that it accepts, and some that break this
-- part alone. What no command's work decides is in `ResultPins`.
use Rattle.std.proofs.Common.{ℕ, ◌≡◌, ◌⊎◌, true, false, List, [], ◌∷◌, take, Option, Some, None, Ok, Err, codes, refl, ap, inl, inr, arith}
use Rattle.blk_base.specs.Forms.{pbn as at}
use Rattle.disk_model.specs.declared.call.Call.TheVariants.{Read, Flush}
use Rattle.disk_model.specs.Seen.{Seen}
use Rattle.disk_model.specs.Trust.{trust_of}
use Rattle.disk_model.specs.Since.{IsUntouched}
use Rattle.disk_model.proofs.StreamExample.{sink}
use Rattle.image_layout.specs.declared.fault.SuperFault.TheVariants.{NotAnImage}
use Rattle.image_model.specs.declared.fault.ImageFault.{ImageFault}
use Rattle.image_model.specs.declared.fault.ImageFault.TheVariants as image
use Rattle.command_text.specs.Parts.{recovery_text}
use Rattle.rebuild.proofs.ShownLaws.{recover_last}
use Rattle.rebuild.specs.Recoveries.{IsRecovery}
use Rattle.rebuild.specs.declared.forms.Recovered.{Recovered}
use Rattle.rebuild.specs.declared.forms.Recovered.TheVariants.{Clean, Entries}
use Rattle.vdo_model.specs.declared.report.RunReport.{RunReport}
use Rattle.vdo_cli.specs.declared.fault.Fault.{Fault}
use Rattle.vdo_cli.specs.declared.fault.Fault.TheVariants as fault
use Rattle.vdo_cli.specs.declared.words.Change.TheVariants as change
use Rattle.vdo_cli.specs.Inspections.{told_as}
use Rattle.vdo_cli.specs.Outsides.{Outside, Tells, no_report, outcome, outside}
use Rattle.vdo_cli.specs.Results.{TellsResult}
use Rattle.vdo_cli.specs.Texts.{fault_text}
use Rattle.vdo_cli.proofs.PlayPins.{bare, begins, first_of, no_image, source}
use Rattle.vdo_cli.proofs.ResultPins as pins
use Rattle.vdo_cli.proofs.ResultPins.{failed, flushed, went_on}
use Rattle.vdo_cli.proofs.RunPins.{Changes, some_report}

-- Image. There is none, nothing was done,
pub refused : IsRecovery (trust_of true false) begins.device begins.device (Err (image.Super NotAnImage))
refused = record {
  stays = pins.untouched.stays;
  later = pins.untouched.later;
  grows = λ told. ([], refl);
  answers = tt;
  fails = inl (inl (record { none = refl; fault_is = refl; same = refl }));
  nothing = inr pins.untouched;
  says = λ blocks is. let fair = is.fair in absurd cc;
  stops = λ blocks is. let fair = is.fair in absurd cc;
  closed = tt;
  stands = λ blocks is. let fair = is.fair in absurd cc;
  left = tt;
}

-- and the line says so
image-refused : Changes change.Recover begins (bare [] (7 ∷ []) (fault_text no_image) 0) 4 no_report (Some no_image)
image-refused = pins.refused (IsRecovery (trust_of true false)) recovery_text told_as begins.device (image.Super NotAnImage) refused

image-not_another_status : (after : Outside) → Changes change.Recover begins after 0 no_report (Some no_image) → ⊥
image-not_another_status = pins.refused-not_another_status (IsRecovery (trust_of true false)) recovery_text told_as

-- a refused image isn't written
image-not_written : (held : List ℕ) → Changes change.Recover begins (bare (Flush true ∷ []) (7 ∷ []) held 0) 4 no_report (Some no_image) → ⊥
image-not_written = pins.refused-not_written (IsRecovery (trust_of true false)) recovery_text told_as nothing
  where
    nothing : (why : ImageFault) → IsRecovery (trust_of true false) begins.device flushed (Err why) → (told_as why ≡ fault.Device) ⊎ IsUntouched true begins.device flushed
    nothing why is = elim is.nothing [ inl device ↦ inl (ap told_as device) | inr reads ↦ inr reads ]

-- Device. The last call failed,
pub failed_so : IsRecovery (trust_of true false) begins.device failed (Err image.Device)
failed_so = record {
  stays = record { opening = refl; size = refl };
  later = record { faults = omega arith; unkept = omega arith };
  grows = λ told. (Read (at 0) [] false ∷ [], refl);
  answers = tt;
  fails = inl pins.read_failed;
  nothing = inl refl;
  says = λ blocks is. let fair = is.fair in absurd cc;
  stops = λ blocks is. let fair = is.fair in absurd cc;
  closed = tt;
  stands = λ blocks is. let fair = is.fair in absurd cc;
  left = tt;
}

-- and the line says so;
device-failed : Changes change.Recover begins (outside failed (source (7 ∷ []) 0) (sink (codes "device fault\n") 0)) 3 no_report (Some fault.Device)
device-failed = pins.refused (IsRecovery (trust_of true false)) recovery_text told_as failed image.Device failed_so

-- and none was made after it
device-not_last : (held : List ℕ) → Changes change.Recover begins (outside went_on (source (7 ∷ []) 0) (sink held 0)) 3 no_report (Some fault.Device) → ⊥
device-not_last = pins.failed-not_last (IsRecovery (trust_of true false)) recovery_text none
  where
    none : IsRecovery (trust_of true false) begins.device went_on (Err image.Device) → ⊥
    none is = let last = (recover_last (trust_of true false) begins.device went_on is.fails).logged refl in pins.not_last last.0 last.1 last.2 last.3

-- nor is a closed one written
clean-not_written : Changes change.Recover begins (bare (Flush true ∷ []) (7 ∷ []) (codes "clean\n") 0) 0 no_report None → ⊥
clean-not_written ends = elim (pins.parts (IsRecovery (trust_of true false)) (λ found. Tells true (recovery_text found)) told_as _ _ _ ends) [
  | inl (found, recovery, told) ↦ by_what_was_found found recovery (told.told.1 refl)
  | inr (why, recovery, told) ↦ let same = told.fault_is in absurd cc
]
  where
    by_what_was_found : (found : Recovered) → IsRecovery (trust_of true false) begins.device flushed (Ok found) → codes "clean\n" ≡ recovery_text found → ⊥
    by_what_was_found Clean recovery put = pins.not_flushed recovery.answers.3
    by_what_was_found (Entries count) recovery put = let first : ◌≡◌ {A = ℕ} 99 114 = ap first_of put in omega (arith, first)

-- The script isn't looked at
script-not_taken : (held : List ℕ) (status : ℕ) (report : RunReport) (ended : Option Fault) → Changes change.Recover begins (bare [] [] held 0) status report ended → ⊥
script-not_taken held status report ended = pins.not_taken (IsRecovery (trust_of true false)) (TellsResult true (λ found. Tells true (recovery_text found)) told_as) held (outcome status report ended)

script-not_failed : (held : List ℕ) (status : ℕ) (report : RunReport) (ended : Option Fault)
    → Changes change.Recover begins (outside begins.device (source (7 ∷ []) 1) (sink held 0)) status report ended → ⊥
script-not_failed held status report ended = pins.not_source_failed (IsRecovery (trust_of true false)) (TellsResult true (λ found. Tells true (recovery_text found)) told_as) held (outcome status report ended)

-- Told. The image was recovered, or had nothing to recover, and the line was put, with status 0;
told-put : (before after : Seen) (found : Recovered) → IsRecovery (trust_of true false) before after (Ok found)
    → Changes change.Recover (outside before (source [] 0) (sink [] 0)) (outside after (source [] 0) (sink (recovery_text found) 0)) 0 no_report None
told-put = pins.put (IsRecovery (trust_of true false)) recovery_text told_as

-- or a part of it, with 7
told-part : (before after : Seen) (found : Recovered) → IsRecovery (trust_of true false) before after (Ok found) → (n : ℕ)
    → Changes change.Recover (outside before (source [] 0) (sink [] 0)) (outside after (source [] 0) (sink (take n (recovery_text found)) 1)) 7 no_report (Some fault.Sink)
told-part = pins.put_part (IsRecovery (trust_of true false)) recovery_text told_as

told-not_another_status : (before after : Outside) (report : RunReport) → Changes change.Recover before after 4 report None → ⊥
told-not_another_status = pins.put-not_another_status (IsRecovery (trust_of true false)) recovery_text told_as 4 (omega arith)

told-not_reported : (before after : Outside) → Changes change.Recover before after 0 some_report None → ⊥
told-not_reported = pins.not_reported (IsRecovery (trust_of true false)) (λ found. Tells true (recovery_text found)) told_as

told-not_silent : (before after : Seen) → Changes change.Recover (outside before (source [] 0) (sink [] 0)) (outside after (source [] 0) (sink [] 0)) 0 no_report None → ⊥
told-not_silent = pins.put-not_silent (IsRecovery (trust_of true false)) recovery_text told_as some
  where
    some : (found : Recovered) → [] ≡ recovery_text found → ⊥
    some Clean put = let first : ◌≡◌ {A = ℕ} 0 99 = ap first_of put in omega (arith, first)
    some (Entries count) put = let first : ◌≡◌ {A = ℕ} 0 114 = ap first_of put in omega (arith, first)
