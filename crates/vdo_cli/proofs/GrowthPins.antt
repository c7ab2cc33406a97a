-- Rows that pin how growing ends (`EndsChange` of `grow --logical 2000 --slabs 2`): for each part some that it accepts, and
-- some that break this part alone. What no command's work decides is in `ResultPins`.
use Rattle.std.proofs.Common.{ℕ, ◌≡◌, ◌⊎◌, true, false, List, [], ◌∷◌, take, Option, Some, None, Ok, Err, codes, refl, ap, inl, inr, arith}
use Rattle.blk_base.specs.Forms.{pbn as at}
use Rattle.disk_model.specs.declared.call.Call.TheVariants.{Read, Flush}
use Rattle.disk_model.specs.Seen.{Seen}
use Rattle.disk_model.specs.Trust.{trust_of}
use Rattle.disk_model.specs.Since.{IsUntouched}
use Rattle.disk_model.proofs.StreamExample.{sink}
use Rattle.image_layout.specs.declared.fault.Field.TheVariants.{Slabs}
use Rattle.image_layout.specs.declared.fault.LayoutFault.TheVariants.{LogicalTooLarge}
use Rattle.image_layout.specs.declared.fault.SuperFault.TheVariants.{NotAnImage}
use Rattle.image_model.specs.declared.fault.ImageFault.TheVariants as image
use Rattle.command_text.specs.Formats.{grown_text}
use Rattle.grow_image.specs.Growth.{IsGrowing}
use Rattle.grow_image.specs.declared.fault.GrowFault.{GrowFault}
use Rattle.grow_image.specs.declared.fault.GrowFault.TheVariants as growth
use Rattle.grow_image.specs.declared.forms.Grown.{Grown}
use Rattle.vdo_model.specs.declared.report.RunReport.{RunReport}
use Rattle.vdo_cli.specs.declared.fault.Fault.{Fault}
use Rattle.vdo_cli.specs.declared.fault.Fault.TheVariants as fault
use Rattle.vdo_cli.specs.declared.words.Change.{Change}
use Rattle.vdo_cli.specs.declared.words.Change.TheVariants as change
use Rattle.vdo_cli.specs.Growths.{grow_told_as}
use Rattle.vdo_cli.specs.Outsides.{Outside, Tells, no_report, outcome, outside}
use Rattle.vdo_cli.specs.Results.{TellsResult}
use Rattle.vdo_cli.specs.Texts.{fault_text}
use Rattle.vdo_cli.proofs.PlayPins.{bare, begins, first_of, no_image, source}
use Rattle.vdo_cli.proofs.ResultPins as pins
use Rattle.vdo_cli.proofs.ResultPins.{failed, flushed}
use Rattle.vdo_cli.proofs.RunPins.{Changes, some_report}

-- the growth to 2,000 addresses and 2 slabs
abbrev growing : Change
growing = change.Grow (record { logical = 2000; slabs = 2 })

-- grow_told_as: by the kind of the fault
told_image : grow_told_as (growth.Image (image.Super NotAnImage)) ≡ fault.Image (image.Super NotAnImage)
told_image = refl

told_device : grow_told_as (growth.Image image.Device) ≡ fault.Device
told_device = refl

told_layout : grow_told_as (growth.Layout LogicalTooLarge) ≡ fault.Layout LogicalTooLarge
told_layout = refl

told_smaller : grow_told_as (growth.Smaller Slabs) ≡ fault.Grow (growth.Smaller Slabs)
told_smaller = refl

told_mapped : grow_told_as (growth.Mapped (record { 0 = 5 })) ≡ fault.Grow (growth.Mapped (record { 0 = 5 }))
told_mapped = refl

-- Image. There is none, nothing was done,
refused : IsGrowing (trust_of true false) 2000 2 begins.device begins.device (Err (growth.Image (image.Super NotAnImage)))
refused = record {
  stays = pins.untouched.stays;
  later = pins.untouched.later;
  grows = λ told. ([], refl);
  answers = tt;
  fails = inl (inl (inl (record { none = refl; fault_is = refl; same = refl })));
  nothing = inr pins.untouched;
  says = λ blocks is. let fair = is.fair in absurd cc;
  stops = λ blocks is. let fair = is.fair in absurd cc;
  grown = tt;
}

-- and the line says so
image-refused : Changes growing begins (bare [] (7 ∷ []) (fault_text no_image) 0) 4 no_report (Some no_image)
image-refused = pins.refused (IsGrowing (trust_of true false) 2000 2) grown_text grow_told_as begins.device (growth.Image (image.Super NotAnImage)) refused

image-not_another_status : (after : Outside) → Changes growing begins after 0 no_report (Some no_image) → ⊥
image-not_another_status = pins.refused-not_another_status (IsGrowing (trust_of true false) 2000 2) grown_text grow_told_as

-- a refused image isn't written
image-not_written : (held : List ℕ) → Changes growing begins (bare (Flush true ∷ []) (7 ∷ []) held 0) 4 no_report (Some no_image) → ⊥
image-not_written = pins.refused-not_written (IsGrowing (trust_of true false) 2000 2) grown_text grow_told_as nothing
  where
    nothing : (why : GrowFault) → IsGrowing (trust_of true false) 2000 2 begins.device flushed (Err why) → (grow_told_as why ≡ fault.Device) ⊎ IsUntouched true begins.device flushed
    nothing why is = elim is.nothing [ inl device ↦ inl (ap grow_told_as device) | inr reads ↦ inr reads ]

-- Device. The last call failed,
failed_so : IsGrowing (trust_of true false) 2000 2 begins.device failed (Err (growth.Image image.Device))
failed_so = record {
  stays = record { opening = refl; size = refl };
  later = record { faults = omega arith; unkept = omega arith };
  grows = λ told. (Read (at 0) [] false ∷ [], refl);
  answers = tt;
  fails = inl (inl pins.read_failed);
  nothing = inl refl;
  says = λ blocks is. let fair = is.fair in absurd cc;
  stops = λ blocks is. let fair = is.fair in absurd cc;
  grown = tt;
}

-- and the line says so
device-failed : Changes growing begins (outside failed (source (7 ∷ []) 0) (sink (codes "device fault\n") 0)) 3 no_report (Some fault.Device)
device-failed = pins.refused (IsGrowing (trust_of true false) 2000 2) grown_text grow_told_as failed (growth.Image image.Device) failed_so

-- The script isn't looked at
script-not_taken : (held : List ℕ) (status : ℕ) (report : RunReport) (ended : Option Fault) → Changes growing begins (bare [] [] held 0) status report ended → ⊥
script-not_taken held status report ended = pins.not_taken (IsGrowing (trust_of true false) 2000 2) (TellsResult true (λ found. Tells true (grown_text found)) grow_told_as) held (outcome status report ended)

script-not_failed : (held : List ℕ) (status : ℕ) (report : RunReport) (ended : Option Fault)
    → Changes growing begins (outside begins.device (source (7 ∷ []) 1) (sink held 0)) status report ended → ⊥
script-not_failed held status report ended = pins.not_source_failed (IsGrowing (trust_of true false) 2000 2) (TellsResult true (λ found. Tells true (grown_text found)) grow_told_as) held (outcome status report ended)

-- Told. The image has grown, and the line was put, with status 0;
told-put : (before after : Seen) (found : Grown) → IsGrowing (trust_of true false) 2000 2 before after (Ok found)
    → Changes growing (outside before (source [] 0) (sink [] 0)) (outside after (source [] 0) (sink (grown_text found) 0)) 0 no_report None
told-put = pins.put (IsGrowing (trust_of true false) 2000 2) grown_text grow_told_as

-- or a part of it, with 7
told-part : (before after : Seen) (found : Grown) → IsGrowing (trust_of true false) 2000 2 before after (Ok found) → (n : ℕ)
    → Changes growing (outside before (source [] 0) (sink [] 0)) (outside after (source [] 0) (sink (take n (grown_text found)) 1)) 7 no_report (Some fault.Sink)
told-part = pins.put_part (IsGrowing (trust_of true false) 2000 2) grown_text grow_told_as

told-not_another_status : (before after : Outside) (report : RunReport) → Changes growing before after 4 report None → ⊥
told-not_another_status = pins.put-not_another_status (IsGrowing (trust_of true false) 2000 2) grown_text grow_told_as 4 (omega arith)

told-not_reported : (before after : Outside) → Changes growing before after 0 some_report None → ⊥
told-not_reported = pins.not_reported (IsGrowing (trust_of true false) 2000 2) (λ found. Tells true (grown_text found)) grow_told_as

told-not_silent : (before after : Seen) → Changes growing (outside before (source [] 0) (sink [] 0)) (outside after (source [] 0) (sink [] 0)) 0 no_report None → ⊥
told-not_silent = pins.put-not_silent (IsGrowing (trust_of true false) 2000 2) grown_text grow_told_as some
  where
    some : (found : Grown) → [] ≡ grown_text found → ⊥
    some found put = let first : ◌≡◌ {A = ℕ} 0 103 = ap first_of put in omega (arith, first)
