-- Rows that pin how a crash ends (`EndsSo` of the words `crash --after 5 --image=7`, its parts `IsNotRun`, `IsCrashTold` and
-- `IsCrashRefused`): for each part some that it accepts, and some that break this part alone.
use Rattle.std.proofs.Common.{ℕ, ◌≡◌, true, List, [], ◌∷◌, length, take, Option, Some, None, codes, refl, sym, ◌∙◌, ap, inl, inr, arith}
use Rattle.crash_images.specs.Cuts.{stop_of}
use Rattle.crash_images.specs.Shows.{IsPickShown, PickFails}
use Rattle.crash_images.specs.declared.shown.Shown.{Shown}
use Rattle.disk_model.specs.Memory.{Memory}
use Rattle.disk_model.specs.Seen.{Seen}
use Rattle.disk_model.specs.Trust.{trust_of}
use Rattle.disk_model.specs.Since.{IsUntouched}
use Rattle.disk_model.proofs.StreamExample.{sink}
use Rattle.image_layout.specs.declared.fault.LayoutFault.TheVariants.{TooLargeToCrash}
use Rattle.image_layout.specs.declared.fault.SuperFault.TheVariants.{NotAnImage}
use Rattle.image_model.specs.declared.fault.ImageFault.TheVariants as image
use Rattle.vdo_model.specs.Scripts.{Script}
use Rattle.vdo_model.specs.declared.report.RunReport.{RunReport}
use Rattle.vdo_cli.specs.declared.fault.Fault.{Fault}
use Rattle.vdo_cli.specs.declared.fault.Fault.TheVariants as fault
use Rattle.vdo_cli.specs.declared.words.Served.TheVariants as served
use Rattle.vdo_cli.specs.Crashes.{CopyFails, HasCopyOf, IsCrashComplete, IsOnDevice, RunsOnCopy, TellsAudit, not_shown_text, shown_text, unserved}
use Rattle.vdo_cli.specs.Outsides.{Outside, input_setting_of, inputs, no_report, outcome, outcome_with, outside}
use Rattle.vdo_cli.specs.Runs.{EndsSo}
use Rattle.vdo_cli.specs.Texts.{fault_status, fault_text}
use Rattle.vdo_cli.proofs.CommandPins.{crash_of, crash_words}
use Rattle.vdo_cli.proofs.PlayPins.{source, bare, begins, no_image}
use Rattle.vdo_cli.proofs.ResultPins.{untouched}
use Rattle.vdo_cli.proofs.RunPins.{Ends, telling}

-- Nothing was run: the device has too many blocks;
abbrev large : Seen
large = record { opening = []; size = 65537; log = []; faults = 0; unkept = 0 }

abbrev too_large : Fault
too_large = fault.Layout (TooLargeToCrash 65537)

abbrev with_large : List ℕ → Outside
with_large held = outside large (source (7 ∷ []) 0) (sink held 0)

not_run-too_large : Ends crash_words (with_large []) (with_large (fault_text too_large)) 8 no_report (Some too_large)
not_run-too_large = record {
  ends = record { why = too_large; fault_is = refl; cause = inl ((refl, omega arith, refl), refl); refuses = record { status_is = refl; report_is = refl; puts = inl (λ told. refl) } };
  untouched = record { stays = record { opening = refl; size = refl }; later = record { faults = omega arith; unkept = omega arith }; reads = λ told. ([], refl, tt) };
}

-- or memory ran out
not_run-no_memory : Ends crash_words begins (bare [] (7 ∷ []) (codes "no memory\n") 0) 5 no_report (Some fault.Memory)
not_run-no_memory = record {
  ends = record { why = fault.Memory; fault_is = refl; cause = inl (tt, refl); refuses = record { status_is = refl; report_is = refl; puts = inl (λ told. refl) } };
  untouched = untouched;
}

not_run-not_another_status : (after : Outside) → Ends crash_words begins after 4 no_report (Some fault.Memory) → ⊥
not_run-not_another_status after ends =
    let memory : ends.ends.why ≡ fault.Memory = let is = ends.ends.fault_is in sym (cc is) in
    let status : 4 ≡ 5 = ends.ends.refuses.status_is ∙ ap fault_status memory in
    omega (arith, status)

-- CopyFails: not of a device with few blocks, and of no fault of an image
small-not_too_large : (before after : Seen) → before.size ≡ 65536 → CopyFails (trust_of true true) before after (fault.Layout (TooLargeToCrash 65536)) → ⊥
small-not_too_large before after size fails = let many = fails.1 in omega (arith, many, size)

never_an_image : (before after : Seen) → CopyFails (trust_of true true) before after no_image → ⊥
never_an_image before after fails = fails

-- unserved: the requests, and nothing of them
unserved_requests : (script : Script) → (unserved script).requests ≡ script
unserved_requests script = refl

unserved_desk : (script : Script) → (unserved script).desk ≡ []
unserved_desk script = refl

-- The picked image was looked at, and what it shows was put.
abbrev EndsWith : Outside → Outside → ℕ → RunReport → Option Fault → Option Memory → Type 0
EndsWith before after status report why copy = EndsSo telling crash_words before after (outcome_with status report why copy)

module _ (before after : Seen) (left : List ℕ) (report : RunReport) (copy : Memory) (untouched : IsUntouched true before after)
    (run : RunsOnCopy (input_setting_of telling) (crash_of 5 7) report (inputs before (source (7 ∷ []) 0)) (inputs after (source left 0)) copy) where
  abbrev to : List ℕ → ℕ → Outside
  to held faults = outside after (source left 0) (sink held faults)

  abbrev from : Outside
  from = outside before (source (7 ∷ []) 0) (sink [] 0)

  module _ (shown : Shown) (shows : IsPickShown copy 7 report.requests shown) where
    abbrev text : List ℕ
    text = shown_text (stop_of 5 copy.log) shown

    told-clean : shown.audit.differs.items ≡ [] → EndsWith from (to text 0) 0 report None (Some copy)
    told-clean none = record { ends = inl (record { run = run; shown = shown; shows = shows; told = (none, (refl, λ told. refl)) }); untouched = untouched }

    -- a first part of it, where the sink failed
    told-part : (n : ℕ) → shown.audit.differs.items ≡ [] → EndsWith from (to (take n text) 1) 7 report (Some fault.Sink) (Some copy)
    told-part n none = record { ends = inl (record { run = run; shown = shown; shows = shows; told = (none, (refl, omega arith, λ told. (n, refl))) }); untouched = untouched }

    -- and how many blocks differ
    told-differing : length shown.audit.differs.items ≡ 1 → EndsWith from (to text 0) 6 report (Some (fault.Differs 1)) (Some copy)
    told-differing one = record { ends = inl (record { run = run; shown = shown; shows = shows; told = (omega arith, sym one, refl, inl (λ told. refl)) }); untouched = untouched }

  -- It is refused, and the line of its fault stands behind how the run ended.
  refused-told : PickFails copy 7 (image.Super NotAnImage) → EndsWith from (to (not_shown_text (stop_of 5 copy.log) no_image) 0) 4 report (Some no_image) (Some copy)
  refused-told cause = record {
    ends = inr (record { run = run; why = image.Super NotAnImage; cause = cause; fault_is = refl; status_is = refl; puts = inl (λ told. refl) });
    untouched = untouched;
  }

-- TellsAudit: not with another status, without all of the text, or where blocks differ
module _ (shown : Shown) where
  tells-not_another_status : TellsAudit true [] shown.audit 1 None (sink [] 0) (sink [] 0) → ⊥
  tells-not_another_status told = omega (arith, told.1.0)

  tells-not_silent : TellsAudit true (7 ∷ []) shown.audit 0 None (sink [] 0) (sink [] 0) → ⊥
  tells-not_silent told = absurd (let put = told.1.1 refl in cc put)

  tells-not_of_differing : length shown.audit.differs.items ≡ 1 → TellsAudit true [] shown.audit 0 None (sink [] 0) (sink [] 0) → ⊥
  tells-not_of_differing one told = let none = ap (λ (list : List _). length list) told.0 in omega (arith, one, none)

  tells-not_of_none : length shown.audit.differs.items ≡ 0 → TellsAudit true [] shown.audit 6 (Some (fault.Differs 0)) (sink [] 0) (sink [] 0) → ⊥
  tells-not_of_none none told = omega (arith, told.0)

-- without a copy nothing was told
told-not_without_a_copy : (before after : Outside) (report : RunReport) → EndsWith before after 0 report None None → ⊥
told-not_without_a_copy before after report ends = absurd (let is = ends.ends.fault_is in cc is)

-- the device has its opening blocks and its size
told-not_of_another_size : (after : Outside) (report : RunReport) → after.device.size ≡ 5 → EndsWith begins after 0 report None None → ⊥
told-not_of_another_size after report size ends = let same = ends.untouched.stays.size in omega (arith, same, size)

-- HasCopyOf, IsOnDevice: a crash has a copy, and no other
copy_of_a_crash : (copy : Option Memory) → HasCopyOf (Some (served.Crash (crash_of 5 7))) copy
copy_of_a_crash copy = tt

no_copy_of_an_audit : (copy : Memory) → HasCopyOf (Some served.Audit) (Some copy) → ⊥
no_copy_of_an_audit copy has = absurd (cc has)

crash_not_on_the_device : IsOnDevice (Some (served.Crash (crash_of 5 7))) → ⊥
crash_not_on_the_device here = here

audit_on_the_device : IsOnDevice (Some served.Audit)
audit_on_the_device = tt

-- IsCrashComplete: what it shows was told, or memory ran out
complete-told : (copy : Memory) → IsCrashComplete [] (outcome_with 0 no_report None (Some copy))
complete-told copy = inl (record { ended = refl; status = refl; requests = refl; copied = refl })

complete-no_memory : IsCrashComplete [] (outcome 5 no_report (Some fault.Memory))
complete-no_memory = inr (refl, refl)

complete-not_without_a_copy : IsCrashComplete [] (outcome 0 no_report None) → ⊥
complete-not_without_a_copy (inl whole) = absurd (let none = whole.copied in cc none)
complete-not_without_a_copy (inr (is, status)) = absurd (cc is)

complete-not_of_a_device : IsCrashComplete [] (outcome 3 no_report (Some fault.Device)) → ⊥
complete-not_of_a_device (inl whole) = absurd (let ended = whole.ended in cc ended)
complete-not_of_a_device (inr (is, status)) = omega (arith, status)
