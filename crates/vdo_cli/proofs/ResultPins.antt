-- Rows that pin how a command ends by its result (`EndsBy`, `TellsResult`), whatever its work, its text and its faults are: for each
-- part some that it accepts, and some that break this part alone. The rows of the commands cite them.
use Rattle.std.proofs.Common.{ℕ, ◌≡◌, ◌≤◌, ◌⊎◌, ◌++◌, true, false, List, [], ◌∷◌, length, take, Option, Some, None, Result, Ok, Err, refl, ◌∙◌, ap, inl, inr, arith}
use Rattle.blk_base.specs.Forms.{pbn as at}
use Rattle.disk_model.specs.declared.call.Call.{Call}
use Rattle.disk_model.specs.declared.call.Call.TheVariants.{Read, Write, Flush}
use Rattle.disk_model.specs.Causes.{Rose}
use Rattle.disk_model.specs.Seen.{Seen}
use Rattle.disk_model.specs.Trust.{trust_of}
use Rattle.disk_model.specs.Since.{IsUntouched, NextFailed, OnlyReads}
use Rattle.disk_model.specs.Streams.{SinkSeen, SourceSeen}
use Rattle.disk_model.specs.LogSteps.{FailedInLog}
use Rattle.disk_model.proofs.StreamExample.{sink}
use Rattle.image_format.specs.Formats.{IsFailed}
use Rattle.image_model.specs.declared.fault.ImageFault.{ImageFault}
use Rattle.image_model.specs.declared.fault.ImageFault.TheVariants as image
use Rattle.vdo_model.specs.declared.report.RunReport.{RunReport}
use Rattle.vdo_cli.specs.declared.fault.Fault.{Fault}
use Rattle.vdo_cli.specs.declared.fault.Fault.TheVariants as fault
use Rattle.vdo_cli.specs.Inspections.{told_as}
use Rattle.vdo_cli.specs.Outsides.{Outcome, Outside, Tells, no_report, outcome, outside}
use Rattle.vdo_cli.specs.Results.{EndsBy, IsFaultTold, IsFoundTold, TellsResult}
use Rattle.vdo_cli.specs.Texts.{fault_status, fault_text}
use Rattle.vdo_cli.proofs.PlayPins.{bare, begins, device, no_image, source, status_in}
use Rattle.vdo_cli.proofs.RunPins.{some_report}

-- Worked devices.

-- nothing was done
pub untouched : IsUntouched true begins.device begins.device
untouched = record {
  stays = record { opening = refl; size = refl };
  later = record { faults = omega arith; unkept = omega arith };
  reads = λ told. ([], refl, tt);
}

-- it was flushed: the calls that were made are no reads
abbrev pub flushed : Seen
flushed = device [] (Flush true ∷ []) 0 0

none_flushed : (calls : List Call) → Flush true ∷ [] ≡ calls ++ [] → OnlyReads calls → ⊥
none_flushed [] is reads = absurd cc
none_flushed (Read place bytes ok ∷ calls) is reads = absurd cc
none_flushed (Write place bytes ok ∷ calls) is reads = reads
none_flushed (Flush ok ∷ calls) is reads = reads

pub not_flushed : IsUntouched true begins.device flushed → ⊥
not_flushed is = let since = is.reads refl in none_flushed since.0 since.1 since.2

-- its first read failed
abbrev pub failed : Seen
failed = device [] (Read (at 0) [] false ∷ []) 1 0

pub read_failed : NextFailed (trust_of true false) 0 begins.device failed []
read_failed = record {
  stays = record { opening = refl; size = refl };
  later = record { faults = omega arith; unkept = omega arith };
  given = tt;
  rose = omega arith;
  logged = λ told. ([], inl refl);
}

-- a flush failed, and another call was made behind it
abbrev pub went_on : Seen
went_on = device [] (Flush true ∷ Flush false ∷ []) 1 0

pub not_last : (call : Call) (done : List Call) → IsFailed call → FailedInLog (done ++ []) (Flush true ∷ Flush false ∷ []) call (Rose 0 0) → ⊥
not_last call done is (inr lost) = let rose = lost.1 in omega (arith, rose)
not_last (Read place bytes ok) done is (inl stands) = absurd (cc stands)
not_last (Write place bytes ok) done is (inl stands) = absurd (cc stands)
not_last (Flush ok) done is (inl stands) = let front : Flush true ≡ Flush ok = cc stands in absurd (cc (front, is))

-- Of any way to tell what was found.

-- what was found and told, or why nothing was
abbrev pub Parts : {T E : Type 0} → (Seen → Seen → Result T E → Type 0) → (T → ℕ → Option Fault → SinkSeen → SinkSeen → Type 0) → (E → Fault) → Outside → Outside → Outcome → Type 0
Parts {T = T} {E = E} Works Told told_as before after ends =
    ((found : T) × Works before.device after.device (Ok found) × IsFoundTold (Told found) before.sink after.sink ends)
    ⊎ ((why : E) × Works before.device after.device (Err why) × IsFaultTold true (told_as why) before.sink after.sink ends)

by_result : {T E : Type 0} (Works : Seen → Seen → Result T E → Type 0) (Told : T → ℕ → Option Fault → SinkSeen → SinkSeen → Type 0) (told_as : E → Fault)
    (before after : Outside) (ends : Outcome) (result : Result T E)
    → Works before.device after.device result → TellsResult true Told told_as result before.sink after.sink ends → Parts Works Told told_as before after ends
by_result Works Told told_as before after ends (Ok found) works told = inl (found, works, told)
by_result Works Told told_as before after ends (Err why) works told = inr (why, works, told)

pub parts : {T E : Type 0} (Works : Seen → Seen → Result T E → Type 0) (Told : T → ℕ → Option Fault → SinkSeen → SinkSeen → Type 0) (told_as : E → Fault)
    (before after : Outside) (ends : Outcome) → EndsBy Works (TellsResult true Told told_as) before after ends → Parts Works Told told_as before after ends
parts Works Told told_as before after ends is = by_result Works Told told_as before after ends is.result is.works is.ends

-- the script isn't looked at
pub not_taken : {T E : Type 0} (Works : Seen → Seen → Result T E → Type 0) (TellsIt : Result T E → SinkSeen → SinkSeen → Outcome → Type 0) (held : List ℕ) (ends : Outcome)
    → EndsBy Works TellsIt begins (bare [] [] held 0) ends → ⊥
not_taken Works TellsIt held ends is = let same = ap (λ (s : SourceSeen). length s.left) is.source in omega (arith, same)

pub not_source_failed : {T E : Type 0} (Works : Seen → Seen → Result T E → Type 0) (TellsIt : Result T E → SinkSeen → SinkSeen → Outcome → Type 0) (held : List ℕ) (ends : Outcome)
    → EndsBy Works TellsIt begins (outside begins.device (source (7 ∷ []) 1) (sink held 0)) ends → ⊥
not_source_failed Works TellsIt held ends is = let same = ap (λ (s : SourceSeen). s.faults) is.source in omega (arith, same)

-- there is no report of a session
pub not_reported : {T E : Type 0} (Works : Seen → Seen → Result T E → Type 0) (Told : T → ℕ → Option Fault → SinkSeen → SinkSeen → Type 0) (told_as : E → Fault)
    (before after : Outside) → EndsBy Works (TellsResult true Told told_as) before after (outcome 0 some_report None) → ⊥
not_reported Works Told told_as before after is = elim (parts Works Told told_as before after _ is) [
  | inl (found, works, told) ↦ let same = ap (λ (report : RunReport). length report.requests) told.report_is in omega (arith, same)
  | inr (why, works, told) ↦ let same = told.fault_is in absurd cc
]

-- Where what was found has a text.

-- how a command ends whose results have this text and these faults
abbrev pub EndsWith : {T E : Type 0} → (Seen → Seen → Result T E → Type 0) → (T → List ℕ) → (E → Fault) → Outside → Outside → ℕ → RunReport → Option Fault → Type 0
EndsWith Works text told_as before after status report ended =
    EndsBy Works (TellsResult true (λ found. Tells true (text found)) told_as) before after (outcome status report ended)

-- the text was put, with status 0;
pub put : {T E : Type 0} (Works : Seen → Seen → Result T E → Type 0) (text : T → List ℕ) (told_as : E → Fault) (before after : Seen) (found : T) → Works before after (Ok found)
    → EndsWith Works text told_as (outside before (source [] 0) (sink [] 0)) (outside after (source [] 0) (sink (text found) 0)) 0 no_report None
put Works text told_as before after found works =
    record { result = Ok found; works = works; ends = record { report_is = refl; told = (refl, λ told. refl) }; source = refl }

-- or a part of it, with 7
pub put_part : {T E : Type 0} (Works : Seen → Seen → Result T E → Type 0) (text : T → List ℕ) (told_as : E → Fault) (before after : Seen) (found : T) → Works before after (Ok found) → (n : ℕ)
    → EndsWith Works text told_as (outside before (source [] 0) (sink [] 0)) (outside after (source [] 0) (sink (take n (text found)) 1)) 7 no_report (Some fault.Sink)
put_part Works text told_as before after found works n =
    record { result = Ok found; works = works; ends = record { report_is = refl; told = (refl, omega arith, λ told. (n, refl)) }; source = refl }

pub put-not_another_status : {T E : Type 0} (Works : Seen → Seen → Result T E → Type 0) (text : T → List ℕ) (told_as : E → Fault) (status : ℕ) → 1 ≤ status
    → (before after : Outside) (report : RunReport) → EndsWith Works text told_as before after status report None → ⊥
put-not_another_status Works text told_as status some before after report is = elim (parts Works (λ found. Tells true (text found)) told_as before after _ is) [
  | inl (found, works, told) ↦ omega (arith, some, told.told.0)
  | inr (why, works, told) ↦ let same = told.fault_is in absurd cc
]

pub put-not_silent : {T E : Type 0} (Works : Seen → Seen → Result T E → Type 0) (text : T → List ℕ) (told_as : E → Fault) → ((found : T) → [] ≡ text found → ⊥) → (before after : Seen)
    → EndsWith Works text told_as (outside before (source [] 0) (sink [] 0)) (outside after (source [] 0) (sink [] 0)) 0 no_report None → ⊥
put-not_silent Works text told_as some before after is = elim (parts Works (λ found. Tells true (text found)) told_as _ _ _ is) [
  | inl (found, works, told) ↦ some found (told.told.1 refl)
  | inr (why, works, told) ↦ let same = told.fault_is in absurd cc
]

-- nothing was found: the line of the cause's fault was put, with its status;
pub refused : {T E : Type 0} (Works : Seen → Seen → Result T E → Type 0) (text : T → List ℕ) (told_as : E → Fault) (after : Seen) (why : E) → Works begins.device after (Err why)
    → EndsWith Works text told_as begins (outside after (source (7 ∷ []) 0) (sink (fault_text (told_as why)) 0)) (fault_status (told_as why)) no_report (Some (told_as why))
refused Works text told_as after why works = record {
  result = Err why;
  works = works;
  ends = record { fault_is = refl; refuses = record { status_is = refl; report_is = refl; puts = inl (λ told. refl) } };
  source = refl;
}

pub refused-not_another_status : {T E : Type 0} (Works : Seen → Seen → Result T E → Type 0) (text : T → List ℕ) (told_as : E → Fault) (after : Outside)
    → EndsWith Works text told_as begins after 0 no_report (Some no_image) → ⊥
refused-not_another_status Works text told_as after is = elim (parts Works (λ found. Tells true (text found)) told_as _ _ _ is) [
  | inl (found, works, told) ↦ told.told
  | inr (why, works, told) ↦ let same = ap status_in told.fault_is in let status = told.refuses.status_is in omega (arith, same, status)
]

-- and nothing was written, where that is so of each cause but the device
pub refused-not_written : {T E : Type 0} (Works : Seen → Seen → Result T E → Type 0) (text : T → List ℕ) (told_as : E → Fault)
    → ((why : E) → Works begins.device flushed (Err why) → (told_as why ≡ fault.Device) ⊎ IsUntouched true begins.device flushed)
    → (held : List ℕ) → EndsWith Works text told_as begins (bare (Flush true ∷ []) (7 ∷ []) held 0) 4 no_report (Some no_image) → ⊥
refused-not_written Works text told_as nothing held is = elim (parts Works (λ found. Tells true (text found)) told_as _ _ _ is) [
  | inl (found, works, told) ↦ told.told
  | inr (why, works, told) ↦ elim (nothing why works) [
    | inl device ↦ let same = ap status_in (told.fault_is ∙ ap (λ (f : Fault). Some f) device) in omega (arith, same)
    | inr reads ↦ not_flushed reads
  ]
]

-- The last call failed, and none was made after it, where that is so of the work.
pub failed-not_last : {T : Type 0} (Works : Seen → Seen → Result T ImageFault → Type 0) (text : T → List ℕ) → (Works begins.device went_on (Err image.Device) → ⊥)
    → (held : List ℕ) → EndsWith Works text told_as begins (outside went_on (source (7 ∷ []) 0) (sink held 0)) 3 no_report (Some fault.Device) → ⊥
failed-not_last Works text last held is = elim (parts Works (λ found. Tells true (text found)) told_as _ _ _ is) [
  | inl (found, works, told) ↦ told.told
  | inr (why, works, told) ↦ of_why Works last why told.fault_is works
]
  where
    of_why : {T : Type 0} (Works : Seen → Seen → Result T ImageFault → Type 0) → (Works begins.device went_on (Err image.Device) → ⊥)
        → (why : ImageFault) → Some fault.Device ≡ Some (told_as why) → Works begins.device went_on (Err why) → ⊥
    of_why Works last image.Device is works = last works
    of_why Works last image.Memory is works = absurd (cc is)
    of_why Works last image.Unclean is works = absurd (cc is)
    of_why Works last (image.Super refusal) is works = absurd (cc is)
    of_why Works last (image.Window sequence) is works = absurd (cc is)
    of_why Works last (image.Page block refusal) is works = absurd (cc is)
    of_why Works last (image.Counter block point) is works = absurd (cc is)
    of_why Works last (image.SharedPage block) is works = absurd (cc is)
    of_why Works last (image.Counts block stored mapped) is works = absurd (cc is)
