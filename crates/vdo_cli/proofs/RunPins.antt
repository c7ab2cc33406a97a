-- Rows that pin how a run ends (`EndsSo`, and `EndsChange` of a script): for each part some that it accepts, and some that break this part alone.
use Rattle.std.proofs.Common.{ℕ, zero, suc, ◌≡◌, ◌++◌, true, false, List, [], ◌∷◌, length, take, Option, Some, None, codes, refl, ap, inl, inr, arith, length-append}
use Rattle.blk_base.specs.Forms.{pbn as at}
use Rattle.disk_model.specs.declared.call.Call.{Call}
use Rattle.disk_model.specs.declared.call.Call.TheVariants.{Read, Flush}
use Rattle.disk_model.specs.Seen.{Seen}
use Rattle.disk_model.specs.Trust.{trust_of}
use Rattle.disk_model.specs.Streams.{SourceSeen}
use Rattle.disk_model.proofs.StreamExample.{sink}
use Rattle.rebuild.specs.declared.forms.Recovered.{Recovered}
use Rattle.vdo_model.specs.declared.report.RunReport.{RunReport}
use Rattle.image_model.specs.declared.fault.ImageFault.{ImageFault}
use Rattle.image_model.specs.declared.fault.ImageFault.TheVariants as image
use Rattle.vdo_cli.specs.declared.fault.Fault.{Fault}
use Rattle.vdo_cli.specs.declared.fault.Fault.TheVariants as fault
use Rattle.vdo_cli.specs.declared.words.Change.{Change}
use Rattle.vdo_cli.specs.declared.words.Change.TheVariants as change
use Rattle.vdo_cli.specs.Closings.{PutsWith}
use Rattle.vdo_cli.specs.Endings.{RunsSession}
use Rattle.vdo_cli.specs.Inspections.{told_as}
use Rattle.vdo_cli.specs.Onward.{GoesOn}
use Rattle.vdo_cli.specs.Outsides.{Setting, Outside, no_report, input_setting, inputs, outcome, outside, setting}
use Rattle.vdo_cli.specs.Runs.{EndsChange, EndsSo}
use Rattle.vdo_cli.specs.Texts.{served_status, session_text, struck_status}
use Rattle.vdo_cli.specs.Openings.{recovered_of}
use Rattle.vdo_cli.proofs.EmptyScript.{usual}
use Rattle.vdo_cli.proofs.PlayPins.{device, source}

-- all of the outside tells
abbrev pub telling : Setting
telling = setting (trust_of true false) true true

abbrev pub Ends : List (List ℕ) → Outside → Outside → ℕ → RunReport → Option Fault → Type 0
Ends words before after status report why = EndsSo telling words before after (outcome status report why)

-- a change of an image, behind the flush of the device
abbrev pub Changes : Change → Outside → Outside → ℕ → RunReport → Option Fault → Type 0
Changes asked before after status report why = EndsChange telling asked before after (outcome status report why)

-- a script is run by the schedule 0
abbrev pub script : Change
script = change.Script (usual 0)

-- a device of one block, a source with one byte left, and a sink that holds these bytes
abbrev pub with : List Call → List ℕ → List ℕ → ℕ → Outside
with log left held faults = outside (device ([] ∷ []) log 0 0) (source left 0) (sink held faults)

abbrev pub begins : Outside
begins = with [] (7 ∷ []) [] 0

-- another report than the empty one
abbrev pub some_report : RunReport
some_report = record { requests = [] ∷ []; desk = []; marks = []; receipts = []; places = []; histories = []; damage = None; used = 0; total = 0 }

-- Usage. The words are no command, and only its line was put:
usage-no_words : Ends [] begins (with [] (7 ∷ []) (codes "usage\n") 0) 2 no_report (Some fault.Usage)
usage-no_words = record {
  fault_is = refl;
  device = refl;
  source = refl;
  refuses = record { status_is = refl; report_is = refl; puts = inl (λ told. refl) };
}

-- or a part of it, where the sink failed
usage-part : Ends [] begins (with [] (7 ∷ []) (codes "us") 1) 2 no_report (Some fault.Usage)
usage-part = record {
  fault_is = refl;
  device = refl;
  source = refl;
  refuses = record { status_is = refl; report_is = refl; puts = inr (omega arith, λ told. (2, refl)) };
}

usage-not_run : Changes script begins (with [] (7 ∷ []) (codes "usage\n") 0) 2 no_report (Some fault.Usage) → ⊥
usage-not_run ends = elim ends.cause [ inl on_image ↦ not_usage on_image.fails.cause on_image.fails.fault_is | inr on_script ↦ absurd on_script.cause ]
  where
    not_usage : (cause : ImageFault) → fault.Usage ≡ told_as cause → ⊥
    not_usage image.Device is = absurd cc
    not_usage image.Memory is = absurd cc
    not_usage image.Unclean is = absurd cc
    not_usage (image.Super why) is = absurd cc
    not_usage (image.Window sequence) is = absurd cc
    not_usage (image.Page block why) is = absurd cc
    not_usage (image.Counter block point) is = absurd cc
    not_usage (image.SharedPage block) is = absurd cc
    not_usage (image.Counts block stored mapped) is = absurd cc

usage-not_read : Ends [] begins (with (Read (at 0) [] true ∷ []) (7 ∷ []) (codes "usage\n") 0) 2 no_report (Some fault.Usage) → ⊥
usage-not_read ends = let same = ap (λ (seen : Seen). length seen.log) ends.device in omega (arith, same)

usage-not_taken : Ends [] begins (with [] [] (codes "usage\n") 0) 2 no_report (Some fault.Usage) → ⊥
usage-not_taken ends = let same = ap (λ (s : SourceSeen). length s.left) ends.source in omega (arith, same)

usage-not_source_failed : Ends [] begins (outside (device ([] ∷ []) [] 0 0) (source (7 ∷ []) 1) (sink (codes "usage\n") 0)) 2 no_report (Some fault.Usage) → ⊥
usage-not_source_failed ends = omega (arith, ap (λ (s : SourceSeen). s.faults) ends.source)

usage-not_another_status : Ends [] begins (with [] (7 ∷ []) (codes "usage\n") 0) 3 no_report (Some fault.Usage) → ⊥
usage-not_another_status ends = omega (arith, ends.refuses.status_is)

usage-not_reported : Ends [] begins (with [] (7 ∷ []) (codes "usage\n") 0) 2 some_report (Some fault.Usage) → ⊥
usage-not_reported ends = let same = ap (λ (report : RunReport). length report.requests) ends.refuses.report_is in omega (arith, same)

usage-not_silent : Ends [] begins begins 2 no_report (Some fault.Usage) → ⊥
usage-not_silent ends = elim ends.refuses.puts [ inl put ↦ let size = ap length (put refl) in omega (arith, size) | inr (rose, part) ↦ omega (arith, rose) ]

-- nor is another text put, though the sink failed
usage-not_another_text : Ends [] begins (with [] (7 ∷ []) (9 ∷ []) 1) 2 no_report (Some fault.Usage) → ⊥
usage-not_another_text ends = elim ends.refuses.puts [
  | inl put ↦ let size = ap length (put refl) in omega (arith, size)
  | inr (rose, part) ↦ let is = part refl in other is.0 is.1
]
  where
    other : (n : ℕ) → 9 ∷ [] ≡ [] ++ take n (codes "usage\n") → ⊥
    other zero is = let size = ap length is in omega (arith, size)
    other (suc n) is = let bytes = ap first_byte is in omega (arith, bytes)
      where
        first_byte : List ℕ → ℕ
        first_byte [] = 0
        first_byte (b ∷ bs) = b

-- A fault that isn't of the words comes of the command alone
faults-not_other_words : (after : Outside) (status : ℕ) (report : RunReport) (why : Fault) → Ends [] begins after status report (Some why) → why ≡ fault.Usage
faults-not_other_words after status report why ends = let is = ends.fault_is in cc

-- A session was served: its text was put, with its status: that of damage or of a device that failed, or that of its answers
abbrev pub status_by : Option ℕ → ℕ → ℕ
status_by (Some struck) served = struck
status_by None served = served

served-whole : (found : Recovered) (report : RunReport) (before after : Seen) (left rest : List ℕ) → RunsSession (input_setting (trust_of true false) true) (usual 0) found report (inputs before (source left 0)) (inputs after (source rest 0))
    → Changes script (outside before (source left 0) (sink [] 0)) (outside after (source rest 0) (sink (session_text (recovered_of found) report) 0))
    (status_by (struck_status report) (served_status report.desk)) report None
served-whole found report before after left rest played = record {
  found = found;
  session = played;
  closes = both (struck_status report) (session_text (recovered_of found) report) (served_status report.desk);
}
  where
    both : (struck : Option ℕ) (text : List ℕ) (served : ℕ) → PutsWith struck true text served (status_by struck served) (sink [] 0) (sink text 0)
    both (Some struck) text served = (refl, inl (λ told. refl))
    both None text served = (refl, λ told. refl)

served-not_other_words : (after : Outside) (report : RunReport) → Ends [] begins after 0 report None → ⊥
served-not_other_words after report ends = absurd (let is = ends.fault_is in cc)

served-not_another_status : (after : Outside) → Changes script begins after 1 no_report None → ⊥
served-not_another_status after ends = omega (arith, ends.closes.0)

-- The sink failed in a session: its count rose, and the status is 7
sink-not_without_rise : Changes script begins (with [] [] [] 0) 7 no_report (Some fault.Sink) → ⊥
sink-not_without_rise ends = omega (arith, ends.closes.2)

sink-not_another_status : Changes script begins (with [] [] [] 1) 0 no_report (Some fault.Sink) → ⊥
sink-not_another_status ends = omega (arith, ends.closes.0)

-- A device goes on over a run: it has more calls; and not fewer ones, nor another size
goes_on-called : GoesOn true (device ([] ∷ []) [] 0 0) (device ([] ∷ []) (Flush true ∷ []) 0 0)
goes_on-called = record { stays = record { opening = refl; size = refl }; calls = λ told. (Flush true ∷ [], refl) }

goes_on-not_fewer_calls : GoesOn true (device ([] ∷ []) (Flush true ∷ []) 0 0) (device ([] ∷ []) [] 0 0) → ⊥
goes_on-not_fewer_calls goes =
    let (calls, is) = goes.calls refl in
    omega (arith, ap length is, length-append calls (Flush true ∷ []))

goes_on-not_of_another_size : GoesOn true (device ([] ∷ []) [] 0 0) (device [] [] 0 0) → ⊥
goes_on-not_of_another_size goes = omega (arith, goes.stays.size)
