-- Rows that pin how an audit ends (`EndsSo` of the word `audit`, its part `TellsReport`): for each
-- part some that it accepts, and some that break this part alone.
use Rattle.std.proofs.Common.{ℕ, ◌≡◌, ◌≤◌, ◌++◌, true, false, List, [], ◌∷◌, length, take, Option, Some, None, Result, Ok, Err, codes, refl, ap, inl, inr, arith}
use Rattle.audit.specs.Audits.{AuditFails, IsAudited}
use Rattle.audit.specs.declared.forms.Report.{Report}
use Rattle.blk_base.specs.declared.place.Pbn.{Pbn}
use Rattle.blk_base.specs.declared.point.Point.{Point}
use Rattle.blk_base.specs.Forms.{pbn as at}
use Rattle.disk_model.specs.declared.call.Call.{Call}
use Rattle.disk_model.specs.declared.call.Call.TheVariants.{Read, Write, Flush}
use Rattle.disk_model.specs.Seen.{Seen}
use Rattle.disk_model.specs.Trust.{trust_of}
use Rattle.disk_model.specs.Since.{IsUntouched, OnlyReads}
use Rattle.disk_model.proofs.StreamExample.{sink}
use Rattle.image_layout.specs.declared.fault.SuperFault.TheVariants.{NotAnImage}
use Rattle.image_model.specs.declared.fault.ImageFault.{ImageFault}
use Rattle.image_model.specs.declared.fault.ImageFault.TheVariants as image
use Rattle.page_codec.specs.declared.fault.PageFault.{PageFault}
use Rattle.vdo_model.specs.declared.report.RunReport.{RunReport}
use Rattle.command_text.specs.Audits.{report_text}
use Rattle.vdo_cli.specs.declared.fault.Fault.{Fault}
use Rattle.vdo_cli.specs.declared.fault.Fault.TheVariants as fault
use Rattle.vdo_cli.specs.Inspections.{Looks, TellsReport, told_as}
use Rattle.vdo_cli.specs.Outsides.{Outside, no_report, outcome, outside}
use Rattle.vdo_cli.specs.Results.{TellsResult}
use Rattle.vdo_cli.specs.Texts.{fault_text}
use Rattle.vdo_cli.proofs.CommandPins.{audit_words}
use Rattle.vdo_cli.proofs.PlayPins.{device, bare, begins, no_image, source, status_in}
use Rattle.vdo_cli.proofs.ResultPins as pins
use Rattle.vdo_cli.proofs.ResultPins.{Parts}
use Rattle.vdo_cli.proofs.RunPins.{Ends, some_report}

-- told_as: a device that failed and want of memory have faults of their own, what is wrong with an image is told as it is
device_is_told : told_as image.Device ≡ fault.Device
device_is_told = refl

memory_is_told : told_as image.Memory ≡ fault.Memory
memory_is_told = refl

page_is_told : (block : Pbn) (why : PageFault) → told_as (image.Page block why) ≡ fault.Image (image.Page block why)
page_is_told block why = refl

counter_is_told : (block : Pbn) (point : Point) → told_as (image.Counter block point) ≡ fault.Image (image.Counter block point)
counter_is_told block point = refl

-- what an audit does, and the two parts that it may end with
abbrev Audits : Seen → Seen → Result Report ImageFault → Type 0
Audits before after result = Looks (trust_of true false) (IsAudited (trust_of true false) before after) before after result

parts : {before after : Outside} {status : ℕ} {report : RunReport} {ended : Option Fault} → Ends audit_words before after status report ended
    → Parts Audits (TellsReport true) told_as before after (outcome status report ended)
parts {before = before} {after = after} ends = pins.parts Audits (TellsReport true) told_as before after _ ends

-- Image. There is none, nothing was done,
refused : Audits begins.device begins.device (Err (image.Super NotAnImage))
refused = record {
  found = tt;
  failed = inl (inl (record { none = refl; fault_is = refl; same = refl }));
  untouched = pins.untouched;
}

-- and the line says so:
image-refused : Ends audit_words begins (bare [] (7 ∷ []) (fault_text no_image) 0) 4 no_report (Some no_image)
image-refused = record {
  result = Err (image.Super NotAnImage);
  works = refused;
  ends = record { fault_is = refl; refuses = record { status_is = refl; report_is = refl; puts = inl (λ told. refl) } };
  source = refl;
}

-- or a part of it, where the sink failed
image-part : Ends audit_words begins (bare [] (7 ∷ []) (codes "bad") 1) 4 no_report (Some no_image)
image-part = record {
  result = Err (image.Super NotAnImage);
  works = refused;
  ends = record { fault_is = refl; refuses = record { status_is = refl; report_is = refl; puts = inr (omega arith, λ told. (3, refl)) } };
  source = refl;
}

image-not_another_status : (after : Outside) (why : ImageFault) → Ends audit_words begins after 3 no_report (Some (fault.Image why)) → ⊥
image-not_another_status after why ends = elim (parts ends) [
  | inl (found, works, told) ↦ told.told.1
  | inr (cause, works, nothing) ↦ let same = ap status_in nothing.fault_is in let status = nothing.refuses.status_is in omega (arith, same, status)
]

image-not_silent : Ends audit_words begins begins 4 no_report (Some no_image) → ⊥
image-not_silent ends = elim (parts ends) [
  | inl (found, works, told) ↦ told.told.1
  | inr (why, works, nothing) ↦ elim nothing.refuses.puts [
    | inl put ↦ some why nothing.fault_is (put refl)
    | inr (rose, part) ↦ omega (arith, rose)
  ]
]
  where
    line_in : Option Fault → List ℕ
    line_in (Some why) = fault_text why
    line_in None = []

    some : (why : ImageFault) → Some no_image ≡ Some (told_as why) → [] ≡ fault_text (told_as why) → ⊥
    some why is put = let size = ap length (ap line_in is) in let none = ap length put in omega (arith, size, none)

image-not_reported : Ends audit_words begins (bare [] (7 ∷ []) (fault_text no_image) 0) 4 some_report (Some no_image) → ⊥
image-not_reported ends = elim (parts ends) [
  | inl (found, works, told) ↦ told.told.1
  | inr (why, works, nothing) ↦ let same = ap (λ (report : RunReport). length report.requests) nothing.refuses.report_is in omega (arith, same)
]

-- a fault that only opening an image finds isn't there
image-not_of_counts : (before after : Outside) (block : Pbn) (stored mapped : ℕ)
    → Ends audit_words before after 4 no_report (Some (fault.Image (image.Counts block stored mapped))) → ⊥
image-not_of_counts before after block stored mapped ends = elim (parts ends) [
  | inl (found, works, told) ↦ told.told.1
  | inr (why, works, nothing) ↦ of_counts why nothing.fault_is works.failed
]
  where
    of_counts : (why : ImageFault) → Some (fault.Image (image.Counts block stored mapped)) ≡ Some (told_as why)
        → AuditFails (trust_of true false) before.device after.device why → ⊥
    of_counts image.Device same cause = absurd cc
    of_counts image.Memory same cause = absurd cc
    of_counts (image.Super why) same cause = absurd cc
    of_counts (image.Window sequence) same cause = absurd cc
    of_counts (image.Page at why) same cause = absurd cc
    of_counts (image.Counter at point) same cause = absurd cc
    of_counts (image.SharedPage at) same cause = absurd cc
    of_counts (image.Counts at count times) same cause = elim cause [
      | inl head ↦ head
      | inr later ↦ elim later [
        | inl (head, middle, read, fails) ↦ fails
        | inr (head, window, middle, opened, fails) ↦ fails
      ]
    ]
    of_counts image.Unclean same cause = absurd cc

-- Nothing is written, and the script isn't looked at, however an audit ends
looks-not_written : (status : ℕ) (report : RunReport) (ended : Option Fault) → Ends audit_words begins (bare (Write (at 0) [] true ∷ []) (7 ∷ []) [] 0) status report ended → ⊥
looks-not_written status report ended ends = let since = ends.works.untouched.reads refl in written since.0 since.1 since.2
  where
    written : (calls : List Call) → Write (at 0) [] true ∷ [] ≡ calls ++ [] → OnlyReads calls → ⊥
    written [] is reads = absurd cc
    written (Read place bytes ok ∷ calls) is reads = absurd cc
    written (Write place bytes ok ∷ calls) is reads = reads
    written (Flush ok ∷ calls) is reads = reads

looks-not_taken : (held : List ℕ) (status : ℕ) (report : RunReport) (ended : Option Fault) → Ends audit_words begins (bare [] [] held 0) status report ended → ⊥
looks-not_taken held status report ended = pins.not_taken Audits (TellsResult true (TellsReport true) told_as) held (outcome status report ended)

looks-not_source_failed : (held : List ℕ) (status : ℕ) (report : RunReport) (ended : Option Fault)
    → Ends audit_words begins (outside (device [] [] 0 0) (source (7 ∷ []) 1) (sink held 0)) status report ended → ⊥
looks-not_source_failed held status report ended = pins.not_source_failed Audits (TellsResult true (TellsReport true) told_as) held (outcome status report ended)

-- TellsReport. No block differs: the text was put, with status 0;
clean-told : (found : Report) → found.differs.items ≡ [] → TellsReport true found 0 None (sink [] 0) (sink (report_text found) 0)
clean-told found none = (none, (refl, λ told. refl))

-- or a part of it, with 7
clean-part : (found : Report) (n : ℕ) → found.differs.items ≡ [] → TellsReport true found 7 (Some fault.Sink) (sink [] 0) (sink (take n (report_text found)) 1)
clean-part found n none = (none, (refl, omega arith, λ told. (n, refl)))

clean-not_another_status : (found : Report) → TellsReport true found 6 None (sink [] 0) (sink (report_text found) 0) → ⊥
clean-not_another_status found tells = let status = tells.1.0 in omega (arith, status)

-- with no status 0 where one does
clean-not_where_some_differ : (found : Report) → 1 ≤ length found.differs.items → (held : List ℕ) (status : ℕ) → TellsReport true found status None (sink [] 0) (sink held 0) → ⊥
clean-not_where_some_differ found some held status tells = let none = ap length tells.0 in omega (arith, some, none)

sink-not_where_some_differ : (found : Report) → 1 ≤ length found.differs.items → (held : List ℕ) (status : ℕ) → TellsReport true found status (Some fault.Sink) (sink [] 0) (sink held 1) → ⊥
sink-not_where_some_differ found some held status tells = let none = ap length tells.0 in omega (arith, some, none)

sink-not_without_rise : (found : Report) (held : List ℕ) → TellsReport true found 7 (Some fault.Sink) (sink [] 0) (sink held 0) → ⊥
sink-not_without_rise found held tells = let rose = tells.1.1 in omega (arith, rose)

-- Some differ: the text was put, with status 6 and their number;
differs-told : (found : Report) (count : ℕ) → 1 ≤ count → count ≡ length found.differs.items → TellsReport true found 6 (Some (fault.Differs count)) (sink [] 0) (sink (report_text found) 0)
differs-told found count some is = (some, is, refl, inl (λ told. refl))

-- also where the sink failed and has a part of it
differs-part : (found : Report) (count n : ℕ) → 1 ≤ count → count ≡ length found.differs.items
    → TellsReport true found 6 (Some (fault.Differs count)) (sink [] 0) (sink (take n (report_text found)) 1)
differs-part found count n some is = (some, is, refl, inr (omega arith, λ told. (n, refl)))

differs-not_another_status : (found : Report) (count : ℕ) (held : List ℕ) → TellsReport true found 0 (Some (fault.Differs count)) (sink [] 0) (sink held 0) → ⊥
differs-not_another_status found count held tells = omega (arith, tells.2)

differs-not_another_number : (found : Report) (held : List ℕ) → length found.differs.items ≡ 2 → TellsReport true found 6 (Some (fault.Differs 1)) (sink [] 0) (sink held 0) → ⊥
differs-not_another_number found held two tells = omega (arith, two, tells.1)

differs-not_none : (found : Report) (held : List ℕ) → TellsReport true found 6 (Some (fault.Differs 0)) (sink [] 0) (sink held 0) → ⊥
differs-not_none found held tells = omega (arith, tells.0)

differs-not_silent : (found : Report) (count : ℕ) → 1 ≤ length (report_text found) → TellsReport true found 6 (Some (fault.Differs count)) (sink [] 0) (sink [] 0) → ⊥
differs-not_silent found count some tells = elim tells.3 [
  | inl put ↦ let size = ap length (put refl) in omega (arith, some, size)
  | inr (rose, part) ↦ omega (arith, rose)
]

-- and a report ends with no other fault
report-not_an_image_s_fault : (found : Report) (status : ℕ) (why : ImageFault) (held : List ℕ) → TellsReport true found status (Some (fault.Image why)) (sink [] 0) (sink held 0) → ⊥
report-not_an_image_s_fault found status why held tells = tells.1

-- Told. The image was audited, and its report was put
module _ (before after : Seen) (found : Report) (audited : IsAudited (trust_of true false) before after found) (untouched : IsUntouched true before after) where
  told-clean : found.differs.items ≡ [] → Ends audit_words (outside before (source [] 0) (sink [] 0)) (outside after (source [] 0) (sink (report_text found) 0)) 0 no_report None
  told-clean none = record {
    result = Ok found;
    works = record { found = audited; failed = tt; untouched = untouched };
    ends = record { report_is = refl; told = clean-told found none };
    source = refl;
  }

  told-differs : (count : ℕ) → 1 ≤ count → count ≡ length found.differs.items
      → Ends audit_words (outside before (source [] 0) (sink [] 0)) (outside after (source [] 0) (sink (report_text found) 0)) 6 no_report (Some (fault.Differs count))
  told-differs count some is = record {
    result = Ok found;
    works = record { found = audited; failed = tt; untouched = untouched };
    ends = record { report_is = refl; told = differs-told found count some is };
    source = refl;
  }

-- with no report of a session
told-not_reported : (before after : Outside) → Ends audit_words before after 0 some_report None → ⊥
told-not_reported = pins.not_reported Audits (TellsReport true) told_as
