-- Rows that pin the flush with which a change of an image begins (`IsFlushed`, `IsNotFlushed`, `FlushFails`, `EndsFlushed`, `Settles`):
-- for each part some that it accepts, and some that break this part alone.
use Rattle.std.proofs.Common.{ℕ, ◌≡◌, true, false, List, [], ◌∷◌, length, Option, Some, codes, refl, ap, inl, inr, arith}
use Rattle.blk_base.specs.Forms.{pbn as at}
use Rattle.disk_model.specs.declared.call.Call.{Call}
use Rattle.disk_model.specs.declared.call.Call.TheVariants.{Read, Write, Flush}
use Rattle.disk_model.specs.Log.{Blocks}
use Rattle.disk_model.specs.Seen.{Seen}
use Rattle.disk_model.specs.Trust.{trust_of}
use Rattle.disk_model.specs.Streams.{SourceSeen}
use Rattle.disk_model.proofs.StreamExample.{sink}
use Rattle.vdo_model.specs.declared.report.RunReport.{RunReport}
use Rattle.vdo_cli.specs.declared.fault.Fault.{Fault}
use Rattle.vdo_cli.specs.declared.fault.Fault.TheVariants as fault
use Rattle.vdo_cli.specs.declared.words.Change.{Change}
use Rattle.vdo_cli.specs.Flushes.{IsFlushed, IsNotFlushed, Settles}
use Rattle.vdo_cli.specs.Outsides.{Outside, no_report, outcome, outside}
use Rattle.vdo_cli.specs.Runs.{EndsChange, EndsFlushed, FlushFails}
use Rattle.vdo_cli.proofs.PlayPins.{device, source}
use Rattle.vdo_cli.proofs.RunPins.{Changes, begins, some_report, telling, with}

-- IsFlushed: the log has a flush more that succeeded;
flushed-more : IsFlushed true (device [] [] 0 0) (device [] (Flush true ∷ []) 0 0)
flushed-more = record { stays = record { opening = refl; size = refl }; later = record { faults = omega arith; unkept = omega arith }; logged = λ told. refl }

-- not the same log, nor one with another call, nor with two
flushed-not_left_out : IsFlushed true (device [] [] 0 0) (device [] [] 0 0) → ⊥
flushed-not_left_out is = let size = ap length (is.logged refl) in omega (arith, size)

flushed-not_failed : IsFlushed true (device [] [] 0 0) (device [] (Flush false ∷ []) 0 0) → ⊥
flushed-not_failed is = let same = is.logged refl in absurd (cc same)

flushed-not_read : IsFlushed true (device [] [] 0 0) (device [] (Read (at 0) [] true ∷ Flush true ∷ []) 0 0) → ⊥
flushed-not_read is = let size = ap length (is.logged refl) in omega (arith, size)

flushed-not_of_another_size : (log : List Call) → IsFlushed true (device ([] ∷ []) [] 0 0) (device [] log 0 0) → ⊥
flushed-not_of_another_size log is = omega (arith, is.stays.size)

flushed-not_fewer_faults : (log : List Call) → IsFlushed true (device [] [] 1 0) (device [] log 0 0) → ⊥
flushed-not_fewer_faults log is = omega (arith, is.later.faults)

-- IsNotFlushed: the count of faults rose, and the log has a flush more that failed; or it found no memory for that
not_flushed-failed : IsNotFlushed true (device [] [] 0 0) (device [] (Flush false ∷ []) 1 0)
not_flushed-failed = record { stays = record { opening = refl; size = refl }; rose = omega arith; logged = λ told. inl refl }

not_flushed-unkept : IsNotFlushed true (device [] [] 0 0) (device [] [] 1 1)
not_flushed-unkept = record { stays = record { opening = refl; size = refl }; rose = omega arith; logged = λ told. inr (refl, omega arith) }

not_flushed-not_without_rise : (log : List Call) → IsNotFlushed true (device [] [] 0 0) (device [] log 0 0) → ⊥
not_flushed-not_without_rise log is = omega (arith, is.rose)

not_flushed-not_written : (bytes : List ℕ) → IsNotFlushed true (device [] [] 0 0) (device [] (Write (at 0) bytes true ∷ []) 1 0) → ⊥
not_flushed-not_written bytes is = elim (is.logged refl) [
  | inl same ↦ absurd (cc same)
  | inr none ↦ let size = ap length none.0 in omega (arith, size)
]

-- EndsFlushed: behind the flush the change ended so, whatever it is;
behind-flush : (asked : Change) (after : Outside) (status : ℕ) (report : RunReport) (why : Option Fault) → Changes asked (with (Flush true ∷ []) (7 ∷ []) [] 0) after status report why
    → EndsFlushed telling asked begins after (outcome status report why)
behind-flush asked after status report why ends = inl (
  device ([] ∷ []) (Flush true ∷ []) 0 0,
  record { stays = record { opening = refl; size = refl }; later = record { faults = omega arith; unkept = omega arith }; logged = λ told. refl },
  ends,
)

-- or the flush failed, and only the line of that fault was put
abbrev failed : Outside
failed = outside (device ([] ∷ []) (Flush false ∷ []) 1 0) (source (7 ∷ []) 0) (sink (codes "device fault\n") 0)

flush-failed : (asked : Change) → EndsFlushed telling asked begins failed (outcome 3 no_report (Some fault.Device))
flush-failed asked = inr (record {
  fault_is = refl;
  device = record { stays = record { opening = refl; size = refl }; rose = omega arith; logged = λ told. inl refl };
  source = refl;
  refuses = record { status_is = refl; report_is = refl; puts = inl (λ told. refl) };
})

fails-not_another_fault : (after : Outside) (status : ℕ) (report : RunReport) → FlushFails telling begins after (outcome status report (Some fault.Memory)) → ⊥
fails-not_another_fault after status report is = let same = is.fault_is in absurd (cc same)

fails-not_taken : (held : List ℕ) (status : ℕ) (report : RunReport) (why : Option Fault) → FlushFails telling begins (with (Flush false ∷ []) [] held 0) (outcome status report why) → ⊥
fails-not_taken held status report why is = let same = ap (λ (s : SourceSeen). length s.left) is.source in omega (arith, same)

fails-not_another_status : (after : Outside) (report : RunReport) (why : Option Fault) → FlushFails telling begins after (outcome 4 report why) → ⊥
fails-not_another_status after report why is = omega (arith, is.refuses.status_is)

fails-not_reported : (after : Outside) (status : ℕ) (why : Option Fault) → FlushFails telling begins after (outcome status some_report why) → ⊥
fails-not_reported after status why is = let same = ap (λ (report : RunReport). length report.requests) is.refuses.report_is in omega (arith, same)

-- nor is it left out, whatever was done then
flush-not_left_out : (asked : Change) (calls : List Call) (held : List ℕ) (status : ℕ) (report : RunReport) (why : Option Fault)
    → ((flushed : Seen) → flushed.log ≡ Flush true ∷ [] → EndsChange telling asked (record begins { device = flushed }) (with calls (7 ∷ []) held 0) (outcome status report why) → ⊥)
    → EndsFlushed telling asked begins (with calls (7 ∷ []) held 0) (outcome status report why) → ⊥
flush-not_left_out asked calls held status report why never (inl behind) = never behind.0 (behind.1.logged refl) behind.2
flush-not_left_out asked calls held status report why never (inr fails) = omega (arith, fails.device.rose)

-- Settles: a flush would leave what was written, though it is pending now; of a device that doesn't tell nothing is said
settles-not_untold : (now : Seen) (image : Blocks) → Settles (trust_of false true) now image → ⊥
settles-not_untold now image settles = let tells = settles.told in absurd (cc tells)

settles-not_unfair : (now : Seen) (image : Blocks) → Settles (trust_of true false) now image → ⊥
settles-not_unfair now image settles = let fair = settles.fair in absurd (cc fair)

settles-not_of_another_size : (image : Blocks) → length image ≡ 2 → Settles (trust_of true true) (device [] [] 0 0) image → ⊥
settles-not_of_another_size image two settles = let size = settles.one.size in omega (arith, size, two)
