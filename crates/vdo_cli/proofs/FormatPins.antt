-- Rows that pin how the making of an image ends (`EndsSo` of the words `format`, its parts `MakesImage`, `IsMade`, `IsNotMade`): for
-- each part some that it accepts, and some that break this part alone.
use Rattle.std.proofs.Common.{ℕ, ◌≡◌, true, false, IsTrue, List, [], ◌∷◌, length, take, Option, Some, None, Result, Ok, Err, codes, refl, sym, ◌∙◌, ap, inl, inr, arith, length-append}
use Rattle.blk_base.proofs.Example.{small as default_sizes}
use Rattle.disk_model.specs.declared.call.Call.TheVariants.{Flush}
use Rattle.disk_model.specs.Images.{HasOneImage}
use Rattle.disk_model.specs.Log.{Blocks}
use Rattle.disk_model.specs.Seen.{Seen, Stays}
use Rattle.disk_model.specs.Streams.{SourceSeen}
use Rattle.disk_model.proofs.StreamExample.{sink}
use Rattle.image_format.specs.Formats.{LeavesEmpty, StopsAreRight}
use Rattle.image_layout.specs.PossibleSizes.{plan_of}
use Rattle.image_layout.specs.Superblock as superblock
use Rattle.image_layout.specs.declared.fault.LayoutFault.{LayoutFault}
use Rattle.image_layout.specs.declared.fault.LayoutFault.TheVariants.{TooSmall, LogicalTooLarge}
use Rattle.command_text.specs.Formats.{formatted_text}
use Rattle.vdo_model.specs.declared.report.RunReport.{RunReport}
use Rattle.vdo_cli.specs.declared.fault.Fault.{Fault}
use Rattle.vdo_cli.specs.declared.fault.Fault.TheVariants as fault
use Rattle.vdo_cli.specs.NewImages.{MakingFails}
use Rattle.vdo_cli.specs.Outsides.{Outside, no_report, outside}
use Rattle.vdo_cli.specs.Texts.{fault_text}
use Rattle.vdo_cli.proofs.CommandPins.{format_words}
use Rattle.vdo_cli.proofs.PlayPins.{device, source}
use Rattle.vdo_cli.proofs.RunPins.{Ends, begins, some_report, with}

-- the device of one block is too small
abbrev too_small : Fault
too_small = fault.Layout (TooSmall 154 1)

abbrev refused : Outside
refused = with [] (7 ∷ []) (fault_text too_small) 0

too_small_is : plan_of default_sizes 1 ≡ Err (TooSmall 154 1)
unfolding superblock.is_within
too_small_is = refl

-- and no other answer is there
abbrev Planned : Type 0
Planned = Result (Unit {0}) LayoutFault

one_answer : (answer : Planned) → plan_of default_sizes 1 ≡ answer → ◌≡◌ {A = Planned} (Err (TooSmall 154 1)) answer
one_answer answer is = sym too_small_is ∙ is

not_too_large : ◌≡◌ {A = Planned} (Err (TooSmall 154 1)) (Err LogicalTooLarge) → ⊥
not_too_large is = absurd cc

not_planned : ◌≡◌ {A = Planned} (Err (TooSmall 154 1)) (Ok tt) → ⊥
not_planned is = absurd cc

-- nothing was done to it; its block isn't whole, so nothing is claimed of what a stop leaves
nothing_done : IsTrue true → StopsAreRight default_sizes begins.device begins.device
nothing_done told = ([], refl, λ old one. absurd (not_whole old one))
  where
    not_whole : (old : Blocks) → HasOneImage ([] ∷ []) [] old → ⊥
    not_whole old one =
        let whole = one.whole 0 (omega arith) in
        let empty = ap length (one.only 0 (omega arith)).0 in
        omega (arith, whole, empty)

-- Layout. The sizes can't be had, nothing was done, and the line says so:
layout-refused : Ends format_words begins refused 8 no_report (Some too_small)
layout-refused = record {
  ends = record { cause = (too_small_is, refl); refuses = record { status_is = refl; report_is = refl; puts = inl (λ told. refl) } };
  stays = record { opening = refl; size = refl };
  stops = nothing_done;
  source = refl;
}

-- or a part of it, where the sink failed
layout-part : Ends format_words begins (with [] (7 ∷ []) (codes "la") 1) 8 no_report (Some too_small)
layout-part = record {
  ends = record { cause = (too_small_is, refl); refuses = record { status_is = refl; report_is = refl; puts = inr (omega arith, λ told. (2, refl)) } };
  stays = record { opening = refl; size = refl };
  stops = nothing_done;
  source = refl;
}

layout-not_another_fault : (after : Outside) → Ends format_words begins after 8 no_report (Some (fault.Layout LogicalTooLarge)) → ⊥
layout-not_another_fault after makes = not_too_large (one_answer (Err LogicalTooLarge) makes.ends.cause.0)

layout-not_called : Ends format_words begins (with (Flush true ∷ []) (7 ∷ []) (fault_text too_small) 0) 8 no_report (Some too_small) → ⊥
layout-not_called makes = let same = ap (λ (seen : Seen). length seen.log) makes.ends.cause.1 in omega (arith, same)

layout-not_another_status : Ends format_words begins refused 3 no_report (Some too_small) → ⊥
layout-not_another_status makes = omega (arith, makes.ends.refuses.status_is)

layout-not_silent : Ends format_words begins begins 8 no_report (Some too_small) → ⊥
layout-not_silent makes = elim makes.ends.refuses.puts [ inl put ↦ let size = ap length (put refl) in omega (arith, size) | inr (rose, part) ↦ omega (arith, rose) ]

layout-not_reported : Ends format_words begins refused 8 some_report (Some too_small) → ⊥
layout-not_reported makes = let same = ap (λ (report : RunReport). length report.requests) makes.ends.refuses.report_is in omega (arith, same)

-- the script isn't looked at: no byte of it is taken, and its source doesn't fail
layout-not_taken : Ends format_words begins (with [] [] (fault_text too_small) 0) 8 no_report (Some too_small) → ⊥
layout-not_taken makes = let same = ap (λ (s : SourceSeen). length s.left) makes.source in omega (arith, same)

layout-not_source_failed : Ends format_words begins (outside (device ([] ∷ []) [] 0 0) (source (7 ∷ []) 1) (sink (fault_text too_small) 0)) 8 no_report (Some too_small) → ⊥
layout-not_source_failed makes = omega (arith, ap (λ (s : SourceSeen). s.faults) makes.source)

-- the device is the same one, and what was done to it before stays done
format-not_of_another_size : (after : Outside) → after.device.size ≡ 2 → Ends format_words begins after 8 no_report (Some too_small) → ⊥
format-not_of_another_size after two makes = omega (arith, two, makes.stays.size)

format-not_undone : (after : Outside) → after.device.log ≡ [] → (status : ℕ) (report : RunReport) (ended : Option Fault)
    → Ends format_words (with (Flush true ∷ []) [] [] 0) after status report ended → ⊥
format-not_undone after none status report ended makes =
    let since = makes.stops refl in
    let size = ap length (sym none ∙ since.1) in
    omega (arith, size, length-append since.0 (Flush true ∷ []))

-- Device. A call failed, of an image whose sizes can be had: on a device that tells nothing, its count of faults rose;
abbrev of_size : ℕ → ℕ → Seen
of_size size faults = record { opening = []; size = size; log = []; faults = faults; unkept = 0 }

device-failed : plan_of default_sizes 154 ≡ Ok tt → MakingFails false default_sizes (of_size 154 0) (of_size 154 1) fault.Device
device-failed planned = (planned, record { rose = omega arith; logged = λ told. absurd cc })

-- and not where it didn't, nor where they can't be had
device-not_without_rise : MakingFails false default_sizes (of_size 154 0) (of_size 154 0) fault.Device → ⊥
device-not_without_rise fails = omega (arith, fails.1.rose)

device-not_of_a_small_one : (after : Outside) → Ends format_words begins after 3 no_report (Some fault.Device) → ⊥
device-not_of_a_small_one after makes = not_planned (one_answer (Ok tt) makes.ends.cause.0)

-- The other faults don't come of it
memory-never : (after : Outside) → Ends format_words begins after 5 no_report (Some fault.Memory) → ⊥
memory-never after makes = makes.ends.cause

usage-never : (after : Outside) → Ends format_words begins after 2 no_report (Some fault.Usage) → ⊥
usage-never after makes = makes.ends.cause

read-never : (after : Outside) → Ends format_words begins after 7 no_report (Some fault.Read) → ⊥
read-never after makes = makes.ends.cause

-- An image was made: its line was put, with status 0;
abbrev line : List ℕ
line = formatted_text default_sizes

module _ (before after : Seen) (planned : plan_of default_sizes before.size ≡ Ok tt) (empty : IsTrue true → LeavesEmpty default_sizes before after)
    (stays : Stays before after) (stops : IsTrue true → StopsAreRight default_sizes before after) where
  made-told : Ends format_words (outside before (source [] 0) (sink [] 0)) (outside after (source [] 0) (sink line 0)) 0 no_report None
  made-told = record {
    ends = record { planned = planned; image = empty; report_is = refl; line = (refl, λ told. refl) };
    stays = stays;
    stops = stops;
    source = refl;
  }

  -- or the sink failed, with status 7 and a part of the line
  made-part : (n : ℕ) → Ends format_words (outside before (source [] 0) (sink [] 0)) (outside after (source [] 0) (sink (take n line) 1)) 7 no_report (Some fault.Sink)
  made-part n = record {
    ends = record { planned = planned; image = empty; report_is = refl; line = (refl, omega arith, λ told. (n, refl)) };
    stays = stays;
    stops = stops;
    source = refl;
  }

made-not_on_a_small_device : (after : Outside) → Ends format_words begins after 0 no_report None → ⊥
made-not_on_a_small_device after makes = not_planned (one_answer (Ok tt) makes.ends.planned)

made-not_another_status : (before after : Outside) → Ends format_words before after 1 no_report None → ⊥
made-not_another_status before after makes = omega (arith, makes.ends.line.0)

made-not_silent : (before after : Seen) → Ends format_words (outside before (source [] 0) (sink [] 0)) (outside after (source [] 0) (sink [] 0)) 0 no_report None → ⊥
made-not_silent before after makes = absurd (let put = makes.ends.line.1 refl in cc)

made-not_reported : (before after : Outside) → Ends format_words before after 0 some_report None → ⊥
made-not_reported before after makes = let same = ap (λ (report : RunReport). length report.requests) makes.ends.report_is in omega (arith, same)

sink-not_without_rise : (before after : Seen) → Ends format_words (outside before (source [] 0) (sink [] 0)) (outside after (source [] 0) (sink [] 0)) 7 no_report (Some fault.Sink) → ⊥
sink-not_without_rise before after makes = omega (arith, makes.ends.line.1)
