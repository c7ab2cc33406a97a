-- For each definition of a device that is cut off some cases that it accepts, and some that break one clause alone.
use Rattle.std.proofs.Common.{◌≡◌, true, false, List, [], ◌∷◌, refl, arith}
use Rattle.command_text.specs.declared.crashes.CrashStop.TheVariants.{Stopped, Ended}
use Rattle.disk_model.specs.declared.call.Call.{Call}
use Rattle.disk_model.specs.declared.call.Call.TheVariants.{Flush}
use Rattle.disk_model.specs.declared.faults.CallKind.TheVariants.{Flush as FlushKind}
use Rattle.disk_model.specs.declared.fuse.Fuse.TheVariants.{Spent}
use Rattle.disk_model.specs.Memory.{Memory, fresh}
use Rattle.crash_images.specs.Cuts.{AreCutOff, IsCutDisk, IsCutOff, logs_of, stop_of}

-- AreCutOff: one flush went on, and the next one failed
abbrev one_and_one : List Call
one_and_one = Flush false ∷ Flush true ∷ []

cut_off : AreCutOff 1 one_and_one
cut_off = (refl, (refl, tt))

none_yet : AreCutOff 0 []
none_yet = tt

cut-not_later : AreCutOff 2 one_and_one → ⊥
cut-not_later is = absurd (let first = is.0 in cc first)

cut-not_earlier : AreCutOff 0 one_and_one → ⊥
cut-not_earlier is = absurd (let second = is.1.0 in cc second)

-- logs_of: what each call left, the newest first
logs_of_two : logs_of one_and_one ≡ one_and_one ∷ (Flush true ∷ []) ∷ []
logs_of_two = refl

-- IsCutOff, IsCutDisk: the fuse was spent by the second call
abbrev disk : Memory
disk = record (fresh []) { log = one_and_one; fuse = Spent 2; faults = 1 }

is_cut_off : IsCutOff 1 disk
is_cut_off = record { calls = cut_off; fuse = refl }

fuse-not_of_another_call : IsCutOff 1 (record disk { fuse = Spent 1 }) → ⊥
fuse-not_of_another_call is = absurd (let fuse = is.fuse in cc fuse)

is_cut_disk : IsCutDisk 1 disk
is_cut_disk = record { plan = refl; cut = λ none. is_cut_off }

-- where a call found no place in the log, the log says nothing
cut-unkept : IsCutDisk 0 (record disk { unkept = 1 })
cut-unkept = record { plan = refl; cut = λ none. absurd (omega (arith, none)) }

plan-not_with_a_fault : IsCutDisk 1 (record disk { plan = record { kind = FlushKind; at = record { 0 = 0 }; nth = 0; effect = true } ∷ [] }) → ⊥
plan-not_with_a_fault is = absurd (let none = is.plan in cc none)

cut-not_of_another_number : IsCutDisk 2 disk → ⊥
cut-not_of_another_number is = cut-not_later (is.cut refl).calls

-- stop_of: it stopped where more calls were made than go on
stopped : stop_of 1 one_and_one ≡ Stopped
stopped = refl

ended : stop_of 2 one_and_one ≡ Ended
ended = refl
