-- Histories, computed at rows: each mark, with and without an answer, and what becomes of the run.
use Rattle.std.proofs.Common.{◌≡◌, ◌&&◌, Bool, true, false, [], ◌∷◌, Some, None, refl}
use Rattle.blk_base.specs.declared.request.Answer.TheVariants as reply
use Rattle.blk_base.specs.declared.request.Request.TheVariants.{Read, Write, Discard, Flush}
use Rattle.blk_base.specs.Sectors.{filled_block as block}
use Rattle.blk_base.specs.Forms.{lba as address}
use Rattle.vdo_model.specs.declared.report.Mark.{Mark}
use Rattle.vdo_model.specs.declared.report.Mark.TheVariants.{Settled, Unsettled, Refused}
use Rattle.vdo_model.specs.Scripts.{same_writer}
use Rattle.vdo_model.specs.Histories.{Progress, mark_of, entry_of, histories_of, history_of, is_settled}
use Rattle.vdo_model.proofs.Example.{of_a, of_b, script, first_lines, full_lines, desk, first_places, places, entry, histories}

-- mark_of, with an answer: Ok settles it, whatever is known of its slot and its entry
ok_settles : (is_set is_handed : Bool) → mark_of (Some reply.Ok) is_set is_handed ≡ Settled
ok_settles is_set is_handed = refl

-- mark_of, with an answer: stopped, it is unsettled exactly where its entry was handed in
stopped_handed_in : (is_set : Bool) → mark_of (Some reply.Stopped) is_set true ≡ Unsettled
stopped_handed_in is_set = refl

stopped_before : mark_of (Some reply.Stopped) true false ≡ Refused
stopped_before = refl

-- mark_of, with an answer: each other answer refuses it
no_room : mark_of (Some reply.Full) true true ≡ Refused
no_room = refl

no_space : mark_of (Some reply.NoSpace) true true ≡ Refused
no_space = refl

out_of_range : mark_of (Some reply.Range) true true ≡ Refused
out_of_range = refl

read_failed : mark_of (Some reply.ReadFault) true true ≡ Refused
read_failed = refl

page_damaged : mark_of (Some reply.Damaged) true true ≡ Refused
page_damaged = refl

gives_bytes : mark_of (Some (reply.Bytes (block 1))) true true ≡ Refused
gives_bytes = refl

-- mark_of, without an answer: settled where its slot is set, unsettled where only its entry is handed in, else refused
slot_is_set : (is_handed : Bool) → mark_of None true is_handed ≡ Settled
slot_is_set is_handed = refl

entry_is_handed_in : mark_of None false true ≡ Unsettled
entry_is_handed_in = refl

nothing_yet : mark_of None false false ≡ Refused
nothing_yet = refl

-- entry_of: a write and a discard have one, and a read, a flush and an unknown request have none
write_has_entry : (mark : Mark) → entry_of (Some (Write (address 7) (block 1) false)) (of_a 4) mark ≡ entry 7 (of_a 4) mark ∷ []
write_has_entry mark = refl

discard_has_entry : (mark : Mark) → entry_of (Some (Discard (address 7))) (of_a 4) mark ≡ entry 7 (of_a 4) mark ∷ []
discard_has_entry mark = refl

read_has_none : (mark : Mark) → entry_of (Some (Read (address 7))) (of_a 4) mark ≡ []
read_has_none mark = refl

flush_has_none : (mark : Mark) → entry_of (Some Flush) (of_a 4) mark ≡ []
flush_has_none mark = refl

unknown_has_none : (mark : Mark) → entry_of None (of_a 4) mark ≡ []
unknown_has_none mark = refl

-- histories_of: the run's writes in the order of their places, whatever is known beside their answers
pub run_has_histories : (progress : Progress) → histories_of script desk progress places ≡ histories
run_has_histories progress = refl

-- histories_of: the write of b has no answer in the first lines; its slot is set, or its entry handed in, or neither
abbrev known : Bool → Bool → Progress
known is_set is_handed = record { is_set = λ w. same_writer w (of_b 0) && is_set; is_handed = λ w. same_writer w (of_b 0) && is_handed }

set_there : histories_of script first_lines (known true false) first_places ≡ entry 812 (of_b 0) Settled ∷ entry 1 (of_a 0) Settled ∷ []
set_there = refl

handed_in_there : histories_of script first_lines (known false true) first_places ≡ entry 812 (of_b 0) Unsettled ∷ entry 1 (of_a 0) Settled ∷ []
handed_in_there = refl

nothing_there : histories_of script first_lines (known false false) first_places ≡ entry 812 (of_b 0) Refused ∷ entry 1 (of_a 0) Settled ∷ []
nothing_there = refl

-- histories_of: a write that finds no room is in its history, refused
refused_write : (progress : Progress) → histories_of script full_lines progress places ≡ entry 1 (of_a 2) Refused ∷ histories_of script full_lines progress first_places
refused_write progress = refl

-- history_of: the entries of an address, the newest first, and none of another
history_of_first : history_of histories 1 ≡ entry 1 (of_a 2) Settled ∷ entry 1 (of_a 0) Settled ∷ []
history_of_first = refl

history_of_other : history_of histories 812 ≡ entry 812 (of_b 0) Settled ∷ []
history_of_other = refl

never_written : history_of histories 2 ≡ []
never_written = refl

-- is_settled: of the three marks one
settled : is_settled Settled ≡ true
settled = refl

unsettled : is_settled Unsettled ≡ false
unsettled = refl

refused : is_settled Refused ≡ false
refused = refl
