-- What is printed of sessions: for each definition two cases, computed.
use Rattle.std.specs.Prelude.{ℕ, ◌≡◌, List, [], ◌∷◌, ◌++◌, codes, Some, None, refl}
use Rattle.std.proofs.Common.{ap}
use Rattle.std.proofs.lemmas.List.{append_assoc, append-nil}
use Rattle.hex.specs.Hex.{encode_lower}
use Rattle.audit.specs.declared.forms.Report.{Report}
use Rattle.blk_base.specs.declared.request.Answer.TheVariants as reply
use Rattle.blk_base.specs.declared.request.Request.TheVariants.{Flush}
use Rattle.rebuild.specs.declared.forms.Recovered.TheVariants.{Clean, Entries}
use Rattle.vdo_model.specs.declared.report.DeskLine.TheVariants.{Begin, Answer}
use Rattle.stream_text.specs.Texts.{answers_text, writer}
use Rattle.command_text.proofs.Numerals.{numerals}
use Rattle.command_text.specs.declared.crashes.AddressValue.{AddressValue}
use Rattle.command_text.specs.declared.crashes.CrashStop.TheVariants.{Stopped, Ended}
use Rattle.command_text.specs.declared.parts.DamagedPlace.TheVariants.{Count}
use Rattle.command_text.specs.declared.pieces.Piece.TheVariants as piece
use Rattle.command_text.specs.declared.runs.RunNotes.{RunNotes}
use Rattle.command_text.specs.declared.sectors.SectorAnswer.TheVariants as told
use Rattle.command_text.specs.declared.sectors.SectorAsked.TheVariants as asked
use Rattle.command_text.specs.declared.sectors.SectorLine.{SectorLine}
use Rattle.command_text.specs.declared.tallies.Tally.{Tally}
use Rattle.command_text.specs.Audits.{report_text}
use Rattle.command_text.specs.Pieces.{piece_text}
use Rattle.command_text.specs.Runs.{ending_text, run_text}
use Rattle.command_text.specs.Tallies.{with_answer, with_line, tally_of}
use Rattle.command_text.specs.Workloads.{tally_text, tally_and_space_text, summary_text}
use Rattle.command_text.specs.Crashes.{stop_text, head_text, value_text, values_text, crash_text}
use Rattle.command_text.specs.Sectors.{placed_text, asked_text, answer_text, line_text, lines_text, sectors_text}
use Rattle.command_text.proofs.ImageRows.{fresh, some_used, report_clean}

-- the digits of the bytes 97 and 0: `61` and `00`
abbrev letter : List ℕ
letter = encode_lower (97 ∷ [])

abbrev zeros : List ℕ
zeros = encode_lower (0 ∷ [])

pub piece_of_number : piece_text (piece.U32 4096) ≡ codes "4096"
piece_of_number = simp numerals refl

pub piece_of_runs : piece_text (piece.Runs (record { ref_ptr = (0, 0); now = 97 ∷ 97 ∷ 0 ∷ [] }))
    ≡ codes "2*" ++ letter ++ codes "+1*" ++ zeros
piece_of_runs = simp (numerals, append_assoc, append-nil) refl

abbrev pub quiet : RunNotes
quiet = record { recovered = None; damage = None; space = Some fresh }

abbrev pub damaged : RunNotes
damaged = record { recovered = Some 30; damage = Some (Count (record { 0 = 86 })); space = Some some_used }

pub ending_quiet : ending_text quiet ≡ codes "used 0 of 64\n"
ending_quiet = simp numerals refl

-- where the space isn't known, the damage alone
pub ending_unknown : ending_text (record damaged { space = None }) ≡ codes "damage: count 86\n"
ending_unknown = simp numerals refl

pub ending_damaged : ending_text damaged ≡ codes "damage: count 86\nused 2 of 64\n"
ending_damaged = simp numerals refl

-- the answers stand between what was recovered and the ending
pub run_quiet : run_text ((Flush ∷ []) ∷ []) (Answer (writer 0 0) reply.Ok ∷ []) [] quiet
    ≡ answers_text ((Flush ∷ []) ∷ []) (Answer (writer 0 0) reply.Ok ∷ []) [] ++ codes "used 0 of 64\n"
run_quiet = simp numerals refl

pub run_damaged : run_text ((Flush ∷ []) ∷ []) [] [] damaged
    ≡ codes "recovered 30 entries\n" ++ (answers_text ((Flush ∷ []) ∷ []) [] [] ++ codes "damage: count 86\nused 2 of 64\n")
run_damaged = simp numerals refl

abbrev pub none_counted : Tally
none_counted = record { ok = 0; no_space = 0; read_sum = 0 }

pub counts_bytes : with_answer (reply.Bytes (1 ∷ 2 ∷ [])) none_counted ≡ record { ok = 1; no_space = 0; read_sum = 3 }
counts_bytes = refl

pub counts_no_space : with_answer reply.NoSpace none_counted ≡ record { ok = 0; no_space = 1; read_sum = 0 }
counts_no_space = refl

pub counts_no_stop : with_answer reply.Stopped none_counted ≡ none_counted
counts_no_stop = refl

pub counts_an_answer : with_line (Answer (writer 0 0) reply.Ok) none_counted ≡ record { ok = 1; no_space = 0; read_sum = 0 }
counts_an_answer = refl

pub counts_no_beginning : with_line (Begin (writer 0 0)) none_counted ≡ none_counted
counts_no_beginning = refl

pub tally_of_none : tally_of [] ≡ none_counted
tally_of_none = refl

pub tally_of_three : tally_of (Answer (writer 0 1) reply.Ok ∷ Begin (writer 0 1) ∷ Answer (writer 0 0) reply.Ok ∷ [])
    ≡ record { ok = 2; no_space = 0; read_sum = 0 }
tally_of_three = refl

pub counts_full : with_answer reply.Full none_counted ≡ record { ok = 0; no_space = 1; read_sum = 0 }
counts_full = refl

pub tally_printed : tally_text 1 (record { ok = 1; no_space = 0; read_sum = 0 }) ≡ codes "requests 1\nok 1\nno space 0\nread sum 0\n"
tally_printed = simp numerals refl

pub tally_of_many : tally_text 1000 (record { ok = 990; no_space = 10; read_sum = 7 })
    ≡ codes "requests 1000\nok 990\nno space 10\nread sum 7\n"
tally_of_many = simp numerals refl

pub tally_and_space : tally_and_space_text (record { recovered = Some 30; requests = 1; tally = none_counted; space = Some some_used })
    ≡ codes "requests 1\nok 0\nno space 0\nread sum 0\nused 2 of 64\n"
tally_and_space = simp numerals refl

-- where the space isn't known
pub tally_alone : tally_and_space_text (record { recovered = None; requests = 1; tally = none_counted; space = None })
    ≡ codes "requests 1\nok 0\nno space 0\nread sum 0\n"
tally_alone = simp numerals refl

pub summary_clean : summary_text (record { recovered = None; requests = 1; tally = none_counted; space = Some fresh })
    ≡ codes "requests 1\nok 0\nno space 0\nread sum 0\nused 0 of 64\n"
summary_clean = simp numerals refl

pub summary_recovered : summary_text (record { recovered = Some 30; requests = 1; tally = none_counted; space = Some fresh })
    ≡ codes "recovered 30 entries\nrequests 1\nok 0\nno space 0\nread sum 0\nused 0 of 64\n"
summary_recovered = simp numerals refl

pub stop_stopped : stop_text Stopped ≡ codes "stopped\n"
stop_stopped = refl

pub stop_ended : stop_text Ended ≡ codes "ended\n"
stop_ended = refl

pub head_stopped : head_text Stopped Clean ≡ codes "stopped\nclean\n"
head_stopped = refl

pub head_ended : head_text Ended (Entries 30) ≡ codes "ended\nrecovered 30 entries\n"
head_ended = simp numerals refl

abbrev pub value_at : ℕ → List ℕ → AddressValue
value_at at bytes = record { at = record { 0 = at }; block = bytes }

pub value_filled : value_text (value_at 5 (97 ∷ 97 ∷ []))
    ≡ codes "5 2*" ++ letter ++ codes "\n"
value_filled = simp (numerals, append_assoc, append-nil) refl

pub value_of_zeros : value_text (value_at 1000 (0 ∷ 0 ∷ [])) ≡ codes "1000 2*" ++ zeros ++ codes "\n"
value_of_zeros = simp (numerals, append_assoc, append-nil) refl

pub values_two : (report : Report) → values_text (value_at 5 (97 ∷ []) ∷ value_at 6 (0 ∷ []) ∷ []) report
    ≡ (value_text (value_at 5 (97 ∷ [])) ++ (value_text (value_at 6 (0 ∷ [])) ++ [])) ++ report_text report
values_two report = refl

-- of an audit that found nothing
module _ (report : Report) (none : report.differs.items ≡ []) (used : report.used ≡ 2) (total : report.total ≡ 64) where
  pub values_none : values_text [] report ≡ codes "audit clean, used 2 of 64\n"
  values_none = report_clean report none used total

  pub crash_stopped : crash_text (record {
    stop = Stopped;
    recovery = Clean;
    values = record { ref_ptr = (0, 0); now = [] };
    audit = record { ref_ptr = (0, 0); now = report };
  }) ≡ codes "stopped\nclean\naudit clean, used 2 of 64\n"
  crash_stopped = ap (λ (t : List ℕ). codes "stopped\nclean\n" ++ t) (report_clean report none used total)

  pub crash_ended : crash_text (record {
    stop = Ended;
    recovery = Entries 1;
    values = record { ref_ptr = (0, 0); now = value_at 5 (97 ∷ []) ∷ [] };
    audit = record { ref_ptr = (0, 0); now = report };
  }) ≡ codes "ended\nrecovered 1 entries\n5 1*" ++ letter ++ codes "\naudit clean, used 2 of 64\n"
  crash_ended = rw (none, used, total) (simp (numerals, append_assoc, append-nil) refl)

pub placed_read : placed_text (writer 0 1) (codes " read ") (record { 0 = 5 }) 2 ≡ codes "0 1 read 5 2 "
placed_read = simp numerals refl

pub placed_write : placed_text (writer 15 70) (codes " write ") (record { 0 = 900 }) 7 ≡ codes "15 70 write 900 7 "
placed_write = simp numerals refl

pub asked_read : asked_text (writer 0 1) (asked.Read (record { 0 = 5 }) 2) ≡ codes "0 1 read 5 2 "
asked_read = simp numerals refl

pub asked_write : asked_text (writer 0 1) (asked.Write (record { 0 = 5 }) 2) ≡ codes "0 1 write 5 2 "
asked_write = simp numerals refl

pub asked_flush : asked_text (writer 0 1) asked.Flush ≡ codes "0 1 flush "
asked_flush = simp numerals refl

pub answer_bytes : answer_text (told.Bytes (record { ref_ptr = (0, 0); now = 97 ∷ 0 ∷ [] }))
    ≡ codes "1*" ++ letter ++ codes "+1*" ++ zeros
answer_bytes = simp (numerals, append_assoc, append-nil) refl

pub answer_no_space : answer_text told.NoSpace ≡ codes "no space"
answer_no_space = refl

abbrev pub flushed : SectorLine
flushed = record { request = writer 0 2; asked = asked.Flush; answer = told.Ok }

abbrev pub refused : SectorLine
refused = record { request = writer 0 0; asked = asked.Write (record { 0 = 5 }) 2; answer = told.NoSpace }

pub line_flushed : line_text flushed ≡ codes "0 2 flush ok\n"
line_flushed = simp numerals refl

pub line_refused : line_text refused ≡ codes "0 0 write 5 2 no space\n"
line_refused = simp numerals refl

pub lines_none : lines_text [] ≡ []
lines_none = refl

pub lines_two : lines_text (refused ∷ flushed ∷ []) ≡ codes "0 0 write 5 2 no space\n0 2 flush ok\n"
lines_two = simp numerals refl

pub sectors_none : sectors_text [] some_used ≡ codes "used 2 of 64\n"
sectors_none = simp numerals refl

pub sectors_one : sectors_text (flushed ∷ []) some_used ≡ codes "0 2 flush ok\nused 2 of 64\n"
sectors_one = simp numerals refl
