-- Rows that pin what a session is that was served to its end (`EndsChange`, its parts `RunsSession` and `Closes`): for each part some
-- that it accepts, and some that break this part alone.
use Rattle.std.proofs.Common.{ℕ, ◌≡◌, true, false, List, [], ◌∷◌, length, take, Some, None, Ok, codes, refl, ap, arith}
use Rattle.blk_base.specs.declared.request.Answer.TheVariants as reply
use Rattle.disk_model.specs.Seen.{Seen}
use Rattle.disk_model.specs.Trust.{trust_of}
use Rattle.disk_model.proofs.StreamExample.{sink}
use Rattle.page_codec.specs.declared.fault.PageFault.TheVariants.{Header}
use Rattle.rebuild.specs.Recoveries.{IsRecovery}
use Rattle.rebuild.specs.declared.forms.Recovered.{Recovered}
use Rattle.rebuild.specs.declared.forms.Recovered.TheVariants.{Clean, Entries}
use Rattle.stream_text.specs.StreamRequests.{no_requests}
use Rattle.stream_text.specs.WholeScript.{whole_script}
use Rattle.vdo_model.specs.declared.report.Damage.TheVariants.{Page}
use Rattle.vdo_model.specs.declared.report.DeskLine.TheVariants.{Answer}
use Rattle.vdo_model.specs.declared.report.RunReport.{RunReport}
use Rattle.vdo_model.proofs.Example.{of_a}
use Rattle.vdo_cli.specs.declared.fault.Fault.TheVariants as fault
use Rattle.vdo_cli.specs.Endings.{RunsSession}
use Rattle.vdo_cli.specs.Outsides.{outside, input_setting, inputs}
use Rattle.vdo_cli.specs.Openings.{recovered_of}
use Rattle.vdo_cli.specs.Texts.{session_text, struck_status}
use Rattle.vdo_cli.proofs.EmptyScript.{empty_report, usual}
use Rattle.vdo_cli.proofs.PlayPins.{device, source}
use Rattle.vdo_cli.proofs.RunPins.{Changes, Ends, begins, script, with}

-- a report with an answer that only a failed call of the device explains
abbrev lost_report : RunReport
lost_report = record empty_report { desk = Answer (of_a 0) reply.Stopped ∷ [] }

-- Over a session that was served: the sink failed, and holds a first part of the text
sink-failed : (n : ℕ) (found : Recovered) (report : RunReport) (before after : Seen) (left rest : List ℕ) → RunsSession (input_setting (trust_of true false) true) (usual 0) found report (inputs before (source left 0)) (inputs after (source rest 0)) → struck_status report ≡ None
    → Changes script (outside before (source left 0) (sink [] 0)) (outside after (source rest 0) (sink (take n (session_text (recovered_of found) report)) 1)) 7 report (Some fault.Sink)
sink-failed n found report before after left rest played none = record { found = found; session = played; closes = (refl, none, omega arith, λ told. (n, refl)) }

-- Sink: not where an answer says that the device failed, which goes before; nor where the sink holds less than before
sink-not_where_lost : Changes script begins (with [] [] [] 1) 7 lost_report (Some fault.Sink) → ⊥
sink-not_where_lost ends = absurd (let none = ends.closes.1 in cc)

sink-not_fewer_bytes : Changes script (with [] [] (9 ∷ []) 0) (with [] [] [] 1) 7 empty_report (Some fault.Sink) → ⊥
sink-not_fewer_bytes ends = let part = ends.closes.3 refl in let size = ap length part.1 in omega (arith, size)

sink-not_other_words : Ends [] begins (with [] [] [] 1) 7 empty_report (Some fault.Sink) → ⊥
sink-not_other_words ends = absurd (let is = ends.fault_is in cc)

-- An answer says that the device failed: the status is 3, and not another one, whatever became of the text
lost-not_another_status : Changes script begins (with [] [] [] 1) 0 lost_report None → ⊥
lost-not_another_status ends = omega (arith, ends.closes.0)

-- The report has damage: the status is 4, and goes before that of the answers
abbrev damaged_report : RunReport
damaged_report = record lost_report { damage = Some (Page (record { 0 = 85 }) Header) }

damaged-not_another_status : Changes script begins (with [] [] [] 1) 3 damaged_report None → ⊥
damaged-not_another_status ends = omega (arith, ends.closes.0)

damaged-not_of_the_sink : Changes script begins (with [] [] [] 1) 7 (record empty_report { damage = Some (Page (record { 0 = 85 }) Header) }) (Some fault.Sink) → ⊥
damaged-not_of_the_sink ends = absurd (let none = ends.closes.1 in cc)

-- The script was read to its end
abbrev line : List ℕ
line = codes "\n"

served-not_left_unread : Changes script (with [] line [] 0) (with [] line [] 0) 0 empty_report None → ⊥
served-not_left_unread ends = let size = ap length (ends.session.to_its_end refl) in omega (arith, size)

-- the requests are those of this script
flush_asked : whole_script (codes "0 flush\n") ≡ Ok no_requests → ⊥
flush_asked said = absurd cc

served-not_another_script : Changes script (with [] (codes "0 flush\n") [] 0) (with [] [] [] 0) 0 empty_report None → ⊥
served-not_another_script ends = flush_asked (ends.session.script_is refl)

-- the device has its opening blocks and its size
served-not_of_another_size : Changes script (with [] [] [] 0) (outside (device [] [] 0 0) (source [] 0) (sink [] 0)) 0 empty_report None → ⊥
served-not_of_another_size ends = omega (arith, ends.session.serves.stays.size)

-- the image was recovered, or had nothing to recover: a device of one block has none
served-not_of_one_block : Changes script (with [] [] [] 0) (with [] [] [] 0) 0 empty_report None → ⊥
served-not_of_one_block ends = of_found ends.found ends.session.serves.ready.middle ends.session.serves.ready.recovery
  where
    of_found : (found : Recovered) (middle : Seen) → IsRecovery (trust_of true false) (with [] [] [] 0).device middle (Ok found) → ⊥
    of_found Clean middle recovery = let room = recovery.answers.1.is.room in let many = recovery.answers.1.is.sizes.journal.0 in omega (arith, room, many)
    of_found (Entries count) middle recovery = let room = recovery.answers.2.is.room in let many = recovery.answers.2.is.sizes.journal.0 in omega (arith, room, many)
