use Rattle.std.proofs.Common.{ℕ, List, ◌≡◌, ◌∙◌, ap, length, map, reverse, subst, sym}
use Rattle.vdo_model.specs.Histories.{histories_of}
use Rattle.vdo_model.specs.Scripts.{Script}
use Rattle.vdo_model.specs.declared.report.DeskLine.{DeskLine}
use Rattle.core_model.specs.DeskData.{Desk}
use Rattle.data_vio.specs.declared.logged.Logged.{Logged}
use Rattle.core_reports.specs.Found.{AreEntered}
use Rattle.core_reports.proofs.FoundLaws.{desk_is, found_same}
use Rattle.core_reports.proofs.histories.list_histories.Goals as goal

pub returns-in-Desk : goal.returns-in-Desk
returns-in-Desk c desk entries progress has_desk has_entered empty none found =
    let places = reverse c.args.places.now in
    let first = c.in-Some.ensures.item in
    let same : c.in-Desk.desk ≡ desk = desk_is c.args.zones.now desk c.in-Desk.desk c.in-Some.zone.now has_desk first.3.0 first.1 c.in-Desk.is in
    let requests : c.requests.result.now ≡ desk.requests = c.requests.ensures ∙ ap (λ (d : Desk). d.requests) same in
    let log : desk.log ≡ reverse c.lines-lines.result.now = ap (λ (d : Desk). d.log) (sym same) ∙ c.lines-lines.ensures in
    let here = found_same _ _ _ _ entries progress places log (sym c.note_streams.ensures.room) found in
    let entered : AreEntered entries (map length c.note_streams.new.notes) c.note_entries.new.entered
    = subst (λ (es : List Logged). AreEntered es (map length c.note_streams.new.notes) c.note_entries.new.entered) (c.entries.ensures entries has_entered)
    (subst (λ (room : List ℕ). AreEntered (reverse c.entries.result.now) room c.note_entries.new.entered) (sym c.note_streams.ensures.room)
    (c.note_entries.ensures (map length c.args.notes.now) none)) in
    c.add_entries.ensures progress entries empty c.note_streams.ensures.noted entered here
    ∙ ap (λ (script : Script). histories_of script (reverse c.lines-lines.result.now) progress places) requests
    ∙ ap (λ (lines : List DeskLine). histories_of desk.requests lines progress places) (sym log)
