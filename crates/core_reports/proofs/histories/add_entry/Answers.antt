use Rattle.std.proofs.Common.{◌≡◌, ◌∙◌, ap, reverse, sym, subst, Bool, Option, Some, ℕ}
use Rattle.vdo_model.specs.Notes.{NotesAnswer}
use Rattle.plain_laws.proofs.OptionLaws.{some_of}
use Rattle.vdo_model.specs.DeskLog.{answer_of}
use Rattle.vdo_model.specs.Histories.{mark_of}
use Rattle.core_reports.specs.Found.{entered_in}
use Rattle.core_reports.proofs.FoundLaws.{entry_added, noted_right}
use Rattle.core_reports.proofs.histories.add_entry.Goals as goal

pub returns-then-len-lt-REQUEST_ROOM : goal.returns-then-len-lt-REQUEST_ROOM
returns-then-len-lt-REQUEST_ROOM c progress handed noted found room =
    let desk = c.args.desk.now in
    let w = c.args.request in
    let answer = some_of (answer_of (reverse desk) w) found.answered in
    let right : NotesAnswer desk (reverse desk) w c.noted_line.result =
    subst (λ (o : Option ℕ). NotesAnswer desk (reverse desk) w o) (sym c.noted_line.ensures) (noted_right desk c.args.notes.now w noted found) in
    let marked : c.mark-mark.result ≡ mark_of (Some answer.0) (progress.is_set w) (entered_in c.args.entered.now w)
    = c.mark-mark.ensures (progress.is_set w) answer.0 w right answer.1 ∙ ap (λ (handed_in : Bool). mark_of (Some answer.0) (progress.is_set w) handed_in) c.is_entered.ensures in
    entry_added c.args.requests.now (reverse desk) progress w c.in-Some.at c.mark-mark.result answer.0 _ c.args.histories.now c.push.new.self
    answer.1 handed marked c.in-Some.ensures.some c.push.ensures
