use Rattle.std.proofs.Common.{ℕ, ◌≡◌, Option, ◌∙◌, ap}
use Rattle.vdo_cli.specs.Openings.{recovered_of}
use Rattle.vdo_cli.specs.Texts.{session_notes}
use Rattle.vdo_cli.proofs.runner.close.Goals as goal

pub returns-clause-closes : goal.returns-clause-closes
returns-clause-closes g c =
    let same : c.session_notes-notes.result ≡ session_notes (recovered_of c.args.played.found) c.args.played.report =
    c.session_notes-notes.ensures ∙ ap (λ (r : Option ℕ). session_notes r c.args.played.report) c.recovered_of.ensures in
    c.end_session.ensures.closes _ _ _ _ (rw same at c.put_run-put.ensures)
