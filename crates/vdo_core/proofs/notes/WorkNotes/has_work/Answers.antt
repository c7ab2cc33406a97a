use Rattle.std.proofs.Common.{◌≡◌, ◌∙◌, sym, arith, length}
use Rattle.std.proofs.lemmas.Grind.{common_steps}
use Rattle.std.proofs.lemmas.Option.{slice_get_within}
use Rattle.vdo_core.proofs.NoteLaws.{known_workers}
use Rattle.vdo_core.proofs.notes.WorkNotes.has_work.Goals as goal

pub returns-then-number-len-clause-yes : goal.returns-then-number-len-clause-yes
returns-then-number-len-clause-yes c some =
    (known_workers c.args.sizes.now c.args.zones.now c.args.self.now.works c.requires.known.work).yes c.args.number (sym c.has.ensures ∙ some)

pub returns-then-number-len-clause-no : goal.returns-then-number-len-clause-no
returns-then-number-len-clause-no c none =
    (known_workers c.args.sizes.now c.args.zones.now c.args.self.now.works c.requires.known.work).no c.args.number (sym c.has.ensures ∙ none)

pub returns-else-number-len-clause-no : goal.returns-else-number-len-clause-no
returns-else-number-len-clause-no c none = λ z got.
    absurd (let past = c.if-number-len.false in
    let count : c.len.result ≡ length c.args.zones.now = grind (arith, common_steps) in
    let below = slice_get_within c.args.zones.now c.args.number z got in
    omega (arith, past, count, below))
