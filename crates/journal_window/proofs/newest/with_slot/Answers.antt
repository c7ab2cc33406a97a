use Rattle.std.proofs.Common.{arith}
use Rattle.journal_window.proofs.SlotLaws.{sector_there, no_sector_there, none_there}
use Rattle.journal_window.proofs.NewestLaws.{newest_kept, newest_grown, kept_there}
use Rattle.journal_window.proofs.newest.with_slot.Goals.{else-belongs-via-then-belongs+else-is_past, else-belongs-via-else-belongs}
use Rattle.journal_window.proofs.newest.with_slot.Goals as goal

pub returns-in-None : goal.returns-in-None
returns-in-None c =
    let g = c.args.head.now.geometry in
    let journal = c.args.journal.now in
    newest_kept g c.args.head.now.start journal c.args.slot c.args.newest c.requires.before (λ sequence head here from below there.
    absurd (none_there g journal c.args.slot (no_sector_there g.nonce journal c.args.slot c.index-journal-slot.result (omega arith) c.index-journal-slot.is c.in-None.ensures.none)
    sequence head there.0 here there.1))

pub returns-then-is_past : goal.returns-then-is_past
returns-then-is_past c =
    let journal = c.args.journal.now in
    let belongs = c.if-belongs.ensures.yes in
    newest_grown _ _ journal c.args.slot _ _ _ _ c.requires.before
    (sector_there _ journal c.args.slot c.index-journal-slot.result _ _ _ (omega arith) c.index-journal-slot.is c.in-Some.ensures.some)
    belongs.0 belongs.1 belongs.2 c.if-is_past.ensures.yes

pub returns-else-belongs : goal.returns-else-belongs
returns-else-belongs c =
    let g = c.args.head.now.geometry in
    let start = c.args.head.now.start in
    let journal = c.args.journal.now in
    let found = c.in-Some.found in
    newest_kept g start journal c.args.slot c.args.newest c.requires.before (kept_there g start journal c.args.slot c.args.newest found.sequence found.head found.entries
    (sector_there g.nonce journal c.args.slot c.index-journal-slot.result found.sequence found.head found.entries (omega arith) c.index-journal-slot.is c.in-Some.ensures.some)
    (λ here from below. elim c.else-belongs.branch [
      | else-belongs-via-then-belongs+else-is_past w ↦ w.if-is_past.ensures.no
      | else-belongs-via-else-belongs w ↦ absurd (w.if-belongs.ensures.no here from below)
    ]))
