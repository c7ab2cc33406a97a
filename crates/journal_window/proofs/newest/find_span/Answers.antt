use Rattle.std.proofs.Common.{arith}
use Rattle.journal_window.proofs.NewestLaws.{last_found, none_found}
use Rattle.journal_window.proofs.newest.find_span.Goals as goal

pub returns-in-Some-clause-last : goal.returns-in-Some-clause-last
returns-in-Some-clause-last c = let some = c.requires.sizes.journal.0 in (last_found _ _ _ c.in-Some.newest (omega (arith, some)) c.in-Some.ensures).0

pub returns-in-None-clause-last : goal.returns-in-None-clause-last
returns-in-None-clause-last c = let some = c.requires.sizes.journal.0 in (none_found _ _ _ (omega (arith, some)) c.requires.some c.in-None.ensures).0
