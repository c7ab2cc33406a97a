use Rattle.std.proofs.Common.{sym, Some, None, rules, tests}
use Rattle.std.proofs.lemmas.Iterator.Consumers.{YieldsList-from_deque}
use Rattle.std.proofs.lemmas.Iterator.Search.{position_from_yields_List}
use Rattle.std.proofs.lemmas.List.Elements.{All-take}
use Rattle.blk_base.specs.declared.journal_entry.CommittedEntry.{CommittedEntry}
use Rattle.recovery_journal.specs.Log.{IsDurable}
use Rattle.recovery_journal.proofs.JournalLaws.{needs, all_durable, needed_next}
use Rattle.recovery_journal.proofs.watermarks.count_durable.Goals as goal

pub returns-in-Some-clause-next : goal.returns-in-Some-clause-next
returns-in-Some-clause-next c =
    needed_next c.args.watermarks.now c.args.entries.now.items c.in-Some.first
    (sym (position_from_yields_List (needs c.args.watermarks.now) _ _ (Some c.in-Some.first) c.in-Some.ensures.ran (YieldsList-from_deque c.args.entries.now.items c.iter.ensures.rest) (λ x b q k. search (rules, tests))))

pub returns-in-None-clause-durable : goal.returns-in-None-clause-durable
returns-in-None-clause-durable c =
    All-take (λ (entry : CommittedEntry). IsDurable c.args.watermarks.now entry.point) c.len.result c.args.entries.now.items
    (all_durable c.args.watermarks.now c.args.entries.now.items
    (sym (position_from_yields_List (needs c.args.watermarks.now) _ _ None c.in-None.ensures.ran (YieldsList-from_deque c.args.entries.now.items c.iter.ensures.rest) (λ x b q k. search (rules, tests)))))
