use Rattle.std.proofs.Common.{sym, subst, arith}
use Rattle.recovery_journal.specs.Log.{Log}
use Rattle.recovery_journal.specs.Kept.{IsKept}
use Rattle.recovery_journal.proofs.OpeningLaws.{is_opening, kept_opening}
use Rattle.recovery_journal.proofs.journal.Journal.new.Goals as goal

pub invariant_of-result : goal.invariant_of-result
invariant_of-result c = record {
  kept = subst (λ (log : Log). IsKept log)
      (sym (is_opening c.args.geometry.now c.args.start c.args.zones c.from.result c.new.result c.in_ok-entries.entries.items c.of-first.result c.in_ok-watermarks.watermarks.items
      c.from.ensures c.new.ensures c.in_ok-entries.ensures.items c.of-first.ensures.number c.in_ok-watermarks.ensures))
      (kept_opening c.args.geometry.now c.args.start c.args.zones c.requires.geometry c.requires.start c.requires.zones);
  room = omega (arith, c.in_ok-entries.ensures.capacity, c.from.ensures);
}

pub returns : goal.returns
returns c =
    is_opening c.args.geometry.now c.args.start c.args.zones c.from.result c.new.result c.in_ok-entries.entries.items c.of-first.result c.in_ok-watermarks.watermarks.items
    c.from.ensures c.new.ensures c.in_ok-entries.ensures.items c.of-first.ensures.number c.in_ok-watermarks.ensures
