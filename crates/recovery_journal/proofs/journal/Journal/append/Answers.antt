use Rattle.std.proofs.Common.{◌+◌, ◌≤◌, List, ap, subst, sym, arith}
use Rattle.blk_base.specs.declared.journal_entry.Entry.{Entry}
use Rattle.recovery_journal.specs.contracts.journal.Journal.{the_view}
use Rattle.recovery_journal.specs.Log.{Log, head_of}
use Rattle.recovery_journal.specs.Kept.{IsKept}
use Rattle.recovery_journal.proofs.JournalLaws.{kept_added}
use Rattle.recovery_journal.proofs.journal.Journal.append.Goals as goal

pub invariant_of-self : goal.invariant_of-self
invariant_of-self c =
    let number = ap (λ (log : Log). log.sequence) c.self.view_is in
    let slot = subst (λ (log : Log). log.sequence + 2 ≤ head_of log + log.size) (sym c.self.view_is) (c.has_slot.ensures.0 c.if-not-has_slot.false) in
    record {
      kept = subst (λ (filling : List Entry). IsKept (record (the_view c.self.inside) { filling = filling })) (sym c.push.ensures)
          (kept_added (the_view c.self.inside) c.args.entry c.self.invariant.kept (omega (arith, c.requires.sequence, number)) slot);
      room = c.self.invariant.room;
    }
