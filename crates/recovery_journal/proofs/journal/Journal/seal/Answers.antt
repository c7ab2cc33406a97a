use Rattle.std.proofs.Common.{◌∙◌, ◌+◌, ◌++◌, List, length, All, arith, ap, subst, sym}
use Rattle.blk_base.specs.declared.journal_entry.Entry.{Entry}
use Rattle.blk_base.specs.declared.journal_entry.CommittedEntry.{CommittedEntry}
use Rattle.recovery_journal.specs.contracts.journal.Journal.{the_view}
use Rattle.journal_codec.specs.Grammar.{HoldsEntry}
use Rattle.recovery_journal.specs.Log.{Log, first_sequence, head_of, placed}
use Rattle.recovery_journal.proofs.JournalLaws.{room_to_seal, kept_sealed_as, first-sealed, block_held}
use Rattle.recovery_journal.proofs.journal.Journal.seal.Goals as goal

pub enter-requires-clause-room : goal.enter-requires-clause-room
enter-requires-clause-room c =
    let size = c.self.inside.entries.ok in
    let same = ap (λ (es : List Entry). length es) c.as_slice.ensures.value in
    let waits = c.is_empty.ensures.some c.if-is_empty.false in
    let few = c.as_slice.ensures.fits in
    omega (arith, room_to_seal (the_view c.self.inside) c.self.invariant.kept waits, same, few, c.self.invariant.room)

pub invariant_of-self : goal.invariant_of-self
invariant_of-self c =
    let waits = c.is_empty.ensures.some c.if-is_empty.false in
    let same = ap (λ (es : List Entry). length es) c.as_slice.ensures.value in
    record {
      kept = kept_sealed_as (the_view c.self.inside) c.replace.new.dest c.as_slice.result.now c.enter.new.entries.items c.self.invariant.kept waits
          (omega (arith, same, c.as_slice.ensures.fits)) (omega arith)
          (c.replace.ensures.after ∙ c.new.ensures) c.as_slice.ensures.value c.enter.ensures.items;
      room = omega (arith, c.enter.ensures.capacity, c.self.invariant.room);
    }

pub returns-clause-held : goal.returns-clause-held
returns-clause-held c =
    let waits = c.is_empty.ensures.some c.if-is_empty.false in
    let same = ap (λ (es : List Entry). length es) c.as_slice.ensures.value in
    λ held. block_held (the_view c.self.inside) c.head-head.result c.replace.result c.self.invariant.kept waits (omega (arith, same, c.as_slice.ensures.fits))
    (c.head-head.ensures.value ∙ sym (ap head_of c.self.view_is)) c.replace.ensures.value (subst (λ (log : Log). All HoldsEntry log.filling) (sym c.self.view_is) held)

pub returns-clause-head : goal.returns-clause-head
returns-clause-head c =
    let waits = c.is_empty.ensures.some c.if-is_empty.false in
    let added = c.enter.ensures.items ∙ ap (λ (es : List Entry). c.self.inside.entries.items ++ placed c.self.inside.sequence 0 es) c.as_slice.ensures.value in
    ap (λ (es : List CommittedEntry). first_sequence es (c.self.inside.sequence + 1)) added
    ∙ first-sealed c.self.inside.entries.items c.self.inside.sequence c.self.inside.filling waits
    ∙ ap head_of c.self.view_is
