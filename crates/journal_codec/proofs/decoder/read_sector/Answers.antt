use Rattle.std.proofs.Common.{ℕ, ◌∙◌, List, ap, ap₂, sym, subst, arith}
use Rattle.std.specs.Prelude.{All}
use Rattle.blk_base.specs.declared.journal_entry.Entry.{Entry}
use Rattle.journal_codec.specs.BlockBytes.{sector_bytes}
use Rattle.journal_codec.specs.Grammar.{HoldsEntry}
use Rattle.journal_codec.proofs.ReadLaws.{fields_of}
use Rattle.journal_codec.proofs.decoder.read_sector.Goals as goal
use Rattle.journal_codec.proofs.decoder.read_sector.Goals.{else-are_held-via-then-are_held+else-is_sector, else-are_held-via-else-are_held}

pub returns-then-not-is_head-clause-none : goal.returns-then-not-is_head-clause-none
returns-then-not-is_head-clause-none c s h es is =
    let f = fields_of c.args.nonce c.args.number c.args.bytes.now s h es is in
    let sequence = c.read_u64-sequence.ensures ∙ f.sequence in
    let head = c.read_u64-oldest.ensures ∙ f.head in
    let count = c.read_u16-count.ensures ∙ f.count in
    let named = is.named in
    let few = is.few in
    let below = is.head_below in
    let right = c.is_head.ensures.1 (omega arith, omega arith, omega arith, omega arith) in
    let not = c.if-not-is_head.true in
    absurd (cc (right, not))

pub returns-else-are_held-clause-none : goal.returns-else-are_held-clause-none
returns-else-are_held-clause-none c s h es is =
    let a = c.args in
    let f = fields_of a.nonce a.number a.bytes.now s h es is in
    let sequence = c.read_u64-sequence.ensures ∙ f.sequence in
    let head = c.read_u64-oldest.ensures ∙ f.head in
    let read = c.read_records-entries.ensures.read es _ is.each (sym (c.read_u16-count.ensures ∙ f.count)) f.entries in
    elim c.else-are_held.branch [
      | else-are_held-via-else-are_held w ↦
          let held = c.are_held.ensures.1 (subst (λ (xs : List Entry). All HoldsEntry xs) (sym (c.as_slice.ensures.value ∙ read)) is.each) in
          absurd (cc (held, w.if-are_held.false))
      | else-are_held-via-then-are_held+else-is_sector w ↦
          let spelled = is.spelled ∙ ap₂ (λ (q p : ℕ). sector_bytes a.nonce q p a.number es) (sym sequence) (sym head)
          ∙ ap (λ (xs : List Entry). sector_bytes a.nonce c.read_u64-sequence.result c.read_u64-oldest.result a.number xs) (sym (w.as_slice-then-are_held.ensures.value ∙ read)) in
          let right = w.is_sector.ensures.1 spelled in
          absurd (cc (right, w.if-is_sector.false))
    ]
