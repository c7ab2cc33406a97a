use Rattle.std.proofs.Common.{ℕ, ◌≡◌, ◌∙◌, List, ap, sym, subst, arith}
use Rattle.std.specs.Prelude.{All}
use Rattle.slab_codec.specs.declared.forms.SlabEntry.{SlabEntry}
use Rattle.slab_codec.specs.BlockBytes.{sector_bytes}
use Rattle.slab_codec.specs.Grammar.{HoldsEntry}
use Rattle.slab_codec.proofs.ReadLaws.{sequence_of, count_of, entries_of, all_fit}
use Rattle.slab_codec.proofs.decoder.read_sector.Goals as goal
use Rattle.slab_codec.proofs.decoder.read_sector.Goals.{else-are_held-via-then-are_held+else-is_sector, else-are_held-via-else-are_held}

pub returns-then-from-gt-PER_SECTOR-clause-none : goal.returns-then-from-gt-PER_SECTOR-clause-none
returns-then-from-gt-PER_SECTOR-clause-none c s es is =
    let count = c.read_u16-count.ensures ∙ count_of c.args.nonce c.args.slab c.args.slab_blocks c.args.number c.args.bytes.now s es is in
    omega (arith, count, is.few)

pub returns-else-are_held-clause-none : goal.returns-else-are_held-clause-none
returns-else-are_held-clause-none c s es is =
    let a = c.args in
    let count = c.read_u16-count.ensures ∙ count_of a.nonce a.slab a.slab_blocks a.number a.bytes.now s es is in
    let sequence = c.read_u64-sequence.ensures ∙ sequence_of a.nonce a.slab a.slab_blocks a.number a.bytes.now s es is in
    let read = c.read_records-entries.ensures.read es _ (all_fit a.slab_blocks es is.each) (sym count) (entries_of a.nonce a.slab a.slab_blocks a.number a.bytes.now s es is) in
    let same : (slice : List SlabEntry) → slice ≡ c.read_records-entries.result → slice ≡ es = λ slice e. e ∙ read in
    elim c.else-are_held.branch [
      | else-are_held-via-else-are_held w ↦
          let held = c.are_held.ensures.1 (subst (λ (xs : List SlabEntry). All (HoldsEntry a.slab_blocks) xs) (sym (same _ c.as_slice.ensures.value)) is.each) in
          absurd (cc (held, w.if-are_held.false))
      | else-are_held-via-then-are_held+else-is_sector w ↦
          let spelled = is.spelled ∙ ap (λ (q : ℕ). sector_bytes a.nonce q a.slab a.number es) (sym sequence)
          ∙ ap (λ (xs : List SlabEntry). sector_bytes a.nonce c.read_u64-sequence.result a.slab a.number xs) (sym (same _ w.as_slice-then-are_held.ensures.value)) in
          let right = w.is_sector.ensures.1 spelled in
          absurd (cc (right, w.if-is_sector.false))
    ]
