use Rattle.std.proofs.Common.{◌∙◌, List, length, take, arith, ap, length-append}
use Rattle.std.proofs.lemmas.List.{length-take-le}
use Rattle.blk_base.specs.declared.journal_entry.CommittedEntry.{CommittedEntry}
use Rattle.recovery_journal.specs.Log.{placed}
use Rattle.recovery_journal.proofs.RisingLaws.{length-placed, placed_more}
use Rattle.recovery_journal.proofs.new_entry.enter.Goals as goal

pub push_back_reserved-requires : goal.push_back_reserved-requires
push_back_reserved-requires c =
    let now = c.loop-number.entries.ok in
    let before = c.args.entries.now.ok in
    let size = ap (λ (es : List CommittedEntry). length es) c.loop-number.invariant.items in
    omega (
      arith,
      length-append c.args.entries.now.items (placed c.args.sequence 0 (take c.loop-number.number c.args.filling.now)),
      length-placed c.args.sequence 0 (take c.loop-number.number c.args.filling.now),
      length-take-le c.loop-number.number c.args.filling.now (omega arith),
    )

pub loop-number-preserved : goal.loop-number-preserved
loop-number-preserved c = record {
  items = placed_more c.args.sequence c.loop-number.number c.args.filling.now _ c.of.result c.args.entries.now.items c.loop-number.entries.items _ (omega arith)
      c.of.ensures.number c.loop-number.invariant.items c.push_back_reserved.ensures.items;
  capacity = c.push_back_reserved.ensures.capacity ∙ c.loop-number.invariant.capacity;
}
