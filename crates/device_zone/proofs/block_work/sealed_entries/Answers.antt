use Rattle.std.proofs.Common.{◌++◌, List, [], ◌∷◌, length, length-append, map, take, ap, sym, ◌∙◌, arith}
use Rattle.blk_base.specs.declared.journal_entry.Entry.{Entry}
use Rattle.core_model.specs.Trace.{entry_of}
use Rattle.data_vio.specs.Vios.{logged}
use Rattle.data_vio.specs.declared.items.Vio.{Vio}
use Rattle.device_zone.proofs.BlockEntries.{entries_more}
use Rattle.device_zone.proofs.block_work.sealed_entries.Goals as goal

pub loop-index-preserved : goal.loop-index-preserved
loop-index-preserved c =
    let f : Vio → Entry = λ v. entry_of (logged v) in
    let before = c.loop-index.invariant in
    let entry = c.entry.ensures in
    record {
      entries = c.push.ensures ∙ ap (λ (es : List Entry). es ++ c.entry.result ∷ []) before.entries
          ∙ ap (λ (e : Entry). map f (take c.loop-index.index c.args.block.now.vios) ++ e ∷ []) entry
          ∙ sym (entries_more f c.args.block.now.vios c.loop-index.index c.in-Some.vio.now c.in-Some.ensures.some);
      count = let more = ap length c.push.ensures in let sum = length-append c.loop-index.entries (c.entry.result ∷ []) in let count = before.count in omega (arith, more, sum, count);
      end = c.len-index-end.ensures.count;
    }
