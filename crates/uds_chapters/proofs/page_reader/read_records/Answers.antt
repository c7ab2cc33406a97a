use Rattle.std.proofs.Common.{ℕ, ◌∙◌, ◌++◌, ◌+◌, ◌*◌, [], ◌∷◌, length, take, get_or, ap, sym, arith}
use Rattle.std.proofs.lemmas.List.{length_push, take_more}
use Rattle.std.proofs.lemmas.List.Elements.{All-get_or}
use Rattle.uds_chapters.specs.Pages.{HoldsRecord}
use Rattle.uds_chapters.proofs.PageLaws.{spelled_at}
use Rattle.uds_chapters.proofs.page_reader.read_records.Goals as goal

pub loop-k-preserved : goal.loop-k-preserved
loop-k-preserved c =
    let k = c.loop-k.k in
    let one = c.read_record.result in
    let from = c.from.ensures in
    record {
      size = ap length c.push.ensures ∙ length_push c.loop-k.records one ∙ ap (λ (n : ℕ). n + 1) c.loop-k.invariant.size;
      read = λ rs rest held size spelled.
          c.push.ensures ∙ ap (λ f. f ++ one ∷ []) (c.loop-k.invariant.read rs rest held size spelled)
          ∙ ap (λ x. take k rs ++ x ∷ []) (c.read_record.ensures (get_or rs k one) (All-get_or HoldsRecord rs k one (omega arith) held)
          (spelled_at c.args.bytes.now rest rs k (16 + 24 * c.from.result) one held (omega arith) spelled (omega (arith, from))))
          ∙ sym (take_more rs k one (omega arith));
    }
