use Rattle.std.proofs.Common.{ℕ, ◌∙◌, ◌++◌, ◌+◌, ◌*◌, [], ◌∷◌, length, take, ap, ap₂, sym, arith}
use Rattle.std.proofs.lemmas.List.{length_push, take_more}
use Rattle.sector_records.proofs.SectorLaws.{record_is}
use Rattle.sector_records.proofs.reader.read_records.Goals as goal

pub loop-k-preserved : goal.loop-k-preserved
loop-k-preserved g c =
    let k = c.loop-k.k in
    let one = c.read_record.result in
    let form = g.F.Format.record_bytes in
    let start = ap₂ (λ (w n : ℕ). w * n) c.WIDTH.ensures c.from.ensures in
    record {
      size = ap length c.push.ensures ∙ length_push c.loop-k.records one ∙ ap (λ (n : ℕ). n + 1) c.loop-k.invariant.size;
      read = λ rs rest held size spelled.
          c.push.ensures ∙ ap (λ f. f ++ one ∷ []) (c.loop-k.invariant.read rs rest held size spelled)
          ∙ ap (λ x. take k rs ++ x ∷ []) (record_is form g.F.Format.WIDTH g.F.Format.is_spelled g.met.F.Format.record_width c.args.sector.now rest rs k _ _ one held (omega arith) spelled
          (omega (arith, c.WIDTH-in-loop-k.ensures)) (omega (arith, start)) c.read_record.ensures)
          ∙ sym (take_more rs k one (omega arith));
    }
