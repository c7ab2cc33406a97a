use Rattle.std.proofs.Common.{ℕ, ◌∙◌, ◌+◌, ◌*◌, ◌-◌, ◌++◌, length, take, drop, replicate, ap, sym, arith}
use Rattle.sector_records.proofs.SectorLaws.{part_is}
use Rattle.slab_codec.proofs.CounterLaws.{padded}
use Rattle.slab_codec.proofs.counters.sector_counters.Goals as goal

pub returns : goal.returns
returns c =
    let xs = c.args.counters.now in
    let width = c.counters_per_sector-width.result in
    let first = c.min-first.result in
    let count = c.min-count.result in
    let part = take count (take (length xs - first) (drop first xs)) in
    let all = c.counters_per_sector-width.ensures in
    padded width (drop (width * c.args.n) xs) part c.put.new.out (0 + length part)
    (part_is width (width * c.args.n) xs first count c.min-first.ensures c.min-count.ensures) (omega arith) c.put.ensures.front
    (c.put.ensures.rest (0 + length part) (omega arith) ∙ ap (λ (w : ℕ). drop (0 + length part) (replicate w 0)) (sym all))
    ∙ ap (λ (w : ℕ). take w (drop (w * c.args.n) xs ++ replicate w 0)) all
