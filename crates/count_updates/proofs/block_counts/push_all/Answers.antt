use Rattle.std.proofs.Common.{◌≡◌, ◌++◌, ◌∙◌, ◌*◌, ◌+◌, ◌-◌, ap, append_assoc, arith, drop, sym, ℕ, List, take}
use Rattle.std.proofs.Math.Seq.{take-add}
use Rattle.count_updates.proofs.block_counts.push_all.Goals as goal

pub loop-part-preserved : goal.loop-part-preserved
loop-part-preserved c =
    let counters = c.args.counters.now in
    let from = c.loop-part.part * 2048 in
    let next : from + 2048 ≡ (c.loop-part.part + 1) * 2048 = omega arith in
    let width : from + 2048 - from ≡ 2048 = omega arith in
    c.in_ok-push_part.ensures.added ∙ ap (λ (cs : List ℕ). cs ++ take (from + 2048 - from) (drop from counters)) c.loop-part.invariant ∙ append_assoc c.args.counts.now.items (take from counters) (take (from + 2048 - from) (drop from counters))
    ∙ ap (λ (cs : List ℕ). c.args.counts.now.items ++ cs)
    (ap (λ (n : ℕ). take from counters ++ take n (drop from counters)) width ∙ sym (take-add from 2048 counters) ∙ ap (λ (n : ℕ). take n counters) next)
