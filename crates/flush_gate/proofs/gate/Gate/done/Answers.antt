use Rattle.std.proofs.Common.{◌≡◌, ℕ, ◌<◌, ◌+◌, ◌-◌, ◌∙◌, get_or, set, arith, ap}
use Rattle.std.proofs.lemmas.List.{get_or_default}
use Rattle.flush_gate.specs.Flushes.{Flushes}
use Rattle.flush_gate.proofs.GateLaws.{counted, count_kept, count_inside, all_counts}
use Rattle.flush_gate.proofs.gate.Gate.done.Goals as goal

pub returns : goal.returns
returns c =
    let size = c.self.inside.counts.ok in
    let some : 0 < get_or (all_counts c.self.inside.oldest c.self.inside.counts.items) c.args.generation 0
    = omega (arith, c.requires, ap (λ (gate : Flushes). get_or gate.under_way c.args.generation 0) c.self.view_is) in
    let kept = count_kept c.self.inside.oldest c.self.inside.counts.items c.args.generation some in
    let inside = count_inside c.self.inside.oldest c.self.inside.counts.items c.args.generation some in
    let place : c.self.inside.oldest + (c.args.generation - c.self.inside.oldest) ≡ c.args.generation = omega arith in
    let changed = counted (λ n. n - 1) c.self.inside.room c.self.inside.oldest (c.args.generation - c.self.inside.oldest) _ c.self.inside.counts.items c.self.inside.waiting.items c.args.self.now
    c.self.view_is (omega arith)
    (c.index_mut.ensures.value ∙ get_or_default c.self.inside.counts.items _ _ 0 (omega arith)) in
    changed ∙ ap (λ (g : ℕ). record { room = c.args.self.now.room; under_way = set c.args.self.now.under_way g (get_or c.args.self.now.under_way g 0 - 1); waiting = c.args.self.now.waiting }) place
