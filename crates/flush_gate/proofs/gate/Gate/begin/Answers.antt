use Rattle.std.proofs.Common.{◌+◌, List, length, arith, ap, sym, subst}
use Rattle.flush_gate.specs.Flushes.{Flushes, AreFrom}
use Rattle.flush_gate.specs.declared.waiters.Waiting.{Waiting}
use Rattle.flush_gate.proofs.GateLaws.{length-all_counts, AreFrom-push}
use Rattle.flush_gate.proofs.gate.Gate.begin.Goals as goal

pub invariant_of-self : goal.invariant_of-self
invariant_of-self c =
    let all = ap (λ (gate : Flushes). length gate.under_way) c.self.view_is in
    let size = length-all_counts c.self.inside.oldest c.self.inside.counts.items in
    let counts = c.self.inside.counts.ok in
    let flushes = c.self.inside.waiting.ok in
    record {
      each = omega arith;
      numbers = omega (arith, c.requires.number);
      flushes = subst (λ (fs : List Waiting). AreFrom (c.self.inside.oldest + 1) fs) (sym {A = List Waiting} c.push_back_reserved-2.ensures.items)
          (AreFrom-push _ _ _ c.self.invariant.flushes (omega (arith, c.len.ensures)));
      filled = omega (arith, c.requires.fewer, ap (λ (gate : Flushes). length gate.waiting) c.self.view_is, ap (λ (gate : Flushes). gate.room) c.self.view_is);
      room = omega arith;
      counts_room = omega arith;
    }
