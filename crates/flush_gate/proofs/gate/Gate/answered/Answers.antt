use Rattle.std.proofs.Common.{◌+◌, ◌∙◌, arith}
use Rattle.std.proofs.lemmas.List.{get_or_default}
use Rattle.flush_gate.proofs.GateLaws.{counted}
use Rattle.flush_gate.proofs.gate.Gate.answered.Goals as goal

pub returns-clause-counted : goal.returns-clause-counted
returns-clause-counted c =
    let size = c.self.inside.counts.ok in
    counted (λ n. n + 1) _ _ _ _ c.self.inside.counts.items _ _ c.self.view_is (omega arith)
    (c.index_mut.ensures.value ∙ get_or_default c.self.inside.counts.items _ _ 0 (omega arith))
