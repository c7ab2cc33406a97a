use Rattle.std.proofs.Common.{◌<◌, ◌∙◌, length, refl, arith}
use Rattle.std.proofs.lemmas.List.{get_or_default}
use Rattle.flush_gate.proofs.GateLaws.{done_before, not_done_before}
use Rattle.flush_gate.proofs.gate.Gate.older_done.Goals as goal

pub returns-then-index-ne0 : goal.returns-then-index-ne0
returns-then-index-ne0 c =
    let size = c.self.inside.counts.ok in
    let inside : c.loop-place.place < length c.self.inside.counts.items = omega arith in (
      (λ never. cc),
      (λ done. absurd (not_done_before _ _ _ c.loop-place.place c.self.inside.counts.items _ _ c.self.view_is c.if-self-place.true
          (λ zero. c.if-index-ne0.true (c.index.ensures ∙ get_or_default c.self.inside.counts.items _ _ 0 inside ∙ zero)) done)),
    )

pub returns : goal.returns
returns c =
    let size = c.self.inside.counts.ok in
    ((λ yes. done_before _ _ _ c.self.inside.counts.items _ _ c.self.view_is (λ k inside before. c.loop-place.invariant k (omega arith) before)), (λ done. refl))
