use Rattle.std.proofs.Common.{◌<◌, ◌∙◌, length, refl, sym, arith}
use Rattle.std.proofs.lemmas.List.{get_or_default}
use Rattle.flush_gate.proofs.GateLaws.{waits, leaves}
use Rattle.flush_gate.proofs.gate.Gate.complete.Goals as goal

pub returns-then-older-ne0-clause-none : goal.returns-then-older-ne0-clause-none
returns-then-older-ne0-clause-none c =
    let size = c.self.inside.counts.ok in
    let some : 0 < length c.self.inside.counts.items = omega arith in (
      waits _ _ _ _ _ c.self.view_is c.self.invariant.flushes
          (λ zero. c.if-older-ne0.true (c.index-older.ensures ∙ get_or_default c.self.inside.counts.items 0 _ 0 some ∙ zero)),
      refl,
    )

pub returns-clause-some : goal.returns-clause-some
returns-clause-some c =
    let size = c.self.inside.counts.ok in
    let some : 0 < length c.self.inside.counts.items = omega arith in (
      c.in_ok-flush.flush.generation,
      leaves _ _ c.self.inside.counts.items _ _ _ _ _ c.self.view_is c.self.invariant.flushes c.in_ok-flush.ensures.items some
          (sym (get_or_default c.self.inside.counts.items 0 _ 0 some) ∙ sym c.index-older.ensures ∙ c.if-older-ne0.false) c.pop_front-2.ensures.rest,
    )
