use Rattle.std.proofs.lemmas.Grind.{common_steps}
use Rattle.std.proofs.Common.{◌≡◌, ◌+◌, ◌-◌, ◌∙◌, ap, sym, arith}
use Rattle.disk_model.specs.Streams.{SourceState}
use Rattle.disk_model.proofs.Taken.{taken_parts}
use Rattle.disk_model.proofs.memory_streams.MemSourceSource.take.Goals as goal

pub returns-clause-given : goal.returns-clause-given
returns-clause-given c =
    let taken = c.self.inside.taken in
    let same : taken + c.min-count.result - taken ≡ c.min-count.result = omega arith in
    sym (ap (λ (s : SourceState). s.bytes) c.self.view_is)
    ∙ taken_parts c.self.inside.bytes.items _ _ taken c.min-count.result (rw (same, c.deref.ensures.value) at c.copy_from_slice.ensures.after) (omega (arith, c.self.inside.bytes.ok))

pub returns-clause-end : goal.returns-clause-end
returns-clause-end c = grind (arith, common_steps)

pub returns-clause-exact_ok : goal.returns-clause-exact_ok
returns-clause-exact_ok c = grind (arith, common_steps)

pub returns-clause-rest : goal.returns-clause-rest
returns-clause-rest c = grind (arith, common_steps)
