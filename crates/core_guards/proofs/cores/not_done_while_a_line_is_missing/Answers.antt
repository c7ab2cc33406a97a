use Rattle.std.proofs.Common.{inl, inr}
use Rattle.std.proofs.lemmas.Bool.{cases_Bool}
use Rattle.core_guards.proofs.Moves.{not_done}
use Rattle.core_guards.proofs.cores.not_done_while_a_line_is_missing.Goals as goal

pub returns : goal.returns
returns c = λ zone desk had keeps missing. elim (cases_Bool c.done.result) [
  | inl done ↦ absurd (not_done _ zone desk had keeps missing (c.done.ensures.yes done))
  | inr not_yet ↦ not_yet
]
