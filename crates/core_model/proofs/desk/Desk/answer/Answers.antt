use Rattle.std.proofs.Common.{arith}
use Rattle.std.proofs.lemmas.Grind.{common_steps}
use Rattle.core_model.proofs.CountLaws.{few_answered}
use Rattle.core_model.proofs.desk.Desk.answer.Goals as goal

pub raise-requires : goal.raise-requires
raise-requires c = let few = few_answered c.self.inside.answered c.self.inside.lines.items c.get.result.now.request.stream c.self.invariant.answered in grind (arith, common_steps)
