use Rattle.std.proofs.lemmas.Result.{on_ok_weaker}
use Rattle.format_guards.proofs.CountFacts.{lesser_first}
use Rattle.format_guards.proofs.counts.the_lesser_block_comes_first.Goals as goal

pub returns : goal.returns
returns c = on_ok_weaker _ (λ order. lesser_first _ _ c.put_in_order.ensures.permutation order) c.put_in_order.ensures.order
