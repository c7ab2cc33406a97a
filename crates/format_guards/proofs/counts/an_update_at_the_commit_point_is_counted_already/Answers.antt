use Rattle.std.proofs.lemmas.Result.{IfOk-weaker}
use Rattle.format_guards.proofs.CountFacts.{already_counted}
use Rattle.format_guards.proofs.counts.an_update_at_the_commit_point_is_counted_already.Goals as goal

pub returns : goal.returns
returns c = IfOk-weaker _ _ _ (λ counts are. already_counted _ _ _ are) c.counts_of.ensures.counts
