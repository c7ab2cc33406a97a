use Rattle.format_guards.proofs.CountFacts.{if_ok_never, past_no_limit}
use Rattle.format_guards.proofs.counts.no_count_goes_past_the_limit.Goals as goal

pub returns : goal.returns
returns c = if_ok_never _ _ _ (λ counts are. past_no_limit _ _ _ are) c.counts_of.ensures.counts
