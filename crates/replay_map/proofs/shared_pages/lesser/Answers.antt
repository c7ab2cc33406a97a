use Rattle.std.proofs.Common.{subst, Option}
use Rattle.blk_base.specs.declared.place.Pbn.{Pbn}
use Rattle.replay_map.proofs.ShareLaws.{least_first, least_kept, least_lower}
use Rattle.replay_map.specs.Shares.{IsLeastOf}
use Rattle.replay_map.proofs.shared_pages.lesser.Goals as goal

pub returns-in-None : goal.returns-in-None
returns-in-None c test blocks were passes =
    least_first test blocks c.args.other passes (subst (λ (o : Option Pbn). IsLeastOf test blocks o) c.in-None.is were)

pub returns-then-other-least : goal.returns-then-other-least
returns-then-other-least c test blocks were passes =
    least_lower test blocks c.args.other c.in-Some.least passes c.if-other-least.true (subst (λ (o : Option Pbn). IsLeastOf test blocks o) c.in-Some.is were)

pub returns-else-other-least : goal.returns-else-other-least
returns-else-other-least c test blocks were passes =
    least_kept test blocks c.args.other c.in-Some.least c.if-other-least.false (subst (λ (o : Option Pbn). IsLeastOf test blocks o) c.in-Some.is were)
