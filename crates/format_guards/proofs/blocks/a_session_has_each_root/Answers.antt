use Rattle.format_guards.proofs.BlockFacts.{root_listed}
use Rattle.std.proofs.lemmas.Result.{IfOk-weaker}
use Rattle.format_guards.proofs.blocks.a_session_has_each_root.Goals as goal

pub returns : goal.returns
returns c = IfOk-weaker _ _ _ (λ opened are. root_listed _ _ c.requires.sizes are) c.opened_of.ensures.pages
