use Rattle.std.proofs.Common.{rules, tests}
use Rattle.std.proofs.lemmas.Iterator.{YieldsList-from_slice}
use Rattle.std.proofs.lemmas.Iterator.Search.{any_from_yields_List}
use Rattle.disk_model.specs.Plans.{strikes}
use Rattle.disk_model.proofs.faults.look_up.Goals as goal

pub returns-clause-fails : goal.returns-clause-fails
returns-clause-fails c =
    any_from_yields_List (λ fault. strikes fault c.args.kind c.args.at.0) _ _ _ c.any.ensures.ran (YieldsList-from_slice c.args.plan.now cc) (λ x b q k. search (rules, tests))
