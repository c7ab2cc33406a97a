use Rattle.std.proofs.Common.{rules, tests, ◌∙◌}
use Rattle.std.proofs.lemmas.Iterator.{YieldsList-from_slice}
use Rattle.std.proofs.lemmas.Iterator.Search.{any_from_yields_List}
use Rattle.std.proofs.lemmas.List.Sorted.{list_any-IsPermutation, IsPermutation-reverse}
use Rattle.vdo_cli.specs.Texts.{lost_line}
use Rattle.vdo_cli.proofs.endings.has_lost.Goals as goal

pub returns : goal.returns
returns c =
    any_from_yields_List lost_line _ _ _ c.any.ensures.ran (YieldsList-from_slice c.args.desk.now cc) (λ x b q k. search (rules, tests))
    ∙ list_any-IsPermutation lost_line _ _ (IsPermutation-reverse c.args.desk.now)
