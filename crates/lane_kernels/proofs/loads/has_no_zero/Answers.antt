use Rattle.std.proofs.Common.{◌∙◌, sym}
use Rattle.std.proofs.lemmas.Bool.{OnTrue_from, eqb-true}
use Rattle.lane_kernels.proofs.LoadLaws.{no_zero, zero_lanes}
use Rattle.lane_kernels.proofs.loads.has_no_zero.Goals as goal

pub returns : goal.returns
returns c = OnTrue_from _ _ (λ none. no_zero c.args.lanes c.requires (sym (zero_lanes c.args.lanes c.requires) ∙ eqb-true _ _ none))
