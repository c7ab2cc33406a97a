use Rattle.std.proofs.Common.{◌∙◌, sym, eqb-true, eq-eqb}
use Rattle.lane_kernels.proofs.LoadLaws.{nonzeros, zero_under, empty_of_zeros}
use Rattle.lane_kernels.proofs.loads.are_zero_lanes.Goals as goal

pub returns : goal.returns
returns c =
    let mask = nonzeros c.args.lanes c.requires in (
      (λ none. zero_under c.args.lanes c.requires (sym mask ∙ eqb-true _ _ none)),
      (λ zeros. eq-eqb _ _ (mask ∙ empty_of_zeros c.args.lanes c.requires zeros)),
    )
