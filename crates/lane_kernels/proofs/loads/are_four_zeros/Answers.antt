use Rattle.std.proofs.Common.{◌≡◌, ◌∙◌, ap₂, sym, subst, ℕ, List}
use Rattle.std.specs.Prelude.{bit_or}
use Rattle.lane_kernels.specs.Kernels.{AreZeros}
use Rattle.lane_kernels.proofs.LoadLaws.{four_by, four_zeros, zeros_four}
use Rattle.lane_kernels.proofs.loads.are_four_zeros.Goals as goal
use lib.Lanes.{zip2}

pub returns : goal.returns
returns c =
    let a = c.args in
    let lanes : c.either-3.result ≡ four_by a.first a.second a.third a.fourth c.requires.0 c.requires.1 c.requires.2 c.requires.3 bit_or =
    c.either-3.ensures ∙ ap₂ (λ (xs ys : List ℕ). zip2 bit_or xs ys) c.either.ensures c.either-2.ensures in (
      (λ yes. four_zeros a.first a.second a.third a.fourth c.requires.0 c.requires.1 c.requires.2 c.requires.3 (subst AreZeros lanes (c.are_zero_lanes.ensures.0 yes))),
      (λ zeros.
          c.are_zero_lanes.ensures.1 (subst AreZeros (sym lanes)
          (zeros_four a.first a.second a.third a.fourth c.requires.0 c.requires.1 c.requires.2 c.requires.3 zeros.0 zeros.1 zeros.2 zeros.3))),
    )
