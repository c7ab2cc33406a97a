use Rattle.std.proofs.Common.{◌≡◌, ◌+◌, ◌≤◌, ◌∙◌, ℕ, List, ap, length, arith, subst, sym}
use Rattle.std.specs.Prelude.{bit_xor, slice_index}
use Rattle.lane_kernels.specs.Kernels.{AreZeros}
use Rattle.lane_kernels.proofs.LoadLaws.{both_long, four_under, same_here, same_under, under_four}
use Rattle.lane_kernels.proofs.loads.are_same.Goals as goal

pub are_four_zeros-requires : goal.are_four_zeros-requires
are_four_zeros-requires c =
    let left = c.args.left.now in
    let right = c.args.right.now in
    let at = c.args.at in
    let room : at + 256 ≤ length left = c.requires.0 in
    let room' : at + 256 ≤ length right = c.requires.1 in
    let long = λ (xs : List ℕ). length xs in (
      ap long c.differences.ensures ∙ both_long left right at (omega (arith, room)) (omega (arith, room')) bit_xor,
      ap long c.differences-2.ensures ∙ both_long left right (at + 64) (omega (arith, room)) (omega (arith, room')) bit_xor,
      ap long c.differences-3.ensures ∙ both_long left right (at + 128) (omega (arith, room)) (omega (arith, room')) bit_xor,
      ap long c.differences-4.ensures ∙ both_long left right (at + 192) (omega (arith, room)) (omega (arith, room')) bit_xor,
    )

pub returns : goal.returns
returns c =
    let left = c.args.left.now in
    let right = c.args.right.now in
    let at = c.args.at in
    let room : at + 256 ≤ length left = c.requires.0 in
    let room' : at + 256 ≤ length right = c.requires.1 in (
      (λ yes.
          let all = c.are_four_zeros.ensures.0 yes in
          under_four (λ k. slice_index left k ≡ slice_index right k) at
          (same_under left right at (omega (arith, room)) (omega (arith, room')) (subst AreZeros c.differences.ensures all.0))
          (same_under left right (at + 64) (omega (arith, room)) (omega (arith, room')) (subst AreZeros c.differences-2.ensures all.1))
          (same_under left right (at + 128) (omega (arith, room)) (omega (arith, room')) (subst AreZeros c.differences-3.ensures all.2))
          (same_under left right (at + 192) (omega (arith, room)) (omega (arith, room')) (subst AreZeros c.differences-4.ensures all.3))),
      (λ same.
          let all = four_under (λ k. slice_index left k ≡ slice_index right k) at same in
          c.are_four_zeros.ensures.1 (
            subst AreZeros (sym c.differences.ensures) (same_here left right at (omega (arith, room)) (omega (arith, room')) all.0),
            subst AreZeros (sym c.differences-2.ensures) (same_here left right (at + 64) (omega (arith, room)) (omega (arith, room')) all.1),
            subst AreZeros (sym c.differences-3.ensures) (same_here left right (at + 128) (omega (arith, room)) (omega (arith, room')) all.2),
            subst AreZeros (sym c.differences-4.ensures) (same_here left right (at + 192) (omega (arith, room)) (omega (arith, room')) all.3),
          )),
    )
