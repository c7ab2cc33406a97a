use Rattle.std.proofs.Common.{◌≡◌, ◌+◌, ◌≤◌, length, arith}
use Rattle.std.specs.Prelude.{slice_index}
use Rattle.lane_kernels.proofs.LoadLaws.{chunk_long, four_under, under_four, zeros_here, zeros_under}
use Rattle.lane_kernels.proofs.loads.are_zeros.Goals as goal

pub are_four_zeros-requires : goal.are_four_zeros-requires
are_four_zeros-requires c =
    let bytes = c.args.bytes.now in
    let at = c.args.at in
    let room : at + 256 ≤ length bytes = c.requires in (
      chunk_long bytes at (omega (arith, room)),
      chunk_long bytes (at + 64) (omega (arith, room)),
      chunk_long bytes (at + 128) (omega (arith, room)),
      chunk_long bytes (at + 192) (omega (arith, room)),
    )

pub returns : goal.returns
returns c =
    let bytes = c.args.bytes.now in
    let at = c.args.at in (
      (λ yes.
          let all = c.are_four_zeros.ensures.0 yes in
          under_four (λ k. slice_index bytes k ≡ 0) at (zeros_under bytes at all.0) (zeros_under bytes (at + 64) all.1) (zeros_under bytes (at + 128) all.2) (zeros_under bytes (at + 192) all.3)),
      (λ zeros.
          let all = four_under (λ k. slice_index bytes k ≡ 0) at zeros in
          c.are_four_zeros.ensures.1 (zeros_here bytes at all.0, zeros_here bytes (at + 64) all.1, zeros_here bytes (at + 128) all.2, zeros_here bytes (at + 192) all.3)),
    )
