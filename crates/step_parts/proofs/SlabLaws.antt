-- The number of a block's slab, by the first data block and the end of the image.
use Rattle.std.proofs.Common.{ℕ, ◌≡◌, ◌-◌, ◌*◌, ◌/◌, ap, ◌∙◌, arith}
use Rattle.std.proofs.Math.Nat.{mul-div_cancel_left}
use Rattle.blk_base.specs.Limits.{IsGeometry}
use Rattle.blk_base.specs.Regions.{DataBlock, block_of, first_slab_of, needed_blocks, slab_stride_of}
use Rattle.blk_base.specs.declared.geometry.Geometry.{Geometry}
use Rattle.blk_base.specs.declared.place.Pbn.{Pbn}
use Rattle.zone_counts.specs.Zone.{slab_number}

module _ (g : Geometry) (sizes : IsGeometry g) (at : Pbn) where
  pub numbers : (first end behind : ℕ) → first ≡ block_of g (DataBlock 0 0) → end ≡ needed_blocks g → behind ≡ at.0 - first
      → behind / ((end - first) / g.slabs) ≡ slab_number g at
  numbers first end behind first_is end_is behind_is =
      let start : first ≡ first_slab_of g = omega (arith, first_is) in
      let all : end - first ≡ g.slabs * slab_stride_of g = omega (arith, end_is, start) in
      let stride : (end - first) / g.slabs ≡ slab_stride_of g = ap (λ (n : ℕ). n / g.slabs) all ∙ mul-div_cancel_left (slab_stride_of g) sizes.slabs.0 in
      let before : behind ≡ at.0 - first_slab_of g = omega (arith, behind_is, start) in
      ap (λ (n : ℕ). n / ((end - first) / g.slabs)) before ∙ ap (λ (n : ℕ). (at.0 - first_slab_of g) / n) stride
