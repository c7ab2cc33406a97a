-- The limits of an image's sizes.
use Rattle.std.specs.Prelude.{ℕ, ◌≡◌, ◌≤◌, ◌%◌, ◌==◌, if◌then◌else◌}
use Rattle.blk_base.specs.declared.geometry.Geometry.{Geometry}

-- the greatest logical size of a height
abbrev pub logical_limit : ℕ → ℕ
logical_limit height = if height == 2 then 39560640 else 4000000000

-- sizes that an image may have
pub record IsGeometry (g : Geometry) : Type 0 where
  pub height : (2 ≤ g.height) × (g.height ≤ 3)
  pub nonce : 1 ≤ g.nonce
  pub logical : (1 ≤ g.logical) × (g.logical ≤ logical_limit g.height)
  pub slabs : (1 ≤ g.slabs) × (g.slabs ≤ 1024)
  pub slab_blocks : (16 ≤ g.slab_blocks) × (g.slab_blocks ≤ 32768)
  pub journal : (8 ≤ g.journal) × (g.journal ≤ 1024)
  pub index : (4 ≤ g.index) × (g.index ≤ 1024) × (g.index % 4 ≡ 0)
  pub slab_journal : (2 ≤ g.slab_journal) × (g.slab_journal ≤ 64)
