use Rattle.std.proofs.Common.{◌≡◌, ℕ, Option, Some, None, IfSome, IfNone, sym, ◌∙◌, ap, ap₂}
use Rattle.blk_base.specs.Forms.{place_in}
use Rattle.blk_base.specs.Regions.{Place, IsPlace, IsDataBlock, block_of, DataBlock}
use Rattle.blk_base.specs.declared.geometry.Geometry.{Geometry}
use Rattle.blk_base.specs.declared.layout.DataPlace.{DataPlace}
use Rattle.format_guards.proofs.base.a_data_block_is_found.Goals as goal

abbrev slab_in : Place → ℕ
slab_in (DataBlock slab offset) = slab
slab_in other = 0

abbrev offset_in : Place → ℕ
offset_in (DataBlock slab offset) = offset
offset_in other = 0

module _ (g : Geometry) (slab offset block : ℕ) (inside : IsPlace g (DataBlock slab offset)) (stands : block ≡ block_of g (DataBlock slab offset)) (apart : (p q : Place) → IsPlace g p → IsPlace g q → block_of g p ≡ block_of g q → p ≡ q) where
  found : (answer : Option DataPlace) → IfSome answer (λ p. IsPlace g (DataBlock p.slab p.offset) × (block_of g (DataBlock p.slab p.offset) ≡ block))
      → IfNone answer (IsDataBlock g block → ⊥) → answer ≡ Some (place_in slab offset)
  found None some none = absurd (none (record { slab = slab; offset = offset; inside = inside; stands = sym stands }))
  found (Some p) some none =
      let same = apart (DataBlock p.slab p.offset) (DataBlock slab offset) some.0 inside (some.1 ∙ stands) in
      ap Some (ap₂ place_in (ap slab_in same) (ap offset_in same))

pub returns : goal.returns
returns c =
    found c.args.layout.now.geometry c.args.slab c.args.offset c.data_block.result.0 c.requires c.data_block.ensures.block (c.regions_are_apart.ensures.apart c.args.layout.now.geometry) c.place.result c.place.ensures.some c.place.ensures.none
