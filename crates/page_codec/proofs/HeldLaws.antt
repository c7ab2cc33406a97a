-- Mappings that a page of a level can hold.
use Rattle.std.specs.Prelude.{ℕ, ◌≤◌, List, slice_set, replicate}
use Rattle.std.proofs.Common.{◌∙◌, arith}
use Rattle.std.proofs.lemmas.List.{length-set, length-replicate}
use Rattle.std.proofs.lemmas.List.Elements.{All-set, All-replicate}
use Rattle.std.proofs.lemmas.Nat.{mul-le}
use Rattle.blk_base.specs.declared.geometry.Geometry.{Geometry}
use Rattle.blk_base.specs.declared.place.Pbn.{Pbn}
use Rattle.blk_base.specs.Limits.{IsGeometry}
use Rattle.blk_base.specs.Regions.{IsDataBlock, references_of, slab_stride_of}
use Rattle.blk_base.specs.declared.place.Mapping.{Mapping}
use Rattle.blk_base.specs.declared.place.Mapping.TheVariants.{Unmapped, Zero, At}
use Rattle.page_codec.specs.Grammar.{HoldsMapping, AreHeld}

pub held-set : (g : Geometry) (level slot : ℕ) (mappings : List Mapping) (mapping : Mapping) → AreHeld g level mappings → HoldsMapping g level mapping
    → AreHeld g level (slice_set mappings slot mapping)
held-set g level slot mappings mapping held is = record {
  count = length-set mappings slot mapping ∙ held.count;
  each = All-set (HoldsMapping g level) mappings slot mapping is held.each;
}

pub held_unmapped : (g : Geometry) (level : ℕ) → AreHeld g level (replicate 812 Unmapped)
held_unmapped g level = record {
  count = length-replicate 812 Unmapped;
  each = All-replicate (HoldsMapping g level) 812 Unmapped tt;
}

-- a data block's number fits its four bytes
pub holds_block : (g : Geometry) (level : ℕ) (at : Pbn) → IsGeometry g → IsDataBlock g at.0 → HoldsMapping g level (At at)
holds_block g level at sizes block =
    let slabs = sizes.slabs in
    let blocks = sizes.slab_blocks in
    let journal = sizes.journal in
    let index = sizes.index in
    let slab_journal = sizes.slab_journal in
    let inside = block.inside in
    let stands = block.stands in
    let references : references_of g ≤ 9 = omega arith in
    let stride : slab_stride_of g ≤ 32841 = omega arith in
    let start = mul-le block.slab (slab_stride_of g) 1023 32841 (omega arith) stride in
    (block, omega (arith, start))

-- above the leaves all levels hold the same
holds_above : (g : Geometry) (level other : ℕ) (mapping : Mapping) → 1 ≤ level → HoldsMapping g level mapping → HoldsMapping g other mapping
holds_above g level other Unmapped above holds = tt
holds_above g level other Zero above holds = absurd (omega arith)
holds_above g level other (At block) above holds = holds

pub held_above : (g : Geometry) (level other : ℕ) (mappings : List Mapping) → 1 ≤ level → AreHeld g level mappings → AreHeld g other mappings
held_above g level other mappings above held = record {
  count = held.count;
  each = λ k d inside. holds_above g level other _ above (held.each k d inside);
}
