-- What `format` and `grow` print.
use Rattle.std.specs.Prelude.{ℕ, List, [], ◌∷◌, ◌++◌, ◌==◌, codes, decimal, if◌then◌else◌}
use Rattle.std.specs.List.{concat}
use Rattle.blk_base.specs.Regions.{needed_blocks}
use Rattle.blk_base.specs.declared.geometry.Geometry.{Geometry}
use Rattle.grow_image.specs.declared.forms.Grown.{Grown}
use Rattle.image_layout.specs.PossibleSizes.{layout_fault_text}
use Rattle.image_layout.specs.declared.fault.LayoutFault.{LayoutFault}

-- one slab is a slab
abbrev pub slabs_text : ℕ → List ℕ
slabs_text slabs = if slabs == 1 then codes " slab of " else codes " slabs of "

-- `formatted 154 blocks, 1 slab of 64, logical 1000`, of an image of these sizes
abbrev pub formatted_text : Geometry → List ℕ
formatted_text sizes =
    concat (codes "formatted " ∷ decimal (needed_blocks sizes) ∷ codes " blocks, " ∷ decimal sizes.slabs ∷ slabs_text sizes.slabs
    ∷ decimal sizes.slab_blocks ∷ codes ", logical " ∷ decimal sizes.logical ∷ codes "\n" ∷ [])

-- `grown 223 blocks, 2 slabs of 64, logical 2000`
abbrev pub grown_text : Grown → List ℕ
grown_text grown =
    concat (codes "grown " ∷ decimal grown.blocks ∷ codes " blocks, " ∷ decimal grown.slabs ∷ slabs_text grown.slabs
    ∷ decimal grown.slab_blocks ∷ codes ", logical " ∷ decimal grown.logical ∷ codes "\n" ∷ [])

-- `layout: needs 154 blocks, has 153`
abbrev pub layout_line : LayoutFault → List ℕ
layout_line why = codes "layout: " ++ layout_fault_text why ++ codes "\n"
