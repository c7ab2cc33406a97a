-- The line of a layout's fault, in the pieces in which it is put.
use Rattle.std.proofs.Common.{ℕ, ◌≡◌, [], ◌∷◌, codes, append_assoc}
use Rattle.std.specs.List.{concat}
use Rattle.std.specs.Prelude.{decimal}
use Rattle.image_layout.specs.Faults.{field_name}
use Rattle.image_layout.specs.declared.fault.Field.{Field}
use Rattle.image_layout.specs.declared.fault.LayoutFault.TheVariants.{TooSmall, Size}
use Rattle.command_text.specs.Formats.{layout_line}

pub small_line : (needed has : ℕ) → concat (codes "layout: needs " ∷ decimal needed ∷ codes " blocks, has " ∷ decimal has ∷ codes "\n" ∷ []) ≡ layout_line (TooSmall needed has)
small_line needed has = simp append_assoc

pub size_line : (field : Field) → concat (codes "layout: size " ∷ field_name field ∷ codes "\n" ∷ []) ≡ layout_line (Size field)
size_line field = simp append_assoc
