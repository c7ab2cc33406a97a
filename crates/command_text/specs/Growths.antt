-- What is printed of an image that didn't grow.
use Rattle.std.specs.Prelude.{ℕ, List, ◌++◌, codes, decimal}
use Rattle.image_layout.specs.Faults.{field_name}
use Rattle.grow_image.specs.declared.fault.GrowFault.{GrowFault}
use Rattle.grow_image.specs.declared.fault.GrowFault.TheVariants.{Image, Smaller, Layout, Mapped}
use Rattle.command_text.specs.Faults.{image_fault_line}
use Rattle.command_text.specs.Formats.{layout_line}

-- `grow: smaller slabs`; the faults of the image and of the layout have the lines that they have elsewhere
abbrev pub grow_fault_line : GrowFault → List ℕ
grow_fault_line (Image why) = image_fault_line why
grow_fault_line (Layout why) = layout_line why
grow_fault_line (Smaller field) = codes "grow: smaller " ++ field_name field ++ codes "\n"
grow_fault_line (Mapped at) = codes "grow: mapped " ++ decimal at.0 ++ codes "\n"
