-- What is printed of blocks that are no image.
use Rattle.std.specs.Prelude.{ℕ, List, ◌++◌, codes}
use Rattle.image_model.specs.Faults.{image_fault_text}
use Rattle.image_model.specs.declared.fault.ImageFault.{ImageFault}
use Rattle.image_model.specs.declared.fault.ImageFault.TheVariants.{Device, Memory}

-- `bad image: page 85 header`; a device that failed and want of memory have lines of their own
abbrev pub image_fault_line : ImageFault → List ℕ
image_fault_line Device = codes "device fault\n"
image_fault_line Memory = codes "no memory\n"
image_fault_line why = codes "bad image: " ++ image_fault_text why ++ codes "\n"
