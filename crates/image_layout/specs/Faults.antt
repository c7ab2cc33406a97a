-- The texts of fields and faults.
use Rattle.std.specs.Prelude.{ℕ, List, ◌++◌, codes}
use Rattle.std.specs.Fmt.{decimal}
use Rattle.image_layout.specs.declared.fault.Field.{Field}
use Rattle.image_layout.specs.declared.fault.Field.TheVariants.{Height, Nonce, Logical, Slabs, SlabBlocks, Journal, Index, SlabJournal, Clean, Reserved, Start, Blocks}
use Rattle.image_layout.specs.declared.fault.SuperFault.{SuperFault}
use Rattle.image_layout.specs.declared.fault.SuperFault.TheVariants.{NotAnImage, Version, BadField}

-- a field's name as it is printed
abbrev pub field_name : Field → List ℕ
field_name Height = codes "height"
field_name Nonce = codes "nonce"
field_name Logical = codes "logical"
field_name Slabs = codes "slabs"
field_name SlabBlocks = codes "slab-blocks"
field_name Journal = codes "journal"
field_name Index = codes "index"
field_name SlabJournal = codes "slab-journal"
field_name Clean = codes "clean"
field_name Reserved = codes "reserved"
field_name Start = codes "start"
field_name Blocks = codes "blocks"

-- a fault's text
abbrev pub super_fault_text : SuperFault → List ℕ
super_fault_text NotAnImage = codes "not an image"
super_fault_text (Version found) = codes "version " ++ decimal found
super_fault_text (BadField field) = codes "field " ++ field_name field
