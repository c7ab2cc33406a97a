-- The fields of the reference blocks as what they are to say.
use Rattle.reference_blocks.specs.References.{References}
use Rattle.reference_blocks.specs.declared.blocks.ReferenceBlocks.TheInside.{Inside}

abbrev pub references_in : Inside → References
references_in s = record { geometry = s.layout.geometry; applied = s.applied.items; handed = s.handed.items; blocks = s.dirty }
