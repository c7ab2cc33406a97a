-- Where the entries of the recovery journal map an address, and the value that stands there.
use Rattle.std.specs.Prelude.{ℕ, ◌==◌, List, [], ◌∷◌, take, drop, get_or, if◌then◌else◌}
use Rattle.blk_base.specs.Sectors.{zero_block}
use Rattle.blk_base.specs.declared.geometry.Geometry.{Geometry}
use Rattle.blk_base.specs.declared.journal_entry.Entry.{Entry}
use Rattle.blk_base.specs.declared.journal_entry.Entry.TheVariants.{Remap, NewPage}
use Rattle.blk_base.specs.declared.place.Mapping.{Mapping}
use Rattle.blk_base.specs.declared.place.Mapping.TheVariants.{Unmapped, Zero, At}

-- the journal's blocks of an image, in the order of their slots: they stand behind the superblock
abbrev pub journal_of : Geometry → List (List ℕ) → List (List ℕ)
journal_of g image = take g.journal (drop 1 image)

-- where the entries, the newest first, map an address
abbrev pub mapping_of : List Entry → ℕ → Mapping
mapping_of [] a = Unmapped
mapping_of (Remap at old new ∷ older) a = if at.0 == a then new else mapping_of older a
mapping_of (NewPage page at ∷ older) a = mapping_of older a

-- the value that a mapping stands for
abbrev pub value_in : List (List ℕ) → Mapping → List ℕ
value_in image Unmapped = zero_block
value_in image Zero = zero_block
value_in image (At x) = get_or image x.0 zero_block

-- the value of an address in an image whose window has these entries
abbrev pub value_of : List (List ℕ) → List Entry → ℕ → List ℕ
value_of image entries a = value_in image (mapping_of entries a)
