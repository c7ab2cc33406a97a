-- What is printed of images: for each definition two cases, computed.
use Rattle.std.specs.Prelude.{ℕ, ◌≡◌, true, false, [], ◌∷◌, codes, Some, None, refl}
use Rattle.command_text.proofs.Numerals.{numerals}
use Rattle.audit.specs.declared.forms.Difference.{Difference}
use Rattle.audit.specs.declared.forms.Report.{Report}
use Rattle.blk_base.specs.declared.geometry.Geometry.{Geometry}
use Rattle.image_status.specs.declared.forms.ImageStatus.{ImageStatus}
use Rattle.grow_image.specs.declared.fault.GrowFault.TheVariants.{Image as OfImage, Layout as OfLayout, Mapped, Smaller}
use Rattle.rebuild.specs.declared.forms.Recovered.TheVariants.{Clean, Entries}
use Rattle.command_text.specs.declared.parts.Space.{Space}
use Rattle.command_text.specs.declared.parts.DamagedPlace.TheVariants.{Page, Count}
use Rattle.command_text.specs.Parts.{recovered_text, recovery_text, space_pieces, space_text, damaged_text, damage_text}
use Rattle.command_text.specs.Rebuilt.{rebuilt_text}
use Rattle.command_text.specs.Formats.{slabs_text, formatted_text, grown_text, layout_line}
use Rattle.command_text.specs.Growths.{grow_fault_line}
use Rattle.image_layout.specs.declared.fault.Field.TheVariants.{Logical, SlabBlocks, Slabs}
use Rattle.image_model.specs.declared.fault.ImageFault.TheVariants.{Unclean}
use Rattle.image_layout.specs.declared.fault.LayoutFault.TheVariants.{TooSmall, LogicalTooLarge, Size, TooLargeToCrash}
use Rattle.command_text.specs.Audits.{difference_text, verdict_text, findings_text, report_text}
use Rattle.command_text.specs.Statuses.{mode_text, sizes_text, status_text}

abbrev pub fresh : Space
fresh = record { used = 0; total = 64 }

abbrev pub some_used : Space
some_used = record { used = 2; total = 64 }

pub recovered_some : recovered_text (Some 30) ≡ codes "recovered 30 entries\n"
recovered_some = simp numerals refl

pub recovered_none : recovered_text None ≡ []
recovered_none = refl

pub recovery_clean : recovery_text Clean ≡ codes "clean\n"
recovery_clean = refl

-- a recovery of no entries isn't that of a clean image
pub recovery_empty : recovery_text (Entries 0) ≡ codes "recovered 0 entries\n"
recovery_empty = simp numerals refl

pub space_in_pieces : space_pieces some_used ≡ codes "used " ∷ codes "2" ∷ codes " of " ∷ codes "64" ∷ codes "\n" ∷ []
space_in_pieces = simp numerals refl

pub space_some : space_text some_used ≡ codes "used 2 of 64\n"
space_some = simp numerals refl

pub space_none : space_text fresh ≡ codes "used 0 of 64\n"
space_none = simp numerals refl

pub damaged_page : damaged_text (codes "page ") (record { 0 = 85 }) ≡ codes "damage: page 85\n"
damaged_page = simp numerals refl

pub damage_of_page : damage_text (Some (Page (record { 0 = 85 }))) ≡ codes "damage: page 85\n"
damage_of_page = simp numerals refl

pub damage_of_count : damage_text (Some (Count (record { 0 = 86 }))) ≡ codes "damage: count 86\n"
damage_of_count = simp numerals refl

pub damage_none : damage_text None ≡ []
damage_none = refl

pub one_slab : slabs_text 1 ≡ codes " slab of "
one_slab = refl

pub two_slabs : slabs_text 2 ≡ codes " slabs of "
two_slabs = refl

-- so many slabs of 64 blocks
abbrev pub sizes : ℕ → ℕ → Geometry
sizes slabs logical =
    record { logical = logical; slabs = slabs; slab_blocks = 64; journal = 8; index = 16; slab_journal = 4; height = 4; nonce = 7 }

pub formatted_one : formatted_text (sizes 1 1000) ≡ codes "formatted 154 blocks, 1 slab of 64, logical 1000\n"
formatted_one = simp numerals refl

pub formatted_two : formatted_text (sizes 2 2000) ≡ codes "formatted 223 blocks, 2 slabs of 64, logical 2000\n"
formatted_two = simp numerals refl

pub layout_too_small : layout_line (TooSmall 154 85) ≡ codes "layout: needs 154 blocks, has 85\n"
layout_too_small = simp numerals refl

pub layout_too_large : layout_line LogicalTooLarge ≡ codes "layout: logical too large\n"
layout_too_large = refl

pub layout_size : layout_line (Size SlabBlocks) ≡ codes "layout: size slab-blocks\n"
layout_size = refl

pub layout_to_crash : layout_line (TooLargeToCrash 70000) ≡ codes "layout: too large to crash\n"
layout_to_crash = refl

abbrev pub stray : Difference
stray = record { at = record { 0 = 86 }; stored = 2; mapped = 1 }

pub difference_of_two : difference_text stray ≡ codes "block 86 stored 2 mapped 1\n"
difference_of_two = simp numerals refl

pub difference_of_none : difference_text (record { at = record { 0 = 87 }; stored = 0; mapped = 300 }) ≡ codes "block 87 stored 0 mapped 300\n"
difference_of_none = simp numerals refl

pub verdict_clean : verdict_text [] some_used ≡ codes "audit clean, used 2 of 64\n"
verdict_clean = simp numerals refl

pub verdict_differs : verdict_text (stray ∷ stray ∷ []) some_used ≡ codes "audit differs 2\n"
verdict_differs = simp numerals refl

pub findings_clean : findings_text [] some_used ≡ codes "audit clean, used 2 of 64\n"
findings_clean = simp numerals refl

pub findings_differ : findings_text (stray ∷ []) some_used ≡ codes "block 86 stored 2 mapped 1\naudit differs 1\n"
findings_differ = simp numerals refl

pub report_clean : (report : Report) → report.differs.items ≡ [] → report.used ≡ 2 → report.total ≡ 64
    → report_text report ≡ codes "audit clean, used 2 of 64\n"
report_clean report none used total = rw (none, used, total) findings_clean

pub report_differs : (report : Report) → report.differs.items ≡ stray ∷ []
    → report_text report ≡ codes "block 86 stored 2 mapped 1\naudit differs 1\n"
report_differs report one = rw one findings_differ

pub rebuilt_some : rebuilt_text (record { used = 2; total = 64 }) ≡ codes "rebuilt, used 2 of 64\n"
rebuilt_some = simp numerals refl

pub rebuilt_none : rebuilt_text (record { used = 0; total = 64 }) ≡ codes "rebuilt, used 0 of 64\n"
rebuilt_none = simp numerals refl

pub grown_more : grown_text (record { blocks = 223; slabs = 2; slab_blocks = 64; logical = 2000 }) ≡ codes "grown 223 blocks, 2 slabs of 64, logical 2000\n"
grown_more = simp numerals refl

pub grown_one : grown_text (record { blocks = 154; slabs = 1; slab_blocks = 64; logical = 1000 }) ≡ codes "grown 154 blocks, 1 slab of 64, logical 1000\n"
grown_one = simp numerals refl

pub smaller_logical : grow_fault_line (Smaller Logical) ≡ codes "grow: smaller logical\n"
smaller_logical = refl

pub smaller_slabs : grow_fault_line (Smaller Slabs) ≡ codes "grow: smaller slabs\n"
smaller_slabs = refl

pub mapped_there : grow_fault_line (Mapped (record { 0 = 1000 })) ≡ codes "grow: mapped 1000\n"
mapped_there = simp numerals refl

pub grow_unclean : grow_fault_line (OfImage Unclean) ≡ codes "bad image: unclean\n"
grow_unclean = refl

pub grow_too_large : grow_fault_line (OfLayout LogicalTooLarge) ≡ codes "layout: logical too large\n"
grow_too_large = refl

pub mode_clean : mode_text true 30 ≡ codes "mode clean\nrecovery none\n"
mode_clean = refl

pub mode_unclean : mode_text false 0 ≡ codes "mode unclean\nrecovery 0 entries\n"
mode_unclean = simp numerals refl

abbrev pub new_image : ImageStatus
new_image = record { clean = true; entries = 0; chapters = 0; used = 0; total = 64; logical = 1000 }

abbrev pub used_image : ImageStatus
used_image = record { clean = false; entries = 30; chapters = 1; used = 2; total = 64; logical = 1000 }

pub sizes_fresh : sizes_text new_image ≡ codes "index 0 chapters\ncompression refused\nused 0 of 64\nlogical 1000\n"
sizes_fresh = simp numerals refl

pub sizes_used : sizes_text used_image ≡ codes "index 1 chapters\ncompression refused\nused 2 of 64\nlogical 1000\n"
sizes_used = simp numerals refl

pub status_clean : status_text new_image
    ≡ codes "mode clean\nrecovery none\nindex 0 chapters\ncompression refused\nused 0 of 64\nlogical 1000\n"
status_clean = simp numerals refl

pub status_unclean : status_text used_image
    ≡ codes "mode unclean\nrecovery 30 entries\nindex 1 chapters\ncompression refused\nused 2 of 64\nlogical 1000\n"
status_unclean = simp numerals refl
