-- What an image shows: for each definition what it accepts, and what it refuses.
use Rattle.std.proofs.Common.{ℕ, zero, suc, ◌≡◌, ◌<◌, true, List, [], ◌∷◌, length, set, refl, ap, arith, length-append}
use Rattle.std.specs.List.{sum_by}
use Rattle.std.proofs.lemmas.List.Concat.{length-flat_map}
use Rattle.blk_base.proofs.SectorLaws.{zero_size}
use Rattle.image_model.proofs.ZeroLaws.{of_eight}
use Rattle.journal_codec.specs.BlockBytes.{block_bytes, sector_bytes, entries_in}
use Rattle.journal_codec.proofs.ReadLaws.{length-sector_bytes}
use Rattle.sector_records.proofs.SectorLaws.{few_in}
use Rattle.sector_records.specs.SectorBytes.{eight_sectors, sector_numbers}
use Rattle.blk_base.specs.declared.journal_entry.CommittedEntry.{CommittedEntry}
use Rattle.blk_base.specs.Forms.{pbn}
use Rattle.disk_model.specs.declared.call.Call.TheVariants.{Flush}
use Rattle.disk_model.specs.Images.{IsImage}
use Rattle.disk_model.specs.Log.{Blocks, block_at}
use Rattle.disk_model.proofs.OneImageLaws.{one_image-opening, one_image-write_flush, one_image-is_image}
use Rattle.image_model.proofs.Example.{small, one, block}
use Rattle.image_model.proofs.WindowLaws.{one_window}
use Rattle.journal_stops.specs.Shown.{Extends, HasInWindow}
use Rattle.journal_stops.proofs.EntryLaws.{shown_at_rest}
use Rattle.journal_stops.proofs.RingRows.{empty, wrote, flushed_is}
use Rattle.journal_stops.proofs.SealedRows.{names, at}
use Rattle.journal_stops.proofs.ShownLaws.{window_at_rest}

-- Newer entries stand before the older ones.
extends : Extends (at 87 514 ∷ at 86 512 ∷ []) (at 86 512 ∷ [])
extends = (at 87 514 ∷ [], refl)

extends_itself : Extends (at 86 512 ∷ []) (at 86 512 ∷ [])
extends_itself = ([], refl)

extends_not_with_fewer : Extends [] (at 86 512 ∷ []) → ⊥
extends_not_with_fewer (newer, is) = let size = ap length is in omega (arith, size, length-append newer (at 86 512 ∷ []))

-- The device of the rows of rings after the flush: its one image has block 1.
abbrev image : Blocks
image = set empty 2 (block 1 1)

abbrev part : ℕ → List ℕ
part number = sector_bytes 1 1 1 number (entries_in number one)

part_size : (number : ℕ) → length (part number) ≡ 512
part_size number = length-sector_bytes 1 1 1 number (entries_in number one) (few_in 24 number one)

block_size : length (block 1 1) ≡ 4096
unfolding block_bytes eight_sectors sector_numbers
block_size =
    let parts : length (block 1 1) ≡ sum_by (λ (number : ℕ). length (part number)) sector_numbers = length-flat_map part sector_numbers in
    omega (arith, parts, part_size 0, part_size 1, part_size 2, part_size 3, part_size 4, part_size 5, part_size 6, part_size 7)

empty_size : (b : ℕ) → b < 9 → length (block_at empty b) ≡ 4096
empty_size zero below = zero_size
empty_size (suc b) below = of_eight (λ slot. length (block_at empty (suc slot)) ≡ 4096)
    zero_size zero_size zero_size zero_size zero_size zero_size zero_size zero_size b (omega (arith, below))

is_image : IsImage empty (Flush true ∷ wrote) image
is_image = one_image-is_image empty (Flush true ∷ wrote) image
    (one_image-write_flush empty [] empty (pbn 2) (block 1 1) (omega arith) block_size (one_image-opening empty empty_size))

-- its window has the entry; as it has it, also where older ones were reaped
has_entry : HasInWindow small 1 image (at 86 512 ∷ [])
has_entry = shown_at_rest empty (Flush true ∷ wrote) small 1 (names 1 ∷ []) image (omega arith) flushed_is is_image

has_reaped : (reaped : List CommittedEntry) → HasInWindow small 1 image (at 86 512 ∷ reaped)
has_reaped reaped = record { last = 1; window = at 86 512 ∷ []; is_window = window_at_rest empty (Flush true ∷ wrote) small 1 (names 1 ∷ []) image 1 (omega arith) flushed_is is_image refl; reaped = reaped; all = refl }

-- it doesn't have none, and it has no newer one
has_not_none : HasInWindow small 1 image [] → ⊥
has_not_none has =
    let same = (one_window small 1 _ has.last 1 has.window (at 86 512 ∷ []) has.is_window (window_at_rest empty (Flush true ∷ wrote) small 1 (names 1 ∷ []) image 1 (omega arith) flushed_is is_image refl)).1 in
    let size = ap length has.all in let count = ap length same in omega (arith, size, count, length-append has.window has.reaped)
