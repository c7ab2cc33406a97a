-- The calls of recovery: for each clause a case that it accepts, and one that it refuses.
use Rattle.std.specs.List.{AllByRecursion}
use Rattle.std.proofs.Common.{ℕ, ◌≡◌, ◌/◌, ◌%◌, ◌≤◌, ◌++◌, true, false, List, [], ◌∷◌, length, replicate, Some, refl, ◌∙◌, ap, subst, inl, inr, arith}
use Rattle.blk_base.specs.Regions.{IndexBlock, ReferenceBlock, block_of}
use Rattle.blk_base.specs.Sectors.{sector, zero_block}
use Rattle.blk_base.proofs.RegionLaws.{apart}
use Rattle.blk_base.specs.declared.geometry.Geometry.{Geometry}
use Rattle.blk_base.specs.declared.place.Mapping.TheVariants.{Zero}
use Rattle.blk_base.specs.declared.place.PageId.{PageId}
use Rattle.blk_base.specs.declared.place.Pbn.{Pbn}
use Rattle.blk_base.specs.Forms.{page, pbn}
use Rattle.byte_fields.specs.Fields.{number_at}
use Rattle.disk_model.specs.declared.call.Call.{Call}
use Rattle.disk_model.specs.declared.call.Call.TheVariants.{Read, Write, Flush}
use Rattle.image_format.proofs.StopLaws.{all_behind}
use Rattle.disk_model.specs.Log.{Blocks, block_at, IsWritten}
use Rattle.image_layout.specs.Superblock.{super_block}
use Rattle.image_model.proofs.CountExample.{kept_is, updated}
use Rattle.image_model.proofs.Example.{small}
use Rattle.image_model.proofs.MapExample.{image as mapped, remap}
use Rattle.image_model.specs.Maps.{Image, page_at}
use Rattle.image_model.specs.Sound.{IsSound}
use Rattle.recovery_laws.specs.Calls.{ArePuts, IsBegun, IsCountersPut, IsPut, call_failed, first_calls, put_failed, some_puts, recovery_calls}
use Rattle.recovery_laws.specs.Kept.{image_in}
use Rattle.recovery_laws.specs.Written.{IsFullPage, IsFullSector, IsOldSector}
use Rattle.recovery_laws.proofs.KeptRows.{counted_as}
use Rattle.recovery_laws.proofs.OldLaws.{no_page_there}
use Rattle.recovery_laws.proofs.SoundLaws.{known}
use Rattle.recovery_laws.proofs.WrittenRows.{other_counter}
use Rattle.replay_counts.proofs.ReadRows.{no_commit_there}

-- The calls of an image without a change: superblock and flushes alone, and the superblock behind the first flush.
calls_are : (image : Image) → recovery_calls image 7 []
    ≡ Flush true ∷ Write (record { 0 = 0 }) (super_block (record { geometry = image.geometry; clean = true; start = 9 })) true ∷ Flush true ∷ []
calls_are image = refl

-- Writes: a read is none, and may stand among them.
read_among : (image : Image) → IsPut image (Read (pbn 9) [] false)
read_among image = tt

-- a flush isn't one, nor a write that failed, nor one of less than a block
no_flush : (image : Image) → IsPut image (Flush true) → ⊥
no_flush image is = is

no_failed : (image : Image) → IsPut image (Write (pbn 9) zero_block false) → ⊥
no_failed image is = is

no_part : (image : Image) → IsPut image (Write (pbn 9) [] true) → ⊥
no_part image is = let size = is.0 in omega (arith, size)

-- nor one of an index block of a sound image
no_other : (blocks : Blocks) (sound : IsSound blocks) (bytes : List ℕ) → 1 ≤ sound.head.geometry.index
    → IsPut (image_in blocks sound) (Write (pbn (block_of sound.head.geometry (IndexBlock 0))) bytes true) → ⊥
no_other blocks sound bytes some is = elim is.1 [
  | inl page_put ↦
      no_page_there (image_in blocks sound) sound.pages sound.last (known blocks blocks sound) (IndexBlock 0) some tt
      (page_put.0, pbn (block_of sound.head.geometry (IndexBlock 0)), page_put.1, refl)
  | inr counters ↦ let one = apart sound.head.geometry (ReferenceBlock counters.slab counters.i) (IndexBlock 0) counters.inside some counters.stands in absurd (cc one)
]

-- a page is written where it stands, and as it says with the window
page_put : (image : Image) (which : PageId) (at : Pbn) (bytes : List ℕ) → length bytes ≡ 4096 → page_at image which ≡ Some at → IsFullPage image which at bytes → IsPut image (Write at bytes true)
page_put image which at bytes size there full = (size, inl (which, there, full))

-- Counters are written where they stand, and with all updates.
counters_put : (image : Image) (bytes : List ℕ) → image.geometry ≡ small → length bytes ≡ 4096
    → IsFullSector image 0 0 (sector 0 bytes) → ((n : ℕ) → n / 8 ≡ 0 → 1 ≤ n → IsOldSector image 0 n (sector (n % 8) bytes)) → IsPut image (Write (pbn 149) bytes true)
counters_put image bytes same size full past =
    let blocks_are : image.geometry.slab_blocks ≡ 64 = ap (λ (g : Geometry). g.slab_blocks) same in
    let slabs : image.geometry.slabs ≡ 1 = ap (λ (g : Geometry). g.slabs) same in
    let journal : image.geometry.journal ≡ 8 = ap (λ (g : Geometry). g.journal) same in
    let index : image.geometry.index ≡ 16 = ap (λ (g : Geometry). g.index) same in (
      size,
      inr (record {
        slab = 0;
        i = 0;
        inside = (omega (arith, slabs), omega (arith, blocks_are));
        stands = omega (arith, blocks_are, journal, index);
        full = λ n number inside_slab. let first : 0 ≡ n = omega (arith, inside_slab, blocks_are) in subst (λ (k : ℕ). IsFullSector image 0 k (sector (k % 8) bytes)) first full;
        past = λ n number behind. past n number (omega (arith, behind, blocks_are));
      }),
    )

-- full, past: a byte of sector 0 isn't the stored count; a byte of sector 1 isn't what it was
counters_not_full : IsCountersPut (counted_as 2) (pbn 149) (0 ∷ 4 ∷ 0 ∷ 0 ∷ 0 ∷ 0 ∷ 0 ∷ 0 ∷ 1 ∷ 3 ∷ []) → ⊥
counters_not_full put =
    let slab = put.inside.0 in
    let within = put.inside.1 in
    let only : put.slab ≡ 0 = omega (arith, slab) in
    other_counter (subst (λ (s : ℕ). IsFullSector (counted_as 2) s 0 (sector 0 (0 ∷ 4 ∷ 0 ∷ 0 ∷ 0 ∷ 0 ∷ 0 ∷ 0 ∷ 1 ∷ 3 ∷ []))) only
    (put.full 0 (omega (arith, within)) (omega arith)))

counters_past : IsCountersPut (counted_as 2) (pbn 149) (replicate 512 0 ++ 1 ∷ []) → ⊥
counters_past put =
    let slab = put.inside.0 in
    let within = put.inside.1 in
    let first : put.i ≡ 0 = omega (arith, within) in
    let only : put.slab ≡ 0 = omega (arith, slab) in
    let same : 1 ∷ [] ≡ sector 1 (block_at (counted_as 2).blocks (block_of small (ReferenceBlock put.slab 0))) = put.past 1 (omega (arith, first)) (omega arith) in
    let here : sector 1 (block_at (counted_as 2).blocks (block_of small (ReferenceBlock put.slab 0))) ≡ [] =
    ap (λ (s : ℕ). sector 1 (block_at (counted_as 2).blocks (block_of small (ReferenceBlock s 0)))) only in
    absurd (let both = same ∙ here in cc both)

-- inside, stands: there is no second slab; and the counters of slab 0 don't stand at 150
counters_elsewhere : (bytes : List ℕ) → IsCountersPut (counted_as 2) (pbn 150) bytes → ⊥
counters_elsewhere bytes put =
    let slab = put.inside.0 in
    let within = put.inside.1 in
    let stands = put.stands in
    omega (arith, slab, within, stands)

-- All writes. each: a flush among them
puts_with_flush : (image : Image) → ArePuts image (Flush true ∷ []) → ⊥
puts_with_flush image are = are.each.0

-- pages: the window puts zeros into slot 5 of the leaf at 85, and it isn't written
page_left_out : ArePuts (mapped (remap 5 Zero ∷ [])) [] → ⊥
unfolding number_at
page_left_out are = are.pages (page 0 0 0) (pbn 85) 5 Zero refl (omega arith) refl

-- counters: block 86 has an update above its commit point, and its counters aren't written
counters_left_out : ArePuts updated [] → ⊥
counters_left_out are = let none = no_commit_there in are.counters 0 0 1536 (omega arith) (omega arith) (omega (arith, none)) (1, omega arith, refl, inl kept_is)

-- Written: the block of a write, and no other.
written_here : IsWritten (Read (pbn 8) [] true ∷ Write (pbn 9) [] true ∷ []) 9
written_here = inl refl

written_there : IsWritten (Read (pbn 8) [] true ∷ Write (pbn 9) [] true ∷ []) 8 → ⊥
written_there (inl same) = omega (arith, same)
written_there (inr none) = none

-- The calls so far: none, a flush that failed, all calls, and all but the last one, which failed.
none_yet : (image : Image) → IsBegun image 7 []
none_yet image = some_puts tt

flush_failed : (image : Image) → IsBegun image 7 (Flush false ∷ [])
flush_failed image = put_failed [] (Flush true) refl tt (inr refl)

all_made : (image : Image) → ArePuts image [] → IsBegun image 7 (recovery_calls image 7 [])
all_made image are = first_calls [] [] are refl

last_failed : (image : Image) → ArePuts image [] → IsBegun image 7 (Flush false ∷ Write (pbn 0) (super_block (record { geometry = image.geometry; clean = true; start = 9 })) true ∷ Flush true ∷ [])
last_failed image are = call_failed [] [] (Write (pbn 0) (super_block (record { geometry = image.geometry; clean = true; start = 9 })) true ∷ Flush true ∷ []) (Flush true) refl are refl

-- Behind a flush that failed there is no other call.
abbrev IsFailedFlush : Call → Type 0
IsFailedFlush call = call ≡ Flush false

abbrev HasNone : List Call → Type 0
HasNone calls = AllByRecursion (λ call. IsFailedFlush call → ⊥) calls

puts_have_none : (image : Image) (calls : List Call) → AllByRecursion (IsPut image) calls → HasNone calls
puts_have_none image [] each = tt
puts_have_none image (Read _ _ _ ∷ calls) each = ((λ same. absurd (cc same)), puts_have_none image calls each.1)
puts_have_none image (Write _ _ _ ∷ calls) each = ((λ same. absurd (cc same)), puts_have_none image calls each.1)
puts_have_none image (Flush _ ∷ calls) each = absurd each.0

calls_have_none : (image : Image) (newer puts older : List Call) → ArePuts image puts → recovery_calls image 7 puts ≡ newer ++ older → HasNone older
calls_have_none image newer puts older are whole =
    all_behind (λ call. IsFailedFlush call → ⊥) newer older
    (subst HasNone whole ((λ same. absurd (cc same)), ((λ same. absurd (cc same)), ((λ same. absurd (cc same)), puts_have_none image puts are.each))))

went_on : (image : Image) → IsBegun image 7 (Read (pbn 9) [] true ∷ Flush false ∷ []) → ⊥
went_on image (some_puts each) = each.1.0
went_on image (put_failed done call same each kind) = let older : done ≡ Flush false ∷ [] = cc same in (subst (AllByRecursion (IsPut image)) older each).0
went_on image (first_calls puts newer are whole) = (calls_have_none image newer puts (Read (pbn 9) [] true ∷ Flush false ∷ []) are whole).1.0 refl
went_on image (call_failed puts newer done call same are whole) =
    let older : done ≡ Flush false ∷ [] = cc same in (subst HasNone older (calls_have_none image newer puts (call ∷ done) are whole).1).0 refl
