-- What is kept: for each clause a case that it accepts, and one that it refuses.
use Rattle.std.proofs.Common.{ℕ, zero, suc, ◌≡◌, ◌+◌, ◌<◌, ◌≤◌, ◌++◌, Bool, true, false, List, [], ◌∷◌, length, replicate, Result, Ok, refl, sym, ◌∙◌, ap, subst, inl, inr, arith}
use Rattle.blk_base.specs.Regions.{needed_blocks}
use Rattle.blk_base.specs.Sectors.{sector, zero_block}
use Rattle.blk_base.specs.declared.geometry.Geometry.{Geometry}
use Rattle.blk_base.specs.declared.geometry.Super.{Super}
use Rattle.blk_base.specs.declared.place.Mapping.TheVariants.{Zero, At}
use Rattle.blk_base.specs.Forms.{pbn}
use Rattle.blk_base.proofs.Example.{place}
use Rattle.byte_fields.specs.Fields.{number_at}
use Rattle.disk_model.specs.Log.{Blocks, block_at}
use Rattle.disk_model.specs.declared.call.Call.TheVariants.{Read, Write, Flush}
use Rattle.image_layout.specs.Opened.{super_of_image}
use Rattle.image_layout.specs.Superblock.{super_of}
use Rattle.image_layout.specs.declared.fault.SuperFault.{SuperFault}
use Rattle.image_model.proofs.CountLaws.{none_in_nothing, one_stored}
use Rattle.image_model.proofs.Example.{small}
use Rattle.image_model.proofs.MapExample.{image as mapped, remap, said}
use Rattle.image_model.proofs.ZeroLaws.{no_slab_sector}
use Rattle.image_model.specs.Counts.{IsKept, IsUpdate, Stores, counter_of}
use Rattle.image_model.specs.Maps.{Image}
use Rattle.image_model.specs.Sound.{IsSound}
use Rattle.slab_codec.specs.Grammar.{IsSlabSector}
use Rattle.slab_codec.specs.declared.forms.SlabEntry.{SlabEntry}
use Rattle.recovery_laws.specs.Kept.{AreKept, IsRecovered, SayTheSame, image_in, recovered_super, AreIndexMissed, AreInside, AreStopsKept, IsHeadKept, PutsOnly}
use Rattle.recovery_laws.specs.Written.{AreOthersKept, AreRestKept}
use Rattle.recovery_laws.proofs.CountsKept.{stores_counter}

-- An image says the same as itself.
pub same_as_itself : (image : Image) → SayTheSame image image
same_as_itself image = record {
  geometry = refl;
  map = record { pages = λ page. refl; mappings = λ address. refl };
  values = λ address. refl;
  counts = λ place count inside. ((λ is. is), (λ is. is));
}

-- geometry: other sizes
other_sizes : SayTheSame (mapped []) (record (mapped []) { geometry = record small { logical = 999 } }) → ⊥
other_sizes same = let logical = ap (λ (g : Geometry). g.logical) same.geometry in omega (arith, logical)

-- map: address 5 has another mapping
other_mapping : SayTheSame (mapped []) (mapped (remap 5 Zero ∷ [])) → ⊥
unfolding number_at
other_mapping same = let five : At (pbn 86) ≡ Zero = same.map.mappings 5 in absurd (cc five)

-- values: block 86, which address 5 is mapped to, has another byte
abbrev other_data : Image
other_data = record (mapped []) { blocks = replicate 9 [] ++ said 0 1 85 ∷ said 0 1 87 ∷ replicate 74 [] ++ said 5 1 86 ∷ (8 ∷ 7 ∷ []) ∷ said 688 1 86 ∷ [] }

other_value : SayTheSame (mapped []) other_data → ⊥
unfolding number_at
other_value same = let five : 8 ∷ 7 ∷ [] ≡ 7 ∷ 7 ∷ [] = same.values 5 in absurd (cc five)

-- counts: the counter of offset 1 is 3, and was 2
abbrev counters_of : ℕ → List ℕ
counters_of n = 0 ∷ 4 ∷ 0 ∷ 0 ∷ 0 ∷ 0 ∷ 0 ∷ 0 ∷ 1 ∷ n ∷ []

abbrev pub counted_as : ℕ → Image
counted_as n = record { geometry = small; blocks = replicate 149 [] ++ counters_of n ∷ []; window = [] }

journal_is_zeros : (n slot : ℕ) → slot < 4 → block_at (counted_as n).blocks (150 + slot) ≡ zero_block
journal_is_zeros n zero below = refl
journal_is_zeros n (suc zero) below = refl
journal_is_zeros n (suc (suc zero)) below = refl
journal_is_zeros n (suc (suc (suc zero))) below = refl
journal_is_zeros n (suc (suc (suc (suc slot)))) below = absurd (omega (arith, below))

none_kept : (n : ℕ) (entry : SlabEntry) → IsKept small (counted_as n).blocks 0 entry → ⊥
none_kept n entry is =
    no_slab_sector 1 0 64 is.number is.sequence is.entries is.inside.1
    (subst (λ (block : List ℕ). IsSlabSector 1 0 64 is.number (sector is.number block) is.sequence is.entries) (journal_is_zeros n is.slot is.inside.0) is.valid)

none_updated : (n point : ℕ) → IsUpdate (counted_as n) (place 1) point → ⊥
none_updated n point (inl kept) = none_kept n _ kept
none_updated n point (inr in_window) = none_in_nothing in_window.0 in_window.1

pub counter_is : (n : ℕ) → counter_of (counted_as n) (place 1) ≡ n
unfolding number_at
counter_is n = omega arith

pub stores_n : (n : ℕ) → n ≤ 254 → Stores (counted_as n) (place 1) (Ok n)
stores_n n small_number =
    let counter = counter_is n in
    subst (λ (m : ℕ). Stores (counted_as n) (place 1) (Ok m)) counter
    (stores_counter (counted_as n) (place 1) (λ point above is. none_updated n point is) (omega (arith, counter, small_number)))

other_count : SayTheSame (counted_as 2) (counted_as 3) → ⊥
other_count same =
    let two = (same.counts (place 1) 3 (omega arith, omega arith)).0 (stores_n 3 (omega arith)) in
    let one = one_stored (counted_as 2) (place 1) (Ok 3) (Ok 2) two (stores_n 2 (omega arith)) in
    absurd (cc one)

-- A sound image is kept by itself; blocks without a superblock keep none, and those of other sizes not this one.
pub others_kept : (image : Image) → AreOthersKept image image.blocks
others_kept image b behind below looked no_page no_counters = refl

pub rest_kept : (image : Image) → AreRestKept image image.blocks
rest_kept image slab n is below offset behind sector_is = inr refl

pub kept_by_itself : (blocks : Blocks) (sound : IsSound blocks) → AreKept (image_in blocks sound) blocks
kept_by_itself blocks sound = record { sound = sound; same = same_as_itself (image_in blocks sound); others = others_kept (image_in blocks sound); rest = rest_kept (image_in blocks sound) }

pub kept_by_nothing : (image : Image) → AreKept image [] → ⊥
kept_by_nothing image kept = let accepted = kept.sound.opens.accepted in absurd (cc accepted)

kept_by_another : (blocks : Blocks) (head : Super) (image : Image) → super_of_image blocks ≡ Ok head → image.geometry.logical + 1 ≡ head.geometry.logical → AreKept image blocks → ⊥
kept_by_another blocks head image accepted more kept =
    let accepted_too = kept.sound.opens.accepted in
    let same_head : kept.sound.head ≡ head = cc (accepted, accepted_too) in
    let here = ap (λ (h : Super). h.geometry.logical) same_head in
    let there = ap (λ (g : Geometry). g.logical) kept.same.geometry in
    omega (arith, here, there, more)

-- It is recovered where its superblock is the one that recovery writes: closed, and two behind the last sequence.
two_behind : recovered_super small 7 ≡ record { geometry = small; clean = true; start = 9 }
two_behind = refl

recovered_kept : (blocks : Blocks) (sound : IsSound blocks) → sound.head ≡ recovered_super sound.head.geometry 7 → IsRecovered (image_in blocks sound) 7 blocks
unfolding kept_by_itself
recovered_kept blocks sound closed = record { kept = kept_by_itself blocks sound; closed = closed }

not_closed : (blocks : Blocks) (head : Super) (image : Image) → super_of_image blocks ≡ Ok head → head.clean ≡ false → IsRecovered image 7 blocks → ⊥
not_closed blocks head image accepted unclosed is =
    let accepted_too = is.kept.sound.opens.accepted in
    let same_head : is.kept.sound.head ≡ head = cc (accepted, accepted_too) in
    let clean = ap (λ (h : Super). h.clean) is.closed in
    let unclean = ap (λ (h : Super). h.clean) same_head in
    absurd (cc (clean, unclean, unclosed))

one_behind : (blocks : Blocks) (head : Super) (image : Image) → super_of_image blocks ≡ Ok head → head.start ≡ 8 → IsRecovered image 7 blocks → ⊥
one_behind blocks head image accepted starts is =
    let accepted_too = is.kept.sound.opens.accepted in
    let same_head : is.kept.sound.head ≡ head = cc (accepted, accepted_too) in
    let start = ap (λ (h : Super). h.start) is.closed in
    let start_too = ap (λ (h : Super). h.start) same_head in
    omega (arith, start, start_too, starts)

-- The index: calls that write other blocks, and a write of its last one.
index_missed : AreIndexMissed small (Write (pbn 85) [] true ∷ Flush true ∷ [])
index_missed i below = (λ same. omega (arith, same, below), (tt, tt))

pub index_written : AreIndexMissed small (Write (pbn 84) [] false ∷ []) → ⊥
index_written missed = (missed 15 (omega arith)).0 refl

stops_with_the_index_written : (blocks : Blocks) (sound : IsSound blocks) → sound.head.geometry ≡ small → AreStopsKept blocks sound [] [] (Write (pbn 84) [] false ∷ []) → ⊥
stops_with_the_index_written blocks sound sizes stops =
    index_written (subst (λ (g : Geometry). AreIndexMissed g (Write (pbn 84) [] false ∷ [])) sizes stops.index)

-- What a call writes to a block: with a property of short ones, a short one; another block and no write at all aren't asked.
puts_short : PutsOnly 5 (λ bytes. length bytes ≡ 1) (Write (pbn 5) (7 ∷ []) false)
puts_short at = refl

puts_long : PutsOnly 5 (λ bytes. length bytes ≡ 1) (Write (pbn 5) (7 ∷ 7 ∷ []) false) → ⊥
puts_long puts = let size = puts refl in omega (arith, size)

-- The end of an image: its last block is 153. Calls that write no block behind it, and a write of the first one there, whether it fails or not.
writes_inside : AreInside small (Flush true ∷ Write (pbn 153) [] true ∷ Read (pbn 4000) [] true ∷ [])
writes_inside = (tt, (omega arith, (tt, tt)))

writes_behind : (ok : Bool) → AreInside small (Write (pbn 154) [] ok ∷ []) → ⊥
writes_behind ok are = let below = are.0 in omega (arith, below)

stops_with_a_block_behind : (blocks : Blocks) (sound : IsSound blocks) (bytes : List ℕ) (ok : Bool) → AreStopsKept blocks sound [] [] (Write (pbn (needed_blocks sound.head.geometry)) bytes ok ∷ []) → ⊥
stops_with_a_block_behind blocks sound bytes ok stops = let below = stops.inside.0 in omega (arith, below)

-- Block 0 of an image that wasn't closed: it has the old superblock, or the one that recovery writes.
module _ (blocks : Blocks) (sound : IsSound blocks) where
  old_head : (content : List ℕ) → super_of content (length blocks) ≡ Ok sound.head → IsHeadKept blocks sound content
  old_head content is = inl is

  new_head : (content : List ℕ) → sound.head.clean ≡ false → super_of content (length blocks) ≡ Ok (recovered_super sound.head.geometry sound.last) → IsHeadKept blocks sound content
  new_head content unclean is = inr (unclean, is)

  starts : (one other : Super) → ◌≡◌ {A = Result Super SuperFault} (Ok one) (Ok other) → one.start ≡ other.start
  starts one other is = let same : one ≡ other = cc is in ap (λ (h : Super). h.start) same

  -- no other one ..
  other_head : (content : List ℕ) (head : Super) → super_of content (length blocks) ≡ Ok head → head.start ≡ sound.head.start + sound.last + 3 → IsHeadKept blocks sound content → ⊥
  other_head content head is late (inl was) = let same = starts head sound.head (sym is ∙ was) in omega (arith, same, late)
  other_head content head is late (inr now) = let same = starts head (recovered_super sound.head.geometry sound.last) (sym is ∙ now.1) in omega (arith, same, late)

  -- .. and so none of the calls writes one
  stops_with_another_head : (content : List ℕ) (head : Super) → super_of content (length blocks) ≡ Ok head → head.start ≡ sound.head.start + sound.last + 3
      → AreStopsKept blocks sound [] [] (Write (pbn 0) content true ∷ []) → ⊥
  stops_with_another_head content head is late stops = other_head content head is late (stops.heads.0 refl)

  -- nor is a closed image closed again
  stops_closed_again : (content : List ℕ) → sound.head.clean ≡ true → super_of content (length blocks) ≡ Ok (recovered_super sound.head.geometry sound.last)
      → sound.head.start ≡ sound.last + 1 → AreStopsKept blocks sound [] [] (Write (pbn 0) content true ∷ []) → ⊥
  stops_closed_again content clean is next stops = elim (stops.heads.0 refl) [
    | inl was ↦ let same = starts (recovered_super sound.head.geometry sound.last) sound.head (sym is ∙ was) in omega (arith, same, next)
    | inr unclean ↦ absurd (cc (clean, unclean.0))
  ]
