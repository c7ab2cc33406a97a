-- What a stop leaves while an image is made.
use Rattle.std.proofs.Common.{ℕ, zero, suc, ◌≡◌, ◌⊎◌, ◌+◌, ◌-◌, ◌*◌, ◌<◌, ◌≤◌, ◌^◌, Bool, true, false, List, [], ◌∷◌, ◌++◌, length, get_or, take, drop, replicate, Err, refl, sym, ◌∙◌, ap, ap₂, subst, inl, inr, arith, append_assoc}
use Rattle.std.specs.List.{AllByRecursion}
use Rattle.std.proofs.lemmas.Bool.Decides.{eqb_tells}
use Rattle.std.proofs.lemmas.Bool.{cases_lt}
use Rattle.std.proofs.lemmas.List.{get_or-take, drop_at, drop-drop, drop-replicate, take-replicate, length-replicate}
pub use Rattle.blk_base.proofs.SectorLaws.{zero_size}
use Rattle.blk_base.specs.Limits.{IsGeometry}
use Rattle.blk_base.specs.Regions.{Place, Superblock, JournalSlot, Root, IndexBlock, DataBlock, ReferenceBlock, SlabJournalSlot, IsPlace, IsDataBlock, block_of, needed_blocks, references_of}
use Rattle.blk_base.specs.Sectors.{sector, zero_block}
use Rattle.blk_base.specs.SectorLaws.{same_sectors}
use Rattle.blk_base.specs.declared.geometry.Geometry.{Geometry}
use Rattle.blk_base.proofs.RegionLaws.{apart, data_block_high, inside}
use Rattle.disk_model.specs.declared.call.Call.{Call}
use Rattle.disk_model.specs.declared.call.Call.TheVariants.{Read, Write, Flush}
use Rattle.disk_model.specs.Images.{IsImage, HasOneImage}
use Rattle.disk_model.specs.Log.{Blocks, block_at, settled, contents, Misses, IsWritten}
use Rattle.disk_model.proofs.ImageLaws.{contents-write_other, settled-misses, settled-write_other, all_weaker, kept, sector_of_mix, block_of_image}
use Rattle.disk_model.proofs.OneImageLaws.{one_image-later, one_image-opening, one_image-unique}
use Rattle.image_layout.specs.Opened.{super_of_image}
use Rattle.image_layout.specs.Superblock.{super_block, super_of}
use Rattle.image_layout.specs.declared.fault.SuperFault.TheVariants.{NotAnImage}
use Rattle.image_layout.proofs.AgainLaws.{written_again}
use Rattle.image_layout.specs.Superblock.{field_bytes}
use Rattle.image_layout.proofs.SpellingLaws.{length-fields, super_block-fields}
pub use Rattle.image_layout.proofs.SpellingLaws.{super_size}
use Rattle.page_codec.proofs.SpellingLaws.{page_size}
use Rattle.blk_base.specs.declared.geometry.Super.{Super}
use Rattle.blk_base.specs.declared.place.Mapping.TheVariants.{Unmapped}
use Rattle.image_model.specs.Empty.{IsEmpty, IsMade, IsUnused, empty_super, empty_root, made_block, root_head}
use Rattle.image_model.proofs.EmptyLaws.{is_unused}
use Rattle.image_model.proofs.ZeroLaws.{zero_sector}
use Rattle.image_format.specs.Calls.{calls_below, put, zeros_from, roots_below, slab_calls, slabs_below, clear_calls, region_calls, format_calls}
use Rattle.image_format.specs.Formats.{AreStopsRight, IsOld, IsDataKept, MayStand}
use Rattle.image_format.specs.Runs.{as_failed}

-- Block 0.

-- what a device with blocks says of itself stands in its first one
first_block : (image : Blocks) → 0 < length image → super_of_image image ≡ super_of (block_at image 0) (length image)
first_block [] some = absurd (omega (arith, some))
first_block (block ∷ others) some = refl

zero_start : sector 0 zero_block ≡ replicate 512 0
zero_start = zero_sector 0 (omega arith)

-- a block that begins with a zero is no superblock
starts_with_zero : (block : List ℕ) (size : ℕ) → get_or block 0 1 ≡ 0 → super_of block size ≡ Err NotAnImage
unfolding super_of
starts_with_zero [] size first = absurd (omega (arith, first))
starts_with_zero (x ∷ rest) size first = subst (λ (n : ℕ). super_of (n ∷ rest) size ≡ Err NotAnImage) (sym first) refl

first_byte : (block : List ℕ) → sector 0 block ≡ sector 0 zero_block → get_or block 0 1 ≡ 0
first_byte block zeros =
    sym (get_or-take 512 block 0 1 (omega arith)) ∙ ap (λ (bytes : List ℕ). get_or bytes 0 1) (zeros ∙ zero_start)

pub not_an_image : (image : Blocks) → 0 < length image → sector 0 (block_at image 0) ≡ sector 0 zero_block → super_of_image image ≡ Err NotAnImage
not_an_image image some zeros = first_block image some ∙ starts_with_zero (block_at image 0) (length image) (first_byte (block_at image 0) zeros)

-- Calls that miss a block.

kept_all : (P : List ℕ → Type 0) (opening : Blocks) (calls rest : List Call) (b : ℕ) → AllByRecursion (λ call. Misses call b) calls
    → AllByRecursion P (contents opening rest b) → AllByRecursion P (contents opening (calls ++ rest) b)
kept_all P opening [] rest b misses all = all
kept_all P opening (call ∷ calls) rest b misses all = kept P opening (calls ++ rest) call b misses.0 (kept_all P opening calls rest b misses.1 all)

settled_all : (opening : Blocks) (calls rest : List Call) (b : ℕ) → AllByRecursion (λ call. Misses call b) calls → settled opening (calls ++ rest) b ≡ settled opening rest b
settled_all opening [] rest b misses = refl
settled_all opening (call ∷ calls) rest b misses = settled-misses opening (calls ++ rest) call b misses.0 ∙ settled_all opening calls rest b misses.1

pub all_append : (P : Call → Type 0) (xs ys : List Call) → AllByRecursion P xs → AllByRecursion P ys → AllByRecursion P (xs ++ ys)
all_append P [] ys one two = two
all_append P (x ∷ xs) ys one two = (one.0, all_append P xs ys one.1 two)

pub all_below : (P : Call → Type 0) (f : ℕ → List Call) (n : ℕ) → ((i : ℕ) → i < n → AllByRecursion P (f i)) → AllByRecursion P (calls_below f n)
all_below P f zero each = tt
all_below P f (suc n) each = all_append P (f n) (calls_below f n) (each n (omega arith)) (all_below P f n (λ i below. each i (omega (arith, below))))

pub written_front : (xs ys : List Call) (b : ℕ) → IsWritten xs b → IsWritten (xs ++ ys) b
written_front [] ys b is = absurd is
written_front (Write at bytes ok ∷ xs) ys b (inl same) = inl same
written_front (Write at bytes ok ∷ xs) ys b (inr later) = inr (written_front xs ys b later)
written_front (Read _ _ _ ∷ xs) ys b is = written_front xs ys b is
written_front (Flush _ ∷ xs) ys b is = written_front xs ys b is

pub written_back : (xs ys : List Call) (b : ℕ) → IsWritten ys b → IsWritten (xs ++ ys) b
written_back [] ys b is = is
written_back (Write at bytes ok ∷ xs) ys b is = inr (written_back xs ys b is)
written_back (Read _ _ _ ∷ xs) ys b is = written_back xs ys b is
written_back (Flush _ ∷ xs) ys b is = written_back xs ys b is

pub written_below : (f : ℕ → List Call) (n i b : ℕ) → i < n → IsWritten (f i) b → IsWritten (calls_below f n) b
written_below f zero i b below is = absurd (omega (arith, below))
written_below f (suc n) i b below is = elim (cases_lt i n) [
  | inl less ↦ written_back (f n) (calls_below f n) b (written_below f n i b less is)
  | inr not_less ↦
      let same : i ≡ n = omega (arith, below, not_less) in
      written_front (f n) (calls_below f n) b (subst (λ (k : ℕ). IsWritten (f k) b) same is)
]

-- The calls of the regions: each writes what an empty image has there.

abbrev pub IsMadeAt : Geometry → ℕ → List ℕ → Type 0
IsMadeAt g at bytes = (place : Place) × IsPlace g place × IsMade place × (block_of g place ≡ at) × (bytes ≡ made_block g place)

abbrev pub IsRight : Geometry → Call → Type 0
IsRight g (Write at bytes true) = IsMadeAt g at.0 bytes
IsRight g (Write at bytes false) = ⊥
IsRight g (Read _ _ _) = ⊥
IsRight g (Flush _) = ⊥

module _ (g : Geometry) (sizes : IsGeometry g) where
  not_super : (place : Place) → IsPlace g place → IsMade place → block_of g place ≡ 0 → ⊥
  not_super place is made first = subst IsMade (apart g place Superblock is tt first) made

  not_other : (place : Place) (b : ℕ) → IsPlace g place → IsMade place → IsDataBlock g b ⊎ (needed_blocks g ≤ b) → block_of g place ≡ b → ⊥
  not_other place b is made (inl data_block) same =
      subst IsMade (apart g place (DataBlock data_block.slab data_block.offset) is data_block.inside (same ∙ sym data_block.stands)) made
  not_other place b is made (inr past) same = let below = inside g place is in omega (arith, below, past, same)

  -- they miss block 0 and all that isn't the image's but its data
  right_misses : (b : ℕ) → ((place : Place) → IsPlace g place → IsMade place → block_of g place ≡ b → ⊥) → (calls : List Call) → AllByRecursion (IsRight g) calls
      → AllByRecursion (λ call. Misses call b) calls
  right_misses b none [] right = tt
  right_misses b none (Write at bytes true ∷ calls) right =
      ((λ same. let at_is = right.0.3 in none right.0.0 right.0.1 right.0.2 (at_is ∙ same)), right_misses b none calls right.1)
  right_misses b none (Write at bytes false ∷ calls) right = absurd right.0
  right_misses b none (Read _ _ _ ∷ calls) right = absurd right.0
  right_misses b none (Flush _ ∷ calls) right = absurd right.0

  -- and settle what they write
  right_settles : (opening : Blocks) (calls rest : List Call) (place : Place) → AllByRecursion (IsRight g) calls → IsPlace g place → IsWritten calls (block_of g place)
      → settled opening (calls ++ rest) (block_of g place) ≡ made_block g place ∷ []
  right_settles opening [] rest place right is written = absurd written
  right_settles opening (Write at bytes true ∷ calls) rest place right is written = elim (eqb_tells at.0 (block_of g place)) [
    | inl same ↦
        let one : right.0.0 ≡ place = apart g right.0.0 place right.0.1 is (right.0.3 ∙ same.1) in
        rw (same.0) (ap (λ (b : List ℕ). b ∷ []) (right.0.4 ∙ ap (made_block g) one))
    | inr other ↦ rw (other.0) (right_settles opening calls rest place right.1 is (elim written [ inl same ↦ absurd (other.1 same) | inr later ↦ later ]))
  ]
  right_settles opening (Write at bytes false ∷ calls) rest place right is written = absurd right.0
  right_settles opening (Read _ _ _ ∷ calls) rest place right is written = absurd right.0
  right_settles opening (Flush _ ∷ calls) rest place right is written = absurd right.0

  -- zeros in a row of blocks
  zeros_right : (first n : ℕ) → ((i : ℕ) → i < n → IsMadeAt g (first + i) zero_block) → AllByRecursion (IsRight g) (zeros_from first n)
  zeros_right first n each = all_below (IsRight g) (λ i. put (first + i) zero_block ∷ []) n (λ i below. (each i below, tt))

  zeros_written : (first n i b : ℕ) → i < n → first + i ≡ b → IsWritten (zeros_from first n) b
  zeros_written first n i b below same = written_below (λ k. put (first + k) zero_block ∷ []) n i b below (inl same)

  journal_right : AllByRecursion (IsRight g) (zeros_from (block_of g (JournalSlot 0)) g.journal)
  journal_right = zeros_right (block_of g (JournalSlot 0)) g.journal (λ i below. (JournalSlot i, below, tt, omega arith, refl))

  index_right : AllByRecursion (IsRight g) (zeros_from (block_of g (IndexBlock 0)) g.index)
  index_right = zeros_right (block_of g (IndexBlock 0)) g.index (λ i below. (IndexBlock i, below, tt, omega arith, refl))

  roots_right : AllByRecursion (IsRight g) (roots_below g 60)
  roots_right = all_below (IsRight g) (λ tree. put (block_of g (Root tree)) (empty_root g tree) ∷ []) 60 (λ tree below. ((Root tree, below, tt, refl, refl), tt))

  slab_right : (slab : ℕ) → slab < g.slabs → AllByRecursion (IsRight g) (slab_calls g slab)
  slab_right slab there = zeros_right (block_of g (ReferenceBlock slab 0)) (references_of g + g.slab_journal) (λ i below. elim (cases_lt i (references_of g)) [
    | inl counters ↦ (ReferenceBlock slab i, (there, counters), tt, omega arith, refl)
    | inr journal ↦ (SlabJournalSlot slab (i - references_of g), (there, omega (arith, journal, below)), tt, omega (arith, journal), refl)
  ])

  pub regions_right : AllByRecursion (IsRight g) (region_calls g)
  unfolding region_calls
  regions_right =
      all_append (IsRight g) (slabs_below g g.slabs) _ (all_below (IsRight g) (slab_calls g) g.slabs slab_right)
      (all_append (IsRight g) (zeros_from (block_of g (IndexBlock 0)) g.index) _ index_right
      (all_append (IsRight g) (roots_below g 60) _ roots_right journal_right))

  -- each place but the superblock's and those of data is written
  regions_written : (place : Place) → IsPlace g place → IsMade place → IsWritten (region_calls g) (block_of g place)
  unfolding region_calls
  regions_written Superblock is made = absurd made
  regions_written (DataBlock slab offset) is made = absurd made
  regions_written (JournalSlot s) is made =
      written_back (slabs_below g g.slabs) _ (1 + s) (written_back (zeros_from (block_of g (IndexBlock 0)) g.index) _ (1 + s) (written_back (roots_below g 60) (zeros_from (block_of g (JournalSlot 0)) g.journal) (1 + s)
      (zeros_written (block_of g (JournalSlot 0)) g.journal s (1 + s) is (omega arith))))
  regions_written (Root t) is made =
      written_back (slabs_below g g.slabs) _ (block_of g (Root t)) (written_back (zeros_from (block_of g (IndexBlock 0)) g.index) _ (block_of g (Root t))
      (written_front (roots_below g 60) (zeros_from (block_of g (JournalSlot 0)) g.journal) (block_of g (Root t))
      (written_below (λ tree. put (block_of g (Root tree)) (empty_root g tree) ∷ []) 60 t (block_of g (Root t)) is (inl refl))))
  regions_written (IndexBlock i) is made =
      written_back (slabs_below g g.slabs) _ (block_of g (IndexBlock i)) (written_front (zeros_from (block_of g (IndexBlock 0)) g.index) _ (block_of g (IndexBlock i))
      (zeros_written (block_of g (IndexBlock 0)) g.index i (block_of g (IndexBlock i)) is (omega arith)))
  regions_written (ReferenceBlock slab i) is made =
      let counters = is.1 in
      written_front (slabs_below g g.slabs) _ (block_of g (ReferenceBlock slab i)) (written_below (slab_calls g) g.slabs slab (block_of g (ReferenceBlock slab i)) is.0
      (zeros_written (block_of g (ReferenceBlock slab 0)) (references_of g + g.slab_journal) i (block_of g (ReferenceBlock slab i)) (omega (arith, counters)) (omega arith)))
  regions_written (SlabJournalSlot slab s) is made =
      let slots = is.1 in
      written_front (slabs_below g g.slabs) _ (block_of g (SlabJournalSlot slab s)) (written_below (slab_calls g) g.slabs slab (block_of g (SlabJournalSlot slab s)) is.0
      (zeros_written (block_of g (ReferenceBlock slab 0)) (references_of g + g.slab_journal) (references_of g + s) (block_of g (SlabJournalSlot slab s)) (omega (arith, slots)) (omega arith)))

-- Each moment of a list of calls, and of those where one of them fails.

abbrev pub AtEach : (List Call → Type 0) → List Call → Type 0
AtEach P [] = P []
AtEach P (call ∷ older) = P (call ∷ older) × P (as_failed call ∷ older) × AtEach P older

at_end : (P : List Call → Type 0) (calls : List Call) → AtEach P calls → P calls
at_end P [] each = each
at_end P (call ∷ older) each = each.0

pub at_moment : (P : List Call → Type 0) (calls newer older : List Call) → AtEach P calls → calls ≡ newer ++ older → P older
at_moment P calls [] older each same = subst P same (at_end P calls each)
at_moment P [] (call ∷ newer) older each same = absurd (cc same)
at_moment P (one ∷ calls) (call ∷ newer) older each same = at_moment P calls newer older each.2 (cc same)

pub at_failure : (P : List Call → Type 0) (calls newer done : List Call) (call : Call) → AtEach P calls → calls ≡ newer ++ (call ∷ done) → P (as_failed call ∷ done)
at_failure P [] [] done call each same = absurd (cc same)
at_failure P (one ∷ calls) [] done call each same =
    let first : one ≡ call = cc same in let rest : calls ≡ done = cc same in
    subst P (ap₂ (λ (c : Call) (d : List Call). as_failed c ∷ d) first rest) each.1
at_failure P [] (other ∷ newer) done call each same = absurd (cc same)
at_failure P (one ∷ calls) (other ∷ newer) done call each same = at_failure P calls newer done call each.2 (cc same)

at_regions : (P : List Call → Type 0) (calls rest : List Call) → ((some more : List Call) (call : Call) → calls ≡ more ++ (call ∷ some) → P (call ∷ (some ++ rest)) × P (as_failed call ∷ (some ++ rest)))
    → AtEach P rest → AtEach P (calls ++ rest)
at_regions P [] rest step each = each
at_regions P (call ∷ calls) rest step each =
    let here = step calls [] call refl in
    (here.0, here.1, at_regions P calls rest (λ some more one same. step some (call ∷ more) one (ap (λ (list : List Call). call ∷ list) same)) each)

pub made_size : (g : Geometry) (place : Place) → length (made_block g place) ≡ 4096
made_size g Superblock = zero_size
made_size g (JournalSlot s) = zero_size
made_size g (Root t) = page_size (root_head g t) (replicate 812 Unmapped) (length-replicate 812 Unmapped)
made_size g (IndexBlock i) = zero_size
made_size g (DataBlock slab offset) = zero_size
made_size g (ReferenceBlock slab i) = zero_size
made_size g (SlabJournalSlot slab s) = zero_size

-- behind its fields a superblock is zeros
super_sectors : (head : Super) (i : ℕ) → suc i < 8 → sector (suc i) (super_block head) ≡ sector (suc i) zero_block
super_sectors head i below =
    let place : 64 + (512 * suc i - 64) ≡ 512 * suc i = omega arith in
    ap (take 512)
    (ap (λ (k : ℕ). drop k (super_block head)) (sym place)
    ∙ sym (drop-drop (512 * suc i - 64) 64 (super_block head))
    ∙ ap (λ (bytes : List ℕ). drop (512 * suc i - 64) bytes) (ap (drop 64) (super_block-fields head) ∙ drop_at (field_bytes head) (replicate 4032 0) 64 (length-fields head))
    ∙ drop-replicate (512 * suc i - 64) 4032 0)
    ∙ take-replicate 512 (4032 - (512 * suc i - 64)) 0 (omega (arith, below))
    ∙ sym (zero_sector (suc i) below)

-- What a stop leaves on a device that had these blocks.

pub misses_failed : (call : Call) (b : ℕ) → Misses call b → Misses (as_failed call) b
misses_failed (Read _ _ _) b misses = tt
misses_failed (Write at bytes ok) b misses = misses
misses_failed (Flush _) b misses = tt

pub all_behind : (P : Call → Type 0) (newer older : List Call) → AllByRecursion P (newer ++ older) → AllByRecursion P older
all_behind P [] older all = all
all_behind P (call ∷ newer) older all = all_behind P newer older all.1

module _ (old : Blocks) (whole : (b : ℕ) → b < length old → length (block_at old b) ≡ 4096) where
  kept_since : (calls : List Call) (b : ℕ) → AllByRecursion (λ call. Misses call b) calls → AllByRecursion (λ content. content ≡ block_at old b) (contents old calls b)
  kept_since [] b misses = (refl, tt)
  kept_since (call ∷ calls) b misses = kept (λ content. content ≡ block_at old b) old calls call b misses.0 (kept_since calls b misses.1)

  same_since : (calls : List Call) (image : Blocks) (b : ℕ) → IsImage old calls image → b < length old → AllByRecursion (λ call. Misses call b) calls → block_at image b ≡ block_at old b
  same_since calls image b is below misses = block_of_image old calls image b (block_at old b) below (whole b below) (kept_since calls b misses) is

  abbrev Stands : List Call → Type 0
  Stands calls = (image : Blocks) → IsImage old calls image → IsOld old image ⊎ (super_of_image image ≡ Err NotAnImage) ⊎ IsUnused image

  pub stands_at_first : Stands []
  stands_at_first image is =
      let same = one_image-unique old [] old image (one_image-opening old whole) is in
      inl (record { size = ap length same; head = ap (λ (blocks : Blocks). sector 0 (block_at blocks 0)) same; others = λ b some below. ap (λ (blocks : Blocks). block_at blocks b) same })

  module _ (some : 0 < length old) where
    -- while block 0 is cleared
    stands_cleared : (calls : List Call) → AllByRecursion (λ content. (content ≡ zero_block) ⊎ (content ≡ block_at old 0)) (contents old calls 0)
        → ((b : ℕ) → 1 ≤ b → AllByRecursion (λ call. Misses call b) calls) → Stands calls
    stands_cleared calls first misses image is =
        let each = all_weaker (λ content. (content ≡ zero_block) ⊎ (content ≡ block_at old 0)) (λ content. (sector 0 content ≡ sector 0 zero_block) ⊎ (sector 0 content ≡ sector 0 (block_at old 0)))
        (contents old calls 0) (λ content either. elim either [ inl zeros ↦ inl (ap (sector 0) zeros) | inr was ↦ inr (ap (sector 0) was) ]) first in
        let here = sector_of_mix (λ (s : List ℕ). (s ≡ sector 0 zero_block) ⊎ (s ≡ sector 0 (block_at old 0))) (contents old calls 0) (block_at image 0) 0 (omega arith) (is.sectors 0 some) each in
        elim here [
          | inl zeros ↦ inr (inl (not_an_image image (let size = is.size in omega (arith, size, some)) zeros))
          | inr was ↦ inl (record { size = is.size; head = was; others = λ b behind below. same_since calls image b is below (misses b behind) })
        ]

    -- once it is cleared
    stands_none : (calls : List Call) → AllByRecursion (λ content. content ≡ zero_block) (contents old calls 0) → Stands calls
    stands_none calls first image is =
        inr (inl (not_an_image image (let size = is.size in omega (arith, size, some))
        (sector_of_mix (λ (s : List ℕ). s ≡ sector 0 zero_block) (contents old calls 0) (block_at image 0) 0 (omega arith) (is.sectors 0 some)
        (all_weaker (λ content. content ≡ zero_block) (λ content. sector 0 content ≡ sector 0 zero_block) (contents old calls 0) (λ content zeros. ap (sector 0) zeros) first))))

    -- a flush that failed
    stands_unflushed : (calls : List Call) → Stands calls → Stands (Flush false ∷ calls)
    stands_unflushed calls stands image is = stands image (record { size = is.size; whole = is.whole; sectors = is.sectors })

    first_misses : (bytes : List ℕ) (ok : Bool) (b : ℕ) → 1 ≤ b → AllByRecursion (λ call. Misses call b) (Write (record { 0 = 0 }) bytes ok ∷ [])
    first_misses bytes ok b behind = ((λ same. omega (arith, same, behind)), tt)

    clear_stands : AtEach Stands clear_calls
    clear_stands = (
      stands_none clear_calls (refl, tt),
      stands_unflushed (put 0 zero_block ∷ []) (stands_cleared (put 0 zero_block ∷ []) (inl refl, (inr refl, tt)) (first_misses zero_block true)),
      (
        stands_cleared (put 0 zero_block ∷ []) (inl refl, (inr refl, tt)) (first_misses zero_block true),
        stands_cleared (Write (record { 0 = 0 }) zero_block false ∷ []) (inl refl, (inr refl, tt)) (first_misses zero_block false),
        stands_at_first,
      ),
    )

    module _ (g : Geometry) (sizes : IsGeometry g) (named : g.nonce < 2 ^ 64) (room : needed_blocks g ≤ length old) where
      regions_miss : AllByRecursion (λ call. Misses call 0) (region_calls g)
      regions_miss = right_misses g sizes 0 (not_super g sizes) (region_calls g) (regions_right g sizes)

      zeros_first : (calls : List Call) → AllByRecursion (λ call. Misses call 0) calls → AllByRecursion (λ content. content ≡ zero_block) (contents old (calls ++ clear_calls) 0)
      zeros_first calls misses = kept_all (λ content. content ≡ zero_block) old calls clear_calls 0 misses (refl, tt)

      region_step : (done more : List Call) (call : Call) → region_calls g ≡ more ++ (call ∷ done) → Stands (call ∷ (done ++ clear_calls)) × Stands (as_failed call ∷ (done ++ clear_calls))
      region_step done more call same =
          let misses = all_behind (λ call. Misses call 0) more (call ∷ done) (subst (AllByRecursion (λ call. Misses call 0)) same regions_miss) in (
            stands_none (call ∷ (done ++ clear_calls)) (zeros_first (call ∷ done) misses),
            stands_none (as_failed call ∷ (done ++ clear_calls)) (zeros_first (as_failed call ∷ done) (misses_failed call 0 misses.0, misses.1)),
          )

      regions_stand : AtEach Stands (region_calls g ++ clear_calls)
      regions_stand = at_regions Stands (region_calls g) clear_calls region_step clear_stands

      abbrev before_super : List Call
      before_super = Flush true ∷ (region_calls g ++ clear_calls)

      before_super_zeros : (ok : Bool) → AllByRecursion (λ content. content ≡ zero_block) (contents old (Flush ok ∷ (region_calls g ++ clear_calls)) 0)
      before_super_zeros ok = zeros_first (Flush ok ∷ region_calls g) (tt, regions_miss)

      before_super_stands : AtEach Stands before_super
      before_super_stands = (stands_none before_super (before_super_zeros true), stands_none (Flush false ∷ (region_calls g ++ clear_calls)) (before_super_zeros false), regions_stand)

      -- all that is made is on the device by then
      made_settled : (place : Place) → IsPlace g place → IsMade place → contents old before_super (block_of g place) ≡ made_block g place ∷ []
      made_settled place is made = right_settles g sizes old (region_calls g) clear_calls place (regions_right g sizes) is (regions_written g sizes place is made)

      -- an image with this superblock is empty
      is_empty : (calls : List Call) (image : Blocks) → IsImage old calls image → block_at image 0 ≡ super_block (empty_super g)
          → ((place : Place) → IsPlace g place → IsMade place → contents old calls (block_of g place) ≡ made_block g place ∷ []) → IsEmpty g image
      is_empty calls image is head made = record {
        accepted = first_block image (let size = is.size in omega (arith, size, some))
            ∙ ap (λ (block : List ℕ). super_of block (length image)) head
            ∙ written_again (empty_super g) (length image) sizes named (omega arith) (omega arith) (let size = is.size in omega (arith, size, room));
        made = λ place there is_made.
            block_of_image old calls image (block_of g place) (made_block g place) (let below = inside g place there in omega (arith, below, room)) (made_size g place)
            (subst (AllByRecursion (λ content. content ≡ made_block g place)) (sym (made place there is_made)) (refl, tt)) is;
      }

      -- while the superblock is written
      abbrev head_bytes_of : List ℕ
      head_bytes_of = super_block (empty_super g)

      abbrev writing : Bool → List Call
      writing ok = Write (record { 0 = 0 }) head_bytes_of ok ∷ before_super

      writing_first : (ok : Bool) → AllByRecursion (λ content. (content ≡ head_bytes_of) ⊎ (content ≡ zero_block)) (contents old (writing ok) 0)
      writing_first ok =
          (inl refl, all_weaker (λ content. content ≡ zero_block) (λ content. (content ≡ head_bytes_of) ⊎ (content ≡ zero_block)) (contents old before_super 0) (λ content zeros. inr zeros) (before_super_zeros true))

      either_sector : (i : ℕ) (content : List ℕ) → (content ≡ head_bytes_of) ⊎ (content ≡ zero_block) → (sector i content ≡ sector i head_bytes_of) ⊎ (sector i content ≡ sector i zero_block)
      either_sector i content (inl written) = inl (ap (sector i) written)
      either_sector i content (inr zeros) = inr (ap (sector i) zeros)

      sector_written : (ok : Bool) (image : Blocks) (i : ℕ) → i < 8 → IsImage old (writing ok) image
          → (sector i (block_at image 0) ≡ sector i head_bytes_of) ⊎ (sector i (block_at image 0) ≡ sector i zero_block)
      sector_written ok image i below is =
          sector_of_mix (λ (s : List ℕ). (s ≡ sector i head_bytes_of) ⊎ (s ≡ sector i zero_block)) (contents old (writing ok) 0) (block_at image 0) i below (is.sectors 0 some)
          (all_weaker (λ content. (content ≡ head_bytes_of) ⊎ (content ≡ zero_block)) (λ content. (sector i content ≡ sector i head_bytes_of) ⊎ (sector i content ≡ sector i zero_block))
          (contents old (writing ok) 0) (either_sector i) (writing_first ok))

      all_sectors : (ok : Bool) (image : Blocks) → IsImage old (writing ok) image → sector 0 (block_at image 0) ≡ sector 0 head_bytes_of
          → (i : ℕ) → i < 8 → sector i (block_at image 0) ≡ sector i head_bytes_of
      all_sectors ok image is first zero below = first
      all_sectors ok image is first (suc i) below = elim (sector_written ok image (suc i) below is) [ inl written ↦ written | inr zeros ↦ zeros ∙ sym (super_sectors (empty_super g) i below) ]

      made_while : (ok : Bool) (place : Place) → IsPlace g place → IsMade place → contents old (writing ok) (block_of g place) ≡ made_block g place ∷ []
      made_while ok place there made =
          contents-write_other old before_super (record { 0 = 0 }) head_bytes_of ok (block_of g place) (λ same. not_super g sizes place there made (sym same)) ∙ made_settled place there made

      super_written : (ok : Bool) → Stands (writing ok)
      super_written ok image is = elim (sector_written ok image 0 (omega arith) is) [
        | inl written ↦
            let head = same_sectors (block_at image 0) head_bytes_of (is.whole 0 some) (super_size (empty_super g)) (all_sectors ok image is written) in
            inr (inr (is_unused g image (is_empty (writing ok) image is head (made_while ok))))
        | inr zeros ↦ inr (inl (not_an_image image (let size = is.size in omega (arith, size, some)) zeros))
      ]

      pub made_at_last : (image : Blocks) → IsImage old (format_calls g) image → IsEmpty g image
      made_at_last image is =
          is_empty (format_calls g) image is
          (block_of_image old (format_calls g) image 0 (super_block (empty_super g)) some (super_size (empty_super g)) (refl, tt) is)
          (λ place there made. settled-write_other old before_super (record { 0 = 0 }) (super_block (empty_super g)) true (block_of g place) (λ same. not_super g sizes place there made (sym same))
          ∙ made_settled place there made)

      format_stands : AtEach Stands (format_calls g)
      format_stands = (
        (λ image is. inr (inr (is_unused g image (made_at_last image is)))),
        stands_unflushed (writing true) (super_written true),
        (super_written true, super_written false, before_super_stands),
      )

      -- what isn't the image's but its data has no write
      format_misses : (b : ℕ) → IsDataBlock g b ⊎ (needed_blocks g ≤ b) → AllByRecursion (λ call. Misses call b) (format_calls g)
      format_misses b other =
          let behind : 0 ≡ b → ⊥ = λ same. elim other [
            | inl data_block ↦ let high = data_block_high g b data_block in omega (arith, high, same)
            | inr past ↦ omega (arith, past, same)
          ] in
          let regions = right_misses g sizes b (λ place there made same. not_other g sizes place b there made other same) (region_calls g) (regions_right g sizes) in
          (tt, (behind, (tt, all_append (λ call. Misses call b) (region_calls g) clear_calls regions (tt, (behind, tt)))))

      keeps_data : (calls : List Call) → ((b : ℕ) → IsDataBlock g b ⊎ (needed_blocks g ≤ b) → AllByRecursion (λ call. Misses call b) calls) → (image : Blocks) → IsImage old calls image → IsDataKept g old image
      keeps_data calls misses image is b below other = same_since calls image b is below (misses b other)

      pub made_keeps_data : (image : Blocks) → IsImage old (format_calls g) image → IsDataKept g old image
      made_keeps_data image is = keeps_data (format_calls g) format_misses image is

      -- at each moment, and where a call failed
      moment_right : (newer older : List Call) → format_calls g ≡ newer ++ older → (image : Blocks) → IsImage old older image → MayStand g old image
      moment_right newer older same image is = record {
        data_kept = keeps_data older (λ b other. all_behind (λ call. Misses call b) newer older (subst (AllByRecursion (λ call. Misses call b)) same (format_misses b other))) image is;
        stands = at_moment Stands (format_calls g) newer older format_stands same image is;
      }

      failure_right : (newer done : List Call) (call : Call) → format_calls g ≡ newer ++ (call ∷ done) → (image : Blocks) → IsImage old (as_failed call ∷ done) image → MayStand g old image
      failure_right newer done call same image is = record {
        data_kept = keeps_data (as_failed call ∷ done)
            (λ b other. let misses = all_behind (λ call. Misses call b) newer (call ∷ done) (subst (AllByRecursion (λ call. Misses call b)) same (format_misses b other)) in (misses_failed call b misses.0, misses.1)) image is;
        stands = at_failure Stands (format_calls g) newer done call format_stands same image is;
      }

      module _ (opening : Blocks) (first : List Call) (one : HasOneImage opening first old) where
        pub stops_made : (front calls : List Call) → format_calls g ≡ front ++ calls → AreStopsRight g old opening first calls
        stops_made front calls parts newer older image same is =
            moment_right (front ++ newer) older (parts ∙ ap (λ (list : List Call). front ++ list) same ∙ sym (append_assoc front newer older)) image
            (one_image-later opening first older old image one is)

        pub stops_failed : (front done : List Call) (call : Call) → format_calls g ≡ front ++ (call ∷ done) → AreStopsRight g old opening first (as_failed call ∷ done)
        stops_failed front done call parts [] older image same is =
            failure_right front done call parts image (subst (λ (calls : List Call). IsImage old calls image) (sym same) (one_image-later opening first older old image one is))
        stops_failed front done call parts (other ∷ newer) older image same is =
            stops_made (front ++ (call ∷ [])) done (parts ∙ sym (append_assoc front (call ∷ []) done)) newer older image (cc same) is
