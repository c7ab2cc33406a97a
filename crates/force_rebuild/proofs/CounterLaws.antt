-- A block of counters that is made of counts says them.
use Rattle.std.proofs.Common.{ℕ, ◌≡◌, ◌+◌, ◌*◌, ◌/◌, ◌%◌, ◌<◌, ◌^◌, List, [], ◌∷◌, ◌++◌, All, length, get_or, drop, replicate, slice_index, refl, ◌∙◌, ap, arith, length-append, length-take-le}
use Rattle.std.proofs.Math.Nat.{mod-lt}
use Rattle.std.proofs.lemmas.List.{get_or-take, get_or-drop, length-replicate}
use Rattle.std.proofs.lemmas.List.Elements.{All-head, All-tail}
use Rattle.blk_base.specs.Counters.{counters_per_sector, sector_of_offset}
use Rattle.blk_base.specs.Sectors.{sector}
use Rattle.blk_base.specs.declared.geometry.Geometry.{Geometry}
use Rattle.blk_base.specs.declared.layout.DataPlace.{DataPlace}
use Rattle.blk_base.specs.declared.sizes.TheConstants.{SECTOR_COUNTERS}
use Rattle.byte_fields.specs.Fields.{number_at}
use Rattle.byte_fields.proofs.FieldLaws.{length-le}
use Rattle.count_updates.specs.Numbers.{block_number}
use Rattle.image_model.proofs.ZeroLaws.{of_eight}
use Rattle.image_model.specs.Sound.{IsDataPlace}
use Rattle.sector_records.specs.SectorBytes.{sector_numbers}
use Rattle.slab_codec.proofs.CounterLaws.{counter_at, written_counters}
use Rattle.slab_codec.specs.Reference.{counters_in, reference_bytes, reference_sector_bytes}
use Rattle.slab_codec.specs.declared.forms.ReferenceSector.{ReferenceSector}
use Rattle.slab_reading.proofs.SectorLaws.{commit_said, counter_said}
use Rattle.force_rebuild.specs.Written.{counted_block, counted_sector, counted_sectors, counters_of_slab}

-- The sectors.

pub length-counters_in : (g : Geometry) (n : ℕ) (counters : List ℕ) → length (counters_in g n counters) ≡ SECTOR_COUNTERS
length-counters_in g n counters =
    let sum = length-append (drop (504 * n) counters) (replicate 504 0) in
    let zeros = length-replicate {A = ℕ} 504 0 in
    length-take-le 504 (drop (504 * n) counters ++ replicate 504 0) (omega (arith, sum, zeros))

length-all : (sectors : List ReferenceSector) → All (λ s. length s.counters ≡ SECTOR_COUNTERS) sectors → length (reference_bytes sectors) ≡ 512 * length sectors
unfolding reference_bytes reference_sector_bytes
length-all [] each = refl
length-all (s ∷ ss) each =
    let one = All-head (λ (t : ReferenceSector). length t.counters ≡ SECTOR_COUNTERS) s ss each in
    let rest = length-all ss (All-tail (λ (t : ReferenceSector). length t.counters ≡ SECTOR_COUNTERS) s ss each) in
    simp (length-append, length-le) (omega (arith, one, rest))

module _ (g : Geometry) (commit : ℕ) (counters : List ℕ) (i : ℕ) where
  pub length-sectors : length (counted_sectors g commit counters i) ≡ 8
  unfolding sector_numbers
  length-sectors = refl

  pub sector_of_block : (d : ReferenceSector) (j : ℕ) → j < 8 → get_or (counted_sectors g commit counters i) j d ≡ counted_sector g commit counters (i * 8 + j)
  unfolding sector_numbers
  sector_of_block d j below =
      of_eight (λ (k : ℕ). get_or (counted_sectors g commit counters i) k d ≡ counted_sector g commit counters (i * 8 + k)) refl refl refl refl refl refl refl refl j below

  sized : All (λ s. length s.counters ≡ SECTOR_COUNTERS) (counted_sectors g commit counters i)
  sized k d below =
      let size = length-sectors in
      ap (λ (s : ReferenceSector). length s.counters) (sector_of_block d k (omega (arith, below, size))) ∙ length-counters_in g (i * 8 + k) counters

  sector_says : (j : ℕ) → j < 8 → sector j (counted_block g commit counters i) ≡ reference_sector_bytes (counted_sector g commit counters (i * 8 + j))
  unfolding counted_block
  sector_says j below =
      let d = counted_sector g commit counters 0 in
      let size = length-sectors in
      written_counters (counted_sectors g commit counters i) j d sized (omega (arith, below, size)) ∙ ap reference_sector_bytes (sector_of_block d j below)

  -- each has the commit point
  pub commit_says : (j : ℕ) → j < 8 → commit < 2 ^ 64 → number_at 8 0 (sector j (counted_block g commit counters i)) ≡ commit
  commit_says j below fits =
      commit_said (sector j (counted_block g commit counters i)) (counted_sector g commit counters (i * 8 + j)) fits (sector_says j below)

  pub length-counted : length (counted_block g commit counters i) ≡ 4096
  unfolding counted_block
  length-counted = let count = length-sectors in let all = length-all (counted_sectors g commit counters i) sized in omega (arith, all, count)

-- A counter.

pub counter_says : (g : Geometry) (commit : ℕ) (counters : List ℕ) (place : DataPlace) → IsDataPlace g place → (n : ℕ) → n ≡ sector_of_offset g place.offset
    → number_at 1 (8 + place.offset % counters_per_sector g) (sector (n % 8) (counted_block g commit (counters_of_slab g counters place.slab) (n / 8)))
    ≡ slice_index counters (block_number g place)
counter_says g commit counters place inside n is =
    let slab = counters_of_slab g counters place.slab in
    let k = place.offset % 504 in
    let small : k < 504 = mod-lt place.offset (omega arith) in
    let row : n / 8 * 8 + n % 8 ≡ n = omega arith in
    let at : 504 * n + k ≡ place.offset = omega (arith, is) in
    counter_said (sector (n % 8) (counted_block g commit slab (n / 8))) (counted_sector g commit slab (n / 8 * 8 + n % 8)) k (sector_says g commit slab (n / 8) (n % 8) (mod-lt n (omega arith)))
    ∙ ap (λ (m : ℕ). get_or (counters_in g m slab) k 0) row
    ∙ counter_at 504 slab n k small
    ∙ ap (λ (m : ℕ). get_or slab m 0) at
    ∙ get_or-take g.slab_blocks (drop (place.slab * g.slab_blocks) counters) place.offset 0 inside.1
    ∙ get_or-drop (place.slab * g.slab_blocks) counters place.offset 0
