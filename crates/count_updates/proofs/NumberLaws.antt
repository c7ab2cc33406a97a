-- Numbers of data blocks and of their sectors.
use Rattle.std.proofs.Common.{ℕ, ◌≡◌, ◌⊎◌, ◌+◌, ◌*◌, ◌<◌, ◌≤◌, List, [], ◌∷◌, ◌++◌, length, get_or, Ok, Err, ◌-◌, ◌/◌, refl, sym, ◌∙◌, ap, subst, inl, inr, arith, length-append}
use Rattle.std.proofs.lemmas.Bool.{cases_lt}
use Rattle.std.proofs.lemmas.Nat.{mul-le}
use Rattle.std.proofs.Math.ListN.{get_or-append}
use Rattle.std.proofs.Math.Seq.{get_or-append_right}
use Rattle.blk_base.specs.Counters.{sectors_per_slab}
use Rattle.blk_base.specs.Regions.{slab_stride_of, data_blocks}
use Rattle.blk_base.specs.declared.geometry.Geometry.{Geometry}
use Rattle.blk_base.specs.declared.layout.DataPlace.{DataPlace}
use Rattle.blk_base.specs.Forms.{place_in}
use Rattle.image_model.specs.Counts.{block_of_data}
use Rattle.image_model.specs.Sound.{IsDataPlace}
use Rattle.count_updates.specs.Counted.{AreCounted, AreCountedUpTo, IsCountedAt, Leaves}
use Rattle.count_updates.specs.Numbers.{all_sectors, block_number, sector_number, IsEarlier}
use Rattle.count_updates.specs.FoundLists.{FoundLists}

-- a row of one slab ends where the next one begins, and that is no later than the end of all
pub row_ends : (slab slabs width : ℕ) → slab < slabs → slab * width + width ≤ slabs * width
row_ends slab slabs width less = let most = mul-le (slab + 1) width slabs width (omega (arith, less)) (omega arith) in omega (arith, most)

pub block_inside : (g : Geometry) (place : DataPlace) → IsDataPlace g place → block_number g place < data_blocks g
block_inside g place inside = let ends = row_ends place.slab g.slabs g.slab_blocks inside.0 in let offset = inside.1 in omega (arith, ends, offset)

sector_below : (offset size : ℕ) → offset < size → offset / 504 < (size + 504 - 1) / 504
sector_below offset size less = omega (arith, less)

pub sector_inside : (g : Geometry) (place : DataPlace) → IsDataPlace g place → sector_number g place < all_sectors g
sector_inside g place inside =
    let ends = row_ends place.slab g.slabs (sectors_per_slab g) inside.0 in
    let below = sector_below place.offset g.slab_blocks inside.1 in
    omega (arith, ends, below)

-- an earlier block has a lower number
pub earlier_below : (g : Geometry) (place : DataPlace) (slab offset : ℕ) → place.offset < g.slab_blocks → IsEarlier place slab offset
    → block_number g place < slab * g.slab_blocks + offset
earlier_below g place slab offset inside (inl less) = let ends = row_ends place.slab slab g.slab_blocks less in omega (arith, ends, inside)
earlier_below g place slab offset inside (inr (same, less)) = let here = ap (λ (n : ℕ). n * g.slab_blocks) same in omega (arith, here, less)

pub earlier_or_here : (place : DataPlace) (slab offset : ℕ) → IsEarlier place slab (offset + 1) → IsEarlier place slab offset ⊎ (place ≡ place_in slab offset)
earlier_or_here place slab offset (inl less) = inl (inl less)
earlier_or_here place slab offset (inr (same, less)) = elim (cases_lt place.offset offset) [
  | inl before ↦ inl (inr (same, before))
  | inr most ↦ let here : place.offset ≡ offset = omega (arith, most, less) in inr (rw (← same, ← here) refl)
]

pub earlier_row : (place : DataPlace) (slab size : ℕ) → place.offset < size → IsEarlier place (slab + 1) 0 → IsEarlier place slab size
earlier_row place slab size inside (inl less) = elim (cases_lt place.slab slab) [
  | inl before ↦ inl before
  | inr most ↦ inr (omega (arith, less, most), inside)
]
earlier_row place slab size inside (inr (same, none)) = absurd (omega (arith, none))

-- a block that stands before another one is an earlier one
pub before_is_earlier : (g : Geometry) (other : DataPlace) (slab offset : ℕ) → other.offset < g.slab_blocks → offset < g.slab_blocks
    → (block_of_data g other).0 < (block_of_data g (place_in slab offset)).0 → IsEarlier other slab offset
before_is_earlier g other slab offset inside within before = elim (cases_lt other.slab slab) [
  | inl less ↦ inl less
  | inr most ↦ elim (cases_lt slab other.slab) [
    | inl more ↦ let ends = row_ends slab other.slab (slab_stride_of g) more in absurd (omega (arith, ends, before, within))
    | inr least ↦
        let same : other.slab ≡ slab = omega (arith, most, least) in
        let row = ap (λ (n : ℕ). n * slab_stride_of g) same in
        inr (same, omega (arith, row, before))
  ]
]

-- the blocks of a slab stand one behind the other, and those of the next slab behind them
pub next_block : (g : Geometry) (slab offset : ℕ) → (block_of_data g (place_in slab offset)).0 < (block_of_data g (place_in slab (offset + 1))).0
next_block g slab offset = omega arith

pub next_slab : (g : Geometry) (slab : ℕ) → (block_of_data g (place_in slab g.slab_blocks)).0 ≤ (block_of_data g (place_in (slab + 1) 0)).0
next_slab g slab = omega arith

module _ (g : Geometry) (found : FoundLists) where
  pub none_counted : AreCountedUpTo g found 0 0 []
  none_counted = record {
    size = omega arith;
    each = λ place inside earlier. elim earlier [ inl less ↦ absurd (omega (arith, less)) | inr (same, less) ↦ absurd (omega (arith, less)) ];
  }

  pub one_counted : (slab offset count : ℕ) (counts : List ℕ) → AreCountedUpTo g found slab offset counts
      → IsCountedAt g found (place_in slab offset) (Ok count)
      → AreCountedUpTo g found slab (offset + 1) (counts ++ (count ∷ []))
  one_counted slab offset count counts were is = record {
    size = let size = were.size in omega (arith, size, length-append counts (count ∷ []));
    each = λ place inside earlier. elim (earlier_or_here place slab offset earlier) [
      | inl before ↦
          let below = earlier_below g place slab offset inside.1 before in
          let low : block_number g place < length counts = let size = were.size in omega (arith, size, below) in
          subst (λ (n : ℕ). IsCountedAt g found place (Ok n)) (sym (get_or-append counts (count ∷ []) 0 (block_number g place) low)) (were.each place inside before)
      | inr here ↦
          let last : length counts ≤ slab * g.slab_blocks + offset = let size = were.size in omega (arith, size) in
          let none : slab * g.slab_blocks + offset - length counts ≡ 0 = let size = were.size in omega (arith, size) in
          let read : get_or (counts ++ (count ∷ [])) (slab * g.slab_blocks + offset) 0 ≡ count =
          get_or-append_right counts (count ∷ []) (slab * g.slab_blocks + offset) 0 last ∙ ap (λ (n : ℕ). get_or (count ∷ []) n 0) none in
          subst (λ (other : DataPlace). IsCountedAt g found other (Ok (get_or (counts ++ (count ∷ [])) (block_number g other) 0))) (sym here)
          (subst (λ (n : ℕ). IsCountedAt g found (place_in slab offset) (Ok n)) (sym read) is)
    ];
  }

  pub slab_counted : (slab : ℕ) (counts : List ℕ) → AreCountedUpTo g found slab g.slab_blocks counts → AreCountedUpTo g found (slab + 1) 0 counts
  slab_counted slab counts were = record {
    size = let size = were.size in omega (arith, size);
    each = λ place inside earlier. were.each place inside (earlier_row place slab g.slab_blocks inside.1 earlier);
  }

  pub all_counted : (counts : List ℕ) → AreCountedUpTo g found g.slabs 0 counts → AreCounted g found counts
  all_counted counts were = record {
    size = let size = were.size in omega (arith, size);
    each = λ place inside. were.each place inside (inl inside.0);
  }

  pub one_leaves : (slab offset at point : ℕ) (counts : List ℕ) → IsDataPlace g (place_in slab offset) → at ≡ (block_of_data g (place_in slab offset)).0
      → AreCountedUpTo g found slab offset counts → IsCountedAt g found (place_in slab offset) (Err point) → Leaves g found at point
  one_leaves slab offset at point counts inside stands were leaves = record {
    place = place_in slab offset;
    inside = inside;
    stands = sym stands;
    leaves = leaves;
    first = λ other within before.
        (_, were.each other within (before_is_earlier g other slab offset within.1 inside.1 (subst (λ (n : ℕ). (block_of_data g other).0 < n) stands before)));
  }
