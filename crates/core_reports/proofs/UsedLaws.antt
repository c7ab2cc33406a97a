-- How many blocks the counters of a physical zone say are used: as many as what happened says of its slabs.
use Rattle.std.proofs.Common.{ℕ, zero, suc, ◌≡◌, ◌+◌, ◌*◌, ◌/◌, ◌%◌, ◌<◌, ◌≤◌, ◌^◌, Bool, true, false, List, [], ◌∷◌, filter, length, cond, nat_lt, slice_index, refl, sym, ◌∙◌, ap, arith, inl, inr}
use Rattle.std.specs.Prelude.{sum_by}
use Rattle.std.proofs.lemmas.Bool.{cases_lt, le-ltb, lt-ltb}
use Rattle.std.proofs.lemmas.List.Sums.{sum_by-cons}
use Rattle.std.proofs.lemmas.Nat.{div-mul-add, mod-mul-add, mul-le}
use Rattle.blk_base.specs.Limits.{IsGeometry}
use Rattle.blk_base.specs.Regions.{DataBlock, block_of, slab_start_of}
use Rattle.blk_base.specs.declared.geometry.Geometry.{Geometry}
use Rattle.blk_base.specs.declared.place.Pbn.{Pbn}
use Rattle.plain_laws.specs.Sums.{bit}
use Rattle.core_model.specs.Sessions.{Session}
use Rattle.core_model.specs.Trace.{Trace}
use Rattle.core_model.specs.Uses.{counted, is_used, sum_below, uncounted, used_at, used_of_slab}
use Rattle.slab_counts.specs.Counts.{Counts, counter_of, offset_of, used_of}
use Rattle.zone_counts.specs.ByBlock.{counter_in}
use Rattle.zone_counts.specs.Zone.{IsOfZone, IsZone, Zone, slab_at, slab_number, slab_of, used_in}
use Rattle.zone_counts.proofs.BlockLaws.{home_is}
use Rattle.zone_counts.proofs.PlaceLaws.{number_is}
use Rattle.core_reports.proofs.SharedSums.{AreBelow, one_by_one, share_below}

-- two sums of the same numbers
same_sum : (f h : ℕ → ℕ) (n : ℕ) → ((k : ℕ) → k < n → f k ≡ h k) → sum_below f n ≡ sum_below h n
same_sum f h zero same = refl
same_sum f h (suc n) same = omega (arith, same_sum f h n (λ k below. same k (omega (arith, below))), same n (omega arith))

-- a sum from its first number on
from_first : (f : ℕ → ℕ) (n : ℕ) → sum_below f (suc n) ≡ f 0 + sum_below (λ k. f (suc k)) n
from_first f zero = omega arith
from_first f (suc n) = omega (arith, from_first f n)

-- the sum over a list, by the numbers of its elements
sum_of_list : (f : Counts → ℕ) (cs : List Counts) → sum_below (λ k. f (slab_at cs k)) (length cs) ≡ sum_by f cs
sum_of_list f [] = refl
sum_of_list f (c ∷ cs) =
    let size : length (c ∷ cs) ≡ suc (length cs) = omega arith in
    ap (λ (n : ℕ). sum_below (λ k. f (slab_at (c ∷ cs) k)) n) size ∙ from_first (λ k. f (slab_at (c ∷ cs) k)) (length cs) ∙ ap (λ (n : ℕ). f c + n) (sum_of_list f cs) ∙ sym (sum_by-cons f c cs)

-- how many numbers of a list are above 0
above : ℕ → Bool
above n = nat_lt 0 n

number_above : (ns : List ℕ) → sum_below (λ k. bit (nat_lt 0 (slice_index ns k))) (length ns) ≡ length (filter (λ n. nat_lt 0 n) ns)
number_above [] = refl
number_above (n ∷ ns) =
    let size : length (n ∷ ns) ≡ suc (length ns) = omega arith in
    ap (λ (m : ℕ). sum_below (λ k. bit (nat_lt 0 (slice_index (n ∷ ns) k))) m) size
    ∙ from_first (λ k. bit (nat_lt 0 (slice_index (n ∷ ns) k))) (length ns)
    ∙ ap (λ (m : ℕ). bit (nat_lt 0 n) + m) (number_above ns)
    ∙ one_more (nat_lt 0 n)
  where
    one_more : (b : Bool) → bit b + length (filter (λ n. nat_lt 0 n) ns) ≡ length (cond b (n ∷ filter (λ n. nat_lt 0 n) ns) (filter (λ n. nat_lt 0 n) ns))
    one_more true = omega arith
    one_more false = omega arith

-- more was counted than taken off, exactly where the rest is above 0
rest_above : (counter off on : ℕ) → counter + off ≡ on → nat_lt off on ≡ nat_lt 0 counter
rest_above counter off on sum = elim (cases_lt 0 counter) [
  | inl some ↦ lt-ltb off on (omega (arith, sum, some)) ∙ sym (lt-ltb 0 counter some)
  | inr none ↦ le-ltb off on (omega (arith, sum, none)) ∙ sym (le-ltb 0 counter none)
]

-- a physical zone, with the counters of what happened
module _ (s : Session) (t : Trace) (z : Zone) (is : IsZone z) (geometry : z.geometry ≡ s.sizes.geometry)
    (counters : (x : Pbn) → IsOfZone z x → counter_in x z.slabs + uncounted t x ≡ counted s t x) where
  abbrev g : Geometry
  g = s.sizes.geometry

  -- the slab at this place among those of the zone, with its number in the image, and a block of it
  module _ (k : ℕ) (among : k < length z.slabs) where
    abbrev here : Counts
    here = slab_at z.slabs k

    abbrev slab : ℕ
    slab = k * z.zones + z.zone

    its_geometry : here.geometry ≡ g
    its_geometry = (is.slabs.each k among).1 ∙ geometry

    its_number : here.slab ≡ slab
    its_number = (is.slabs.each k among).0

    below : slab < g.slabs
    below = omega (arith, (is.slabs.each k among).2.slab, ap (λ (h : Geometry). h.slabs) its_geometry, its_number)

    its_counters : length here.counters ≡ g.slab_blocks
    its_counters = (is.slabs.each k among).2.counters ∙ ap (λ (h : Geometry). h.slab_blocks) its_geometry

    module _ (offset : ℕ) (inside : offset < g.slab_blocks) where
      abbrev x : Pbn
      x = record { 0 = block_of g (DataBlock slab offset) }

      number : slab_number z.geometry x ≡ slab
      number =
          number_is z.geometry slab offset x (omega (arith, inside, ap (λ (h : Geometry). h.slab_blocks) geometry))
          (ap (λ (h : Geometry). block_of h (DataBlock slab offset)) geometry)

      own : IsOfZone z x
      own = record {
        data_block = record {
          slab = slab;
          offset = offset;
          inside = (omega (arith, below, ap (λ (h : Geometry). h.slabs) geometry), omega (arith, inside, ap (λ (h : Geometry). h.slab_blocks) geometry));
          stands = ap (λ (h : Geometry). block_of h (DataBlock slab offset)) geometry;
        };
        own = ap (λ (n : ℕ). n % z.zones) number ∙ mod-mul-add k z.zones z.zone is.slabs.number;
      }

      at_home : slab_of z x ≡ here
      at_home = ap (λ (n : ℕ). slab_at z.slabs (n / z.zones)) number ∙ ap (λ (n : ℕ). slab_at z.slabs n) (div-mul-add k z.zones z.zone is.slabs.number)

      stands_at : offset_of here x ≡ offset
      stands_at = omega (arith, ap (λ (h : Geometry). slab_start_of h here.slab) its_geometry, ap (λ (n : ℕ). slab_start_of g n) its_number)

      counter : counter_in x z.slabs ≡ slice_index here.counters offset
      counter = (home_is z x is own).0 ∙ ap (λ (c : Counts). counter_of c x) at_home ∙ ap (λ (n : ℕ). slice_index here.counters n) stands_at

      used_block : is_used s t x ≡ nat_lt 0 (slice_index here.counters offset)
      used_block = rest_above (counter_in x z.slabs) (uncounted t x) (counted s t x) (counters x own) ∙ ap (λ (n : ℕ). nat_lt 0 n) counter

    used_slab : used_of_slab s t slab ≡ used_of here
    used_slab =
        same_sum (λ offset. bit (is_used s t (record { 0 = block_of g (DataBlock slab offset) }))) (λ offset. bit (nat_lt 0 (slice_index here.counters offset))) g.slab_blocks
        (λ offset inside. ap bit (used_block offset inside))
        ∙ ap (λ (n : ℕ). sum_below (λ k. bit (nat_lt 0 (slice_index here.counters k))) n) (sym its_counters)
        ∙ number_above here.counters

  its_slabs : AreBelow (used_of_slab s t) z.zones z.zone is.slabs.number g.slabs (length z.slabs)
  its_slabs = record { all = λ n inside own. is.slabs.all n (omega (arith, inside, ap (λ (h : Geometry). h.slabs) geometry)) own; each = below }

  -- how many blocks it says are used: as many as are of its slabs
  pub share_told : used_in z.slabs ≡ share_below (used_of_slab s t) z.zones g.slabs z.zone
  share_told = sym (
      one_by_one (used_of_slab s t) z.zones z.zone is.slabs.number g.slabs (length z.slabs) its_slabs
      ∙ same_sum (λ k. used_of_slab s t (k * z.zones + z.zone)) (λ k. used_of (slab_at z.slabs k)) (length z.slabs) used_slab
      ∙ sum_of_list used_of z.slabs
      )

-- no more blocks are used than there are
few_bits : (f : ℕ → Bool) (n : ℕ) → sum_below (λ k. bit (f k)) n ≤ n
few_bits f zero = omega arith
few_bits f (suc n) = let rest = few_bits f n in one_more (f n) rest
  where
    one_more : (b : Bool) → sum_below (λ k. bit (f k)) n ≤ n → sum_below (λ k. bit (f k)) n + bit b ≤ suc n
    one_more true rest = omega (arith, rest)
    one_more false rest = omega (arith, rest)

few_each : (f : ℕ → ℕ) (most n : ℕ) → ((k : ℕ) → f k ≤ most) → sum_below f n ≤ n * most
few_each f most zero each = omega arith
few_each f most (suc n) each = let rest = few_each f most n each in let last = each n in omega (arith, rest, last)

pub few_used : (s : Session) (t : Trace) → IsGeometry s.sizes.geometry → used_at s t < 2 ^ 32
few_used s t sizes =
    let g = s.sizes.geometry in
    let most = few_each (used_of_slab s t) g.slab_blocks g.slabs (λ slab. few_bits (λ offset. is_used s t (record { 0 = block_of g (DataBlock slab offset) })) g.slab_blocks) in
    let all = mul-le g.slabs g.slab_blocks 1024 32768 sizes.slabs.1 sizes.slab_blocks.1 in
    omega (arith, most, all)
