-- How many data blocks of a zone are used: at most as many as it has.
use Rattle.std.specs.Prelude.{ℕ, ◌≤◌, List, length, nat_lt}
use Rattle.std.proofs.Common.{ap, arith, inl, inr}
use Rattle.std.proofs.lemmas.Bool.{cases_lt}
use Rattle.std.proofs.lemmas.List.Sums.{length-filter, count_by-le-length}
use Rattle.blk_base.specs.declared.geometry.Geometry.{Geometry}
use Rattle.slab_counts.specs.Counts.{Counts, used_of}
use Rattle.slab_counts.specs.Kept.{IsWithin}
use Rattle.zone_counts.specs.Zone.{AreSlabs}

pub used_few : (c : Counts) → IsWithin c → used_of c ≤ 32768
used_few c within =
    omega (arith, length-filter (λ n. nat_lt 0 n) c.counters, count_by-le-length (λ n. nat_lt 0 n) c.counters, within.counters, within.geometry.slab_blocks)

pub few_slabs : (g : Geometry) (zone zones : ℕ) (slabs : List Counts) → AreSlabs g zone zones slabs → length slabs ≤ 1024
few_slabs g zone zones slabs are = elim (cases_lt 1024 (length slabs)) [
  | inl more ↦
      let one = are.each 1024 more in
      absurd (omega (arith, one.0, one.2.slab, ap (λ (h : Geometry). h.slabs) one.1, are.sizes.slabs, are.number))
  | inr few ↦ omega (arith, few)
]
