-- A block of counters that is written says what its sectors were to say.
use Rattle.std.proofs.Common.{ℕ, ◌≡◌, ◌+◌, ◌*◌, ◌/◌, ◌%◌, ◌<◌, List, [], All, length, replicate, get_or, sym, ◌∙◌, ap, subst, arith}
use Rattle.std.proofs.Math.Nat.{mod-lt}
use Rattle.std.proofs.lemmas.List.{get_or-replicate, length-replicate}
use Rattle.blk_base.specs.Counters.{counters_per_sector}
use Rattle.blk_base.specs.Sectors.{sector}
use Rattle.blk_base.specs.declared.geometry.Geometry.{Geometry}
use Rattle.blk_base.specs.declared.sizes.TheConstants.{SECTOR_COUNTERS}
use Rattle.replay_counts.specs.declared.forms.SectorPoints.{SectorPoints}
use Rattle.slab_codec.proofs.CounterLaws.{written_counters}
use Rattle.slab_codec.specs.Reference.{reference_bytes, reference_sector_bytes}
use Rattle.slab_codec.specs.declared.forms.ReferenceSector.{ReferenceSector}
use Rattle.slab_reading.proofs.SectorLaws.{commit_said, counter_said}
use Rattle.blk_base.specs.declared.point.Point.{Point}
use Rattle.recovery_blocks.specs.Counters.{AreCountsPut}
use Rattle.recovery_blocks.specs.Spelled.{AreSpelled, IsCounted, IsSpelled}

pub no_sector : ReferenceSector
no_sector = record { commit = record { 0 = 0 }; counters = [] }

-- before the first count is put
pub none_counted : (g : Geometry) (slab n : ℕ) (counts : List ℕ) (width : ℕ) → width ≡ counters_per_sector g → IsCounted g slab n counts (n * width) (replicate 504 0)
none_counted g slab n counts width is = record {
  size = length-replicate {A = ℕ} 504 0;
  each = λ offset below inside sector_of. absurd (let start : n * width ≡ n * 504 = ap (λ (w : ℕ). n * w) is in omega (arith, below, sector_of, start));
  rest = λ offset behind sector_of. get_or-replicate {A = ℕ} 504 (offset % 504) 0 0 (mod-lt offset (omega arith));
}

module _ (g : Geometry) (slab i : ℕ) (counts : List ℕ) (sectors : List SectorPoints) (old new : List ℕ) (made : List ReferenceSector)
    (are : AreSpelled g slab i counts sectors old 8 made) (is : new ≡ reference_bytes made) where
  sized : All (λ s. length s.counters ≡ SECTOR_COUNTERS) made
  sized k d below = let size = are.size in (are.each k (omega (arith, below, size)) (omega (arith, below, size)) d).size

  sector_is : (j : ℕ) → j < 8 → sector j new ≡ reference_sector_bytes (get_or made j no_sector)
  sector_is j below = let size = are.size in ap (sector j) is ∙ written_counters made j no_sector sized (omega (arith, below, size))

  spelled : (n : ℕ) → n / 8 ≡ i → IsSpelled g slab n counts sectors (sector (n % 8) old) (get_or made (n % 8) no_sector)
  spelled n row =
      let place : i * 8 + n % 8 ≡ n = omega (arith, row) in
      subst (λ (m : ℕ). IsSpelled g slab m counts sectors (sector (n % 8) old) (get_or made (n % 8) no_sector)) place (are.each (n % 8) (omega arith) (omega arith) no_sector)

  pub counts_put : AreCountsPut g slab i counts sectors old new
  counts_put = record {
    put = λ n row below.
        let one = spelled n row in
        let bytes = sector_is (n % 8) (omega arith) in record {
          commit = commit_said (sector (n % 8) new) (get_or made (n % 8) no_sector) one.fits bytes ∙ ap (λ (p : Point). p.0) (one.commit below);
          counters = λ offset inside sector_of.
              counter_said (sector (n % 8) new) (get_or made (n % 8) no_sector) (offset % counters_per_sector g) bytes ∙ (one.counters below).each offset inside inside sector_of;
          rest = λ offset behind sector_of.
              counter_said (sector (n % 8) new) (get_or made (n % 8) no_sector) (offset % counters_per_sector g) bytes ∙ (one.counters below).rest offset behind sector_of;
        };
    past = λ n row behind. sector_is (n % 8) (omega arith) ∙ sym ((spelled n row).past behind);
  }
