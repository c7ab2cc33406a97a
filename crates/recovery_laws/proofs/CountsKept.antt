-- A stored count is the same once a sector has all updates.
use Rattle.std.proofs.Common.{ℕ, ◌≡◌, ◌⊎◌, ◌+◌, ◌-◌, ◌*◌, ◌%◌, ◌==◌, ◌<◌, ◌≤◌, nat_le, nat_lt, Bool, true, false, if◌then◌else◌, List, [], ◌∷◌, Result, Ok, Err, refl, sym, ◌∙◌, ap, ap₂, subst, inl, inr, arith}
use Rattle.std.proofs.lemmas.Bool.{cases_lt, le-leb, leb-true, ltb-true}
use Rattle.blk_base.specs.Counters.{counters_per_sector, limit_of, sector_of_offset, sectors_per_slab}
use Rattle.blk_base.specs.Regions.{references_of}
use Rattle.blk_base.specs.declared.geometry.Geometry.{Geometry}
use Rattle.blk_base.specs.declared.journal_entry.CommittedEntry.{CommittedEntry}
use Rattle.blk_base.specs.declared.layout.DataPlace.{DataPlace}
use Rattle.byte_fields.specs.Fields.{number_at}
use Rattle.disk_model.specs.Log.{Blocks}
use Rattle.image_model.proofs.CountLaws.{is_first, none_in_nothing, one_stored}
use Rattle.image_model.specs.Counts.{AreUpdates, IsUpdate, Stores, commit_at, commit_of, count_after, count_from, counter_of, reference_sector_at}
use Rattle.image_model.specs.Maps.{Image}
use Rattle.image_model.specs.Sound.{IsDataPlace}
use Rattle.replay_counts.specs.Recovered.{IsInSector}
use Rattle.recovery_laws.specs.Written.{IsFullSector}

-- A count is within the limit.

step : (even room none : Bool) (more less : Result ℕ ℕ) (point n : ℕ) → (if even then (if room then more else Err point) else (if none then Err point else less)) ≡ Ok n
    → ((room ≡ true) × (more ≡ Ok n)) ⊎ (less ≡ Ok n)
step true true none more less point n is = inl (refl, is)
step true false none more less point n is = absurd (cc is)
step false room true more less point n is = absurd (cc is)
step false room false more less point n is = inr is

count_fits : (limit count : ℕ) (points : List ℕ) (n : ℕ) → count ≤ limit → count_after limit count points ≡ Ok n → n ≤ limit
count_fits limit count [] n fits is = let same : count ≡ n = cc is in omega (arith, same, fits)
count_fits limit count (point ∷ later) n fits is =
    elim (step (point % 2 == 0) (nat_lt count limit) (count == 0) (count_after limit (count + 1) later) (count_after limit (count - 1) later) point n is) [
      | inl (room, added) ↦ let below = ltb-true count limit room in count_fits limit (count + 1) later n (omega (arith, below)) added
      | inr taken ↦ count_fits limit (count - 1) later n (omega (arith, fits)) taken
    ]

from_step : (fits : Bool) (counted : Result ℕ ℕ) (commit n : ℕ) → (if fits then counted else Err commit) ≡ Ok n → (fits ≡ true) × (counted ≡ Ok n)
from_step true counted commit n is = (refl, is)
from_step false counted commit n is = absurd (cc is)

pub stored_fits : (image : Image) (place : DataPlace) (count : ℕ) → Stores image place (Ok count) → count ≤ limit_of image.geometry
stored_fits image place count stores =
    let limit = limit_of image.geometry in
    let counter = counter_of image place in
    let parts = from_step (nat_le counter limit) (count_after limit counter stores.points) (commit_of image place) count stores.counted in
    count_fits limit counter stores.points count (leb-true counter limit parts.0) parts.1

-- a counter that includes all updates is the stored count
pub stores_counter : (image : Image) (place : DataPlace) → ((point : ℕ) → commit_of image place < point → IsUpdate image place point → ⊥) → counter_of image place ≤ limit_of image.geometry
    → Stores image place (Ok (counter_of image place))
stores_counter image place none fits = record {
  points = [];
  updates = record { rising = tt; each = λ point. ((λ has. absurd (none_in_nothing point has)), (λ is. absurd (none point is.0 is.1))) };
  counted = rw (le-leb (counter_of image place) (limit_of image.geometry) fits) refl;
}

-- and the other way round
pub counter_is_stored : (image : Image) (place : DataPlace) (count : ℕ) → ((point : ℕ) → commit_of image place < point → IsUpdate image place point → ⊥)
    → Stores image place (Ok count) → counter_of image place ≡ count
counter_is_stored image place count none stores = only stores.points stores.updates stores.counted
  where
    only : (points : List ℕ) → AreUpdates image place points → count_from (limit_of image.geometry) (commit_of image place) (counter_of image place) points ≡ Ok count
        → counter_of image place ≡ count
    only [] are counted =
        let parts = from_step (nat_le (counter_of image place) (limit_of image.geometry)) (Ok (counter_of image place)) (commit_of image place) count counted in cc (parts.1)
    only (point ∷ later) are counted = let is = (are.each point).0 (is_first point later) in absurd (none point is.0 is.1)

-- The sector of a data block.

pub sector_inside : (g : Geometry) (place : DataPlace) → IsDataPlace g place → sector_of_offset g place.offset < sectors_per_slab g
sector_inside g place inside = let offset = inside.1 in omega (arith, offset)

pub sectors_inside : (g : Geometry) (n : ℕ) → n < sectors_per_slab g → n < 8 * references_of g
sectors_inside g n below = omega (arith, below)

module _ (g : Geometry) (blocks blocks' : Blocks) (window window' : List CommittedEntry) where
  abbrev pub old : Image
  old = record { geometry = g; blocks = blocks; window = window }

  abbrev pub new : Image
  new = record { geometry = g; blocks = blocks'; window = window' }

  -- a full sector has no update above its commit point
  pub none_above : (slab n : ℕ) (bytes : List ℕ) → IsFullSector old slab n bytes → (point : ℕ) → number_at 8 0 bytes < point → IsInSector old slab n point → ⊥
  none_above slab n bytes full point above is = elim (cases_lt (commit_at g blocks slab n) point) [
    | inl more ↦ let most = full.commit.most point more is in omega (arith, most, above)
    | inr not_more ↦ elim full.commit.reached [
      | inl same ↦ omega (arith, same, not_more, above)
      | inr (raised, reached) ↦ omega (arith, raised, not_more, above)
    ]
  ]

  module _ (fewer : (place : DataPlace) (point : ℕ) → IsDataPlace g place → IsUpdate new place point → IsUpdate old place point) where
    -- where the sector has all updates
    pub full_none : (place : DataPlace) → IsDataPlace g place
        → IsFullSector old place.slab (sector_of_offset g place.offset) (reference_sector_at g blocks' place.slab (sector_of_offset g place.offset))
        → (point : ℕ) → commit_of new place < point → IsUpdate new place point → ⊥
    full_none place inside full point above is =
        none_above place.slab (sector_of_offset g place.offset) (reference_sector_at g blocks' place.slab (sector_of_offset g place.offset)) full point above
        (place.offset, inside.1, refl, fewer place point inside is)

    pub stores_full : (place : DataPlace) (count : ℕ) → IsDataPlace g place
        → IsFullSector old place.slab (sector_of_offset g place.offset) (reference_sector_at g blocks' place.slab (sector_of_offset g place.offset))
        → Stores old place (Ok count) → Stores new place (Ok count)
    stores_full place count inside full stores =
        let counted : Stores old place (Ok (counter_of new place)) = full.counters place inside refl refl in
        let one = one_stored old place (Ok count) (Ok (counter_of new place)) stores counted in
        let same : count ≡ counter_of new place = cc one in
        subst (λ (n : ℕ). Stores new place (Ok n)) (sym same)
        (stores_counter new place (full_none place inside full) (stored_fits old place (counter_of new place) counted))

    -- where it is as it was
    pub stores_same : (place : DataPlace) (count : ℕ) → IsDataPlace g place → ((point : ℕ) → IsUpdate old place point → IsUpdate new place point)
        → reference_sector_at g blocks' place.slab (sector_of_offset g place.offset) ≡ reference_sector_at g blocks place.slab (sector_of_offset g place.offset)
        → Stores old place (Ok count) → Stores new place (Ok count)
    stores_same place count inside again same stores =
        let commit : commit_of new place ≡ commit_of old place = ap (number_at 8 0) same in
        let counter : counter_of new place ≡ counter_of old place = ap (number_at 1 (8 + place.offset % counters_per_sector g)) same in
        record {
          points = stores.points;
          updates = record {
            rising = stores.updates.rising;
            each = λ point. (
              λ has. let is = (stores.updates.each point).0 has in let above = is.0 in (omega (arith, above, commit), again point is.1),
              λ is. let above = is.0 in (stores.updates.each point).1 (omega (arith, above, commit), fewer place point inside is.1),
            );
          };
          counted = ap₂ (λ (c n : ℕ). count_from (limit_of g) c n stores.points) commit counter ∙ stores.counted;
        }
