-- Each number has its kind of zone, and what is given out once is given out by one zone.
use Rattle.std.proofs.Common.{◌≡◌, ℕ, zero, suc, ◌<◌, ◌≤◌, List, [], ◌∷◌, length, Some, slice_get, refl, arith}
use Rattle.core_laws.proofs.Common.{DataOk, Each, Session, Trace, Zone, ZoneData, ZoneOk, desk_number, device_number, given, journal_token, journal_number, logical_number, notified_by, one_journal, PhysicalZone, physical_number, total, total_zero, zone_count}
use Rattle.core_model.specs.declared.zones.ZoneData.TheVariants as at

-- what stands at a number below the length
pub record Stood {X : Type 0} (xs : List X) (i : ℕ) : Type 0 where
  pub it : X
  pub is : slice_get xs i ≡ Some it

pub stood : {X : Type 0} (xs : List X) (i : ℕ) → i < length xs → Stood xs i
stood [] i h = absurd (omega arith)
stood (x ∷ xs) zero h = record { it = x; is = refl }
stood (x ∷ xs) (suc i) h = let r = stood xs i (omega arith) in record { it = r.it; is = r.is }

-- a sum with one summand, which is 1 at most
pub total_once : {X : Type 0} (f : X → ℕ) (xs : List X) (i : ℕ) → Each (λ j x. (f x ≤ 1) × ((j ≡ i → ⊥) → f x ≡ 0)) xs → total f xs ≤ 1
total_once f [] i each = omega arith
total_once f (x ∷ xs) zero each =
    let here = (each 0 x refl).0 in
    let rest = total_zero f xs (λ j y e. (each (suc j) y e).1 (λ q. cc)) in
    omega (arith, here, rest)
total_once f (x ∷ xs) (suc i) each =
    let here = (each 0 x refl).1 (λ q. cc) in
    let rest = total_once f xs i (λ j y e. let k = each (suc j) y e in (k.0, λ ne. k.1 (λ q. ne (omega arith)))) in
    omega (arith, here, rest)

-- what a zone keeps, of the kind that this constructor makes
pub record Keeps {X : Type 0} (make : X → ZoneData) (d : ZoneData) : Type 0 where
  pub it : X
  pub is : d ≡ make it

module _ (s : Session) (t : Trace) where
  pub desk_keeps : (d : ZoneData) → DataOk s t desk_number d → Keeps at.Desk d
  desk_keeps (at.Desk desk) ok = record { it = desk; is = refl }
  desk_keeps other ok = absurd (omega (arith, ok.number_is))

  pub logical_keeps : (zone : ℕ) → zone < s.sizes.zones → (d : ZoneData) → DataOk s t (logical_number zone) d → Keeps at.Logical d
  logical_keeps zone below (at.Logical l) ok = record { it = l; is = refl }
  logical_keeps zone below other ok = absurd (omega (arith, ok.number_is, below))

  -- a physical zone is one of them
  pub physical_below : (n : ℕ) (p : PhysicalZone) → DataOk s t n (at.Physical p) → p.counts.zone < s.sizes.physical
  physical_below n p ok = omega (arith, ok.sound.is_zone.slabs.number, ok.sound.zones)

  pub physical_keeps : (zone : ℕ) → zone < s.sizes.physical → (d : ZoneData) → DataOk s t (physical_number s.sizes zone) d → Keeps at.Physical d
  physical_keeps zone below (at.Physical p) ok = record { it = p; is = refl }
  physical_keeps zone below (at.Logical l) ok = absurd (omega (arith, ok.number_is, ok.sound.among))
  physical_keeps zone below other ok = absurd (omega (arith, ok.number_is, below))

  pub journal_keeps : (d : ZoneData) → DataOk s t (journal_number s.sizes) d → Keeps at.Journal d
  journal_keeps (at.Journal j) ok = record { it = j; is = refl }
  journal_keeps (at.Logical l) ok = absurd (omega (arith, ok.number_is, ok.sound.among))
  journal_keeps (at.Physical p) ok = let below = physical_below (journal_number s.sizes) p ok in absurd (omega (arith, ok.number_is, below))
  journal_keeps other ok = absurd (omega (arith, ok.number_is))

  pub device_keeps : (d : ZoneData) → DataOk s t (device_number s.sizes) d → Keeps at.Device d
  device_keeps (at.Device d) ok = record { it = d; is = refl }
  device_keeps (at.Logical l) ok = absurd (omega (arith, ok.number_is, ok.sound.among))
  device_keeps (at.Physical p) ok = let below = physical_below (device_number s.sizes) p ok in absurd (omega (arith, ok.number_is, below))
  device_keeps other ok = absurd (omega (arith, ok.number_is))

  -- the one zone that gives out each of these
  one_journal_at : (n : ℕ) (d : ZoneData) → DataOk s t n d → (one_journal d ≤ 1) × ((n ≡ journal_number s.sizes → ⊥) → one_journal d ≡ 0)
  one_journal_at n (at.Journal j) ok = (omega arith, λ ne. absurd (ne ok.number_is))
  one_journal_at n other ok = (omega arith, λ ne. refl)

  -- the stop notices are given out at the device alone
  pub no_words : (n : ℕ) (d : ZoneData) → (n ≡ device_number s.sizes → ⊥) → DataOk s t n d → notified_by s.sizes d ≡ 0
  no_words n (at.Device d) ne ok = absurd (ne ok.number_is)
  no_words n other ne ok = refl

  module _ (zones : List Zone) (each : Each (ZoneOk s t) zones) where
    -- of the journal at most one is given out
    pub journal_once : total (given journal_token) zones ≤ 1
    journal_once = total_once (given journal_token) zones (journal_number s.sizes) (λ n z had. one_journal_at n z.keeps (each n z had).own)

    -- a zone at a number that keeps data of a kind
    pub record Sits {X : Type 0} (make : X → ZoneData) (n : ℕ) : Type 0 where
      pub zone : Zone
      pub it : X
      pub had : slice_get zones n ≡ Some zone
      pub keeps : zone.keeps ≡ make it

    module _ (count : length zones ≡ zone_count s.sizes) where
      sits : {X : Type 0} (make : X → ZoneData) (n : ℕ) → n < zone_count s.sizes → ((d : ZoneData) → DataOk s t n d → Keeps make d) → Sits make n
      sits make n below kind =
          let z = stood zones n (omega (arith, below, count)) in
          let kept = kind z.it.keeps (each n z.it z.is).own in
          record { zone = z.it; it = kept.it; had = z.is; keeps = kept.is }

      pub desk_sits : Sits at.Desk desk_number
      desk_sits = sits at.Desk desk_number (omega arith) desk_keeps

      pub physical_sits : (zone : ℕ) → zone < s.sizes.physical → Sits at.Physical (physical_number s.sizes zone)
      physical_sits zone below = sits at.Physical (physical_number s.sizes zone) (omega (arith, below)) (physical_keeps zone below)

      pub journal_sits : Sits at.Journal (journal_number s.sizes)
      journal_sits = sits at.Journal (journal_number s.sizes) (omega arith) journal_keeps

      pub device_sits : Sits at.Device (device_number s.sizes)
      device_sits = sits at.Device (device_number s.sizes) (omega arith) device_keeps
