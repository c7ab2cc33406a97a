-- What is below a watermark is set and durable, and so is what is below the head.
use Rattle.std.proofs.Common.{◌≡◌, ℕ, zero, suc, ◌+◌, ◌*◌, ◌%◌, ◌<◌, ◌≤◌, min, ◌⊎◌, inl, inr, Option, None, Some, List, [], ◌∷◌, arith}
use Rattle.part_laws.specs.Parts.{Logged, Has, points_for, points_of, rounded, least_of, lesser, last_low}
use Rattle.part_laws.specs.Trace.{Happening, Seals, Rises, Trace, sequence, unhanded, IsSealed, IsSet, IsDurable, heard, waiting, risen}
use Rattle.part_laws.specs.Watermarks.{Setup, front, watermark, least_watermark, head_of}
use Rattle.part_laws.specs.RightTraces.{IsBelow, IsHandled, RiseMayFollow, MayFollow, RightTrace}
use Rattle.part_laws.proofs.ListLaws.{least_bound, climbs_has, rising_has, rising_within}
use Rattle.part_laws.proofs.HeardLaws.{set_grows, durable_grows, stand_set, stand_durable, heard_stands, handed_waits, unhanded_rise, sealed_formed, sealed_is_out}
use Rattle.handed_parts.proofs.PartLaws.{least_has, lesser_within}

pub watermark_front : (s : Setup) (z : ℕ) (t : Trace) → watermark s z t ≤ front s t
watermark_front s z t =
    let bound = least_bound (waiting z t) (lesser (last_low (heard z t)) (front s t)) in
    let low = lesser_within (last_low (heard z t)) (front s t) in
    omega (arith, bound, low)

pub watermark_waiting : (s : Setup) (z : ℕ) (t : Trace) (p : ℕ) → Has p (waiting z t) → watermark s z t ≤ rounded p
watermark_waiting s z t p has = omega (arith, least_has p (waiting z t) (lesser (last_low (heard z t)) (front s t)) has)

-- below the watermark is below the low point, with both halves
below_low : (o : Option ℕ) (ps : List ℕ) (bound at p : ℕ) → at % 2 ≡ 0 → at < rounded (least_of ps (lesser o bound)) → p < at + 2 → IsBelow p o
below_low None ps bound at p adds below near = tt
below_low (Some low) ps bound at p adds below near = omega (arith, least_bound ps (min low bound))

-- what is below a zone's watermark is heard, and below the low point
pub marked_handled : (s : Setup) (t : Trace) (e : Logged) (z p : ℕ) → RightTrace s t → IsSealed t e → e.at < watermark s z t → Has p (points_for z e.parts)
    → Has p (points_of (heard z t)) × IsBelow p (last_low (heard z t))
marked_handled s t e z p right is below has =
    let formed = sealed_formed s t e right is in
    let near = climbs_has p e.at (points_for z e.parts) (e.at + 2) (formed.halves z) has in
    elim (sealed_is_out s t e right is) [
      | inl out ↦ elim (handed_waits t z p (out z p has)) [
        | inl waits ↦ absurd (omega (arith, near.0, near.1, formed.adds, below, watermark_waiting s z t p waits))
        | inr was ↦ (was, below_low (last_low (heard z t)) (waiting z t) (front s t) e.at p formed.adds below near.1)
      ]
      | inr later ↦
          let from = (rising_has s.zones e (front s t) (unhanded t) (sequence s.start t * 512) (unhanded_rise s t right) later).0 in
          absurd (omega (arith, from, below, watermark_front s z t))
    ]

-- what is heard and below the low point is set and durable
pub handled_stands : (s : Setup) (t : Trace) (z p : ℕ) → RightTrace s t → Has p (points_of (heard z t)) × IsBelow p (last_low (heard z t))
    → IsSet t z p × IsDurable t z p
handled_stands s t z p right is =
    let stand = heard_stands s t z right in
    (stand_set t z (heard z t) p stand is.0, stand_durable t z (heard z t) p stand is.0 is.1)

pub marked_stands : (s : Setup) (t : Trace) (e : Logged) (z p : ℕ) → RightTrace s t → IsSealed t e → e.at < watermark s z t → Has p (points_for z e.parts)
    → IsSet t z p × IsDurable t z p
marked_stands s t e z p right is below has = handled_stands s t z p right (marked_handled s t e z p right is below has)

-- the least watermark is at most each
pub least_is : (s : Setup) (n z : ℕ) (t : Trace) → z < n → least_watermark s n t ≤ watermark s z t
least_is s zero z t inside = absurd (omega (arith, inside))
least_is s (suc n) z t inside = elim (cases z n (omega (arith, inside))) [
  | inl same ↦ rw same (omega arith)
  | inr less ↦ omega (arith, least_is s n z t less)
]
  where
    cases : (z n : ℕ) → z ≤ n → (z ≡ n) ⊎ (z < n)
    cases z n most = grind (arith, most)

pub least_front : (s : Setup) (n : ℕ) (t : Trace) → least_watermark s n t ≤ front s t
least_front s zero t = omega arith
least_front s (suc n) t = omega (arith, least_front s n t)

pub front_within : (s : Setup) (t : Trace) → RightTrace s t → front s t ≤ sequence s.start t * 512
front_within s t right = rising_within s.zones (front s t) (unhanded t) (sequence s.start t * 512) (unhanded_rise s t right)

-- the head is at most the sequence of the block being filled
pub risen_within : (s : Setup) (t : Trace) → RightTrace s t → risen s.start t ≤ sequence s.start t
risen_within s [] right = omega arith
risen_within s (Seals es ∷ t) right = omega (arith, risen_within s t right.1)
risen_within s (Rises head ∷ t) right = right.0.within
risen_within s (h ∷ t) right = risen_within s t right.1

-- the head never falls
pub risen_stays : (s : Setup) (h : Happening) (t : Trace) → MayFollow s h t → risen s.start t ≤ risen s.start (h ∷ t)
risen_stays s (Rises head) t may = may.above
risen_stays s other t may = omega arith

stays : (h : Happening) (t : Trace) (z p : ℕ) → IsSet t z p × IsDurable t z p → IsSet (h ∷ t) z p × IsDurable (h ∷ t) z p
stays h t z p is = (set_grows h t z p is.0, durable_grows h t z p is.1)

pub risen_stands : (s : Setup) (t : Trace) (e : Logged) (z p : ℕ) → RightTrace s t → IsSealed t e → e.at < risen s.start t * 512 → Has p (points_for z e.parts)
    → IsSet t z p × IsDurable t z p
risen_stands s [] e z p right is below has = absurd is
risen_stands s (Seals es ∷ t) e z p right (inl new) below has =
    let from = (rising_has s.zones e (sequence s.start t * 512) es ((sequence s.start t + 1) * 512) right.0 new).0 in
    absurd (omega (arith, from, below, risen_within s t right.1))
risen_stands s (Seals es ∷ t) e z p right (inr is) below has = risen_stands s t e z p right.1 is below has
risen_stands s (Rises head ∷ t) e z p right is below has =
    handled_stands s t z p right.1 (right.0.handled e is below z p has)
risen_stands s (h ∷ t) e z p right is below has = stays h t z p (risen_stands s t e z p right.1 is below has)

-- the head that the watermarks leave is one to which it may rise
pub watermarks_allow : (s : Setup) (t : Trace) (head : ℕ) → RightTrace s t → risen s.start t ≤ head → head ≤ head_of s t → RiseMayFollow s head t
watermarks_allow s t head right more most = record {
  above = more;
  within = omega (arith, most, least_front s s.zones t, front_within s t right);
  handled = handled_of;
}
  where
    handled_of : (e : Logged) → IsSealed t e → e.at < head * 512 → IsHandled t e
    handled_of e is below = λ z p has.
        let inside = (sealed_formed s t e right is).inside z p has in
        marked_handled s t e z p right is (omega (arith, below, most, least_is s s.zones z t inside)) has
