-- Once nothing is under way, no entry waits for what never comes.
use Rattle.std.proofs.Common.{◌≡◌, ℕ, zero, suc, ◌+◌, ◌-◌, ◌*◌, ◌%◌, ◌<◌, ◌≤◌, ◌⊎◌, inl, inr, Option, IfSome, List, [], ◌∷◌, ap, arith, subst}
use Rattle.std.proofs.lemmas.Bool.Decides.{eqb_tells}
use Rattle.part_laws.specs.Parts.{Logged, Told, Has, points_for, points_of, without, least_of, lesser, last_low, Climbs}
use Rattle.part_laws.specs.Trace.{Seals, Hands, Hears, Needs, Trace, sequence, IsSealed, IsHanded, IsSet, IsDurable, heard, waiting, needed, learned}
use Rattle.part_laws.specs.Watermarks.{Setup, first_point, front, watermark, least_watermark, head_of}
use Rattle.part_laws.specs.RightTraces.{IsOfChange, MayFollow, RightTrace}
use Rattle.part_laws.specs.Stillness.{HasAsked, IsStill, need_for}
use Rattle.part_laws.proofs.ListLaws.{has_split, without_within, least_reaches, lesser_reaches, part_split, climbs_append, climbs_to, climbs_has, climbs_without, climbs_gone, rising_has}
use Rattle.part_laws.proofs.HeardLaws.{stand_set, heard_stands}
use Rattle.part_laws.proofs.WatermarkLaws.{front_within, least_is, watermark_waiting}
use Rattle.part_laws.proofs.FallLaws.{if_some, set_handed, hands_next, front_stays}

-- what waits was handed out
pub waiting_handed : (t : Trace) (z p : ℕ) → Has p (waiting z t) → IsHanded t z p
waiting_handed [] z p has = absurd has
waiting_handed (Hands e ∷ t) z p has = elim (has_split p (waiting z t) (points_for z e.parts) has) [
  | inl waits ↦ inr (waiting_handed t z p waits)
  | inr new ↦ inl new
]
waiting_handed (Hears y x ∷ t) z p has = elim (eqb_tells y z) [
  | inl same ↦ waiting_handed t z p (without_within x.part p (waiting z t) (rw same.0 at has))
  | inr other ↦ waiting_handed t z p (rw other.0 at has)
]
waiting_handed (h ∷ t) z p has = waiting_handed t z p has

-- what waits climbs, below the front
pub waiting_climbs : (s : Setup) (t : Trace) (z : ℕ) → RightTrace s t → Climbs 0 (waiting z t) (front s t)
waiting_climbs s [] z right = omega arith
waiting_climbs s (Seals es ∷ t) z right = climbs_to 0 (waiting z t) (front s t) (front s (Seals es ∷ t)) (front_stays s (Seals es) t right) (waiting_climbs s t z right.1)
waiting_climbs s (Hands e ∷ t) z right =
    let next = hands_next s t e right in
    let before : Climbs 0 (waiting z t) e.at = subst (λ (n : ℕ). Climbs 0 (waiting z t) n) next.0 (waiting_climbs s t z right.1) in
    climbs_append 0 (waiting z t) e.at (points_for z e.parts) (front s (Hands e ∷ t)) before
    (climbs_to e.at (points_for z e.parts) (e.at + 2) (front s (Hands e ∷ t)) next.2 (next.1.halves z))
waiting_climbs s (Hears y x ∷ t) z right = elim (eqb_tells y z) [
  | inl same ↦ rw same.0 (climbs_without x.part 0 (waiting z t) (front s t) (waiting_climbs s t z right.1))
  | inr other ↦ rw other.0 (waiting_climbs s t z right.1)
]
waiting_climbs s (h ∷ t) z right = waiting_climbs s t z right.1

-- what was handed out is below the front
pub handed_below : (s : Setup) (t : Trace) (z p : ℕ) → RightTrace s t → IsHanded t z p → p < front s t
handed_below s [] z p right is = absurd is
handed_below s (Hands e ∷ t) z p right (inl has) =
    let next = hands_next s t e right in
    omega (arith, next.2, (climbs_has p e.at (points_for z e.parts) (e.at + 2) (next.1.halves z) has).1)
handed_below s (Hands e ∷ t) z p right (inr is) = omega (arith, handed_below s t z p right.1 is, front_stays s (Hands e) t right)
handed_below s (Seals es ∷ t) z p right is = omega (arith, handed_below s t z p right.1 is, front_stays s (Seals es) t right)
handed_below s (h ∷ t) z p right is = handed_below s t z p right.1 is

heard_below : (s : Setup) (t : Trace) (z p : ℕ) → RightTrace s t → Has p (points_of (heard z t)) → p < front s t
heard_below s t z p right has = handed_below s t z p right (set_handed s t z p right (stand_set t z (heard z t) p (heard_stands s t z right) has))

-- what was heard waits no more
pub heard_gone : (s : Setup) (t : Trace) (z p : ℕ) → RightTrace s t → Has p (points_of (heard z t)) → Has p (waiting z t) → ⊥
heard_gone s [] z p right was waits = was
heard_gone s (Hands e ∷ t) z p right was waits = elim (has_split p (waiting z t) (points_for z e.parts) waits) [
  | inl before ↦ heard_gone s t z p right.1 was before
  | inr new ↦
      let next = hands_next s t e right in
      omega (arith, heard_below s t z p right.1 was, next.0, (climbs_has p e.at (points_for z e.parts) (e.at + 2) (next.1.halves z) new).0)
]
heard_gone s (Hears y x ∷ t) z p right was waits = elim (eqb_tells y z) [
  | inl same ↦ elim (part_split p x.part (points_of (heard z t)) (rw same.0 at was)) [
    | inl this ↦ climbs_gone p 0 (waiting z t) (front s t) (waiting_climbs s t z right.1) (subst (λ (o : Option ℕ). Has p (without o (waiting z t))) this (rw same.0 at waits))
    | inr older ↦ heard_gone s t z p right.1 older (without_within x.part p (waiting z t) (rw same.0 at waits))
  ]
  | inr other ↦ heard_gone s t z p right.1 (rw other.0 at was) (rw other.0 at waits)
]
heard_gone s (h ∷ t) z p right was waits = heard_gone s t z p right.1 was waits

-- when nothing is under way nothing waits
pub none_waits : (s : Setup) (t : Trace) (z p : ℕ) → RightTrace s t → IsStill s t → Has p (waiting z t) → ⊥
none_waits s t z p right still waits =
    let is = still.all_set z p (waiting_handed t z p waits) in
    heard_gone s t z p right (subst (λ (xs : List Told). Has p (points_of xs)) (still.all_heard z) (still.all_told z p is)) waits

above : (a b : ℕ) → (b ≤ a → ⊥) → a < b
above a b f = elim (cases a b) [ inl less ↦ less | inr most ↦ absurd (f most) ]
  where
    cases : (a b : ℕ) → (a < b) ⊎ (b ≤ a)
    cases a b = grind (arith)

-- the low point that was heard last is above what is needed
low_above : (s : Setup) (t : Trace) (z : ℕ) → IsStill s t → z < s.zones → IfSome (last_low (heard z t)) (λ low. needed t < low)
low_above s t z still inside =
    if_some (λ q. IsSet t z q × (IsDurable t z q → ⊥)) (λ q. needed t < q) (last_low (heard z t))
    (λ q is. above (needed t) q (λ most. is.1 (still.begins z inside (still.no_writing z) q is.0 (le_trans' q (needed t) (learned z t) most (still.all_learned z inside)))))
    (subst (λ (xs : List Told). IsOfChange t z (last_low xs)) (still.all_heard z) (still.low_now z))
  where
    le_trans' : (a b c : ℕ) → a ≤ b → b ≤ c → a ≤ c
    le_trans' a b c f g = omega (arith, f, g)

-- each watermark is past what is needed, or at the block being filled
pub watermark_still : (s : Setup) (t : Trace) (z n : ℕ) → RightTrace s t → IsStill s t → z < s.zones → n ≤ needed t + 1 → n ≤ sequence s.start t * 512
    → n ≤ least_of (waiting z t) (lesser (last_low (heard z t)) (front s t))
watermark_still s t z n right still inside need filled =
    let at_front : front s t ≡ sequence s.start t * 512 = ap (λ (es : List Logged). first_point es (sequence s.start t)) still.all_handed in
    least_reaches n (waiting z t) (lesser (last_low (heard z t)) (front s t))
    (λ p waits. absurd (none_waits s t z p right still waits))
    (lesser_reaches n (last_low (heard z t)) (front s t)
    (if_some (λ q. needed t < q) (λ q. n ≤ q) (last_low (heard z t)) (λ q more. omega (arith, more, need)) (low_above s t z still inside))
    (omega (arith, at_front, filled)))

least_still : (s : Setup) (t : Trace) (k h : ℕ) → RightTrace s t → IsStill s t → k ≤ s.zones → h * 512 ≤ needed t + 1 → h ≤ sequence s.start t
    → h * 512 ≤ least_watermark s k t
least_still s t zero h right still few need filled =
    let at_front : front s t ≡ sequence s.start t * 512 = ap (λ (es : List Logged). first_point es (sequence s.start t)) still.all_handed in
    omega (arith, at_front, filled)
least_still s t (suc k) h right still few need filled =
    let this = watermark_still s t k (h * 512) right still (omega (arith, few)) need (omega (arith, filled)) in
    omega (arith, this, least_still s t k h right still (omega (arith, few)) need filled)

-- the head has passed the need
pub head_still : (s : Setup) (t : Trace) (h : ℕ) → RightTrace s t → IsStill s t → h * 512 ≤ needed t + 1 → h ≤ sequence s.start t → h ≤ head_of s t
head_still s t h right still need filled = omega (arith, least_still s t s.zones h right still (omega arith) need filled)

-- so the block being filled has its slot in the ring
pub slot_still : (s : Setup) (t : Trace) (size : ℕ) → RightTrace s t → IsStill s t → 2 ≤ size → HasAsked s size t
    → sequence s.start t + 2 ≤ head_of s t + size
slot_still s t size right still ring need =
    let passed = head_still s t (sequence s.start t + 2 - size) right still (omega (arith, need)) (omega (arith, ring)) in
    omega (arith, passed)

-- what the journal posts for it is such a need
pub asks_for : (s : Setup) (size : ℕ) (t : Trace) → size < sequence s.start t + 2
    → MayFollow s (Needs (need_for (sequence s.start t) size)) t × HasAsked s size (Needs (need_for (sequence s.start t) size) ∷ t)
asks_for s size t inside = (odd (sequence s.start t + 2 - size) (omega (arith, inside)), omega (arith, inside))
  where
    odd : (n : ℕ) → 0 < n → (n * 512 - 1) % 2 ≡ 1
    odd n some = omega (arith, some)

-- a need is of the half that takes away
pub needed_odd : (s : Setup) (t : Trace) → RightTrace s t → 0 < needed t → needed t % 2 ≡ 1
needed_odd s [] right some = omega (arith, some)
needed_odd s (Needs p ∷ t) right some = elim (cases p (needed t)) [
  | inl most ↦ omega (arith, right.0, most)
  | inr more ↦ omega (arith, more, needed_odd s t right.1 (omega (arith, more)))
]
  where
    cases : (a b : ℕ) → (b ≤ a) ⊎ (a < b)
    cases a b = grind (arith)
needed_odd s (h ∷ t) right some = needed_odd s t right.1 some

sealed_below : (s : Setup) (t : Trace) (e : Logged) → RightTrace s t → IsSealed t e → (e.at + 2 ≤ sequence s.start t * 512) × (e.at % 2 ≡ 0)
sealed_below s [] e right is = absurd is
sealed_below s (Seals es ∷ t) e right (inl has) =
    let r = rising_has s.zones e (sequence s.start t * 512) es ((sequence s.start t + 1) * 512) right.0 has in (r.1, r.2.adds)
sealed_below s (Seals es ∷ t) e right (inr is) = let r = sealed_below s t e right.1 is in (omega (arith, r.0), r.1)
sealed_below s (h ∷ t) e right is = sealed_below s t e right.1 is

-- and each entry at or below the need is below each watermark
pub entry_still : (s : Setup) (t : Trace) (e : Logged) (z : ℕ) → RightTrace s t → IsStill s t → IsSealed t e → z < s.zones → 0 < needed t → e.at ≤ needed t
    → e.at < watermark s z t
entry_still s t e z right still is inside some most =
    let r = sealed_below s t e right is in
    let odd = needed_odd s t right some in
    let this = watermark_still s t z (e.at + 2) right still inside (omega (arith, r.1, odd, most)) r.0 in
    omega (arith, this, r.1)

-- what waits is in the ring
pub waits_in_ring : (s : Setup) (t : Trace) (z p : ℕ) → RightTrace s t → z < s.zones → Has p (waiting z t) → (head_of s t * 512 ≤ p) × (p < sequence s.start t * 512)
waits_in_ring s t z p right inside waits =
    let below = climbs_has p 0 (waiting z t) (front s t) (waiting_climbs s t z right) waits in
    (omega (arith, least_is s s.zones z t inside, watermark_waiting s z t p waits), omega (arith, below.1, front_within s t right))
