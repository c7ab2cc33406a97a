-- No watermark falls, where each low point that is told is that of a change.
use Rattle.std.proofs.Common.{◌≡◌, ℕ, zero, suc, ◌+◌, ◌*◌, ◌<◌, ◌≤◌, ◌⊎◌, inl, inr, Option, None, Some, IfSome, List, [], ◌∷◌, ◌++◌, ap, sym, arith, subst}
use Rattle.std.proofs.lemmas.Bool.Decides.{eqb_tells}
use Rattle.part_laws.specs.Parts.{Logged, Told, Has, points_for, points_of, without, least_of, lesser, last_low, IsFormed, AreRising}
use Rattle.part_laws.specs.Trace.{Happening, Seals, Hands, Sets, Tells, Hears, Trace, sequence, unhanded, behind_first, IsHanded, IsSet, IsDurable, told, heard, waiting}
use Rattle.part_laws.specs.Watermarks.{Setup, first_point, front, watermark, least_watermark, head_of}
use Rattle.part_laws.specs.RightTraces.{IsBelow, TellMayFollow, RightTrace}
use Rattle.part_laws.proofs.ListLaws.{has_split, without_within, least_bound, least_reaches, lesser_reaches, climbs_has, rising_append}
use Rattle.part_laws.proofs.HeardLaws.{set_grows, stand_durable, all_stand, handed_grows, handed_waits, unhanded_rise, first_above}
use Rattle.handed_parts.proofs.PartLaws.{least_has, lesser_within}

pub if_some : (P Q : ℕ → Type 0) (o : Option ℕ) → ((q : ℕ) → P q → Q q) → IfSome o P → IfSome o Q
if_some P Q None f h = tt
if_some P Q (Some q) f h = f q h

-- the point isn't below the low point, which is there
abbrev pub Reaches : Option ℕ → ℕ → Type 0
Reaches None q = ⊥
Reaches (Some low) q = low ≤ q

at_least : (a b : ℕ) → (a < b → ⊥) → b ≤ a
at_least a b f = elim (cases a b) [ inl less ↦ absurd (f less) | inr most ↦ most ]
  where
    cases : (a b : ℕ) → (a < b) ⊎ (b ≤ a)
    cases a b = grind (arith)

pub reaches : (o : Option ℕ) (q : ℕ) → (IsBelow q o → ⊥) → Reaches o q
reaches None q f = f tt
reaches (Some low) q f = at_least q low f

pub lesser_below : (o : Option ℕ) (q bound : ℕ) → Reaches o q → lesser o bound ≤ q
lesser_below None q bound reached = absurd reached
lesser_below (Some low) q bound reached = omega (arith, reached)

-- Of what was told: each low point is that of a change that is set; if its part was told before, it isn't below the low point
-- that was told before.
abbrev pub NoLower : Trace → ℕ → List Told → Type 0
NoLower t z [] = Unit {0}
NoLower t z (x ∷ older) = IfSome x.low (λ q. IsSet t z q × (Has q (points_of older) → Reaches (last_low older) q)) × NoLower t z older

pub lower_back : (t : Trace) (z : ℕ) (xs ys : List Told) → NoLower t z (xs ++ ys) → NoLower t z ys
lower_back t z [] ys before = before
lower_back t z (x ∷ xs) ys before = lower_back t z xs ys before.1

lower_grows : (h : Happening) (t : Trace) (z : ℕ) (xs : List Told) → NoLower t z xs → NoLower (h ∷ t) z xs
lower_grows h t z [] before = tt
lower_grows h t z (x ∷ older) before = (
  if_some (λ q. IsSet t z q × (Has q (points_of older) → Reaches (last_low older) q)) (λ q. IsSet (h ∷ t) z q × (Has q (points_of older) → Reaches (last_low older) q)) x.low
      (λ q is. (set_grows h t z q is.0, is.1)) before.0,
  lower_grows h t z older before.1,
)

lower_told : (s : Setup) (t : Trace) (z : ℕ) (x : Told) → RightTrace s t → TellMayFollow z x t → NoLower t z (told z t) → NoLower t z (x ∷ told z t)
lower_told s t z x right may before = (
  if_some (λ q. IsSet t z q × (IsDurable t z q → ⊥)) (λ q. IsSet t z q × (Has q (points_of (told z t)) → Reaches (last_low (told z t)) q)) x.low
      (λ q is. (is.0, λ has. reaches (last_low (told z t)) q (λ below. is.1 (stand_durable t z (told z t) q (all_stand s t z right) has below)))) may.exact,
  before,
)

pub none_lower : (s : Setup) (t : Trace) (z : ℕ) → RightTrace s t → NoLower t z (told z t)
none_lower s [] z right = tt
none_lower s (Tells y x ∷ t) z right = elim (eqb_tells y z) [
  | inl same ↦
      let may : TellMayFollow z x t = subst (λ (n : ℕ). TellMayFollow n x t) same.1 right.0 in
      rw same.0 (lower_grows (Tells y x) t z (x ∷ told z t) (lower_told s t z x right.1 may (none_lower s t z right.1)))
  | inr other ↦ rw other.0 (lower_grows (Tells y x) t z (told z t) (none_lower s t z right.1))
]
none_lower s (h ∷ t) z right = lower_grows h t z (told z t) (none_lower s t z right.1)

-- what is set was handed out
pub set_handed : (s : Setup) (t : Trace) (z p : ℕ) → RightTrace s t → IsSet t z p → IsHanded t z p
set_handed s [] z p right is = absurd is
set_handed s (Sets y q ∷ t) z p right (inl same) =
    subst (λ (n : ℕ). IsHanded t z n) same.1 (subst (λ (n : ℕ). IsHanded t n q) same.0 right.0)
set_handed s (Sets y q ∷ t) z p right (inr is) = set_handed s t z p right.1 is
set_handed s (h ∷ t) z p right is = handed_grows h t z p (set_handed s t z p right.1 is)

-- what is handed out next comes from the front on
pub hands_next : (s : Setup) (t : Trace) (e : Logged) (right : RightTrace s (Hands e ∷ t))
    → (front s t ≡ e.at) × IsFormed s.zones e × (e.at + 2 ≤ front s (Hands e ∷ t))
hands_next s t e right =
    let n = sequence s.start t in
    let before : AreRising s.zones (front s t) (e ∷ right.0.0) (n * 512) =
    subst (λ (es : List Logged). AreRising s.zones (front s t) es (n * 512)) right.0.1 (unhanded_rise s t right.1) in
    let at : front s t ≡ e.at = ap (λ (es : List Logged). first_point es n) right.0.1 in
    let above : e.at + 2 ≤ first_point right.0.0 n = first_above s.zones (e.at + 2) right.0.0 n before.2 in
    (at, before.1, subst (λ (es : List Logged). e.at + 2 ≤ first_point (behind_first es) n) (sym right.0.1) above)

-- the front never falls
pub front_stays : (s : Setup) (h : Happening) (t : Trace) → RightTrace s (h ∷ t) → front s t ≤ front s (h ∷ t)
front_stays s (Seals es) t right =
    first_above s.zones (front s t) (unhanded t ++ es) (sequence s.start t + 1)
    (rising_append s.zones (front s t) (unhanded t) (sequence s.start t * 512) es ((sequence s.start t + 1) * 512) (unhanded_rise s t right.1) right.0)
front_stays s (Hands e) t right = let next = hands_next s t e right in omega (arith, next.0, next.2)
front_stays s other t right = omega arith

-- what a watermark is rounded from
abbrev low_part : Setup → ℕ → Trace → ℕ
low_part s z t = least_of (waiting z t) (lesser (last_low (heard z t)) (front s t))

low_is_bounded : (s : Setup) (z : ℕ) (t : Trace) → low_part s z t ≤ front s t
low_is_bounded s z t =
    let bound = least_bound (waiting z t) (lesser (last_low (heard z t)) (front s t)) in
    let low = lesser_within (last_low (heard z t)) (front s t) in
    omega (arith, bound, low)

low_reached : (s : Setup) (z : ℕ) (t : Trace) (q : ℕ) → RightTrace s t → IsSet t z q × (Has q (points_of (heard z t)) → Reaches (last_low (heard z t)) q)
    → low_part s z t ≤ q
low_reached s z t q right is = elim (handed_waits t z q (set_handed s t z q right is.0)) [
  | inl waits ↦ least_has q (waiting z t) (lesser (last_low (heard z t)) (front s t)) waits
  | inr was ↦
      let bound = least_bound (waiting z t) (lesser (last_low (heard z t)) (front s t)) in
      let below = lesser_below (last_low (heard z t)) q (front s t) (is.1 was) in
      omega (arith, bound, below)
]

low_heard : (s : Setup) (z : ℕ) (t : Trace) (x : Told) → RightTrace s t → (rest : List Told) → told z t ≡ rest ++ x ∷ heard z t
    → low_part s z t ≤ least_of (without x.part (waiting z t)) (lesser x.low (front s t))
low_heard s z t x right rest next =
    let lower : NoLower t z (x ∷ heard z t) = lower_back t z rest (x ∷ heard z t) (subst (λ (xs : List Told). NoLower t z xs) next (none_lower s t z right)) in
    least_reaches (low_part s z t) (without x.part (waiting z t)) (lesser x.low (front s t))
    (λ p has. least_has p (waiting z t) (lesser (last_low (heard z t)) (front s t)) (without_within x.part p (waiting z t) has))
    (lesser_reaches (low_part s z t) x.low (front s t)
    (if_some (λ q. IsSet t z q × (Has q (points_of (heard z t)) → Reaches (last_low (heard z t)) q)) (λ q. low_part s z t ≤ q) x.low
    (λ q is. low_reached s z t q right is) lower.0)
    (low_is_bounded s z t))

-- a bound that stays or rises, over the same points
low_rises : (ps : List ℕ) (o : Option ℕ) (old new : ℕ) → old ≤ new → least_of ps (lesser o old) ≤ least_of ps (lesser o new)
low_rises [] None old new more = more
low_rises [] (Some low) old new more = omega (arith, more)
low_rises (p ∷ ps) o old new more = omega (arith, low_rises ps o old new more)

low_stays : (s : Setup) (h : Happening) (t : Trace) (z : ℕ) → RightTrace s (h ∷ t) → low_part s z t ≤ low_part s z (h ∷ t)
low_stays s (Seals es) t z right = low_rises (waiting z t) (last_low (heard z t)) (front s t) (front s (Seals es ∷ t)) (front_stays s (Seals es) t right)
low_stays s (Hands e) t z right =
    let next = hands_next s t e right in
    let bounded = low_is_bounded s z t in
    let more = front_stays s (Hands e) t right in
    least_reaches (low_part s z t) (waiting z t ++ points_for z e.parts) (lesser (last_low (heard z t)) (front s (Hands e ∷ t)))
    (λ p has. elim (has_split p (waiting z t) (points_for z e.parts) has) [
      | inl waits ↦ least_has p (waiting z t) (lesser (last_low (heard z t)) (front s t)) waits
      | inr new ↦ omega (arith, next.0, bounded, (climbs_has p e.at (points_for z e.parts) (e.at + 2) (next.1.halves z) new).0)
    ])
    (le_trans' (low_part s z t) (lesser (last_low (heard z t)) (front s t)) (lesser (last_low (heard z t)) (front s (Hands e ∷ t)))
    (least_bound (waiting z t) (lesser (last_low (heard z t)) (front s t)))
    (low_rises [] (last_low (heard z t)) (front s t) (front s (Hands e ∷ t)) more))
  where
    le_trans' : (a b c : ℕ) → a ≤ b → b ≤ c → a ≤ c
    le_trans' a b c f g = omega (arith, f, g)
low_stays s (Hears y x) t z right = elim (eqb_tells y z) [
  | inl same ↦ rw same.0 (low_heard s z t x right.1 right.0.0 (subst (λ (n : ℕ). told n t ≡ right.0.0 ++ x ∷ heard n t) same.1 right.0.1))
  | inr other ↦ rw other.0 (omega arith)
]
low_stays s other t z right = omega arith

pub watermark_stays : (s : Setup) (h : Happening) (t : Trace) (z : ℕ) → RightTrace s (h ∷ t) → watermark s z t ≤ watermark s z (h ∷ t)
watermark_stays s h t z right = omega (arith, low_stays s h t z right)

least_stays : (s : Setup) (h : Happening) (t : Trace) (n : ℕ) → RightTrace s (h ∷ t) → least_watermark s n t ≤ least_watermark s n (h ∷ t)
least_stays s h t zero right = front_stays s h t right
least_stays s h t (suc n) right = omega (arith, watermark_stays s h t n right, least_stays s h t n right)

pub head_stays : (s : Setup) (h : Happening) (t : Trace) → RightTrace s (h ∷ t) → head_of s t ≤ head_of s (h ∷ t)
head_stays s h t right = omega (arith, least_stays s h t s.zones right)
