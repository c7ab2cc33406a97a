-- What a zone told holds from then on, and what is heard is what was told first; the entries of sealed blocks.
use Rattle.std.proofs.Common.{◌≡◌, ℕ, ◌+◌, ◌*◌, ◌≤◌, ◌⊎◌, inl, inr, Option, Some, IfSome, List, [], ◌∷◌, ◌++◌, refl, ap, sym, arith, subst}
use Rattle.std.proofs.lemmas.Bool.Decides.{eqb_tells}
use Rattle.part_laws.specs.Parts.{Logged, Told, Has, HasEntry, points_for, points_of, last_low, IsFormed, AreRising}
use Rattle.part_laws.specs.Trace.{Happening, Seals, Hands, Sets, Settles, Tells, Hears, Trace, sequence, unhanded, behind_first, IsSealed, IsHanded, IsSet, IsDurable, told, heard, waiting}
use Rattle.part_laws.specs.Watermarks.{Setup, first_point, front}
use Rattle.part_laws.specs.RightTraces.{IsBelow, TellMayFollow, RightTrace}
use Rattle.part_laws.proofs.ListLaws.{has_front, has_back, entry_front, entry_back, without_leaves, part_back, part_split, part_first, rising_append, rising_has}

pub some_holds : (P : ℕ → Type 0) (o : Option ℕ) (p : ℕ) → IfSome o P → o ≡ Some p → P p
some_holds P o p holds is = rw is at holds

-- what is set, durable, handed out, stays so
pub set_grows : (h : Happening) (t : Trace) (z p : ℕ) → IsSet t z p → IsSet (h ∷ t) z p
set_grows (Sets y q) t z p is = inr is
set_grows other t z p is = is

pub durable_grows : (h : Happening) (t : Trace) (z p : ℕ) → IsDurable t z p → IsDurable (h ∷ t) z p
durable_grows (Settles y ps) t z p is = inr is
durable_grows other t z p is = is

pub handed_grows : (h : Happening) (t : Trace) (z p : ℕ) → IsHanded t z p → IsHanded (h ∷ t) z p
handed_grows (Hands e) t z p is = inr is
handed_grows other t z p is = is

-- Of what was told: each part is set, and each below the low point that was told with it or after it is durable.
abbrev pub Stand : Trace → ℕ → List Told → Type 0
Stand t z [] = Unit {0}
Stand t z (x ∷ older) =
    ((p : ℕ) → Has p (points_of (x ∷ older)) → IsSet t z p) × ((p : ℕ) → Has p (points_of (x ∷ older)) → IsBelow p x.low → IsDurable t z p) × Stand t z older

pub stand_grows : (h : Happening) (t : Trace) (z : ℕ) (xs : List Told) → Stand t z xs → Stand (h ∷ t) z xs
stand_grows h t z [] stand = tt
stand_grows h t z (x ∷ older) stand =
    (λ p has. set_grows h t z p (stand.0 p has), λ p has below. durable_grows h t z p (stand.1 p has below), stand_grows h t z older stand.2)

pub stand_set : (t : Trace) (z : ℕ) (xs : List Told) (p : ℕ) → Stand t z xs → Has p (points_of xs) → IsSet t z p
stand_set t z [] p stand has = absurd has
stand_set t z (x ∷ older) p stand has = stand.0 p has

pub stand_durable : (t : Trace) (z : ℕ) (xs : List Told) (p : ℕ) → Stand t z xs → Has p (points_of xs) → IsBelow p (last_low xs) → IsDurable t z p
stand_durable t z [] p stand has below = absurd has
stand_durable t z (x ∷ older) p stand has below = stand.1 p has below

pub stand_back : (t : Trace) (z : ℕ) (xs ys : List Told) → Stand t z (xs ++ ys) → Stand t z ys
stand_back t z [] ys stand = stand
stand_back t z (x ∷ xs) ys stand = stand_back t z xs ys stand.2

-- one more is told
stand_told : (t : Trace) (z : ℕ) (x : Told) → TellMayFollow z x t → Stand t z (told z t) → Stand t z (x ∷ told z t)
stand_told t z x may stand = (is_set, λ p has below. may.is_low p (is_set p has) below, stand)
  where
    is_set : (p : ℕ) → Has p (points_of (x ∷ told z t)) → IsSet t z p
    is_set p has = elim (part_split p x.part (points_of (told z t)) has) [
      | inl this ↦ some_holds (λ q. IsSet t z q) x.part p may.is_set this
      | inr older ↦ stand_set t z (told z t) p stand older
    ]

pub all_stand : (s : Setup) (t : Trace) (z : ℕ) → RightTrace s t → Stand t z (told z t)
all_stand s [] z right = tt
all_stand s (Tells y x ∷ t) z right = elim (eqb_tells y z) [
  | inl same ↦
      let may : TellMayFollow z x t = subst (λ (n : ℕ). TellMayFollow n x t) same.1 right.0 in
      rw same.0 (stand_grows (Tells y x) t z (x ∷ told z t) (stand_told t z x may (all_stand s t z right.1)))
  | inr other ↦ rw other.0 (stand_grows (Tells y x) t z (told z t) (all_stand s t z right.1))
]
all_stand s (h ∷ t) z right = stand_grows h t z (told z t) (all_stand s t z right.1)

-- what is heard was told first
abbrev pub IsFirst : ℕ → Trace → Type 0
IsFirst z t = (rest : List Told) × (told z t ≡ rest ++ heard z t)

pub heard_first : (s : Setup) (t : Trace) (z : ℕ) → RightTrace s t → IsFirst z t
heard_first s [] z right = ([], refl)
heard_first s (Tells y x ∷ t) z right =
    let before = heard_first s t z right.1 in
    elim (eqb_tells y z) [
      | inl same ↦ (x ∷ before.0, rw same.0 (ap (λ (xs : List Told). x ∷ xs) before.1))
      | inr other ↦ (before.0, rw other.0 before.1)
    ]
heard_first s (Hears y x ∷ t) z right =
    let before = heard_first s t z right.1 in
    elim (eqb_tells y z) [
      | inl same ↦ (right.0.0, rw same.0 (subst (λ (n : ℕ). told n t ≡ right.0.0 ++ x ∷ heard n t) same.1 right.0.1))
      | inr other ↦ (before.0, rw other.0 before.1)
    ]
heard_first s (h ∷ t) z right = heard_first s t z right.1

pub heard_stands : (s : Setup) (t : Trace) (z : ℕ) → RightTrace s t → Stand t z (heard z t)
heard_stands s t z right =
    let before = heard_first s t z right in
    stand_back t z before.0 (heard z t) (subst (λ (xs : List Told). Stand t z xs) before.1 (all_stand s t z right))

-- what was handed out waits, or was heard
pub handed_waits : (t : Trace) (z p : ℕ) → IsHanded t z p → Has p (waiting z t) ⊎ Has p (points_of (heard z t))
handed_waits [] z p is = absurd is
handed_waits (Hands e ∷ t) z p (inl has) = inl (has_back p (waiting z t) (points_for z e.parts) has)
handed_waits (Hands e ∷ t) z p (inr is) = elim (handed_waits t z p is) [
  | inl waits ↦ inl (has_front p (waiting z t) (points_for z e.parts) waits)
  | inr has ↦ inr has
]
handed_waits (Hears y x ∷ t) z p is =
    let before = handed_waits t z p is in
    elim (eqb_tells y z) [
      | inl same ↦ rw same.0 (elim before [
        | inl waits ↦ elim (without_leaves x.part p (waiting z t) waits) [
          | inl left ↦ inl left
          | inr this ↦ inr (part_first p x.part (points_of (heard z t)) this)
        ]
        | inr has ↦ inr (part_back p x.part (points_of (heard z t)) has)
      ])
      | inr other ↦ rw other.0 before
    ]
handed_waits (h ∷ t) z p is = handed_waits t z p is

-- entries that rise do so from the first one on
pub rising_first : (zones low : ℕ) (es : List Logged) (n : ℕ) → AreRising zones low es (n * 512) → AreRising zones (first_point es n) es (n * 512)
rising_first zones low [] n rising = omega arith
rising_first zones low (e ∷ es) n rising = (omega arith, rising.1, rising.2)

pub first_above : (zones low : ℕ) (es : List Logged) (n : ℕ) → AreRising zones low es (n * 512) → low ≤ first_point es n
first_above zones low [] n rising = rising
first_above zones low (e ∷ es) n rising = rising.0

pub unhanded_rise : (s : Setup) (t : Trace) → RightTrace s t → AreRising s.zones (front s t) (unhanded t) (sequence s.start t * 512)
unhanded_rise s [] right = omega arith
unhanded_rise s (Seals es ∷ t) right =
    rising_first s.zones (front s t) (unhanded t ++ es) (sequence s.start t + 1)
    (rising_append s.zones (front s t) (unhanded t) (sequence s.start t * 512) es ((sequence s.start t + 1) * 512) (unhanded_rise s t right.1) right.0)
unhanded_rise s (Hands e ∷ t) right =
    let n = sequence s.start t in
    let before : AreRising s.zones (front s t) (e ∷ right.0.0) (n * 512) =
    subst (λ (es : List Logged). AreRising s.zones (front s t) es (n * 512)) right.0.1 (unhanded_rise s t right.1) in
    subst (λ (es : List Logged). AreRising s.zones (first_point (behind_first es) n) (behind_first es) (n * 512)) (sym right.0.1)
    (rising_first s.zones (e.at + 2) right.0.0 n before.2)
unhanded_rise s (h ∷ t) right = unhanded_rise s t right.1

-- an entry of a sealed block has its form; its parts were all handed out, or it waits to be
pub sealed_formed : (s : Setup) (t : Trace) (e : Logged) → RightTrace s t → IsSealed t e → IsFormed s.zones e
sealed_formed s [] e right is = absurd is
sealed_formed s (Seals es ∷ t) e right (inl has) = (rising_has s.zones e (sequence s.start t * 512) es ((sequence s.start t + 1) * 512) right.0 has).2
sealed_formed s (Seals es ∷ t) e right (inr is) = sealed_formed s t e right.1 is
sealed_formed s (h ∷ t) e right is = sealed_formed s t e right.1 is

abbrev pub IsOut : Trace → Logged → Type 0
IsOut t e = (z p : ℕ) → Has p (points_for z e.parts) → IsHanded t z p

pub out_first : (e f : Logged) (t : Trace) → f ≡ e → IsOut (Hands f ∷ t) e
out_first e f t same = λ z p has. inl (rw same has)

pub sealed_is_out : (s : Setup) (t : Trace) (e : Logged) → RightTrace s t → IsSealed t e → IsOut t e ⊎ HasEntry e (unhanded t)
sealed_is_out s [] e right is = absurd is
sealed_is_out s (Seals es ∷ t) e right (inl has) = inr (entry_back e (unhanded t) es has)
sealed_is_out s (Seals es ∷ t) e right (inr is) = elim (sealed_is_out s t e right.1 is) [
  | inl out ↦ inl out
  | inr has ↦ inr (entry_front e (unhanded t) es has)
]
sealed_is_out s (Hands f ∷ t) e right is = elim (sealed_is_out s t e right.1 is) [
  | inl out ↦ inl (λ z p has. inr (out z p has))
  | inr has ↦ next_out (subst (λ (es : List Logged). HasEntry e es) right.0.1 has)
]
  where
    next_out : HasEntry e (f ∷ right.0.0) → IsOut (Hands f ∷ t) e ⊎ HasEntry e (behind_first (unhanded t))
    next_out (inl same) = inl (out_first e f t same)
    next_out (inr later) = inr (subst (λ (es : List Logged). HasEntry e (behind_first es)) (sym right.0.1) later)
sealed_is_out s (h ∷ t) e right is = sealed_is_out s t e right.1 is
