-- Points in lists: what is in them, their least, and lists that climb.
use Rattle.std.proofs.Common.{◌≡◌, ◌≢◌, ℕ, ◌+◌, ◌<◌, ◌≤◌, ◌⊎◌, inl, inr, Option, None, Some, IfSome, List, [], ◌∷◌, ◌++◌, refl, ap, sym, arith, ◌∙◌}
use Rattle.std.proofs.lemmas.Bool.Decides.{eqb_tells}
use Rattle.part_laws.specs.Parts.{Logged, Told, Has, HasEntry, points_of, with_part, without_point, without, least_of, lesser, Climbs, IsFormed, AreRising}

pub has_front : (p : ℕ) (ps qs : List ℕ) → Has p ps → Has p (ps ++ qs)
has_front p [] qs has = absurd has
has_front p (q ∷ ps) qs (inl same) = inl same
has_front p (q ∷ ps) qs (inr has) = inr (has_front p ps qs has)

pub has_back : (p : ℕ) (ps qs : List ℕ) → Has p qs → Has p (ps ++ qs)
has_back p [] qs has = has
has_back p (q ∷ ps) qs has = inr (has_back p ps qs has)

pub has_split : (p : ℕ) (ps qs : List ℕ) → Has p (ps ++ qs) → Has p ps ⊎ Has p qs
has_split p [] qs has = inr has
has_split p (q ∷ ps) qs (inl same) = inl (inl same)
has_split p (q ∷ ps) qs (inr has) = elim (has_split p ps qs has) [ inl first ↦ inl (inr first) | inr second ↦ inr second ]

pub entry_split : (e : Logged) (es fs : List Logged) → HasEntry e (es ++ fs) → HasEntry e es ⊎ HasEntry e fs
entry_split e [] fs has = inr has
entry_split e (f ∷ es) fs (inl same) = inl (inl same)
entry_split e (f ∷ es) fs (inr has) = elim (entry_split e es fs has) [ inl first ↦ inl (inr first) | inr second ↦ inr second ]

pub entry_front : (e : Logged) (es fs : List Logged) → HasEntry e es → HasEntry e (es ++ fs)
entry_front e [] fs has = absurd has
entry_front e (f ∷ es) fs (inl same) = inl same
entry_front e (f ∷ es) fs (inr has) = inr (entry_front e es fs has)

pub entry_back : (e : Logged) (es fs : List Logged) → HasEntry e fs → HasEntry e (es ++ fs)
entry_back e [] fs has = has
entry_back e (f ∷ es) fs has = inr (entry_back e es fs has)

-- leaving out a point leaves all others
without_step : (q p r : ℕ) (ps : List ℕ) → (Has p ps → Has p (without_point q ps) ⊎ (Some q ≡ Some p)) → Has p (r ∷ ps) → Has p (without_point q (r ∷ ps)) ⊎ (Some q ≡ Some p)
without_step q p r ps rest (inl this) = elim (eqb_tells r q) [
  | inl same ↦ inr (ap Some (sym same.1 ∙ this))
  | inr other ↦ inl (rw other.0 (inl this))
]
without_step q p r ps rest (inr has) = elim (eqb_tells r q) [
  | inl same ↦ inl (rw same.0 has)
  | inr other ↦ elim (rest has) [ inl left ↦ inl (rw other.0 (inr left)) | inr gone ↦ inr gone ]
]

pub without_leaves : (o : Option ℕ) (p : ℕ) (ps : List ℕ) → Has p ps → Has p (without o ps) ⊎ (o ≡ Some p)
without_leaves None p ps has = inl has
without_leaves (Some q) p [] has = absurd has
without_leaves (Some q) p (r ∷ ps) has = without_step q p r ps (without_leaves (Some q) p ps) has

-- and adds none
within_step : (q p r : ℕ) (ps : List ℕ) → (Has p (without_point q ps) → Has p ps) → Has p (r ∷ without_point q ps) → Has p (r ∷ ps)
within_step q p r ps rest (inl this) = inl this
within_step q p r ps rest (inr has) = inr (rest has)

pub without_within : (o : Option ℕ) (p : ℕ) (ps : List ℕ) → Has p (without o ps) → Has p ps
without_within None p ps has = has
without_within (Some q) p [] has = absurd has
without_within (Some q) p (r ∷ ps) has = elim (eqb_tells r q) [
  | inl same ↦ inr (rw same.0 at has)
  | inr other ↦ within_step q p r ps (without_within (Some q) p ps) (rw other.0 at has)
]

pub least_bound : (ps : List ℕ) (bound : ℕ) → least_of ps bound ≤ bound
least_bound [] bound = omega arith
least_bound (q ∷ ps) bound = omega (arith, least_bound ps bound)

pub least_reaches : (n : ℕ) (ps : List ℕ) (bound : ℕ) → ((p : ℕ) → Has p ps → n ≤ p) → n ≤ bound → n ≤ least_of ps bound
least_reaches n [] bound all bounded = bounded
least_reaches n (q ∷ ps) bound all bounded =
    let first : n ≤ q = all q (inl refl) in
    omega (arith, first, least_reaches n ps bound (λ p has. all p (inr has)) bounded)

pub lesser_reaches : (n : ℕ) (o : Option ℕ) (p : ℕ) → IfSome o (λ low. n ≤ low) → n ≤ p → n ≤ lesser o p
lesser_reaches n None p above bounded = bounded
lesser_reaches n (Some low) p above bounded = omega (arith, above)

-- of what was told first, all is in what was told
pub part_back : (p : ℕ) (o : Option ℕ) (ps : List ℕ) → Has p ps → Has p (with_part o ps)
part_back p None ps has = has
part_back p (Some q) ps has = inr has

pub part_split : (p : ℕ) (o : Option ℕ) (ps : List ℕ) → Has p (with_part o ps) → (o ≡ Some p) ⊎ Has p ps
part_split p None ps has = inr has
part_split p (Some q) ps (inl this) = inl (ap Some this)
part_split p (Some q) ps (inr has) = inr has

pub part_first : (p : ℕ) (o : Option ℕ) (ps : List ℕ) → o ≡ Some p → Has p (with_part o ps)
part_first p o ps is = rw is (inl refl)

pub points_back : (p : ℕ) (xs ys : List Told) → Has p (points_of ys) → Has p (points_of (xs ++ ys))
points_back p [] ys has = has
points_back p (x ∷ xs) ys has = part_back p x.part (points_of (xs ++ ys)) (points_back p xs ys has)

-- lists that climb
pub climbs_from : (low low' : ℕ) (ps : List ℕ) (high : ℕ) → low' ≤ low → Climbs low ps high → Climbs low' ps high
climbs_from low low' [] high below climbs = omega (arith, climbs)
climbs_from low low' (p ∷ ps) high below climbs = (omega (arith, climbs.0), climbs.1)

pub climbs_to : (low : ℕ) (ps : List ℕ) (high high' : ℕ) → high ≤ high' → Climbs low ps high → Climbs low ps high'
climbs_to low [] high high' above climbs = omega (arith, climbs)
climbs_to low (p ∷ ps) high high' above climbs = (climbs.0, climbs_to (p + 1) ps high high' above climbs.1)

pub climbs_within : (low : ℕ) (ps : List ℕ) (high : ℕ) → Climbs low ps high → low ≤ high
climbs_within low [] high climbs = climbs
climbs_within low (p ∷ ps) high climbs = omega (arith, climbs.0, climbs_within (p + 1) ps high climbs.1)

pub climbs_append : (low : ℕ) (ps : List ℕ) (mid : ℕ) (qs : List ℕ) (high : ℕ) → Climbs low ps mid → Climbs mid qs high → Climbs low (ps ++ qs) high
climbs_append low [] mid qs high first second = climbs_from mid low qs high first second
climbs_append low (p ∷ ps) mid qs high first second = (first.0, climbs_append (p + 1) ps mid qs high first.1 second)

pub climbs_has : (p low : ℕ) (ps : List ℕ) (high : ℕ) → Climbs low ps high → Has p ps → (low ≤ p) × (p < high)
climbs_has p low [] high climbs has = absurd has
climbs_has p low (q ∷ ps) high climbs (inl same) = (omega (arith, climbs.0, same), omega (arith, same, climbs_within (q + 1) ps high climbs.1))
climbs_has p low (q ∷ ps) high climbs (inr has) =
    let r = climbs_has p (q + 1) ps high climbs.1 has in
    (omega (arith, climbs.0, r.0), r.1)

pub climbs_without : (o : Option ℕ) (low : ℕ) (ps : List ℕ) (high : ℕ) → Climbs low ps high → Climbs low (without o ps) high
climbs_without None low ps high climbs = climbs
climbs_without (Some q) low [] high climbs = climbs
climbs_without (Some q) low (r ∷ ps) high climbs = elim (eqb_tells r q) [
  | inl same ↦ rw same.0 (climbs_from (r + 1) low ps high (omega (arith, climbs.0)) climbs.1)
  | inr other ↦ rw other.0 (climbs.0, climbs_without (Some q) (r + 1) ps high climbs.1)
]

-- a point that is left out of a list that climbs isn't there any more
gone_step : (q r : ℕ) (ps : List ℕ) → (r ≢ q) → (Has q (without_point q ps) → ⊥) → Has q (r ∷ without_point q ps) → ⊥
gone_step q r ps apart rest (inl this) = apart this
gone_step q r ps apart rest (inr has) = rest has

pub climbs_gone : (q low : ℕ) (ps : List ℕ) (high : ℕ) → Climbs low ps high → Has q (without (Some q) ps) → ⊥
climbs_gone q low [] high climbs has = has
climbs_gone q low (r ∷ ps) high climbs has = elim (eqb_tells r q) [
  | inl same ↦
      let left : Has q ps = rw same.0 at has in
      omega (arith, same.1, (climbs_has q (r + 1) ps high climbs.1 left).0)
  | inr other ↦ gone_step q r ps other.1 (climbs_gone q (r + 1) ps high climbs.1) (rw other.0 at has)
]

-- entries that rise
pub rising_from : (zones low low' : ℕ) (es : List Logged) (high : ℕ) → low' ≤ low → AreRising zones low es high → AreRising zones low' es high
rising_from zones low low' [] high below rising = omega (arith, rising)
rising_from zones low low' (e ∷ es) high below rising = (omega (arith, rising.0), rising.1, rising.2)

pub rising_within : (zones low : ℕ) (es : List Logged) (high : ℕ) → AreRising zones low es high → low ≤ high
rising_within zones low [] high rising = rising
rising_within zones low (e ∷ es) high rising = omega (arith, rising.0, rising_within zones (e.at + 2) es high rising.2)

pub rising_append : (zones low : ℕ) (es : List Logged) (mid : ℕ) (fs : List Logged) (high : ℕ)
    → AreRising zones low es mid → AreRising zones mid fs high → AreRising zones low (es ++ fs) high
rising_append zones low [] mid fs high first second = rising_from zones mid low fs high first second
rising_append zones low (e ∷ es) mid fs high first second = (first.0, first.1, rising_append zones (e.at + 2) es mid fs high first.2 second)

pub rising_has : (zones : ℕ) (e : Logged) (low : ℕ) (es : List Logged) (high : ℕ) → AreRising zones low es high → HasEntry e es → (low ≤ e.at) × (e.at + 2 ≤ high) × IsFormed zones e
rising_has zones e low [] high rising has = absurd has
rising_has zones e low (f ∷ es) high rising (inl same) =
    let above = rising_within zones (f.at + 2) es high rising.2 in
    (rw (← same) rising.0, rw (← same) above, rw (← same) rising.1)
rising_has zones e low (f ∷ es) high rising (inr has) =
    let r = rising_has zones e (f.at + 2) es high rising.2 has in
    (omega (arith, rising.0, r.0), r.1, r.2)
