-- The points of a zone in a list of parts.
use Rattle.std.proofs.Common.{◌≡◌, ◌≢◌, ℕ, ◌+◌, ◌<◌, ◌≤◌, ◌%◌, IfSome, ◌==◌, IsTrue, inl, inr, min, Bool, if◌then◌else◌, Option, None, Some, List, [], ◌∷◌, ◌++◌, length, take, position, refl, ap, sym, arith, ◌∙◌, get_or, subst}
use Rattle.std.proofs.lemmas.Bool.Decides.{eqb_tells}
use Rattle.std.proofs.lemmas.List.{take_more}
use Rattle.std.specs.List.{list_any, remove}
use Rattle.blk_base.specs.declared.point.Point.{Point}
use Rattle.plain_laws.proofs.FirstLaws.{remove-position, find-nowhere, but_first-none}
use Rattle.handed_parts.specs.declared.part.Part.{Part}
use Rattle.handed_parts.specs.Parts.{Has, points_for, Handed, is_part, least_of, lesser, low_of, watermark_of, rounded, without_part}

-- the least with one more part
pub least_more : (z : ℕ) (parts : List Part) (part : Part) (bound : ℕ)
    → least_of (points_for z (parts ++ part ∷ [])) bound ≡ (if part.zone == z then min (least_of (points_for z parts) bound) part.point.0 else least_of (points_for z parts) bound)
least_more z [] part bound = elim (eqb_tells part.zone z) [
  | inl same ↦ rw same.0 (omega arith)
  | inr other ↦ rw other.0 refl
]
least_more z (first ∷ parts) part bound = elim (eqb_tells first.zone z) [
  | inl same ↦ rw same.0 (more (least_more z parts part bound))
  | inr other ↦ rw other.0 (least_more z parts part bound)
]
  where
    more : least_of (points_for z (parts ++ part ∷ [])) bound ≡ (if part.zone == z then min (least_of (points_for z parts) bound) part.point.0 else least_of (points_for z parts) bound)
        → min first.point.0 (least_of (points_for z (parts ++ part ∷ [])) bound)
        ≡ (if part.zone == z then min (min first.point.0 (least_of (points_for z parts) bound)) part.point.0 else min first.point.0 (least_of (points_for z parts) bound))
    more before = elim (eqb_tells part.zone z) [
      | inl same ↦ let is = rw same.0 at before in rw same.0 (omega (arith, is))
      | inr other ↦ let is = rw other.0 at before in rw other.0 (omega (arith, is))
    ]

-- a zone's part is there where its point is
pub any_has : (z p : ℕ) (parts : List Part) → IsTrue (list_any (is_part z p) parts) → Has p (points_for z parts)
any_has z p [] is = absurd (cc)
any_has z p (first ∷ parts) is = elim (eqb_tells first.zone z) [
  | inl same ↦ elim (eqb_tells first.point.0 p) [
    | inl at ↦ rw same.0 (inl at.1)
    | inr other ↦ rw same.0 (inr (any_has z p parts (rw (same.0, other.0) at is)))
  ]
  | inr other ↦ rw other.0 (any_has z p parts (rw other.0 at is))
]

pub has_any : (z p : ℕ) (parts : List Part) → Has p (points_for z parts) → IsTrue (list_any (is_part z p) parts)
has_any z p [] has = absurd has
has_any z p (first ∷ parts) has = elim (eqb_tells first.zone z) [
  | inl same ↦ elim (eqb_tells first.point.0 p) [
    | inl at ↦ rw (same.0, at.0) refl
    | inr other ↦ rw (same.0, other.0) (later other.1 (rw same.0 at has) (has_any z p parts))
  ]
  | inr other ↦ rw other.0 (has_any z p parts (rw other.0 at has))
]
  where
    later : (first.point.0 ≢ p) → Has p (first.point.0 ∷ points_for z parts) → (Has p (points_for z parts) → IsTrue (list_any (is_part z p) parts)) → IsTrue (list_any (is_part z p) parts)
    later apart (inl at) behind = absurd (apart at)
    later apart (inr has) behind = behind has

pub least_next : (z : ℕ) (parts : List Part) (i : ℕ) (d : Part) (bound least next : ℕ) → i < length parts
    → least ≡ least_of (points_for z (take i parts)) bound → next ≡ (if (get_or parts i d).zone == z then min least (get_or parts i d).point.0 else least)
    → next ≡ least_of (points_for z (take (i + 1) parts)) bound
least_next z parts i d bound least next inside so_far is =
    let part : Part = get_or parts i d in
    let whole : take (i + 1) parts ≡ take i parts ++ part ∷ [] = take_more parts i d inside in
    is ∙ ap (λ (n : ℕ). if part.zone == z then min n part.point.0 else n) so_far ∙ sym (least_more z (take i parts) part bound)
    ∙ ap (λ (ps : List Part). least_of (points_for z ps) bound) (sym whole)

-- what is left after a part was looked for
pub left_out : (z : ℕ) (o : Option Point) (p : Point) (items seen new : List Part) (found : Option ℕ) (place : ℕ) → new ≡ remove items place
    → found ≡ position (is_part z p.0) seen → found ≡ Some place → o ≡ Some p → seen ≡ items → new ≡ without_part z o items
left_out z o p items seen new found place removed looked at is same =
    let here : position (is_part z p.0) items ≡ Some place = ap (λ (xs : List Part). position (is_part z p.0) xs) (sym same) ∙ sym looked ∙ at in
    removed ∙ remove-position (is_part z p.0) items place here ∙ ap (λ (q : Option Point). without_part z q items) (sym is)

pub left_whole : (z : ℕ) (o : Option Point) (p : Point) (items seen : List Part) (found : Option ℕ)
    → found ≡ position (is_part z p.0) seen → found ≡ None → o ≡ Some p → seen ≡ items → items ≡ without_part z o items
left_whole z o p items seen found looked none is same =
    let here : position (is_part z p.0) items ≡ None = ap (λ (xs : List Part). position (is_part z p.0) xs) (sym same) ∙ sym looked ∙ none in
    sym (but_first-none (is_part z p.0) items (find-nowhere (is_part z p.0) items here)) ∙ ap (λ (q : Option Point). without_part z q items) (sym is)

pub is_there : (z p : ℕ) (parts seen : List Part) (found : Bool) → found ≡ list_any (is_part z p) seen → seen ≡ parts
    → (IsTrue found → Has p (points_for z parts)) × (Has p (points_for z parts) → IsTrue found)
is_there z p parts seen found looked same =
    let is : list_any (is_part z p) parts ≡ found = ap (λ (xs : List Part). list_any (is_part z p) xs) (sym same) ∙ sym looked in
    (λ yes'. any_has z p parts (subst (λ (b : Bool). IsTrue b) (sym is) yes'), λ has. subst (λ (b : Bool). IsTrue b) is (has_any z p parts has))

pub least_within : (ps : List ℕ) (bound : ℕ) → least_of ps bound ≤ bound
least_within [] bound = omega arith
least_within (p ∷ ps) bound = omega (arith, least_within ps bound)

pub lesser_within : (o : Option ℕ) (p : ℕ) → lesser o p ≤ p
lesser_within None p = omega arith
lesser_within (Some low) p = omega arith

pub least_has : (p : ℕ) (ps : List ℕ) (bound : ℕ) → Has p ps → least_of ps bound ≤ p
least_has p [] bound has = absurd has
least_has p (q ∷ ps) bound (inl same) = omega (arith, same)
least_has p (q ∷ ps) bound (inr has) = omega (arith, least_has p ps bound has)

-- what a watermark is at most
pub watermark_adds : (handed : Handed) (z front watermark : ℕ) → watermark ≡ watermark_of handed z front → watermark % 2 ≡ 0
watermark_adds handed z front watermark is = omega (arith, is)

pub watermark_front : (handed : Handed) (z front watermark : ℕ) → watermark ≡ watermark_of handed z front → watermark ≤ front
watermark_front handed z front watermark is =
    let least = least_within (points_for z handed.waiting) (lesser (low_of handed z) front) in
    let low = lesser_within (low_of handed z) front in
    omega (arith, is, least, low)

pub watermark_parts : (handed : Handed) (z front watermark : ℕ) → watermark ≡ watermark_of handed z front → (p : ℕ) → Has p (points_for z handed.waiting) → watermark ≤ rounded p
watermark_parts handed z front watermark is p has = omega (arith, is, least_has p (points_for z handed.waiting) (lesser (low_of handed z) front) has)

by_low : (o : Option ℕ) (ps : List ℕ) (front watermark : ℕ) → watermark ≡ rounded (least_of ps (lesser o front)) → IfSome o (λ low. watermark ≤ rounded low)
by_low None ps front watermark is = tt
by_low (Some low) ps front watermark is = omega (arith, is, least_within ps (min low front))

pub watermark_low : (handed : Handed) (z front watermark : ℕ) → watermark ≡ watermark_of handed z front → IfSome (low_of handed z) (λ low. watermark ≤ rounded low)
watermark_low handed z front watermark is = by_low (low_of handed z) (points_for z handed.waiting) front watermark is
