-- What the journal's zone keeps is what the trace says, and so are its watermarks.
use Rattle.std.proofs.Common.{◌≡◌, ◌≢◌, ℕ, ◌<◌, ◌==◌, inl, inr, false, Option, None, Some, List, [], ◌∷◌, ◌++◌, length-set, slice_index_or, slice_set, refl, ap, ap₂, sym, ◌∙◌}
use Rattle.std.proofs.lemmas.Bool.Decides.{eqb_tells}
use Rattle.std.proofs.lemmas.List.{get_or-set_same, get_or-set_other, get_or-replicate, length-replicate}
use Rattle.plain_laws.specs.Firsts.{but_first}
use Rattle.handed_parts.specs.Parts.{Handed, is_part, watermark_of, number_of, opening, without_part}
use Rattle.part_laws.specs.Parts.{Part, points_for, without, without_point, rounded, least_of, lesser}
use Rattle.part_laws.specs.Trace.{Happening, Hands, Hears, Trace, waiting}
use Rattle.part_laws.specs.Watermarks.{Setup, front, watermark}
use Rattle.part_laws.specs.KeptParts.{IsKeptOf, IsInside, keeping, point_with}

pub points_append : (z : ℕ) (parts more : List Part) → points_for z (parts ++ more) ≡ points_for z parts ++ points_for z more
points_append z [] more = refl
points_append z (part ∷ parts) more = elim (eqb_tells part.zone z) [
  | inl same ↦ rw same.0 (ap (λ (ps : List ℕ). part.point.0 ∷ ps) (points_append z parts more))
  | inr other ↦ rw other.0 (points_append z parts more)
]

-- leaving out a zone's part leaves out its point there, and nothing in another zone
points_without : (z p : ℕ) (parts : List Part) → points_for z (but_first (is_part z p) parts) ≡ without_point p (points_for z parts)
points_without z p [] = refl
points_without z p (part ∷ parts) = elim (eqb_tells part.zone z) [
  | inl same ↦ elim (eqb_tells part.point.0 p) [
    | inl at ↦ rw (same.0, at.0) refl
    | inr apart ↦ rw (same.0, apart.0) (rw same.0 (ap (λ (ps : List ℕ). part.point.0 ∷ ps) (points_without z p parts)))
  ]
  | inr other ↦ rw other.0 (rw other.0 (points_without z p parts))
]

points_beside : (y z p : ℕ) (parts : List Part) → y ≢ z → points_for z (but_first (is_part y p) parts) ≡ points_for z parts
points_beside y z p [] apart = refl
points_beside y z p (part ∷ parts) apart = elim (eqb_tells part.zone y) [
  | inl here ↦
      let other : (part.zone == z) ≡ false = not_that part.zone y z here.1 apart in
      elim (eqb_tells part.point.0 p) [
        | inl at ↦ rw (here.0, at.0, other) refl
        | inr later ↦ rw (here.0, later.0, other) (points_beside y z p parts apart)
      ]
  | inr elsewhere ↦ elim (eqb_tells part.zone z) [
    | inl same ↦ rw (elsewhere.0, same.0) (ap (λ (ps : List ℕ). part.point.0 ∷ ps) (points_beside y z p parts apart))
    | inr other ↦ rw (elsewhere.0, other.0) (points_beside y z p parts apart)
  ]
]
  where
    not_that : (n y z : ℕ) → n ≡ y → y ≢ z → (n == z) ≡ false
    not_that n y z here apart = elim (eqb_tells n z) [ inl same ↦ absurd (apart (sym here ∙ same.1)) | inr other ↦ other.0 ]

without_own : (z : ℕ) (o : Option ℕ) (parts : List Part) → points_for z (without_part z (point_with o) parts) ≡ without o (points_for z parts)
without_own z None parts = refl
without_own z (Some p) parts = points_without z p parts

without_other : (y z : ℕ) (o : Option ℕ) (parts : List Part) → y ≢ z → points_for z (without_part y (point_with o) parts) ≡ points_for z parts
without_other y z None parts apart = refl
without_other y z (Some p) parts apart = points_beside y z p parts apart

number_back : (o : Option ℕ) → number_of (point_with o) ≡ o
number_back None = refl
number_back (Some n) = refl

pub opening_kept : (zones room : ℕ) → IsKeptOf zones (opening zones room) []
opening_kept zones room = record {
  count = length-replicate zones None;
  parts = λ z. refl;
  lows = λ z inside. ap number_of (get_or-replicate zones z None None inside);
}

-- one more happening
pub keeps_on : (zones : ℕ) (h : Happening) (handed : Handed) (t : Trace) → IsInside zones h → IsKeptOf zones handed t → IsKeptOf zones (keeping h handed) (h ∷ t)
keeps_on zones (Hands e) handed t inside kept = record {
  count = kept.count;
  parts = λ z. points_append z handed.waiting e.parts ∙ ap (λ (ps : List ℕ). ps ++ points_for z e.parts) (kept.parts z);
  lows = kept.lows;
}
keeps_on zones (Hears y x) handed t inside kept = record {
  count = length-set handed.lows y (point_with x.low) ∙ kept.count;
  parts = λ z. elim (eqb_tells y z) [
    | inl same ↦ rw same.0 (parts_own z same.1)
    | inr other ↦ rw other.0 (without_other y z x.part handed.waiting other.1 ∙ kept.parts z)
  ];
  lows = λ z within. elim (eqb_tells y z) [
    | inl same ↦ rw same.0 (lows_own z same.1)
    | inr other ↦ rw other.0 (ap number_of (get_or-set_other handed.lows y z (point_with x.low) None (λ e. other.1 (sym e))) ∙ kept.lows z within)
  ];
}
  where
    parts_own : (z : ℕ) → y ≡ z → points_for z (without_part y (point_with x.part) handed.waiting) ≡ without x.part (waiting z t)
    parts_own z same =
        ap (λ (n : ℕ). points_for z (without_part n (point_with x.part) handed.waiting)) same
        ∙ without_own z x.part handed.waiting ∙ ap (λ (ps : List ℕ). without x.part ps) (kept.parts z)

    lows_own : (z : ℕ) → y ≡ z → number_of (slice_index_or (slice_set handed.lows y (point_with x.low)) z None) ≡ x.low
    lows_own z same =
        ap (λ (n : ℕ). number_of (slice_index_or (slice_set handed.lows y (point_with x.low)) n None)) (sym same)
        ∙ ap number_of (get_or-set_same handed.lows y (point_with x.low) None (rw kept.count inside)) ∙ number_back x.low
keeps_on zones h handed t inside kept = record { count = kept.count; parts = kept.parts; lows = kept.lows }

-- so its watermarks are those of the trace
pub watermark_kept : (s : Setup) (handed : Handed) (t : Trace) (z : ℕ) → IsKeptOf s.zones handed t → z < s.zones → watermark_of handed z (front s t) ≡ watermark s z t
watermark_kept s handed t z kept inside =
    ap₂ (λ (ps : List ℕ) (o : Option ℕ). rounded (least_of ps (lesser o (front s t)))) (kept.parts z) (kept.lows z inside)
