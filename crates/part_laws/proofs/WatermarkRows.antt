-- Small traces: one that is right, in which the head rises; and what the definitions refuse, or would allow if they said less.
use Rattle.std.proofs.Common.{◌≡◌, ℕ, ◌<◌, ◌≤◌, inl, inr, Option, None, Some, IfSome, List, [], ◌∷◌, ◌++◌, length, length-append, false, refl, ap, arith, subst}
use Rattle.std.proofs.lemmas.Bool.Decides.{eqb_tells}
use Rattle.part_laws.specs.Parts.{Logged, Told, Has, points_for, points_of, last_low, Climbs, IsFormed}
use Rattle.part_laws.specs.Trace.{Seals, Hands, Sets, Writes, Settles, Tells, Hears, Rises, Needs, Learns, Trace, IsSet, IsDurable, IsHanded, told, heard, needed, learned, is_writing}
use Rattle.part_laws.specs.Watermarks.{Setup, watermark, head_of}
use Rattle.part_laws.specs.RightTraces.{IsBelow, TellMayFollow, RiseMayFollow, HearMayFollow, MayFollow, RightTrace}
use Rattle.part_laws.specs.Stillness.{IsStill}
use Rattle.part_laws.proofs.WatermarkLaws.{watermarks_allow}

-- one zone, and one entry of which it has both halves
abbrev pub setup : Setup
setup = record { start = 1; zones = 1 }

abbrev pub entry : Logged
entry = record { at = 512; parts = (record { zone = 0; point = record { 0 = 512 } }) ∷ (record { zone = 0; point = record { 0 = 513 } }) ∷ [] }

pub entry_formed : IsFormed 1 entry
entry_formed = record { adds = refl; halves = halves_of; inside = inside_of }
  where
    halves_of : (z : ℕ) → Climbs 512 (points_for z entry.parts) 514
    halves_of z = elim (eqb_tells 0 z) [
      | inl same ↦ rw same.0 (omega arith, (omega arith, omega arith))
      | inr other ↦ rw other.0 (omega arith)
    ]

    inside_of : (z p : ℕ) → Has p (points_for z entry.parts) → z < 1
    inside_of z p has = elim (eqb_tells 0 z) [
      | inl same ↦ omega (arith, same.1)
      | inr other ↦ absurd (rw other.0 at has)
    ]

-- what the zone tells: the half that adds is set; the other one is; the first is durable; the second is
abbrev pub one : Told
one = record { part = Some 512; low = Some 512 }

abbrev pub two : Told
two = record { part = Some 513; low = Some 512 }

abbrev pub three : Told
three = record { part = None; low = Some 513 }

abbrev pub four : Told
four = record { part = None; low = None }

abbrev pub handed : Trace
handed = Hands entry ∷ Seals (entry ∷ []) ∷ []

abbrev pub first : Trace
first = Tells 0 one ∷ Sets 0 512 ∷ handed

abbrev pub second : Trace
second = Tells 0 two ∷ Sets 0 513 ∷ first

abbrev pub half : Trace
half = Tells 0 three ∷ Settles 0 (512 ∷ []) ∷ Writes 0 ∷ second

abbrev pub half_heard : Trace
half_heard = Hears 0 three ∷ Hears 0 two ∷ Hears 0 one ∷ half

abbrev pub asked : Trace
asked = Learns 0 1023 ∷ Needs 1023 ∷ half_heard

abbrev pub whole : Trace
whole = Tells 0 four ∷ Settles 0 (513 ∷ []) ∷ Writes 0 ∷ asked

abbrev pub done : Trace
done = Hears 0 four ∷ whole

first_tells : TellMayFollow 0 one (Sets 0 512 ∷ handed)
first_tells = record {
  is_set = inl (refl, refl);
  is_low = λ p is below. elim is [ inl same ↦ absurd (omega (arith, same.1, below)) | inr never ↦ absurd never ];
  exact = (inl (refl, refl), λ is. is);
}

second_tells : TellMayFollow 0 two (Sets 0 513 ∷ first)
second_tells = record {
  is_set = inl (refl, refl);
  is_low = λ p is below. elim is [
    | inl same ↦ absurd (omega (arith, same.1, below))
    | inr older ↦ elim older [ inl same ↦ absurd (omega (arith, same.1, below)) | inr never ↦ absurd never ]
  ];
  exact = (inr (inl (refl, refl)), λ is. is);
}

third_tells : TellMayFollow 0 three (Settles 0 (512 ∷ []) ∷ Writes 0 ∷ second)
third_tells = record {
  is_set = tt;
  is_low = λ p is below. elim is [
    | inl same ↦ absurd (omega (arith, same.1, below))
    | inr older ↦ elim older [ inl same ↦ inl (refl, inl same.1) | inr never ↦ absurd never ]
  ];
  exact = (inl (refl, refl), λ is. elim is [ inl same ↦ elim same.1 [ inl at ↦ omega (arith, at) | inr never ↦ never ] | inr never ↦ never ]);
}

fourth_tells : TellMayFollow 0 four (Settles 0 (513 ∷ []) ∷ Writes 0 ∷ asked)
fourth_tells = record {
  is_set = tt;
  is_low = λ p is below. elim is [
    | inl same ↦ inl (refl, inl same.1)
    | inr older ↦ elim older [ inl same ↦ inr (inl (refl, inl same.1)) | inr never ↦ absurd never ]
  ];
  exact = tt;
}

handed_right : RightTrace setup handed
handed_right = (([], refl), ((omega arith, entry_formed, omega arith), tt))

first_right : RightTrace setup first
first_right = (first_tells, (inl (inl refl), handed_right))

second_right : RightTrace setup second
second_right = (second_tells, (inl (inr (inl refl)), first_right))

half_right : RightTrace setup half
half_right = (third_tells, ((λ p has. elim has [ inl same ↦ inr (inl (refl, same)) | inr never ↦ absurd never ]), (tt, second_right)))

pub half_heard_right : RightTrace setup half_heard
half_heard_right = (([], refl), ((three ∷ [], refl), ((three ∷ two ∷ [], refl), half_right)))

asked_right : RightTrace setup asked
asked_right = (tt, (refl, half_heard_right))

pub done_right : RightTrace setup done
done_right = (([], refl), (fourth_tells, ((λ p has. elim has [ inl same ↦ inl (refl, same) | inr never ↦ absurd never ]), (tt, asked_right))))

-- accepted: now the head rises past the block of the entry
pub rises : RightTrace setup (Rises 2 ∷ done)
rises = (watermarks_allow setup done 2 done_right (omega arith) (omega arith), done_right)

-- and all is still
pub done_still : IsStill setup done
done_still = record {
  all_handed = refl;
  all_set = set_of;
  all_told = told_of;
  all_heard = heard_of;
  low_now = low_of;
  no_writing = idle_of;
  all_learned = λ z inside. learned_of z inside;
  begins = λ z inside idle p is most. begins_of z p is;
}
  where
    set_of : (z p : ℕ) → IsHanded done z p → IsSet done z p
    set_of z p is = elim (eqb_tells 0 z) [
      | inl same ↦ elim (rw same.0 at is) [
        | inl has ↦ elim has [
          | inl at ↦ inr (inl (same.1, at))
          | inr later ↦ elim later [ inl at ↦ inl (same.1, at) | inr never ↦ absurd never ]
        ]
        | inr never ↦ absurd never
      ]
      | inr other ↦ elim (rw other.0 at is) [ inl never ↦ absurd never | inr never ↦ absurd never ]
    ]

    told_of : (z p : ℕ) → IsSet done z p → Has p (points_of (told z done))
    told_of z p is = elim is [
      | inl same ↦ subst (λ (n : ℕ). Has p (points_of (told n done))) same.0 (inl same.1)
      | inr older ↦ elim older [ inl same ↦ subst (λ (n : ℕ). Has p (points_of (told n done))) same.0 (inr (inl same.1)) | inr never ↦ absurd never ]
    ]

    heard_of : (z : ℕ) → told z done ≡ heard z done
    heard_of z = elim (eqb_tells 0 z) [ inl same ↦ rw same.0 refl | inr other ↦ rw other.0 refl ]

    low_of : (z : ℕ) → IfSome (last_low (told z done)) (λ q. IsSet done z q × (IsDurable done z q → ⊥))
    low_of z = elim (eqb_tells 0 z) [ inl same ↦ rw same.0 tt | inr other ↦ rw other.0 tt ]

    idle_of : (z : ℕ) → is_writing z done ≡ false
    idle_of z = elim (eqb_tells 0 z) [ inl same ↦ rw same.0 refl | inr other ↦ rw other.0 refl ]

    learned_of : (z : ℕ) → z < 1 → needed done ≤ learned z done
    learned_of z inside = let zeroth : 0 ≡ z = omega (arith, inside) in subst (λ (n : ℕ). needed done ≤ learned n done) zeroth (omega arith)

    begins_of : (z p : ℕ) → IsSet done z p → IsDurable done z p
    begins_of z p is = elim is [
      | inl same ↦ inl (same.0, inl same.1)
      | inr older ↦ elim older [ inl same ↦ inr (inl (same.0, inl same.1)) | inr never ↦ absurd never ]
    ]

-- Refused: while the half that takes away isn't durable, the watermark stays at the entry, and the head at its block.
pub half_marked : (watermark setup 0 half_heard ≡ 512) × (head_of setup half_heard ≡ 1)
half_marked = (refl, refl)

-- Yet each part is heard, and the entry is below the low point that was heard last: so a head may not rise by that alone.
pub half_is_below : ((p : ℕ) → Has p (points_for 0 entry.parts) → Has p (points_of (heard 0 half_heard))) × IsBelow entry.at (last_low (heard 0 half_heard))
half_is_below = (λ p has. elim has [ inl same ↦ inr (inl same) | inr later ↦ elim later [ inl same ↦ inl same | inr never ↦ absurd never ] ], omega arith)

pub half_not_durable : IsDurable half_heard 0 513 → ⊥
half_not_durable is = elim is [ inl same ↦ elim same.1 [ inl at ↦ omega (arith, at) | inr never ↦ never ] | inr never ↦ never ]

-- so it isn't allowed
pub half_refused : RiseMayFollow setup 2 half_heard → ⊥
half_refused may = let late = (may.handled entry (inl (inl refl)) (omega arith) 0 513 (inr (inl refl))).1 in omega (arith, late)

-- Refused: that the head rises past an entry of a sealed block that wasn't handed out, of which no part is under way.
pub unhanded_refused : RiseMayFollow setup 2 (Seals (entry ∷ []) ∷ []) → ⊥
unhanded_refused may = (may.handled entry (inl (inl refl)) (omega arith) 0 512 (inl refl)).0

-- Refused: that the journal hears first what was told last. Then a part would be heard, and lie below the low point heard
-- last, that isn't durable.
abbrev pub told_twice : Trace
told_twice = Tells 0 one ∷ Sets 0 512 ∷ Tells 0 four ∷ handed

abbrev pub out_of_order : Trace
out_of_order = Hears 0 four ∷ Hears 0 one ∷ told_twice

abbrev behind : List Told → List Told
behind [] = []
behind (x ∷ xs) = xs

pub order_refused : HearMayFollow 0 one told_twice → ⊥
order_refused may = never may.0 may.1
  where
    never : (rest : List Told) → one ∷ four ∷ [] ≡ rest ++ one ∷ [] → ⊥
    never [] e = let n = ap (λ (xs : List Told). length xs) e in omega (arith, n)
    never (x ∷ []) e = let l : ◌≡◌ {A = Option ℕ} None (Some 512) = ap (λ (xs : List Told). last_low (behind xs)) e in absurd (cc)
    never (x ∷ y ∷ rest) e = let n = ap (λ (xs : List Told). length xs) e in omega (arith, n, length-append rest (one ∷ []))

pub order_matters : Has 512 (points_of (heard 0 out_of_order)) × IsBelow 512 (last_low (heard 0 out_of_order)) × (IsDurable out_of_order 0 512 → ⊥)
order_matters = (inl refl, tt, λ is. is)

-- Refused: a need of a half that adds. Else all may be still while the entry at that point waits: its other half is dirty, and
-- lies above the need.
abbrev pub even : Trace
even = Learns 0 512 ∷ Needs 512 ∷ half_heard

pub even_refused : MayFollow setup (Needs 512) half_heard → ⊥
even_refused may = omega (arith, may)

pub even_still : IsStill setup even
even_still = record {
  all_handed = refl;
  all_set = set_of;
  all_told = told_of;
  all_heard = heard_of;
  low_now = low_of;
  no_writing = idle_of;
  all_learned = λ z inside. learned_of z inside;
  begins = λ z inside idle p is most. begins_of z p inside is most;
}
  where
    set_of : (z p : ℕ) → IsHanded even z p → IsSet even z p
    set_of z p is = elim (eqb_tells 0 z) [
      | inl same ↦ elim (rw same.0 at is) [
        | inl has ↦ elim has [
          | inl at ↦ inr (inl (same.1, at))
          | inr later ↦ elim later [ inl at ↦ inl (same.1, at) | inr never ↦ absurd never ]
        ]
        | inr never ↦ absurd never
      ]
      | inr other ↦ elim (rw other.0 at is) [ inl never ↦ absurd never | inr never ↦ absurd never ]
    ]

    told_of : (z p : ℕ) → IsSet even z p → Has p (points_of (told z even))
    told_of z p is = elim is [
      | inl same ↦ subst (λ (n : ℕ). Has p (points_of (told n even))) same.0 (inl same.1)
      | inr older ↦ elim older [ inl same ↦ subst (λ (n : ℕ). Has p (points_of (told n even))) same.0 (inr (inl same.1)) | inr never ↦ absurd never ]
    ]

    heard_of : (z : ℕ) → told z even ≡ heard z even
    heard_of z = elim (eqb_tells 0 z) [ inl same ↦ rw same.0 refl | inr other ↦ rw other.0 refl ]

    low_of : (z : ℕ) → IfSome (last_low (told z even)) (λ q. IsSet even z q × (IsDurable even z q → ⊥))
    low_of z = elim (eqb_tells 0 z) [
      | inl same ↦ rw same.0 (inl (same.1, refl), λ is. elim is [ inl this ↦ elim this.1 [ inl at ↦ omega (arith, at) | inr never ↦ never ] | inr never ↦ never ])
      | inr other ↦ rw other.0 tt
    ]

    idle_of : (z : ℕ) → is_writing z even ≡ false
    idle_of z = elim (eqb_tells 0 z) [ inl same ↦ rw same.0 refl | inr other ↦ rw other.0 refl ]

    learned_of : (z : ℕ) → z < 1 → needed even ≤ learned z even
    learned_of z inside = let zeroth : 0 ≡ z = omega (arith, inside) in subst (λ (n : ℕ). needed even ≤ learned n even) zeroth (omega arith)

    begins_of : (z p : ℕ) → z < 1 → IsSet even z p → p ≤ learned z even → IsDurable even z p
    begins_of z p inside is most =
        let zeroth : z ≡ 0 = omega (arith, inside) in
        let least : p ≤ 512 = subst (λ (n : ℕ). p ≤ learned n even) zeroth most in
        elim is [
          | inl same ↦ absurd (omega (arith, same.1, least))
          | inr older ↦ elim older [ inl same ↦ inl (same.0, inl same.1) | inr never ↦ absurd never ]
        ]

pub even_waits : (entry.at ≤ needed even) × (watermark setup 0 even ≡ entry.at)
even_waits = (omega arith, refl)
