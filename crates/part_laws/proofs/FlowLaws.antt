-- The journal hears from its inbox what a zone told, in its order.
use Rattle.std.proofs.Common.{◌≡◌, ℕ, inl, inr, List, [], ◌∷◌, ◌++◌, reverse, refl, ap, sym, ◌∙◌, append_assoc}
use Rattle.std.proofs.lemmas.List.{reverse-reverse, reverse-append}
use Rattle.std.proofs.lemmas.Bool.Decides.{eqb_tells}
use Rattle.part_laws.specs.Parts.{Told}
use Rattle.part_laws.specs.Trace.{Tells, Hears, Trace, told, heard}
use Rattle.part_laws.specs.RightTraces.{HearMayFollow}
use Rattle.part_laws.specs.Flows.{Flows}

-- of a list written from its end
turned : (xs ys zs : List Told) → reverse xs ≡ reverse ys ++ zs → xs ≡ reverse zs ++ ys
turned xs ys zs same =
    sym (reverse-reverse xs) ∙ ap (λ (l : List Told). reverse l) same ∙ reverse-append (reverse ys) zs ∙ ap (λ (l : List Told). reverse zs ++ l) (reverse-reverse ys)

reverse_first : (x : Told) (xs : List Told) → reverse (x ∷ xs) ≡ reverse xs ++ x ∷ []
reverse_first x xs = reverse-append (x ∷ []) xs

-- the first in the inbox is the next that it hears
pub next_heard : (z : ℕ) (t : Trace) (x : Told) (inbox lane : List Told) → Flows z t (x ∷ inbox) lane → HearMayFollow z x t
next_heard z t x inbox lane flows =
    let whole = turned (told z t) (heard z t) (x ∷ (inbox ++ lane)) flows in (
      reverse (inbox ++ lane),
      whole ∙ ap (λ (l : List Told). l ++ heard z t) (reverse_first x (inbox ++ lane)) ∙ append_assoc (reverse (inbox ++ lane)) (x ∷ []) (heard z t),
    )

-- hearing it, moving what is in the lane, and telling go on so
pub flows_heard : (z : ℕ) (t : Trace) (x : Told) (inbox lane : List Told) → Flows z t (x ∷ inbox) lane → Flows z (Hears z x ∷ t) inbox lane
flows_heard z t x inbox lane flows = elim (eqb_tells z z) [
  | inl same ↦ rw same.0 (flows ∙ sym (append_assoc (reverse (heard z t)) (x ∷ []) (inbox ++ lane)) ∙ ap (λ (l : List Told). l ++ (inbox ++ lane)) (sym (reverse_first x (heard z t))))
  | inr other ↦ absurd (other.1 refl)
]

pub flows_moved : (z : ℕ) (t : Trace) (inbox moved lane : List Told) → Flows z t inbox (moved ++ lane) → Flows z t (inbox ++ moved) lane
flows_moved z t inbox moved lane flows = flows ∙ ap (λ (l : List Told). reverse (heard z t) ++ l) (sym (append_assoc inbox moved lane))

pub flows_told : (z : ℕ) (t : Trace) (x : Told) (inbox lane : List Told) → Flows z t inbox lane → Flows z (Tells z x ∷ t) inbox (lane ++ x ∷ [])
flows_told z t x inbox lane flows = elim (eqb_tells z z) [
  | inl same ↦ rw same.0 (reverse_first x (told z t) ∙ ap (λ (l : List Told). l ++ x ∷ []) flows
      ∙ append_assoc (reverse (heard z t)) (inbox ++ lane) (x ∷ [])
      ∙ ap (λ (l : List Told). reverse (heard z t) ++ l) (append_assoc inbox lane (x ∷ [])))
  | inr other ↦ absurd (other.1 refl)
]

-- when nothing is under way, all that was told is heard
pub flows_still : (z : ℕ) (t : Trace) → Flows z t [] [] → told z t ≡ heard z t
flows_still z t flows = turned (told z t) (heard z t) [] flows
