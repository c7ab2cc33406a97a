-- What is noted of a stream's requests, line after line of a desk log.
use Rattle.std.specs.Prelude.{ℕ, ◌≡◌, ◌≢◌, ◌<◌, ◌+◌, ◌==◌, true, false, suc, List, [], ◌∷◌, length, get_or, set, take, reverse, slice_get, Option, Some, None, refl}
use Rattle.std.proofs.Common.{sym, ◌∙◌, ap, subst, arith, inl, inr}
use Rattle.std.proofs.Math.Seq.{take-suc}
use Rattle.std.proofs.lemmas.Bool.Decides.{eqb_tells}
use Rattle.std.proofs.lemmas.Grind.{get_or-set_at}
use Rattle.std.proofs.lemmas.List.{length-set, get_or-set_other, get_or_default, reverse-append}
use Rattle.blk_base.specs.declared.request.Answer.{Answer as Reply}
use Rattle.blk_base.specs.declared.request.Writer.{Writer}
use Rattle.blk_base.specs.Forms.{writer}
use Rattle.vdo_model.specs.declared.report.DeskLine.{DeskLine}
use Rattle.vdo_model.specs.declared.report.DeskLine.TheVariants.{Begin, Answer}
use Rattle.vdo_model.specs.declared.report.Placed.{Placed}
use Rattle.vdo_model.specs.DeskLog.{answer_of}
use Rattle.vdo_model.specs.Places.{place_of}
use Rattle.std.proofs.lemmas.Option.{get_or_from_slice_get, slice_get-get_or}
use Rattle.vdo_model.specs.Notes.{IsNewestAnswer, NotesAnswer, NotesAnswers, NotesPlaces}

-- the lines that were looked at, and one more
pub one_more : {X : Type 0} (xs : List X) (n : ℕ) (x : X) → n < length xs → x ≡ get_or xs n x → reverse (take (n + 1) xs) ≡ x ∷ reverse (take n xs)
one_more {X} xs n x within is =
    let next : n + 1 ≡ suc n = omega arith in
    ap (λ (k : ℕ). reverse (take k xs)) next
    ∙ ap (λ (t : List X). reverse t) (take-suc xs n x within)
    ∙ reverse-append (take n xs) (get_or xs n x ∷ [])
    ∙ ap (λ (y : X). y ∷ reverse (take n xs)) (sym is)

kept : (lines older more : List DeskLine) (w : Writer) (noted : Option ℕ) → answer_of more w ≡ answer_of older w → NotesAnswer lines older w noted
    → NotesAnswer lines more w noted
kept lines older more w None same is = same ∙ is
kept lines older more w (Some at) same is = record { by = is.by; answer = is.answer; there = is.there; newest = same ∙ is.newest }

-- a line that answers no request
pub notes-begin : (lines older : List DeskLine) (stream : ℕ) (notes : List (Option ℕ)) (by : Writer) → NotesAnswers lines older stream notes
    → NotesAnswers lines (Begin by ∷ older) stream notes
notes-begin lines older stream notes by is = λ n within. kept lines older (Begin by ∷ older) (writer stream n) (get_or notes n None) refl (is n within)

-- a line that answers a request of another stream
pub notes-other : (lines older : List DeskLine) (stream : ℕ) (notes : List (Option ℕ)) (by : Writer) (answer : Reply) → by.stream ≢ stream
    → NotesAnswers lines older stream notes → NotesAnswers lines (Answer by answer ∷ older) stream notes
notes-other lines older stream notes by answer ne is = λ n within.
    kept lines older (Answer by answer ∷ older) (writer stream n) (get_or notes n None) (passed n) (is n within)
  where
    passed : (n : ℕ) → answer_of (Answer by answer ∷ older) (writer stream n) ≡ answer_of older (writer stream n)
    passed n = elim (eqb_tells by.stream stream) [ inl same ↦ absurd (ne same.1) | inr other ↦ rw other.0 refl ]

-- a line that answers a request of the stream
pub notes-answer : (lines older : List DeskLine) (stream : ℕ) (notes : List (Option ℕ)) (by : Writer) (answer : Reply) (at : ℕ) → by.stream ≡ stream
    → slice_get lines at ≡ Some (Answer by answer)
    → NotesAnswers lines older stream notes → NotesAnswers lines (Answer by answer ∷ older) stream (set notes by.number (Some at))
notes-answer lines older stream notes by answer at own there is = λ n within.
    let room : n < length notes = omega (arith, length-set notes by.number (Some at)) in
    elim (eqb_tells by.number n) [
      | inl same ↦
          let here : get_or (set notes by.number (Some at)) n None ≡ Some at = get_or-set_at notes by.number n (Some at) None (sym same.1) (omega (arith, same.1)) in
          subst (λ (noted : Option ℕ). NotesAnswer lines (Answer by answer ∷ older) (writer stream n) noted) (sym here)
          (record { by = by; answer = answer; there = there; newest = found n same.0 })
      | inr other ↦
          let here : get_or (set notes by.number (Some at)) n None ≡ get_or notes n None =
          get_or-set_other notes by.number n (Some at) None (λ same. other.1 (sym same)) in
          subst (λ (noted : Option ℕ). NotesAnswer lines (Answer by answer ∷ older) (writer stream n) noted) (sym here)
          (kept lines older (Answer by answer ∷ older) (writer stream n) (get_or notes n None) (passed n other.0) (is n room))
    ]
  where
    found : (n : ℕ) → (by.number == n) ≡ true → answer_of (Answer by answer ∷ older) (writer stream n) ≡ Some answer
    found n same = elim (eqb_tells by.stream stream) [ inl taken ↦ rw (taken.0, same) refl | inr other ↦ absurd (other.1 own) ]

    passed : (n : ℕ) → (by.number == n) ≡ false → answer_of (Answer by answer ∷ older) (writer stream n) ≡ answer_of older (writer stream n)
    passed n other = elim (eqb_tells by.stream stream) [ inl taken ↦ rw (taken.0, other) refl | inr apart ↦ rw apart.0 refl ]

-- a place of a request of another stream
pub places-other : (older : List Placed) (stream : ℕ) (notes : List (Option Placed)) (placed : Placed) → placed.request.stream ≢ stream
    → NotesPlaces older stream notes → NotesPlaces (placed ∷ older) stream notes
places-other older stream notes placed ne is = λ n within. is n within ∙ sym (passed n)
  where
    passed : (n : ℕ) → place_of (placed ∷ older) (writer stream n) ≡ place_of older (writer stream n)
    passed n = elim (eqb_tells placed.request.stream stream) [ inl same ↦ absurd (ne same.1) | inr other ↦ rw other.0 refl ]

-- a place of a request of the stream
pub places-own : (older : List Placed) (stream : ℕ) (notes : List (Option Placed)) (placed : Placed) → placed.request.stream ≡ stream
    → NotesPlaces older stream notes → NotesPlaces (placed ∷ older) stream (set notes placed.request.number (Some placed))
places-own older stream notes placed own is = λ n within.
    let room : n < length notes = omega (arith, length-set notes placed.request.number (Some placed)) in
    elim (eqb_tells placed.request.number n) [
      | inl same ↦ get_or-set_at notes placed.request.number n (Some placed) None (sym same.1) (omega (arith, same.1)) ∙ sym (found n same.0)
      | inr other ↦ get_or-set_other notes placed.request.number n (Some placed) None (λ same. other.1 (sym same)) ∙ is n room ∙ sym (passed n other.0)
    ]
  where
    found : (n : ℕ) → (placed.request.number == n) ≡ true → place_of (placed ∷ older) (writer stream n) ≡ Some placed
    found n same = elim (eqb_tells placed.request.stream stream) [ inl taken ↦ rw (taken.0, same) refl | inr other ↦ absurd (other.1 own) ]

    passed : (n : ℕ) → (placed.request.number == n) ≡ false → place_of (placed ∷ older) (writer stream n) ≡ place_of older (writer stream n)
    passed n other = elim (eqb_tells placed.request.stream stream) [ inl taken ↦ rw (taken.0, other) refl | inr apart ↦ rw apart.0 refl ]

abbrev answer_in : DeskLine → Option Reply
answer_in (Begin by) = None
answer_in (Answer by answer) = Some answer

-- what stands where the note says is the newest answer
pub noted_answer : (lines older : List DeskLine) (w : Writer) (noted : Option ℕ) (at : ℕ) (line : DeskLine) (by : Writer) (answer : Reply) → noted ≡ Some at
    → NotesAnswer lines older w noted → line ≡ get_or lines at line → line ≡ Answer by answer → answer_of older w ≡ Some answer
noted_answer lines older w noted at line by answer is right there said =
    let newest : IsNewestAnswer lines older w at = rw is at right in
    newest.newest
    ∙ ap answer_in (sym (get_or_from_slice_get lines at (Answer newest.by newest.answer) line newest.there) ∙ sym there ∙ said)

-- what is noted of a request that isn't answered
pub noted_none : (lines older : List DeskLine) (w : Writer) (noted : Option ℕ) → noted ≡ None → NotesAnswer lines older w noted → answer_of older w ≡ None
noted_none lines older w noted is right = rw is at right

-- a line, as it is found by its number
pub line_there : (lines : List DeskLine) (at : ℕ) (line : DeskLine) → at < length lines → line ≡ get_or lines at line → slice_get lines at ≡ Some line
line_there lines at line within is = slice_get-get_or lines at line within ∙ ap Some (sym is)

-- what is noted of a line, by what it is
pub step-begin : (lines older : List DeskLine) (stream : ℕ) (notes now : List (Option ℕ)) (line : DeskLine) (by : Writer) → line ≡ Begin by → now ≡ notes
    → NotesAnswers lines older stream notes → NotesAnswers lines (line ∷ older) stream now
step-begin lines older stream notes now line by is same before = rw (is, same) (notes-begin lines older stream notes by before)

pub step-other : (lines older : List DeskLine) (stream : ℕ) (notes now : List (Option ℕ)) (line : DeskLine) (by : Writer) (answer : Reply) → line ≡ Answer by answer
    → by.stream ≢ stream → now ≡ notes → NotesAnswers lines older stream notes → NotesAnswers lines (line ∷ older) stream now
step-other lines older stream notes now line by answer is ne same before = rw (is, same) (notes-other lines older stream notes by answer ne before)

pub step-answer : (lines older : List DeskLine) (stream : ℕ) (notes now : List (Option ℕ)) (line : DeskLine) (by : Writer) (answer : Reply) (at : ℕ)
    → line ≡ Answer by answer → by.stream ≡ stream → slice_get lines at ≡ Some line → now ≡ set notes by.number (Some at)
    → NotesAnswers lines older stream notes → NotesAnswers lines (line ∷ older) stream now
step-answer lines older stream notes now line by answer at is own there same before =
    rw (is, same) (notes-answer lines older stream notes by answer at own (there ∙ ap Some is) before)

-- what is noted of the next place
pub step-placed : (places : List Placed) (n stream : ℕ) (notes now : List (Option Placed)) (other : Placed) → n < length places
    → (get_or places n other).request.stream ≡ stream → now ≡ set notes (get_or places n other).request.number (Some (get_or places n other))
    → NotesPlaces (reverse (take n places)) stream notes → NotesPlaces (reverse (take (n + 1) places)) stream now
step-placed places n stream notes now other within own same before =
    rw (one_more places n (get_or places n other) within (get_or_default places n other (get_or places n other) within), same)
    (places-own (reverse (take n places)) stream notes (get_or places n other) own before)

pub step-passed : (places : List Placed) (n stream : ℕ) (notes now : List (Option Placed)) (other : Placed) → n < length places
    → (get_or places n other).request.stream ≢ stream → now ≡ notes
    → NotesPlaces (reverse (take n places)) stream notes → NotesPlaces (reverse (take (n + 1) places)) stream now
step-passed places n stream notes now other within ne same before =
    rw (one_more places n (get_or places n other) within (get_or_default places n other (get_or places n other) within), same)
    (places-other (reverse (take n places)) stream notes (get_or places n other) ne before)
