-- A run as it is mostly written, which is cut in one pass.
use Rattle.std.specs.Prelude.{ℕ, ◌≡◌, ◌≢◌, ◌<◌, ◌≤◌, ◌+◌, suc, true, List, [], ◌∷◌, length, take, drop, get_or, Result}
use Rattle.std.specs.Char.{is_ascii_digit}
use Rattle.std.proofs.Common.{sym, ◌∙◌, ap, ap₂, subst, arith, inl, inr}
use Rattle.std.proofs.lemmas.Bool.{cases_lt}
use Rattle.std.proofs.lemmas.List.{drop-take, get_or-drop, get_or-take, length-drop, length-take-le, take-take, take_all}
use Rattle.stream_text.specs.LineWords.{run_of_part, run_of_pieces}
use Rattle.stream_text.specs.PlainRuns.{BeginsPlainly, BeginsWith, IsNoSign}
use Rattle.stream_text.specs.Runs.{Run}
use Rattle.stream_text.specs.declared.refusal.LineFault.{LineFault}
use Rattle.stream_text.proofs.NumberLaws.{parts_of, parts_of-cut, parts_of-whole}

digit_no_sign : (byte : ℕ) → is_ascii_digit byte ≡ true → IsNoSign byte
digit_no_sign byte is = (
  (λ same. absurd (let on : is_ascii_digit 42 ≡ true = subst (λ (b : ℕ). is_ascii_digit b ≡ true) same is in cc)),
  (λ same. absurd (let on : is_ascii_digit 43 ≡ true = subst (λ (b : ℕ). is_ascii_digit b ≡ true) same is in cc)),
)

module _ (word : List ℕ) (at : ℕ) (plain : BeginsPlainly word at) where
  room : at + 3 ≤ length word
  room = plain.end.room

  -- none of its bytes is a plus sign
  no_plus : (k : ℕ) → k < at + 3 → get_or word k 0 ≢ 43
  no_plus k below =
      elim (cases_lt k at) [
        | inl digit ↦ (digit_no_sign _ (plain.digits k digit)).1
        | inr other ↦ elim (cases_lt k (at + 1)) [
          | inl first ↦ λ same. absurd (let here : k ≡ at = omega (arith, other, first) in let both = sym (ap (λ (j : ℕ). get_or word j 0) here ∙ plain.end.asterisk) ∙ same in omega (arith, both))
          | inr later ↦ elim (cases_lt k (at + 2)) [
            | inl second ↦ λ same. plain.end.one.1 (ap (λ (j : ℕ). get_or word j 0) (omega (arith, later, second)) ∙ same)
            | inr last ↦ λ same. plain.end.two.1 (ap (λ (j : ℕ). get_or word j 0) (omega (arith, last, below)) ∙ same)
          ]
        ]
      ]

  -- its bytes
  abbrev pub part : List ℕ
  part = take (at + 3) word

  size : length part ≡ at + 3
  size = length-take-le (at + 3) word room

  same_byte : (k : ℕ) → k < at + 3 → get_or part k 0 ≡ get_or word k 0
  same_byte k below = get_or-take (at + 3) word k 0 below

  abbrev pub digits : List ℕ
  digits = take 2 (drop (at + 1) word)

  digit_at : (k : ℕ) → k < 2 → get_or digits k 0 ≢ 42
  digit_at k below =
      let here = get_or-take 2 (drop (at + 1) word) k 0 below ∙ get_or-drop (at + 1) word k 0 in
      elim (cases_lt k 1) [
        | inl first ↦ λ same. plain.end.one.0 (ap (λ (j : ℕ). get_or word j 0) (omega (arith, first)) ∙ sym here ∙ same)
        | inr second ↦ λ same. plain.end.two.0 (ap (λ (j : ℕ). get_or word j 0) (omega (arith, second, below)) ∙ sym here ∙ same)
      ]

  digits_alone : parts_of 42 digits ≡ digits ∷ []
  digits_alone =
      let left = length-drop (at + 1) word in
      let few : length digits ≡ 2 = length-take-le 2 (drop (at + 1) word) (omega (arith, room, left)) in
      parts_of-whole 42 digits (λ k below. digit_at k (omega (arith, below, few)))

  pieces : parts_of 42 part ≡ take at word ∷ digits ∷ []
  pieces =
      let longer : at + 3 ≡ suc at + 2 = omega arith in
      let next : suc at ≡ at + 1 = omega arith in
      let behind : drop (suc at) part ≡ digits =
      ap (λ (n : ℕ). drop (suc at) (take n word)) longer ∙ drop-take (suc at) 2 word ∙ ap (λ (n : ℕ). take 2 (drop n word)) next in
      parts_of-cut 42 part at (omega (arith, size)) (λ k below same. (digit_no_sign _ (plain.digits k below)).0 (sym (same_byte k (omega (arith, below))) ∙ same))
      (same_byte at (omega arith) ∙ plain.end.asterisk)
      ∙ ap₂ (λ (count : List ℕ) (rest : List (List ℕ)). count ∷ rest) (take-take at (at + 3) word (omega arith)) (ap (parts_of 42) behind ∙ digits_alone)

  said : run_of_part part ≡ run_of_pieces (take at word ∷ digits ∷ [])
  said = ap run_of_pieces pieces

  pub plain_last : (run : Result Run LineFault) → at + 3 ≡ length word → run ≡ run_of_pieces (take at word ∷ digits ∷ []) → BeginsWith run word []
  plain_last run whole is =
      let all : part ≡ word = take_all (at + 3) word (omega (arith, whole)) in
      record {
        part = part;
        parts = parts_of-whole 43 word (λ k below. no_plus k (omega (arith, below, whole))) ∙ ap (λ (t : List ℕ). t ∷ []) (sym all);
        says = is ∙ sym said;
      }

  pub plain_next : (run : Result Run LineFault) → at + 3 < length word → run ≡ run_of_pieces (take at word ∷ digits ∷ []) → BeginsWith run word (parts_of 43 (drop (at + 4) word))
  plain_next run more is =
      let next : suc (at + 3) ≡ at + 4 = omega arith in
      record {
        part = part;
        parts = parts_of-cut 43 word (at + 3) more no_plus (plain.end.last more) ∙ ap (λ (n : ℕ). part ∷ parts_of 43 (drop n word)) next;
        says = is ∙ sym said;
      }
