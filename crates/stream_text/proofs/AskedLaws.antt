-- A line with five words or more.
use Rattle.std.specs.Prelude.{ℕ, ◌≡◌, ◌==◌, Bool, true, false, List, [], ◌∷◌, Err, if◌then◌else◌, refl}
use Rattle.std.specs.List.{onto_first}
use Rattle.std.proofs.Common.{◌∙◌, ap}
use Rattle.stream_text.specs.LineGrammar.{asked_of_words, words_of, asked_of_line}
use Rattle.stream_text.specs.declared.refusal.LineFault.TheVariants.{Word}

five : (one two three four : List ℕ) (byte : ℕ) (words : List (List ℕ)) → asked_of_words (one ∷ two ∷ three ∷ four ∷ onto_first byte words) ≡ Err Word
five one two three four byte [] = refl
five one two three four byte (word ∷ words) = refl

five_if : (one two three four : List ℕ) (byte : ℕ) (space : Bool) (words : List (List ℕ))
    → asked_of_words (one ∷ two ∷ three ∷ four ∷ (if space then [] ∷ words else onto_first byte words)) ≡ Err Word
five_if one two three four byte true words = refl
five_if one two three four byte false words = five one two three four byte words

many : (one two three four rest : List ℕ) → asked_of_words (one ∷ two ∷ three ∷ four ∷ words_of rest) ≡ Err Word
many one two three four [] = refl
many one two three four (byte ∷ rest) = five_if one two three four byte (byte == 32) (words_of rest)

pub asked-many : (line one two three four rest rest2 rest3 rest4 : List ℕ) → words_of line ≡ one ∷ words_of rest → words_of rest ≡ two ∷ words_of rest2
    → words_of rest2 ≡ three ∷ words_of rest3 → words_of rest3 ≡ four ∷ words_of rest4 → asked_of_line line ≡ Err Word
asked-many line one two three four rest rest2 rest3 rest4 first second third fourth =
    ap asked_of_words (first ∙ ap (λ w. one ∷ w) (second ∙ ap (λ w. two ∷ w) (third ∙ ap (λ w. three ∷ w) fourth)))
    ∙ many one two three four rest4
