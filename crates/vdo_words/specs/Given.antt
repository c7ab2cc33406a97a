-- The form of a command line: the options that its words give.
use Rattle.std.specs.Prelude.{ℕ, Bool, false, not, ◌==◌, List, [], ◌∷◌, length, codes, bytes_eq, Option, Some, None, if◌then◌else◌}
use Rattle.std.specs.List.{position_or_len, before_first, after_first}

-- an option: the word that names it, and its value if there is one
abbrev pub Given : Type 0
Given = List ℕ × Option (List ℕ)

-- one word: its value stands behind the first equals sign
abbrev pub cut : List ℕ → Given
cut word =
    if position_or_len (λ byte. byte == 61) word == length word
    then (word, None)
    else (before_first (λ byte. byte == 61) word, Some (after_first (λ byte. byte == 61) word))

-- whether the next word is its value: the flag `--threads` has none
abbrev pub awaits : Given → Bool
awaits (name, None) = not (bytes_eq name (codes "--threads"))
awaits (name, Some value) = false

-- the options that the words give
abbrev pub given : List (List ℕ) → List Given
given [] = []
given (word ∷ []) = cut word ∷ []
given (word ∷ value ∷ words) = if awaits (cut word) then ((cut word).0, Some value) ∷ given words else cut word ∷ given (value ∷ words)

-- the first option of this name
abbrev pub find : List ℕ → List Given → Option Given
find name [] = None
find name (option ∷ options) = if bytes_eq option.0 name then Some option else find name options
