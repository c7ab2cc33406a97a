-- A word of an option as clap cuts it and as the definition does.
use Rattle.std.specs.Prelude.{ℕ, ◌≡◌, ◌<◌, ◌+◌, ◌==◌, ◌&&◌, Bool, true, false, List, [], ◌∷◌, length, take, drop, Option, Some, None, if◌then◌else◌, refl, zero, suc}
use Rattle.std.specs.List.{position_or_len}
use Rattle.std.specs.Str.{bytes_eq}
use Rattle.std.specs.Option.{is_some}
use Rattle.std.proofs.Common.{◌∙◌, ◌⊎◌, inl, inr, ap, ap₂, sym, arith, true≢false}
use Rattle.std.proofs.Math.Seq.{take-length}
use Rattle.std.proofs.lemmas.Bool.Decides.{nat_tests}
use Rattle.clap.specs.Lexer.{has_byte, long_of, name_and_value}
use Rattle.vdo_words.specs.Given.{Given, cut}
use Rattle.vdo_words.specs.OptionMatches.{is_flag, long}
use Rattle.vdo_words.specs.Options.{accepts, number_of, spelling}
use Rattle.vdo_words.specs.declared.option_names.OptionName.{OptionName}
use Rattle.vdo_words.specs.declared.option_names.OptionName.TheVariants.{Logical, Slabs, Threads}

abbrev sign : List ℕ → ℕ
sign text = position_or_len (λ byte. byte == 61) text

-- the equals sign stands within a text, or there is none
abbrev Stands : List ℕ → Type 0
Stands text = ((has_byte 61 text ≡ true) × (sign text < length text)) ⊎ ((has_byte 61 text ≡ false) × (sign text ≡ length text))

found : (text : List ℕ) → Stands text
found [] = inr (refl, refl)
found (byte ∷ text) = go (byte == 61) refl (found text)
  where
    go : (is : Bool) → (byte == 61) ≡ is → Stands text → Stands (byte ∷ text)
    go true is rest = inl (rw is refl, rw is (omega arith))
    go false is (inl inside) = inl (rw is inside.0, rw is (omega arith))
    go false is (inr outside) = inr (rw is outside.0, rw is (omega arith))

cut-at : (n k : ℕ) (text : List ℕ) → k ≡ suc (suc n)
    → ◌≡◌ {A = Given} (take k (45 ∷ 45 ∷ text), Some (drop (k + 1) (45 ∷ 45 ∷ text))) (45 ∷ 45 ∷ take n text, Some (drop (n + 1) text))
cut-at n k text is =
    let more : k + 1 ≡ suc (suc (n + 1)) = omega arith in
    ap₂ (λ i j. (take i (45 ∷ 45 ∷ text), Some (drop j (45 ∷ 45 ∷ text)))) is more

-- behind two hyphens clap cuts a word where the definition does
cut-long : (text : List ℕ) → cut (45 ∷ 45 ∷ text) ≡ (45 ∷ 45 ∷ (name_and_value text).0, (name_and_value text).1)
cut-long text =
    let n = sign text in
    elim (found text) [
      | inl inside ↦
          let more : (1 + (1 + n) == length (45 ∷ 45 ∷ text)) ≡ false = grind (arith, nat_tests, inside.1) in
          rw (inside.0, more) (cut-at n (1 + (1 + n)) text (omega arith))
      | inr outside ↦
          let last : (1 + (1 + n) == length (45 ∷ 45 ∷ text)) ≡ true = grind (arith, nat_tests, outside.1) in
          let whole : take n text ≡ text = rw outside.1 (take-length text) in
          rw (outside.0, last) (ap (λ t. (45 ∷ 45 ∷ t, None)) (sym whole))
    ]

-- what gives an option's name begins with two hyphens
taken : (k : ℕ) (word name : List ℕ) → take k word ≡ 45 ∷ 45 ∷ name → (text : List ℕ) × (word ≡ 45 ∷ 45 ∷ text)
taken zero word name is = let bad : ⊥ = cc in absurd bad
taken (suc k) [] name is = let bad : ⊥ = cc in absurd bad
taken (suc zero) (x ∷ word) name is = let bad : ⊥ = cc in absurd bad
taken (suc (suc k)) (x ∷ []) name is = let bad : ⊥ = cc in absurd bad
taken (suc (suc k)) (x ∷ y ∷ word) name is =
    let first : x ≡ 45 = cc in
    let second : y ≡ 45 = cc in
    (word, rw (first, second) refl)

begins : (word name : List ℕ) → (cut word).0 ≡ 45 ∷ 45 ∷ name → (text : List ℕ) × (word ≡ 45 ∷ 45 ∷ text)
begins word name is = go (sign word == length word) is
  where
    go : (whole : Bool) → (if◌then◌else◌ {A = Given} whole (word, None) (take (sign word) word, Some (drop (sign word + 1) word))).0 ≡ 45 ∷ 45 ∷ name
        → (text : List ℕ) × (word ≡ 45 ∷ 45 ∷ text)
    go true is = (name, is)
    go false is = taken (sign word) word name is

-- of a word that gives an option's name clap cuts off that name
pub long-word : (word name : List ℕ) → (cut word).0 ≡ 45 ∷ 45 ∷ name → bytes_eq name [] ≡ false
    → (long_of word ≡ Some (name, (cut word).1)) × (bytes_eq word (45 ∷ 45 ∷ []) ≡ false)
long-word word name is some = let begun = begins word name is in go begun.0 begun.1
  where
    go : (text : List ℕ) → word ≡ 45 ∷ 45 ∷ text → (long_of word ≡ Some (name, (cut word).1)) × (bytes_eq word (45 ∷ 45 ∷ []) ≡ false)
    go [] at =
        let whole : 45 ∷ 45 ∷ [] ≡ 45 ∷ 45 ∷ name = rw at at is in
        let empty : name ≡ [] = cc in
        let bad : true ≡ false = rw empty at some in
        absurd (true≢false bad)
    go (x ∷ text) at =
        let both : cut word ≡ (45 ∷ 45 ∷ (name_and_value (x ∷ text)).0, (name_and_value (x ∷ text)).1) = ap cut at ∙ cut-long (x ∷ text) in
        let joined : 45 ∷ 45 ∷ (name_and_value (x ∷ text)).0 ≡ 45 ∷ 45 ∷ name = sym (ap (λ (option : Given). option.0) both) ∙ is in
        let same : (name_and_value (x ∷ text)).0 ≡ name = cc in
        (ap long_of at ∙ ap₂ (λ one other. Some (one, other)) same (sym (ap (λ (option : Given). option.1) both)), rw at refl)

pub spelled : (name : OptionName) → spelling name ≡ 45 ∷ 45 ∷ long name
spelled Logical = refl
spelled Slabs = refl
spelled other = refl

pub named : (name : OptionName) → bytes_eq (long name) [] ≡ false
named Logical = refl
named Slabs = refl
named other = refl

-- which value an option may have: a number or, the flag, none
pub accepted-text : (name : OptionName) (text : List ℕ) → accepts name (Some text) ≡ true → (is_flag name ≡ false) × (is_some (number_of name text) ≡ true)
accepted-text Threads text is = absurd (true≢false (sym is))
accepted-text Logical text is = (refl, is)
accepted-text other text is = (refl, is)

pub accepted : (name : OptionName) (value : Option (List ℕ)) → accepts name value ≡ true
    → ((is_flag name ≡ true) × (value ≡ None)) ⊎ ((is_flag name ≡ false) × (text : List ℕ) × (value ≡ Some text))
accepted name (Some text) is = inr ((accepted-text name text is).0, text, refl)
accepted Threads None is = inl (refl, refl)
accepted Logical None is = absurd (true≢false (sym is))
accepted other None is = absurd (true≢false (sym is))

hyphen-refused : (short above below : Bool) (value : ℕ) → is_some (if◌then◌else◌ {A = Option ℕ} ((short && false) && above && below) (Some value) None) ≡ true → ⊥
hyphen-refused true above below value is = true≢false (sym is)
hyphen-refused false above below value is = true≢false (sym is)

-- a number begins with a digit, which is no hyphen
pub digit-first : (name : OptionName) (text : List ℕ) → is_some (number_of name text) ≡ true
    → (digit : ℕ) × (digits : List ℕ) × (text ≡ digit ∷ digits) × ((digit == 45) ≡ false)
digit-first name [] is = absurd (true≢false (sym is))
digit-first name (digit ∷ digits) is = go (digit == 45) refl
  where
    go : (hyphen : Bool) → (digit == 45) ≡ hyphen → (d : ℕ) × (ds : List ℕ) × (digit ∷ digits ≡ d ∷ ds) × ((d == 45) ≡ false)
    go false tells = (digit, digits, refl, tells)
    go true tells =
        let hyphen : digit ≡ 45 = grind (arith, nat_tests, tells) in
        absurd (hyphen-refused _ _ _ _ (rw hyphen at is))
