-- From one place between two options to the end of the words: what clap then keeps is what the words give.
use Rattle.std.specs.Prelude.{ℕ, ◌≡◌, ◌==◌, ◌&&◌, Bool, true, false, List, [], ◌∷◌, Option, Some, None, fold, if◌then◌else◌, slice_get, refl}
use Rattle.std.specs.Str.{bytes_eq}
use Rattle.std.specs.Option.{is_none}
use Rattle.std.proofs.Common.{◌∙◌, ap, ap₂, sym, inl, inr, subst, true≢false}
use Rattle.clap.specs.Simple.{filled}
use Rattle.clap.specs.Takes.{turn_passes, walk_passes}
use Rattle.clap.specs.Walk.{Row, Rule, Text, Walk, arg_by_id, arg_by_long, first_of, walked, with_values}
use Rattle.clap.specs.Lexer.{long_of}
use Rattle.clap.specs.declared.builder.value_parser.Reading.TheVariants.{AsWritten}
use Rattle.clap.specs.declared.parser.matches.ValueSource.TheVariants.{CommandLine}
use Rattle.vdo_words.specs.Given.{Given, awaits, cut, find, given}
use Rattle.vdo_words.specs.OptionMatches.{long, rule, rule_by, text_in}
use Rattle.vdo_words.specs.Options.{are_right, is_right}
use Rattle.vdo_words.specs.declared.option_names.OptionName.{OptionName}
use Rattle.vdo_words.proofs.CommandLaws.{known, rules}
use Rattle.vdo_words.proofs.RowLaws.{first-other, first-own, first_some, first_some-none, told}
use Rattle.vdo_words.proofs.WalkLaws.{IsPending, between, flag, passes-flag, passes-option, passes-value, passes-valued, rows_of, shape, valued, walks-flag, walks-option, walks-value, walks-valued}
use Rattle.vdo_words.proofs.WordLaws.{accepted, accepted-text, digit-first, long-word, named, spelled}

pub record Reaches (all : List Rule) (rows : List Row) (pending : Option (Text × Text)) (words : List Text) (options : List Given) : Type 0 where
  pub last_rows : List Row
  pub last : Option (Text × Text)
  pub is : IsPending all last
  pub ends : fold (walked all []) (between rows pending) words ≡ between last_rows last
  pub passes : walk_passes (shape all) [] (between rows pending) words ≡ true
  pub values : (id : Text) → first_of id (rows_of all (between last_rows last))
      ≡ first_some (first_of id (rows_of all (between rows pending))) (text_in (find (45 ∷ 45 ∷ id) options))

-- one option, and those behind it
joined : (all : List Rule) (rows : List Row) (pending : Option (Text × Text)) (rows' : List Row) (pending' : Option (Text × Text)) (words rest : List Text) (options : List Given)
    → (name : Text) (value : Option Text) (values : List Text) → slice_get values 0 ≡ value → find (45 ∷ 45 ∷ name) options ≡ None
    → rows_of all (between rows' pending') ≡ with_values name AsWritten CommandLine values (rows_of all (between rows pending))
    → fold (walked all []) (between rows pending) words ≡ fold (walked all []) (between rows' pending') rest
    → walk_passes (shape all) [] (between rows pending) words ≡ walk_passes (shape all) [] (between rows' pending') rest
    → Reaches all rows' pending' rest options → Reaches all rows pending words ((45 ∷ 45 ∷ name, value) ∷ options)
joined all rows pending rows' pending' words rest options name value values first once kept walks passes reached = record {
  last_rows = reached.last_rows;
  last = reached.last;
  is = reached.is;
  ends = walks ∙ reached.ends;
  passes = passes ∙ reached.passes;
  values = λ id.
      let before = first_of id (rows_of all (between rows pending)) in
      elim (told name id) [
        | inl same ↦
            let own : first_of id (with_values name AsWritten CommandLine values (rows_of all (between rows pending))) ≡ first_some before value =
            ap (λ (text : Text). first_of id (with_values text AsWritten CommandLine values (rows_of all (between rows pending)))) same.1
            ∙ first-own AsWritten values id (rows_of all (between rows pending)) ∙ ap (first_some before) first in
            let none : text_in (find (45 ∷ 45 ∷ id) options) ≡ None = ap (λ (text : Text). text_in (find (45 ∷ 45 ∷ text) options)) (sym same.1) ∙ ap text_in once in
            reached.values id ∙ ap (λ o. first_some o (text_in (find (45 ∷ 45 ∷ id) options))) (ap (first_of id) kept ∙ own)
            ∙ ap (first_some (first_some before value)) none ∙ first_some-none _ ∙ rw same.0 refl
        | inr other ↦
            reached.values id ∙ ap (λ o. first_some o (text_in (find (45 ∷ 45 ∷ id) options)))
            (ap (first_of id) kept ∙ first-other AsWritten values name id (rows_of all (between rows pending)) other) ∙ rw other refl
      ];
}

both : (one other : Bool) → (one && other) ≡ true → (one ≡ true) × (other ≡ true)
both true other is = (refl, is)
both false other is = absurd (true≢false (sym is))

parts : (names : List OptionName) (option : Given) (options : List Given) → are_right names (option ∷ options) ≡ true
    → (is_right names option ≡ true) × (is_none (find option.0 options) ≡ true) × (are_right names options ≡ true)
parts names option options right =
    let last = both _ _ right in
    let first = both _ _ last.0 in
    (first.0, first.1, last.1)

nothing : {X : Type 0} (found : Option X) → is_none found ≡ true → found ≡ None
nothing None is = refl
nothing (Some x) is = absurd (true≢false (sym is))

-- one word that passes
passing : (all : List Rule) (walk walk' : Walk) (word : Text) (rest : List Text) → turn_passes (shape all) [] walk word ≡ true → walked all [] walk word ≡ walk'
    → walk_passes (shape all) [] walk (word ∷ rest) ≡ walk_passes (shape all) [] walk' rest
unfolding walk_passes
passing all walk walk' word rest turn walks = rw (turn, walks) refl

abbrev Later : List Rule → List Text → List Given → Type 0
Later all rest options = (rows : List Row) (pending : Option (Text × Text)) → IsPending all pending → Reaches all rows pending rest options

module _ (all : List Rule) (rows : List Row) (pending : Option (Text × Text)) (is : IsPending all pending) (word name : Text) (rest : List Text) (options : List Given)
    (once : find (45 ∷ 45 ∷ name) options ≡ None) (later : Later all rest options) (two : bytes_eq word (45 ∷ 45 ∷ []) ≡ false) where
  as-option : (value : Text) → long_of word ≡ Some (name, Some value) → arg_by_long all name ≡ Some (valued name) → Reaches all rows pending (word ∷ rest) ((45 ∷ 45 ∷ name, Some value) ∷ options)
  as-option value read found =
      let walks = walks-valued all rows pending word name value read two found in
      let passes = passes-valued all rows pending is word name value read two found in
      joined all rows pending _ None (word ∷ rest) rest options name (Some value) (value ∷ []) refl once refl
      (ap (λ walk. fold (walked all []) walk rest) walks) (passing all _ _ word rest passes walks) (later _ None tt)

  as-flag : long_of word ≡ Some (name, None) → arg_by_long all name ≡ Some (flag name) → Reaches all rows pending (word ∷ rest) ((45 ∷ 45 ∷ name, None) ∷ options)
  as-flag read found =
      let walks = walks-flag all rows pending word name read two found in
      let passes = passes-flag all rows pending is word name read two found in
      joined all rows pending _ None (word ∷ rest) rest options name None [] refl once refl
      (ap (λ walk. fold (walked all []) walk rest) walks) (passing all _ _ word rest passes walks) (later _ None tt)

  as-two : (digit : ℕ) (digits : Text) → (digit == 45) ≡ false → long_of word ≡ Some (name, None) → arg_by_long all name ≡ Some (valued name) → arg_by_id all name ≡ Some (valued name)
      → Reaches all rows pending (word ∷ (digit ∷ digits) ∷ rest) ((45 ∷ 45 ∷ name, Some (digit ∷ digits)) ∷ options)
  as-two digit digits no-hyphen read found by-id =
      let value = digit ∷ digits in
      let before = rows_of all (between rows pending) in
      let walks = walks-option all rows pending word name read two found in
      let passes = passes-option all rows pending is word name read two found in
      let walks' = walks-value all before name digit digits no-hyphen by-id in
      let passes' = passes-value all before name digit digits no-hyphen in
      joined all rows pending before (Some (name, value)) (word ∷ value ∷ rest) rest options name (Some value) (value ∷ []) refl once (rw by-id refl)
      (ap (λ walk. fold (walked all []) walk (value ∷ rest)) walks ∙ ap (λ walk. fold (walked all []) walk rest) walks')
      (passing all _ _ word (value ∷ rest) passes walks ∙ passing all _ _ value rest passes' walks') (later before (Some (name, value)) by-id)

-- a word that is an option whole: with its value, or the flag
whole : (names : List OptionName) (rows : List Row) (pending : Option (Text × Text)) (word : Text) (rest : List Text) (options : List Given) → IsPending (rules names) pending
    → is_right names (cut word) ≡ true → is_none (find (cut word).0 options) ≡ true → Later (rules names) rest options
    → Reaches (rules names) rows pending (word ∷ rest) (cut word ∷ options)
whole names rows pending word rest options is right once later =
    let all = rules names in
    let option = known names (cut word) right in
    let name = long option.0 in
    let named-so : (cut word).0 ≡ 45 ∷ 45 ∷ name = option.1 ∙ spelled option.0 in
    let read = long-word word name named-so (named option.0) in
    let none : find (45 ∷ 45 ∷ name) options ≡ None = nothing _ (subst (λ (text : Text). is_none (find text options) ≡ true) named-so once) in
    elim (accepted option.0 (cut word).1 option.2) [
      | inl alone ↦
          subst (λ (one : Given). Reaches all rows pending (word ∷ rest) (one ∷ options)) (sym (ap₂ (λ text value. (text, value)) named-so alone.1))
          (as-flag all rows pending is word name rest options none later read.1 (read.0 ∙ ap (λ value. Some (name, value)) alone.1)
          (option.3 ∙ ap (λ alone. Some (filled (rule_by alone name))) alone.0))
      | inr with-one ↦
          subst (λ (one : Given). Reaches all rows pending (word ∷ rest) (one ∷ options)) (sym (ap₂ (λ text value. (text, value)) named-so with-one.2))
          (as-option all rows pending is word name rest options none later read.1 with-one.1 (read.0 ∙ ap (λ value. Some (name, value)) with-one.2)
          (option.3 ∙ ap (λ alone. Some (filled (rule_by alone name))) with-one.0))
    ]

-- an option whose value is the next word
parted : (names : List OptionName) (rows : List Row) (pending : Option (Text × Text)) (word value : Text) (rest : List Text) (options : List Given) → IsPending (rules names) pending
    → (cut word).1 ≡ None → is_right names ((cut word).0, Some value) ≡ true → is_none (find (cut word).0 options) ≡ true → Later (rules names) rest options
    → Reaches (rules names) rows pending (word ∷ value ∷ rest) (((cut word).0, Some value) ∷ options)
parted names rows pending word value rest options is bare right once later =
    let all = rules names in
    let option = known names ((cut word).0, Some value) right in
    let name = long option.0 in
    let named-so : (cut word).0 ≡ 45 ∷ 45 ∷ name = option.1 ∙ spelled option.0 in
    let read = long-word word name named-so (named option.0) in
    let none : find (45 ∷ 45 ∷ name) options ≡ None = nothing _ (subst (λ (text : Text). is_none (find text options) ≡ true) named-so once) in
    let number = accepted-text option.0 value option.2 in
    let digit = digit-first option.0 value number.1 in
    let found = λ (o : Option Rule) (is : o ≡ Some (filled (rule option.0))). is ∙ ap (λ alone. Some (filled (rule_by alone name))) number.0 in
    subst (λ (value : Text). Reaches all rows pending (word ∷ value ∷ rest) (((cut word).0, Some value) ∷ options)) (sym digit.2)
    (subst (λ (text : Text). Reaches all rows pending (word ∷ (digit.0 ∷ digit.1) ∷ rest) ((text, Some (digit.0 ∷ digit.1)) ∷ options)) (sym named-so)
    (as-two all rows pending is word name rest options none later read.1 digit.0 digit.1 digit.3 (read.0 ∙ ap (λ value. Some (name, value)) bare)
    (found _ option.3) (found _ option.4)))

-- words that are right, from any place between two options
abbrev Reached : List OptionName → List Text → Type 0
Reached names words = (rows : List Row) (pending : Option (Text × Text)) → IsPending (rules names) pending → are_right names (given words) ≡ true
    → Reaches (rules names) rows pending words (given words)

waits-bare : (option : Given) → awaits option ≡ true → option.1 ≡ None
waits-bare (text, None) waits = refl
waits-bare (text, Some value) waits = absurd (true≢false (sym waits))

more : (names : List OptionName) (word value : Text) (words : List Text) → Reached names words → Reached names (value ∷ words) → Reached names (word ∷ value ∷ words)
more names word value words behind next rows pending is right = go (awaits (cut word)) refl right
  where
    go : (waits : Bool) → awaits (cut word) ≡ waits
        → are_right names (if◌then◌else◌ {A = List Given} waits (((cut word).0, Some value) ∷ given words) (cut word ∷ given (value ∷ words))) ≡ true
        → Reaches (rules names) rows pending (word ∷ value ∷ words) (if◌then◌else◌ {A = List Given} waits (((cut word).0, Some value) ∷ given words) (cut word ∷ given (value ∷ words)))
    go true waits right =
        let is-right = parts names ((cut word).0, Some value) (given words) right in
        parted names rows pending word value words (given words) is (waits-bare (cut word) waits) is-right.0 is-right.1 (λ rows' pending' is'. behind rows' pending' is' is-right.2)
    go false waits right =
        let is-right = parts names (cut word) (given (value ∷ words)) right in
        whole names rows pending word (value ∷ words) (given (value ∷ words)) is is-right.0 is-right.1 (λ rows' pending' is'. next rows' pending' is' is-right.2)

at-end : (names : List OptionName) → Reached names []
unfolding walk_passes
at-end names rows pending is right = record {
  last_rows = rows;
  last = pending;
  is = is;
  ends = refl;
  passes = refl;
  values = λ id. sym (first_some-none _);
}

pub reached : (names : List OptionName) (words : List Text) → Reached names words
reached names [] = at-end names
reached names (word ∷ []) = λ rows pending is right.
    let is-right = parts names (cut word) [] right in
    whole names rows pending word [] [] is is-right.0 is-right.1 (λ rows' pending' is'. at-end names rows' pending' is' is-right.2)
reached names (word ∷ value ∷ words) = more names word value words (reached names words) (reached names (value ∷ words))
