-- A command of options, as clap builds it.
use Rattle.std.specs.Prelude.{ℕ, ◌≡◌, ◌++◌, ◌||◌, Bool, true, false, not, List, [], ◌∷◌, Some, fold, map, refl}
use Rattle.std.specs.List.{list_all, list_any}
use Rattle.std.specs.Str.{bytes_eq}
use Rattle.std.proofs.Common.{◌∙◌, ap, cond, sym, inl, inr, true≢false}
use Rattle.clap.specs.Simple.{filled, filled_from, is_simple}
use Rattle.clap.specs.Takes.{default_passes, is_given}
use Rattle.clap.specs.Words.{with_rule}
use Rattle.std.proofs.lemmas.List.{map-append}
use Rattle.clap.specs.Walk.{Row, Rule, arg_by_id, arg_by_long, has_row, is_early_multiple, with_default}
use Rattle.vdo_words.specs.Given.{Given}
use Rattle.vdo_words.specs.OptionMatches.{app, long, rule}
use Rattle.vdo_words.specs.Options.{accepts, is_right, spelling}
use Rattle.vdo_words.specs.declared.option_names.OptionName.{OptionName}
use Rattle.vdo_words.proofs.RowLaws.{same_text, told}
use Rattle.vdo_words.proofs.WordLaws.{spelled}

-- one option more
pub app-more : (names : List OptionName) (name : OptionName) → with_rule (app names) (rule name) ≡ app (names ++ name ∷ [])
app-more names name = ap (λ (rules : List Rule). record (app []) { top = record (app []).top { rules = rules } }) (sym (map-append rule names (name ∷ [])))

-- the rules as clap builds them
abbrev pub rules : List OptionName → List Rule
rules = map (λ name. filled (rule name))

-- what clap fills in
pub filled-all : (i : ℕ) (names : List OptionName) → filled_from i (map rule names) ≡ rules names
filled-all i [] = refl
filled-all i (name ∷ names) = ap (λ rest. filled (rule name) ∷ rest) (filled-all i names)

simple : (names : List OptionName) → list_all (λ (a : Rule). a.is_simple) (map rule names) ≡ true
simple [] = refl
simple (name ∷ names) = simple names

simple-built : (names : List OptionName) → list_all (λ (a : Rule). a.is_simple) (rules names) ≡ true
simple-built [] = refl
simple-built (name ∷ names) = simple-built names

ordered : (n : ℕ) (names : List OptionName) → list_any (is_early_multiple n) (rules names) ≡ false
ordered n [] = refl
ordered n (name ∷ names) = ordered n names

pub free : (names : List OptionName) → list_all (λ (a : Rule). a.is_free) (rules names) ≡ true
free [] = refl
free (name ∷ names) = free names

pub optional : (names : List OptionName) (rows : List Row) → list_all (λ (a : Rule). not a.required || is_given a.id rows) (rules names) ≡ true
optional [] rows = refl
optional (name ∷ names) rows = optional names rows

pub no-defaults : (names : List OptionName) → list_all default_passes (rules names) ≡ true
no-defaults [] = refl
no-defaults (name ∷ names) = no-defaults names

pub keeps-rows : (names : List OptionName) (rows : List Row) → fold with_default rows (rules names) ≡ rows
keeps-rows [] rows = refl
keeps-rows (name ∷ names) rows = ap (λ kept. fold with_default kept (rules names)) (either (has_row (long name) rows)) ∙ keeps-rows names rows
  where
    either : (has : Bool) → cond has rows rows ≡ rows
    either true = refl
    either false = refl

pub is-simple : (names : List OptionName) → is_simple (app names) ≡ true
is-simple names = rw (simple names, filled-all 1 names, simple-built names, ordered _ names) refl

-- an option that is right is one of the command's, and clap knows it by its name
pub known : (names : List OptionName) (option : Given) → is_right names option ≡ true
    → (name : OptionName) × (option.0 ≡ spelling name) × (accepts name option.1 ≡ true) × (arg_by_long (rules names) (long name) ≡ Some (filled (rule name)))
    × (arg_by_id (rules names) (long name) ≡ Some (filled (rule name)))
known [] option right = absurd (true≢false (sym right))
known (first ∷ names) option right = elim (told option.0 (spelling first)) [
  | inl same ↦
      (first, same.1, rw same.0 at right, rw (same_text (long first)) refl, rw (same_text (long first)) refl)
  | inr other ↦
      let rest = known names option (rw other at right) in
      let differ : bytes_eq (long first) (long rest.0) ≡ false = elim (told (long first) (long rest.0)) [
        | inl same ↦
            let equal : option.0 ≡ spelling first = rest.1 ∙ (spelled rest.0 ∙ ap (λ text. 45 ∷ 45 ∷ text) (sym same.1)) ∙ sym (spelled first) in
            let bad : bytes_eq (spelling first) (spelling first) ≡ false = rw equal at other in
            absurd (true≢false (sym (same_text (spelling first)) ∙ bad))
        | inr differ ↦ differ
      ] in
      (rest.0, rest.1, rest.2, rw differ rest.3, rw differ rest.4)
]
