-- How clap walks over the words of an option.
use Rattle.std.specs.Prelude.{ℕ, ◌≡◌, ◌==◌, true, false, List, [], ◌∷◌, codes, Option, Some, None, refl}
use Rattle.std.specs.Str.{bytes_eq}
use Rattle.clap.specs.Lexer.{long_of}
use Rattle.clap.specs.Simple.{Shape, filled, new_shape}
use Rattle.clap.specs.Takes.{settle_passes, turn_passes}
use Rattle.clap.specs.Walk.{Row, Rule, Text, Walk, arg_by_id, arg_by_long, option, settled_rows, used, walk_from, walked}
use Rattle.vdo_words.specs.OptionMatches.{rule_by}
use Rattle.vdo_words.proofs.RowLaws.{same_text}

-- a command of these options, as clap builds it
abbrev pub shape : List Rule → Shape
shape rules = record (new_shape (codes "vdo")) {
  rules = rules;
  no_binary_name = true;
  disable_help_flag = true;
  disable_help_subcommand = true;
  is_built = true;
}

-- an option of one value, and a flag, as clap builds them
abbrev pub valued : Text → Rule
valued name = filled (rule_by false name)

abbrev pub flag : Text → Rule
flag name = filled (rule_by true name)

abbrev pub pending_of : Option (Text × Text) → Option (Text × List Text)
pending_of None = None
pending_of (Some pending) = Some (pending.0, pending.1 ∷ [])

-- between two options: rows, and the last option if its value is a word of its own
abbrev pub between : List Row → Option (Text × Text) → Walk
between rows pending = walk_from (record { rows = rows; pending = pending_of pending; skip = 0 })

-- between an option and its value
abbrev pub awaiting : List Row → Text → Walk
awaiting rows name = record (walk_from (record { rows = rows; pending = Some (name, []); skip = 0 })) { waiting = option name }

-- the rows with what is pending
abbrev pub rows_of : List Rule → Walk → List Row
rows_of rules walk = settled_rows rules walk.held.pending walk.held.rows

abbrev pub IsPending : List Rule → Option (Text × Text) → Type 0
IsPending rules None = Unit {0}
IsPending rules (Some pending) = arg_by_id rules pending.0 ≡ Some (valued pending.0)

module _ (rules : List Rule) (rows : List Row) (pending : Option (Text × Text)) (word name : Text) where
  -- an option with its value
  pub walks-valued : (value : Text) → long_of word ≡ Some (name, Some value) → bytes_eq word (45 ∷ 45 ∷ []) ≡ false → arg_by_long rules name ≡ Some (valued name)
      → walked rules [] (between rows pending) word ≡ between (used (valued name) (value ∷ []) (rows_of rules (between rows pending))) None
  unfolding walked
  walks-valued value is long found = rw (long, is, found) refl

  -- an option whose value is the next word
  pub walks-option : long_of word ≡ Some (name, None) → bytes_eq word (45 ∷ 45 ∷ []) ≡ false → arg_by_long rules name ≡ Some (valued name)
      → walked rules [] (between rows pending) word ≡ awaiting (rows_of rules (between rows pending)) name
  unfolding walked
  walks-option is long found = rw (long, is, found) refl

  -- a flag
  pub walks-flag : long_of word ≡ Some (name, None) → bytes_eq word (45 ∷ 45 ∷ []) ≡ false → arg_by_long rules name ≡ Some (flag name)
      → walked rules [] (between rows pending) word ≡ between (used (flag name) [] (rows_of rules (between rows pending))) None
  unfolding walked
  walks-flag is long found = rw (long, is, found) refl

-- what is pending passes
pub settles : (rules : List Rule) (rows : List Row) (pending : Option (Text × Text)) → IsPending rules pending → settle_passes rules false (between rows pending).held ≡ true
settles rules rows None is = refl
settles rules rows (Some pending) is = rw is refl

-- the value of an option
pub walks-value : (rules : List Rule) (rows : List Row) (name : Text) (digit : ℕ) (digits : Text) → (digit == 45) ≡ false → arg_by_id rules name ≡ Some (valued name)
    → walked rules [] (awaiting rows name) (digit ∷ digits) ≡ between rows (Some (name, digit ∷ digits))
unfolding walked
walks-value rules rows name digit digits is found = rw (is, is, found, same_text name) refl

-- no word is refused
module _ (rules : List Rule) (rows : List Row) (pending : Option (Text × Text)) (is : IsPending rules pending) (word name : Text) where
  pub passes-valued : (value : Text) → long_of word ≡ Some (name, Some value) → bytes_eq word (45 ∷ 45 ∷ []) ≡ false → arg_by_long rules name ≡ Some (valued name)
      → turn_passes (shape rules) [] (between rows pending) word ≡ true
  passes-valued value cut long found = rw (long, cut, found, settles rules rows pending is) refl

  pub passes-option : long_of word ≡ Some (name, None) → bytes_eq word (45 ∷ 45 ∷ []) ≡ false → arg_by_long rules name ≡ Some (valued name)
      → turn_passes (shape rules) [] (between rows pending) word ≡ true
  passes-option cut long found = rw (long, cut, found, settles rules rows pending is) refl

  pub passes-flag : long_of word ≡ Some (name, None) → bytes_eq word (45 ∷ 45 ∷ []) ≡ false → arg_by_long rules name ≡ Some (flag name)
      → turn_passes (shape rules) [] (between rows pending) word ≡ true
  passes-flag cut long found = rw (long, cut, found, settles rules rows pending is) refl

pub passes-value : (rules : List Rule) (rows : List Row) (name : Text) (digit : ℕ) (digits : Text) → (digit == 45) ≡ false
    → turn_passes (shape rules) [] (awaiting rows name) (digit ∷ digits) ≡ true
passes-value rules rows name digit digits is = rw (is, is) refl
