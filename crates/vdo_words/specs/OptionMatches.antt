-- The options as clap is told them, and what it finds.
use Rattle.std.specs.Prelude.{ℕ, ◌≡◌, Bool, true, false, List, drop, map, codes, Option, Some, None, if◌then◌else◌}
use Rattle.clap.specs.Words.{App, Rule, first_value, found_of, new_app, new_rule}
use Rattle.clap.specs.declared.builder.action.ArgAction.TheVariants.{Append}
use Rattle.clap.specs.declared.parser.matches.ArgMatches.{ArgMatches}
use Rattle.vdo_words.specs.Given.{Given, find}
use Rattle.vdo_words.specs.Options.{spelling}
use Rattle.vdo_words.specs.declared.option_names.OptionName.{OptionName}
use Rattle.vdo_words.specs.declared.option_names.OptionName.TheVariants.{Threads}

-- what clap calls an option: its word without the two hyphens
abbrev pub long : OptionName → List ℕ
long name = drop 2 (spelling name)

-- whether an option has no value
abbrev pub is_flag : OptionName → Bool
is_flag Threads = true
is_flag other = false

-- a flag or an option of one value, which clap takes as often as it stands there
abbrev pub rule_by : Bool → List ℕ → Rule
rule_by flag name = record (new_rule name) {
  long = Some name;
  action = Some Append;
  range = if flag then Some (record { start_inclusive = 0; end_inclusive = 0 }) else None;
}

abbrev pub rule : OptionName → Rule
rule name = rule_by (is_flag name) (long name)

-- a command of these options alone, without help
abbrev pub app : List OptionName → App
app names =
    let bare = new_app (codes "vdo") in
    record bare { top = record bare.top { no_binary_name = true; disable_help_flag = true; rules = map rule names } }

-- the value that stands in an option
abbrev pub text_in : Option Given → Option (List ℕ)
text_in None = None
text_in (Some (word, value)) = value

-- for each option clap finds the value that the words give
abbrev pub FindsValues : List Given → ArgMatches → Type 0
FindsValues options matches = (name : OptionName) → first_value (found_of matches) (long name) ≡ text_in (find (spelling name) options)
