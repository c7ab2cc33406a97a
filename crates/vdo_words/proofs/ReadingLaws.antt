-- Two readings of the same words are equal, and what is read is within the ranges.
use Rattle.std.specs.Prelude.{ℕ, ◌≡◌, ◌&&◌, Bool, true, false, nat_le, List, [], ◌∷◌, codes, bytes_eq, Option, Some, None, Result, IfSome, IfOk, option_map, if◌then◌else◌, refl}
use Rattle.std.specs.Str.Parse.{digits_value}
use Rattle.std.specs.Option.{ok_or, unwrap_or}
use Rattle.std.proofs.Common.{rules, ◌∙◌, sym, arith}
use Rattle.std.proofs.lemmas.Bool.Decides.{nat_tests}
use Rattle.vdo_words.specs.Given.{Given, given, find}
use Rattle.vdo_words.specs.Options.{greatest, least, is_decimal, number_in, number_or, spelling}
use Rattle.vdo_words.specs.Commands.{command_named, core_of, read}
use Rattle.vdo_words.specs.Ranges.{IsWithin, IsCoreWithin, IsCommandWithin}
use Rattle.vdo_words.specs.declared.commands.Command.{Command}
use Rattle.vdo_words.specs.declared.commands.Command.TheVariants.{Format, Run, Recover, ForceRebuild, Grow, Audit, Status, Crash, Workload}
use Rattle.vdo_words.specs.declared.commands.Usage.{Usage}
use Rattle.vdo_words.specs.declared.option_names.OptionName.{OptionName}
use Rattle.vdo_words.specs.declared.option_names.OptionName.TheVariants.{Depth, LogicalZones, PhysicalZones, HashZones, Cache, Requests, Streams}

pub read-once : (words : List (List ℕ)) → (one other : Result Command Usage) → one ≡ read words → other ≡ read words → one ≡ other
read-once words one other first second = first ∙ sym second

chosen : (name : OptionName) (n default : ℕ) (decimal above below : Bool) → nat_le (least name) n ≡ above → nat_le n (greatest name) ≡ below
    → IsWithin name default → IsWithin name (unwrap_or (if decimal && above && below then Some n else None) default)
chosen name n default true true true above below within = (grind (arith, nat_tests), grind (arith, nat_tests))
chosen name n default true true false above below within = within
chosen name n default true false below above below' within = within
chosen name n default false above below above' below' within = within

of_option : (name : OptionName) (default : ℕ) (option : Option Given) → IsWithin name default → IsWithin name (unwrap_or (number_in name option) default)
of_option name default None within = within
of_option name default (Some (word, None)) within = within
of_option name default (Some (word, Some text)) within =
    let n = digits_value 10 text in
    chosen name n default (is_decimal text) (nat_le (least name) n) (nat_le n (greatest name)) refl refl within

-- the number of an option is within its range where its default is
pub number_or-within : (name : OptionName) (default : ℕ) (options : List Given) → IsWithin name default → IsWithin name (number_or default name options)
number_or-within name default options within = of_option name default (find (spelling name) options) within

core-within : (options : List Given) → IsCoreWithin (core_of options)
core-within options = (
  number_or-within Depth 1 options (omega arith, omega arith),
  number_or-within LogicalZones 1 options (omega arith, omega arith),
  number_or-within PhysicalZones 1 options (omega arith, omega arith),
  number_or-within HashZones 1 options (omega arith, omega arith),
  number_or-within Cache 16 options (omega arith, omega arith),
)

-- options that are taken or refused
of_options : {X : Type 0} → (taken : Bool) (command : X → Command) (options : X) → IsCommandWithin (command options)
    → IfSome (option_map command (if taken then Some options else None)) IsCommandWithin
of_options true command options within = within
of_options false command options within = search rules

of_bare : (taken : Bool) (command : Command) → IsCommandWithin command → IfSome (if taken then Some command else None) IsCommandWithin
of_bare true command within = within
of_bare false command within = search rules

one_of : (taken : Bool) (one other : Option Command) → IfSome one IsCommandWithin → IfSome other IsCommandWithin
    → IfSome (if taken then one else other) IsCommandWithin
one_of true one other first second = first
one_of false one other first second = second

named-within : (name : List ℕ) (options : List Given) → IfSome (command_named name options) IsCommandWithin
named-within name options =
    one_of (bytes_eq name (codes "format")) _ _ (of_options _ Format _ tt)
    (one_of (bytes_eq name (codes "run")) _ _ (of_options _ Run _ (core-within options))
    (one_of (bytes_eq name (codes "recover")) _ _ (of_bare _ Recover tt)
    (one_of (bytes_eq name (codes "force-rebuild")) _ _ (of_bare _ ForceRebuild tt)
    (one_of (bytes_eq name (codes "grow")) _ _ (of_options _ Grow _ tt)
    (one_of (bytes_eq name (codes "audit")) _ _ (of_bare _ Audit tt)
    (one_of (bytes_eq name (codes "status")) _ _ (of_bare _ Status tt)
    (one_of (bytes_eq name (codes "crash")) _ _ (of_options _ Crash _ (core-within options))
    (one_of (bytes_eq name (codes "workload")) _ _ (of_options _ Workload _ (
      core-within options,
      number_or-within Requests 1000 options (omega arith, omega arith),
      number_or-within Streams 4 options (omega arith, omega arith),
    ))
    tt))))))))

answered : (command : Option Command) → IfSome command IsCommandWithin → IfOk {E = Usage} (ok_or command (record {})) IsCommandWithin
answered None within = search rules
answered (Some command) within = within

pub read-within : (words : List (List ℕ)) → IfOk (read words) IsCommandWithin
read-within [] = search rules
read-within (name ∷ words) = answered (command_named name (given words)) (named-within name (given words))

-- the same of an answer in two steps
pub within-by : (name : List ℕ) (options : List Given) → (command : Option Command) (result : Result Command Usage) → command ≡ command_named name options
    → result ≡ ok_or command (record {}) → IfOk result IsCommandWithin
within-by name options command result found told = rw (told, found) (answered (command_named name options) (named-within name options))
