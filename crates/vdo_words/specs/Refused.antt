-- Which word of a command line is refused where it stands.
use Rattle.std.specs.Prelude.{ℕ, ◌&&◌, ◌||◌, List, [], ◌∷◌, ◌++◌, codes, bytes_eq, Option, Some, None, if◌then◌else◌}
use Rattle.std.specs.Option.{is_none}
use Rattle.vdo_words.specs.Commands.{core_names, format_names}
use Rattle.vdo_words.specs.Given.{Given, find, given}
use Rattle.vdo_words.specs.Options.{is_right}
use Rattle.vdo_words.specs.declared.option_names.OptionName.{OptionName}
use Rattle.vdo_words.specs.declared.option_names.OptionName.TheVariants.{Logical, Slabs, Schedule, Threads, After, Image, Seed, Requests, Streams}

-- the options of the command of this name
abbrev pub names_of : List ℕ → Option (List OptionName)
names_of name =
    if bytes_eq name (codes "format") then Some format_names
    else if bytes_eq name (codes "run") then Some (Schedule ∷ Threads ∷ core_names)
    else if bytes_eq name (codes "grow") then Some (Logical ∷ Slabs ∷ [])
    else if bytes_eq name (codes "crash") then Some (Schedule ∷ core_names ++ After ∷ Image ∷ [])
    else if bytes_eq name (codes "workload") then Some (Schedule ∷ core_names ++ Seed ∷ Requests ∷ Streams ∷ [])
    else if bytes_eq name (codes "recover") then Some []
    else if bytes_eq name (codes "force-rebuild") then Some []
    else if bytes_eq name (codes "audit") then Some []
    else if bytes_eq name (codes "status") then Some []
    else None

-- the first option that isn't right, or stands again behind
abbrev pub first_wrong : List OptionName → List Given → Option (List ℕ)
first_wrong names [] = None
first_wrong names (option ∷ options) = if is_right names option && is_none (find option.0 options) then first_wrong names options else Some option.0

-- the first of these, of a command; else the command's name
abbrev pub refused_in : Option (List OptionName) → List ℕ → List Given → Option (List ℕ)
refused_in None name options = Some name
refused_in (Some names) name options = first_wrong names options

-- the first word that is refused where it stands
abbrev pub first_refused : List (List ℕ) → Option (List ℕ)
first_refused [] = None
first_refused (name ∷ words) = refused_in (names_of name) name (given words)
