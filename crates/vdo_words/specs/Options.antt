-- The options of all commands: how each is written, its range, and when the options of a command are right.
use Rattle.std.specs.Prelude.{ℕ, Bool, true, false, ◌&&◌, nat_lt, nat_le, List, [], ◌∷◌, length, codes, bytes_eq, Option, Some, None, if◌then◌else◌}
use Rattle.std.specs.Option.{is_some, is_none, unwrap_or}
use Rattle.std.specs.Str.{all_ascii_digits}
use Rattle.std.specs.Str.Parse.{digits_value}
use Rattle.vdo_words.specs.Given.{Given, find}
use Rattle.vdo_words.specs.declared.option_names.OptionName.{OptionName}
use Rattle.vdo_words.specs.declared.option_names.OptionName.TheVariants.{Logical, Slabs, SlabBlocks, Journal, Index, SlabJournal, Height, Nonce, Schedule, Threads, Depth, LogicalZones, PhysicalZones, HashZones, Cache, After, Image, Seed, Requests, Streams}

-- the word that names an option
abbrev pub spelling : OptionName → List ℕ
spelling Logical = codes "--logical"
spelling Slabs = codes "--slabs"
spelling SlabBlocks = codes "--slab-blocks"
spelling Journal = codes "--journal"
spelling Index = codes "--index"
spelling SlabJournal = codes "--slab-journal"
spelling Height = codes "--height"
spelling Nonce = codes "--nonce"
spelling Schedule = codes "--schedule"
spelling Threads = codes "--threads"
spelling Depth = codes "--depth"
spelling LogicalZones = codes "--logical-zones"
spelling PhysicalZones = codes "--physical-zones"
spelling HashZones = codes "--hash-zones"
spelling Cache = codes "--cache"
spelling After = codes "--after"
spelling Image = codes "--image"
spelling Seed = codes "--seed"
spelling Requests = codes "--requests"
spelling Streams = codes "--streams"

-- the least value of an option
abbrev pub least : OptionName → ℕ
least Cache = 4
least Depth = 1
least LogicalZones = 1
least PhysicalZones = 1
least HashZones = 1
least Requests = 1
least Streams = 1
least other = 0

-- the greatest value of an option
abbrev pub greatest : OptionName → ℕ
greatest LogicalZones = 4
greatest PhysicalZones = 4
greatest HashZones = 4
greatest Depth = 16
greatest Streams = 16
greatest Cache = 4096
greatest Requests = 65536
greatest Nonce = 18446744073709551615
greatest Schedule = 18446744073709551615
greatest Seed = 18446744073709551615
greatest After = 18446744073709551615
greatest Image = 18446744073709551615
greatest other = 4294967295

-- 1 to 20 decimal digits
abbrev pub is_decimal : List ℕ → Bool
is_decimal text = nat_lt 0 (length text) && nat_le (length text) 20 && all_ascii_digits text

-- the number that a value of this option writes, within the option's range
abbrev pub number_of : OptionName → List ℕ → Option ℕ
number_of name text =
    if is_decimal text && nat_le (least name) (digits_value 10 text) && nat_le (digits_value 10 text) (greatest name)
    then Some (digits_value 10 text)
    else None

-- whether an option may have this value: the flag has none, and each other a number within its range
abbrev pub accepts : OptionName → Option (List ℕ) → Bool
accepts Threads value = is_none value
accepts name (Some text) = is_some (number_of name text)
accepts name None = false

-- whether an option is one of these, with a value that it may have
abbrev pub is_right : List OptionName → Given → Bool
is_right [] option = false
is_right (name ∷ names) option = if bytes_eq option.0 (spelling name) then accepts name option.1 else is_right names option

-- options of these alone, each at most once, with values that they may have
abbrev pub are_right : List OptionName → List Given → Bool
are_right names [] = true
are_right names (option ∷ options) = is_right names option && is_none (find option.0 options) && are_right names options

-- whether this option is there
abbrev pub is_given : OptionName → List Given → Bool
is_given name options = is_some (find (spelling name) options)

-- the number that a value writes, if there is a value
abbrev pub number_in : OptionName → Option Given → Option ℕ
number_in name None = None
number_in name (Some (word, None)) = None
number_in name (Some (word, Some text)) = number_of name text

-- the number of an option, or its default where it isn't there
abbrev pub number_or : ℕ → OptionName → List Given → ℕ
number_or default name options = unwrap_or (number_in name (find (spelling name) options)) default
