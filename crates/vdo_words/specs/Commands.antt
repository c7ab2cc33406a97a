-- The commands: which options each has, with what defaults, and what excludes what.
use Rattle.std.specs.Prelude.{ℕ, not, ◌&&◌, List, [], ◌∷◌, ◌++◌, codes, bytes_eq, Option, Some, None, Result, option_map, if◌then◌else◌}
use Rattle.std.specs.Option.{ok_or}
use Rattle.vdo_words.specs.Given.{Given, given}
use Rattle.vdo_words.specs.Options.{are_right, is_given, number_or}
use Rattle.vdo_words.specs.declared.option_names.OptionName.{OptionName}
use Rattle.vdo_words.specs.declared.option_names.OptionName.TheVariants.{Logical, Slabs, SlabBlocks, Journal, Index, SlabJournal, Height, Nonce, Schedule, Threads, Depth, LogicalZones, PhysicalZones, HashZones, Cache, After, Image, Seed, Requests, Streams}
use Rattle.vdo_words.specs.declared.commands.FormatOptions.{FormatOptions}
use Rattle.vdo_words.specs.declared.commands.GrowOptions.{GrowOptions}
use Rattle.vdo_words.specs.declared.commands.CoreOptions.{CoreOptions}
use Rattle.vdo_words.specs.declared.commands.RunOptions.{RunOptions}
use Rattle.vdo_words.specs.declared.commands.CrashOptions.{CrashOptions}
use Rattle.vdo_words.specs.declared.commands.WorkloadOptions.{WorkloadOptions}
use Rattle.vdo_words.specs.declared.commands.Drive.{Drive}
use Rattle.vdo_words.specs.declared.commands.Drive.TheVariants as drive
use Rattle.vdo_words.specs.declared.commands.Command.{Command}
use Rattle.vdo_words.specs.declared.commands.Command.TheVariants.{Format, Run, Recover, ForceRebuild, Grow, Audit, Status, Crash, Workload}
use Rattle.vdo_words.specs.declared.commands.Usage.{Usage}

-- the options of a core
abbrev pub core_names : List OptionName
core_names = Depth ∷ LogicalZones ∷ PhysicalZones ∷ HashZones ∷ Cache ∷ []

-- without any
abbrev pub default_core : CoreOptions
default_core = record { depth = 1; logical_zones = 1; physical_zones = 1; hash_zones = 1; cache = 16 }

abbrev pub core_of : List Given → CoreOptions
core_of options = record {
  depth = number_or default_core.depth Depth options;
  logical_zones = number_or default_core.logical_zones LogicalZones options;
  physical_zones = number_or default_core.physical_zones PhysicalZones options;
  hash_zones = number_or default_core.hash_zones HashZones options;
  cache = number_or default_core.cache Cache options;
}

abbrev pub format_names : List OptionName
format_names = Logical ∷ Slabs ∷ SlabBlocks ∷ Journal ∷ Index ∷ SlabJournal ∷ Height ∷ Nonce ∷ []

abbrev pub format_of : List Given → Option FormatOptions
format_of options = if are_right format_names options then Some (record {
  logical = number_or 1000 Logical options;
  slabs = number_or 1 Slabs options;
  slab_blocks = number_or 64 SlabBlocks options;
  journal = number_or 8 Journal options;
  index = number_or 16 Index options;
  slab_journal = number_or 4 SlabJournal options;
  height = number_or 2 Height options;
  nonce = number_or 1 Nonce options;
}) else None

-- `--logical` and `--slabs` are required
abbrev pub grow_of : List Given → Option GrowOptions
grow_of options =
    if are_right (Logical ∷ Slabs ∷ []) options && is_given Logical options && is_given Slabs options
    then Some (record { logical = number_or 1000 Logical options; slabs = number_or 1 Slabs options })
    else None

-- threads, or the schedule of a number
abbrev pub drive_of : List Given → Drive
drive_of options = if is_given Threads options then drive.Threads else drive.Schedule (number_or 0 Schedule options)

-- `--threads` and `--schedule` exclude each other
abbrev pub run_of : List Given → Option RunOptions
run_of options =
    if are_right (Schedule ∷ Threads ∷ core_names) options && not (is_given Schedule options && is_given Threads options)
    then Some (record { drive = drive_of options; core = core_of options })
    else None

-- `--after` and `--image` are required
abbrev pub crash_of : List Given → Option CrashOptions
crash_of options =
    if are_right (Schedule ∷ core_names ++ After ∷ Image ∷ []) options && is_given After options && is_given Image options
    then Some (record {
      schedule = number_or 0 Schedule options;
      core = core_of options;
      after = number_or 0 After options;
      image = number_or 0 Image options;
    })
    else None

abbrev pub workload_of : List Given → Option WorkloadOptions
workload_of options = if are_right (Schedule ∷ core_names ++ Seed ∷ Requests ∷ Streams ∷ []) options then Some (record {
  schedule = number_or 0 Schedule options;
  core = core_of options;
  seed = number_or 0 Seed options;
  requests = number_or 1000 Requests options;
  streams = number_or 4 Streams options;
}) else None

-- a command that has no option
abbrev pub bare_command : Command → List Given → Option Command
bare_command command options = if are_right [] options then Some command else None

-- the command of this name with these options
abbrev pub command_named : List ℕ → List Given → Option Command
command_named name options =
    if bytes_eq name (codes "format") then option_map Format (format_of options)
    else if bytes_eq name (codes "run") then option_map Run (run_of options)
    else if bytes_eq name (codes "recover") then bare_command Recover options
    else if bytes_eq name (codes "force-rebuild") then bare_command ForceRebuild options
    else if bytes_eq name (codes "grow") then option_map Grow (grow_of options)
    else if bytes_eq name (codes "audit") then bare_command Audit options
    else if bytes_eq name (codes "status") then bare_command Status options
    else if bytes_eq name (codes "crash") then option_map Crash (crash_of options)
    else if bytes_eq name (codes "workload") then option_map Workload (workload_of options)
    else None

-- the command that words are: the first is its name
abbrev pub command_of : List (List ℕ) → Option Command
command_of [] = None
command_of (name ∷ words) = command_named name (given words)

-- the answer for words
abbrev pub read : List (List ℕ) → Result Command Usage
read words = ok_or (command_of words) (record {})
