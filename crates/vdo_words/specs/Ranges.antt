-- The ranges within which the options of a command are.
use Rattle.std.specs.Prelude.{ℕ, ◌≤◌}
use Rattle.vdo_words.specs.Options.{greatest, least}
use Rattle.vdo_words.specs.declared.option_names.OptionName.{OptionName}
use Rattle.vdo_words.specs.declared.option_names.OptionName.TheVariants.{Depth, LogicalZones, PhysicalZones, HashZones, Cache, Requests, Streams}
use Rattle.vdo_words.specs.declared.commands.CoreOptions.{CoreOptions}
use Rattle.vdo_words.specs.declared.commands.Command.{Command}
use Rattle.vdo_words.specs.declared.commands.Command.TheVariants.{Run, Crash, Workload}

-- a number within the range of this option
abbrev pub IsWithin : OptionName → ℕ → Type 0
IsWithin name n = (least name ≤ n) × (n ≤ greatest name)

abbrev pub IsCoreWithin : CoreOptions → Type 0
IsCoreWithin core =
    IsWithin Depth core.depth × IsWithin LogicalZones core.logical_zones × IsWithin PhysicalZones core.physical_zones
    × IsWithin HashZones core.hash_zones × IsWithin Cache core.cache

-- every number of a command that runs a core is within its range
abbrev pub IsCommandWithin : Command → Type 0
IsCommandWithin (Run options) = IsCoreWithin options.core
IsCommandWithin (Crash options) = IsCoreWithin options.core
IsCommandWithin (Workload options) = IsCoreWithin options.core × IsWithin Requests options.requests × IsWithin Streams options.streams
IsCommandWithin other = Unit {0}
