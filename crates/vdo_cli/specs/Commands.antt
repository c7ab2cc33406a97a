-- The words that are served.
use Rattle.std.specs.Prelude.{ℕ, ◌≤◌, ◌==◌, ◌&&◌, Bool, List, Option, Some, None, option_map, if◌then◌else◌}
use Rattle.blk_base.specs.declared.geometry.Geometry.{Geometry}
use Rattle.vdo_words.specs.Commands.{command_of, default_core}
use Rattle.vdo_words.specs.declared.commands.Command.{Command}
use Rattle.vdo_words.specs.declared.commands.Command.TheVariants.{Audit, Crash, ForceRebuild, Format, Grow, Recover, Run, Status, Workload}
use Rattle.vdo_words.specs.declared.commands.CoreOptions.{CoreOptions}
use Rattle.vdo_words.specs.declared.commands.FormatOptions.{FormatOptions}
use Rattle.vdo_words.specs.declared.commands.WorkloadOptions.{WorkloadOptions}
use Rattle.vdo_words.specs.declared.commands.Drive.{Drive}
use Rattle.vdo_words.specs.declared.commands.Drive.TheVariants.{Schedule, Threads}
use Rattle.core_model.specs.SessionLimits.{most_depth, most_physical, most_zones}
use Rattle.vdo_core.specs.declared.cores.Setup.{Setup}
use Rattle.vdo_cli.specs.declared.words.Course.{Course}
use Rattle.vdo_cli.specs.declared.words.Change.{Change}
use Rattle.vdo_cli.specs.declared.words.Change.TheVariants as change
use Rattle.vdo_cli.specs.declared.words.Served.{Served}
use Rattle.vdo_cli.specs.declared.words.Served.TheVariants as served

-- the options of a core are served: its hash zones and leaf pages are those that it has without any
abbrev pub are_served : CoreOptions → Bool
are_served o = (o.hash_zones == default_core.hash_zones) && (o.cache == default_core.cache)

-- a core is set up as its options say
abbrev pub setup_of : CoreOptions → Setup
setup_of o = record { logical_zones = o.logical_zones; physical_zones = o.physical_zones; depth = o.depth }

-- the options that say so, and of which the others are as without any
abbrev pub options_of : Setup → CoreOptions
options_of setup = record default_core { logical_zones = setup.logical_zones; physical_zones = setup.physical_zones; depth = setup.depth }

-- the schedule of this number, and a core that is set up as its options say
abbrev pub course_of : ℕ → CoreOptions → Course
course_of schedule o = record { schedule = schedule; setup = setup_of o }

-- a core can be set up so
pub record IsSetup (setup : Setup) : Type 0 where
  pub logical : (1 ≤ setup.logical_zones) × (setup.logical_zones ≤ most_zones)
  pub physical : (1 ≤ setup.physical_zones) × (setup.physical_zones ≤ most_physical)
  pub depth : (1 ≤ setup.depth) × (setup.depth ≤ most_depth)

-- the number of the schedule; threads aren't served yet
abbrev pub number_of : Drive → Option ℕ
number_of (Schedule number) = Some number
number_of Threads = None

-- the sizes of an image, as the options of `format` give them
abbrev pub sizes_of : FormatOptions → Geometry
sizes_of o = record {
  logical = o.logical;
  slabs = o.slabs;
  slab_blocks = o.slab_blocks;
  journal = o.journal;
  index = o.index;
  slab_journal = o.slab_journal;
  height = o.height;
  nonce = o.nonce;
}

-- `run`, `workload` and `crash` are served, with a schedule, and `format`, `recover`, `force-rebuild`, `grow`, `audit` and `status`
abbrev pub served_in : Option Command → Option Served
served_in (Some (Run options)) = if are_served options.core then option_map (λ (schedule : ℕ). served.Change (change.Script (course_of schedule options.core))) (number_of options.drive) else None
served_in (Some (Workload options)) = if are_served options.core then Some (served.Change (change.Workload options)) else None
served_in (Some (Crash options)) = if are_served options.core then Some (served.Crash options) else None
served_in (Some (Format options)) = Some (served.Format (sizes_of options))
served_in (Some Recover) = Some (served.Change change.Recover)
served_in (Some ForceRebuild) = Some (served.Change change.ForceRebuild)
served_in (Some (Grow options)) = Some (served.Change (change.Grow options))
served_in (Some Audit) = Some served.Audit
served_in (Some Status) = Some served.Status
served_in other = None

-- how many requests a workload has, of how many streams, and that a core can be set up so
pub record IsWorkload (options : WorkloadOptions) : Type 0 where
  pub some : 1 ≤ options.requests
  pub few : options.requests ≤ 65536
  pub one : 1 ≤ options.streams
  pub streams : options.streams ≤ 16
  pub core : IsSetup (setup_of options.core)

-- so it is of what is asked for
abbrev pub IsChangeWithin : Change → Type 0
IsChangeWithin (change.Script course) = IsSetup course.setup
IsChangeWithin (change.Workload options) = IsWorkload options
IsChangeWithin other = Unit {0}

abbrev pub IsServedWithin : Option Served → Type 0
IsServedWithin (Some (served.Change asked)) = IsChangeWithin asked
IsServedWithin (Some (served.Crash options)) = IsSetup (setup_of options.core)
IsServedWithin other = Unit {0}

-- what these words ask for, of what is served
abbrev pub served_of : List (List ℕ) → Option Served
served_of words = served_in (command_of words)
