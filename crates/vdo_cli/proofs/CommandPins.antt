-- Rows that pin which words are served, and as what, computed.
use Rattle.std.proofs.Common.{ℕ, ◌≡◌, true, false, List, [], ◌∷◌, Some, None, codes, refl, ap, arith}
use Rattle.blk_base.proofs.Example.{small as default_sizes}
use Rattle.vdo_words.specs.declared.commands.Command.TheVariants.{Crash as CrashCommand, Run}
use Rattle.vdo_words.specs.declared.commands.Command.TheVariants.{Workload as WorkloadCommand}
use Rattle.vdo_words.specs.declared.commands.CoreOptions.{CoreOptions}
use Rattle.vdo_words.specs.declared.commands.CrashOptions.{CrashOptions}
use Rattle.vdo_core.specs.declared.cores.Setup.{Setup}
use Rattle.vdo_words.specs.declared.commands.Command.TheVariants.{Audit as AuditCommand, ForceRebuild as RebuildCommand, Grow as GrowCommand, Recover as RecoverCommand, Status as StatusCommand}
use Rattle.vdo_words.specs.declared.commands.Command.TheVariants.{Format as FormatCommand}
use Rattle.vdo_words.specs.declared.commands.FormatOptions.{FormatOptions}
use Rattle.vdo_words.specs.declared.commands.GrowOptions.{GrowOptions}
use Rattle.vdo_words.specs.declared.commands.WorkloadOptions.{WorkloadOptions}
use Rattle.vdo_words.specs.declared.commands.Drive.TheVariants.{Schedule, Threads}
use Rattle.vdo_words.proofs.CommandRows.{core}
use Rattle.vdo_cli.specs.declared.words.Change.TheVariants.{ForceRebuild, Grow, Recover, Script, Workload}
use Rattle.vdo_cli.specs.declared.words.Served.TheVariants.{Audit, Change, Crash, Format, Status}
use Rattle.vdo_cli.specs.Commands.{IsServedWithin, IsSetup, IsWorkload, are_served, course_of, number_of, options_of, served_in, served_of, setup_of, sizes_of}

-- are_served: of a core with the default hash zones and leaf pages, whatever its depth and its other zones are
served_core : (depth logical physical : ℕ) → are_served (record core { depth = depth; logical_zones = logical; physical_zones = physical }) ≡ true
served_core depth logical physical = refl

other_cores : (are_served (record core { hash_zones = 2 }) ≡ false) × (are_served (record core { cache = 17 }) ≡ false)
other_cores = (refl, refl)

-- setup_of, options_of, course_of: each option is its part, and each part its option
abbrev two_by_three : Setup
two_by_three = record { logical_zones = 2; physical_zones = 3; depth = 5 }

each_part_is_its_option : setup_of (record core { logical_zones = 2; physical_zones = 3; depth = 5 }) ≡ two_by_three
each_part_is_its_option = refl

each_option_is_its_part : options_of two_by_three ≡ record { depth = 5; logical_zones = 2; physical_zones = 3; hash_zones = 1; cache = 16 }
each_option_is_its_part = refl

course_of_both : course_of 7 (options_of two_by_three) ≡ record { schedule = 7; setup = two_by_three }
course_of_both = refl

-- IsSetup: 1 to 4 zones of a kind, 1 to 16 requests of a stream
abbrev setup : ℕ → ℕ → ℕ → Setup
setup logical physical depth = record { logical_zones = logical; physical_zones = physical; depth = depth }

pub usual_is_setup : IsSetup (setup 1 1 1)
usual_is_setup = record { logical = (omega arith, omega arith); physical = (omega arith, omega arith); depth = (omega arith, omega arith) }

greatest_setup : IsSetup (setup 4 4 16)
greatest_setup = record { logical = (omega arith, omega arith); physical = (omega arith, omega arith); depth = (omega arith, omega arith) }

setup_without_a_logical_zone : IsSetup (setup 0 1 1) → ⊥
setup_without_a_logical_zone has = omega (arith, has.logical.0)

setup_with_5_logical_zones : IsSetup (setup 5 1 1) → ⊥
setup_with_5_logical_zones has = omega (arith, has.logical.1)

setup_without_a_physical_zone : IsSetup (setup 1 0 1) → ⊥
setup_without_a_physical_zone has = omega (arith, has.physical.0)

setup_with_5_physical_zones : IsSetup (setup 1 5 1) → ⊥
setup_with_5_physical_zones has = omega (arith, has.physical.1)

setup_of_depth_0 : IsSetup (setup 1 1 0) → ⊥
setup_of_depth_0 has = omega (arith, has.depth.0)

setup_of_depth_17 : IsSetup (setup 1 1 17) → ⊥
setup_of_depth_17 has = omega (arith, has.depth.1)

-- number_of: that of a schedule, and none of threads
number_of_schedule : (number : ℕ) → number_of (Schedule number) ≡ Some number
number_of_schedule number = refl

no_number_of_threads : number_of Threads ≡ None
no_number_of_threads = refl

-- sizes_of: each option is its size
each_size_is_its_option : sizes_of (record { logical = 1; slabs = 2; slab_blocks = 3; journal = 4; index = 5; slab_journal = 6; height = 7; nonce = 8 })
    ≡ record { logical = 1; slabs = 2; slab_blocks = 3; journal = 4; index = 5; slab_journal = 6; height = 7; nonce = 8 }
each_size_is_its_option = refl

-- served_in: `run`, `workload` and `crash` with such a core and a schedule, `format`, `recover`, `force-rebuild`, `grow`, `audit` and `status`
in_run : (number : ℕ) → served_in (Some (Run (record { drive = Schedule number; core = core }))) ≡ Some (Change (Script (course_of number core)))
in_run number = refl

not_in_threads : served_in (Some (Run (record { drive = Threads; core = core }))) ≡ None
not_in_threads = refl

not_with_another_core : (number : ℕ) → served_in (Some (Run (record { drive = Schedule number; core = record core { cache = 4 } }))) ≡ None
not_with_another_core number = refl

in_format : (options : FormatOptions) → served_in (Some (FormatCommand options)) ≡ Some (Format (sizes_of options))
in_format options = refl

in_recover : served_in (Some RecoverCommand) ≡ Some (Change Recover)
in_recover = refl

in_force_rebuild : served_in (Some RebuildCommand) ≡ Some (Change ForceRebuild)
in_force_rebuild = refl

in_grow : (options : GrowOptions) → served_in (Some (GrowCommand options)) ≡ Some (Change (Grow options))
in_grow options = refl

in_audit : served_in (Some AuditCommand) ≡ Some Audit
in_audit = refl

in_status : served_in (Some StatusCommand) ≡ Some Status
in_status = refl

-- `workload` with such a core
in_workload : (options : WorkloadOptions) → served_in (Some (WorkloadCommand (record options { core = core }))) ≡ Some (Change (Workload (record options { core = core })))
in_workload options = refl

not_in_workload_with_another_core : (options : WorkloadOptions) → served_in (Some (WorkloadCommand (record options { core = record core { hash_zones = 2 } }))) ≡ None
not_in_workload_with_another_core options = refl

-- `crash` with such a core
in_crash : (options : CrashOptions) → served_in (Some (CrashCommand (record options { core = core }))) ≡ Some (Crash (record options { core = core }))
in_crash options = refl

not_in_crash_with_another_core : (options : CrashOptions) → served_in (Some (CrashCommand (record options { core = record core { cache = 4 } }))) ≡ None
not_in_crash_with_another_core options = refl

-- IsWorkload, IsServedWithin: 1 to 65,536 requests of 1 to 16 streams
abbrev pub draws : ℕ → ℕ → WorkloadOptions
draws requests streams = record { schedule = 0; core = core; seed = 0; requests = requests; streams = streams }

least_workload : IsServedWithin (Some (Change (Workload (draws 1 1))))
least_workload = record { some = omega arith; few = omega arith; one = omega arith; streams = omega arith; core = usual_is_setup }

greatest_workload : IsWorkload (draws 65536 16)
greatest_workload = record { some = omega arith; few = omega arith; one = omega arith; streams = omega arith; core = usual_is_setup }

workload_of_none : IsWorkload (draws 0 1) → ⊥
workload_of_none within = omega (arith, within.some)

workload_of_too_many : IsServedWithin (Some (Change (Workload (draws 65537 1)))) → ⊥
workload_of_too_many within = omega (arith, within.few)

workload_of_no_stream : IsWorkload (draws 1 0) → ⊥
workload_of_no_stream within = omega (arith, within.one)

workload_of_17_streams : IsWorkload (draws 1 17) → ⊥
workload_of_17_streams within = omega (arith, within.streams)

workload_of_depth_17 : (options : WorkloadOptions) → options.core ≡ record core { depth = 17 } → IsWorkload options → ⊥
workload_of_depth_17 options is within = let deep = ap (λ (o : CoreOptions). o.depth) is in omega (arith, within.core.depth.1, deep)

script_of_no_zone : IsServedWithin (Some (Change (Script (record { schedule = 0; setup = setup 0 1 1 })))) → ⊥
script_of_no_zone has = omega (arith, has.logical.0)

crash_of_depth_17 : (options : CrashOptions) → options.core ≡ record core { depth = 17 } → IsServedWithin (Some (Crash options)) → ⊥
crash_of_depth_17 options is has = let deep = ap (λ (o : CoreOptions). o.depth) is in omega (arith, has.depth.1, deep)

not_in_no_command : served_in None ≡ None
not_in_no_command = refl

-- served_of: of words. Schedule 0 where none is given, else the one that is
abbrev pub run_words : List (List ℕ)
run_words = codes "run" ∷ []

pub run_by_0 : served_of run_words ≡ Some (Change (Script (course_of 0 core)))
run_by_0 = refl

pub run_by_7 : served_of (codes "run" ∷ codes "--schedule" ∷ codes "7" ∷ []) ≡ Some (Change (Script (course_of 7 core)))
run_by_7 = refl

run_by_8 : served_of (codes "run" ∷ codes "--schedule=8" ∷ codes "--depth" ∷ codes "1" ∷ []) ≡ Some (Change (Script (course_of 8 core)))
run_by_8 = refl

run_in_zones : served_of (codes "run" ∷ codes "--logical-zones=2" ∷ codes "--physical-zones" ∷ codes "3" ∷ codes "--depth" ∷ codes "5" ∷ []) ≡ Some (Change (Script (record { schedule = 0; setup = two_by_three })))
run_in_zones = refl

-- the default sizes where none is given, else those that are
abbrev pub format_words : List (List ℕ)
format_words = codes "format" ∷ []

pub format_by_default : served_of format_words ≡ Some (Format default_sizes)
format_by_default = refl

two_slabs : served_of (codes "format" ∷ codes "--slabs" ∷ codes "2" ∷ []) ≡ Some (Format (record default_sizes { slabs = 2 }))
two_slabs = refl

-- a recovery has no options
abbrev pub recover_words : List (List ℕ)
recover_words = codes "recover" ∷ []

pub recovered : served_of recover_words ≡ Some (Change Recover)
recovered = refl

recovered_with_an_option : served_of (codes "recover" ∷ codes "--schedule" ∷ codes "2" ∷ []) ≡ None
recovered_with_an_option = refl

-- nor has a forced rebuild
abbrev pub rebuild_words : List (List ℕ)
rebuild_words = codes "force-rebuild" ∷ []

pub rebuilt : served_of rebuild_words ≡ Some (Change ForceRebuild)
rebuilt = refl

rebuilt_with_an_option : served_of (codes "force-rebuild" ∷ codes "--slabs" ∷ codes "2" ∷ []) ≡ None
rebuilt_with_an_option = refl

-- growing has two, which it needs
abbrev pub grow_words : List (List ℕ)
grow_words = codes "grow" ∷ codes "--logical" ∷ codes "2000" ∷ codes "--slabs" ∷ codes "2" ∷ []

pub grows : served_of grow_words ≡ Some (Change (Grow (record { logical = 2000; slabs = 2 })))
grows = refl

grows_without_slabs : served_of (codes "grow" ∷ codes "--logical" ∷ codes "2000" ∷ []) ≡ None
grows_without_slabs = refl

-- the audit has none
abbrev pub audit_words : List (List ℕ)
audit_words = codes "audit" ∷ []

pub audited : served_of audit_words ≡ Some Audit
audited = refl

audited_with_an_option : served_of (codes "audit" ∷ codes "--slabs" ∷ codes "2" ∷ []) ≡ None
audited_with_an_option = refl

-- nor has the status
abbrev pub status_words : List (List ℕ)
status_words = codes "status" ∷ []

pub status_asked : served_of status_words ≡ Some Status
status_asked = refl

status_asked_twice : served_of (codes "status" ∷ codes "status" ∷ []) ≡ None
status_asked_twice = refl

-- and no other words
no_word : served_of [] ≡ None
no_word = refl

threads : served_of (codes "run" ∷ codes "--threads" ∷ []) ≡ None
threads = refl

too_deep : served_of (codes "run" ∷ codes "--depth" ∷ codes "17" ∷ []) ≡ None
too_deep = refl

another_cache : served_of (codes "run" ∷ codes "--cache=17" ∷ []) ≡ None
another_cache = refl

no_number : served_of (codes "run" ∷ codes "--schedule" ∷ codes "seven" ∷ []) ≡ None
no_number = refl

-- a workload has the seed 0, 1,000 requests and 4 streams where none are given, else those that are
pub workload : served_of (codes "workload" ∷ []) ≡ Some (Change (Workload (draws 1000 4)))
workload = refl

abbrev pub workload_words : List (List ℕ)
workload_words = codes "workload" ∷ codes "--requests" ∷ codes "1" ∷ []

pub workload_of_one : served_of workload_words ≡ Some (Change (Workload (draws 1 4)))
workload_of_one = refl

workload_of_a_seed : served_of (codes "workload" ∷ codes "--seed=7" ∷ codes "--streams" ∷ codes "2" ∷ codes "--schedule" ∷ codes "3" ∷ [])
    ≡ Some (Change (Workload (record (draws 1000 2) { schedule = 3; seed = 7 })))
workload_of_a_seed = refl

workload_by_threads : served_of (codes "workload" ∷ codes "--threads" ∷ []) ≡ None
workload_by_threads = refl

workload_deeper : served_of (codes "workload" ∷ codes "--depth" ∷ codes "2" ∷ []) ≡ Some (Change (Workload (record (draws 1000 4) { core = record core { depth = 2 } })))
workload_deeper = refl

workload_with_an_image : served_of (codes "workload" ∷ codes "--image" ∷ codes "2" ∷ []) ≡ None
workload_with_an_image = refl

-- a crash has a number of calls and that of an image, both of them given
abbrev pub crash_of : ℕ → ℕ → CrashOptions
crash_of after image = record { schedule = 0; core = core; after = after; image = image }

abbrev pub crash_words : List (List ℕ)
crash_words = codes "crash" ∷ codes "--after" ∷ codes "5" ∷ codes "--image=7" ∷ []

pub crash : served_of crash_words ≡ Some (Crash (crash_of 5 7))
crash = refl

crash_by_another_schedule : served_of (codes "crash" ∷ codes "--image" ∷ codes "7" ∷ codes "--schedule=3" ∷ codes "--after=5" ∷ []) ≡ Some (Crash (record (crash_of 5 7) { schedule = 3 }))
crash_by_another_schedule = refl

crash_without_an_image : served_of (codes "crash" ∷ codes "--after" ∷ codes "5" ∷ []) ≡ None
crash_without_an_image = refl

crash_without_calls : served_of (codes "crash" ∷ codes "--image" ∷ codes "7" ∷ []) ≡ None
crash_without_calls = refl

crash_by_threads : served_of (codes "crash" ∷ codes "--after" ∷ codes "5" ∷ codes "--image=7" ∷ codes "--threads" ∷ []) ≡ None
crash_by_threads = refl

crash_deeper : served_of (codes "crash" ∷ codes "--after" ∷ codes "5" ∷ codes "--image=7" ∷ codes "--depth=2" ∷ []) ≡ Some (Crash (record (crash_of 5 7) { core = record core { depth = 2 } }))
crash_deeper = refl

twice : served_of (codes "run" ∷ codes "run" ∷ []) ≡ None
twice = refl
