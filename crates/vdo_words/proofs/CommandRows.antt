-- Rows that pin the commands: what each takes, its defaults, what it requires, and what excludes what.
use Rattle.std.specs.Prelude.{◌≡◌, [], ◌∷◌, codes, Some, None, Ok, Err, refl}
use Rattle.vdo_words.specs.Commands.{command_of, read}
use Rattle.vdo_words.specs.declared.commands.CoreOptions.{CoreOptions}
use Rattle.vdo_words.specs.declared.commands.Drive.TheVariants as drive
use Rattle.vdo_words.specs.declared.commands.Command.TheVariants.{Format, Run, Recover, ForceRebuild, Grow, Audit, Status, Crash, Workload}

-- the options of a core that has none
abbrev pub core : CoreOptions
core = record { depth = 1; logical_zones = 1; physical_zones = 1; hash_zones = 1; cache = 16 }

-- `format`
format-defaults : command_of (codes "format" ∷ []) ≡ Some (Format (record {
  logical = 1000;
  slabs = 1;
  slab_blocks = 64;
  journal = 8;
  index = 16;
  slab_journal = 4;
  height = 2;
  nonce = 1;
}))
format-defaults = refl

format-whole : command_of (codes "format" ∷ codes "--logical=2" ∷ codes "--slabs=3" ∷ codes "--slab-blocks=4" ∷ codes "--journal=5"
    ∷ codes "--index=6" ∷ codes "--slab-journal=7" ∷ codes "--height=0" ∷ codes "--nonce=0" ∷ []) ≡ Some (Format (record {
      logical = 2;
      slabs = 3;
      slab_blocks = 4;
      journal = 5;
      index = 6;
      slab_journal = 7;
      height = 0;
      nonce = 0;
    }))
format-whole = refl

format-foreign : command_of (codes "format" ∷ codes "--depth=1" ∷ []) ≡ None
format-foreign = refl

-- `run`
run-defaults : command_of (codes "run" ∷ []) ≡ Some (Run (record { drive = drive.Schedule 0; core = core }))
run-defaults = refl

run-whole : command_of (codes "run" ∷ codes "--schedule=7" ∷ codes "--depth=8" ∷ codes "--logical-zones=2" ∷ codes "--physical-zones=3"
    ∷ codes "--hash-zones=4" ∷ codes "--cache=5" ∷ []) ≡ Some (Run (record {
      drive = drive.Schedule 7;
      core = record { depth = 8; logical_zones = 2; physical_zones = 3; hash_zones = 4; cache = 5 };
    }))
run-whole = refl

run-threads : command_of (codes "run" ∷ codes "--threads" ∷ []) ≡ Some (Run (record { drive = drive.Threads; core = core }))
run-threads = refl

run-both : command_of (codes "run" ∷ codes "--threads" ∷ codes "--schedule=1" ∷ []) ≡ None
run-both = refl

run-foreign : command_of (codes "run" ∷ codes "--seed=1" ∷ []) ≡ None
run-foreign = refl

-- the commands without options
recover-alone : command_of (codes "recover" ∷ []) ≡ Some Recover
recover-alone = refl

recover-more : command_of (codes "recover" ∷ codes "--depth=1" ∷ []) ≡ None
recover-more = refl

force-rebuild-alone : command_of (codes "force-rebuild" ∷ []) ≡ Some ForceRebuild
force-rebuild-alone = refl

force-rebuild-more : command_of (codes "force-rebuild" ∷ codes "--slabs=1" ∷ []) ≡ None
force-rebuild-more = refl

-- `grow`
grow-required : command_of (codes "grow" ∷ codes "--slabs=2" ∷ codes "--logical" ∷ codes "2000" ∷ []) ≡ Some (Grow (record { logical = 2000; slabs = 2 }))
grow-required = refl

grow-no-slabs : command_of (codes "grow" ∷ codes "--logical=2000" ∷ []) ≡ None
grow-no-slabs = refl

grow-no-logical : command_of (codes "grow" ∷ codes "--slabs=2" ∷ []) ≡ None
grow-no-logical = refl

grow-foreign : command_of (codes "grow" ∷ codes "--slabs=2" ∷ codes "--logical=2000" ∷ codes "--height=3" ∷ []) ≡ None
grow-foreign = refl

audit-alone : command_of (codes "audit" ∷ []) ≡ Some Audit
audit-alone = refl

audit-more : command_of (codes "audit" ∷ codes "status" ∷ []) ≡ None
audit-more = refl

status-alone : command_of (codes "status" ∷ []) ≡ Some Status
status-alone = refl

status-more : command_of (codes "status" ∷ codes "--threads" ∷ []) ≡ None
status-more = refl

-- `crash`
crash-required : command_of (codes "crash" ∷ codes "--image=1" ∷ codes "--after=3" ∷ []) ≡ Some (Crash (record {
  schedule = 0;
  core = core;
  after = 3;
  image = 1;
}))
crash-required = refl

crash-schedule : command_of (codes "crash" ∷ codes "--image=1" ∷ codes "--after=3" ∷ codes "--schedule=2" ∷ []) ≡ Some (Crash (record {
  schedule = 2;
  core = core;
  after = 3;
  image = 1;
}))
crash-schedule = refl

crash-no-image : command_of (codes "crash" ∷ codes "--after=3" ∷ []) ≡ None
crash-no-image = refl

crash-no-after : command_of (codes "crash" ∷ codes "--image=1" ∷ []) ≡ None
crash-no-after = refl

crash-threads : command_of (codes "crash" ∷ codes "--image=1" ∷ codes "--after=3" ∷ codes "--threads" ∷ []) ≡ None
crash-threads = refl

-- `workload`
workload-defaults : command_of (codes "workload" ∷ []) ≡ Some (Workload (record {
  schedule = 0;
  core = core;
  seed = 0;
  requests = 1000;
  streams = 4;
}))
workload-defaults = refl

workload-whole : command_of (codes "workload" ∷ codes "--seed=5" ∷ codes "--requests=6" ∷ codes "--streams=7" ∷ codes "--schedule=8" ∷ [])
    ≡ Some (Workload (record { schedule = 8; core = core; seed = 5; requests = 6; streams = 7 }))
workload-whole = refl

workload-threads : command_of (codes "workload" ∷ codes "--threads" ∷ []) ≡ None
workload-threads = refl

-- no word, and words that are no command
no-word : command_of [] ≡ None
no-word = refl

no-command : command_of (codes "help" ∷ []) ≡ None
no-command = refl

help : command_of (codes "run" ∷ codes "--help" ∷ []) ≡ None
help = refl

two-hyphens : command_of (codes "run" ∷ codes "--" ∷ []) ≡ None
two-hyphens = refl

refused : read (codes "RUN" ∷ []) ≡ Err (record {})
refused = refl

taken : read (codes "status" ∷ []) ≡ Ok Status
taken = refl
