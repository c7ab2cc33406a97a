-- The bytes of a block that is filled run by run.
use Rattle.std.specs.Prelude.{ℕ, ◌≡◌, ◌≤◌, List, ◌++◌, length, take, replicate, min, Result, Ok, Err}
use Rattle.blk_base.specs.Sectors.{filled_block}
use Rattle.stream_text.specs.LineFaults.{first_of}
use Rattle.stream_text.specs.Runs.{Run}
use Rattle.stream_text.specs.declared.refusal.LineFault.{LineFault}
use Rattle.stream_text.specs.declared.blocks.PlainRun.{PlainRun}

-- the run that the code speaks of
abbrev pub run_said : Result PlainRun LineFault → Result Run LineFault
run_said (Ok run) = Ok (record { count = run.count; byte = run.byte })
run_said (Err fault) = Err fault

-- the bytes of a run
abbrev pub bytes_of_run : Result Run LineFault → Result (List ℕ) LineFault
bytes_of_run (Ok run) = Ok (replicate run.count run.byte)
bytes_of_run (Err fault) = Err fault

-- these bytes behind those, or that fault of both which is judged first
abbrev pub behind : Result (List ℕ) LineFault → Result (List ℕ) LineFault → Result (List ℕ) LineFault
behind (Ok before) (Ok bytes) = Ok (before ++ bytes)
behind (Ok before) (Err fault) = Err fault
behind (Err fault) (Ok bytes) = Err fault
behind (Err one) (Err other) = Err (first_of one other)

-- the bytes so far, or the fault that is named so far, as a block holds them: 4097 stands for more than it has room for
abbrev pub HoldsBytes : Result (List ℕ) LineFault → Result ℕ LineFault → List ℕ → Type 0
HoldsBytes (Ok bytes) (Ok filled) block = (filled ≡ min (length bytes) 4097) × (filled ≤ 4096 → take filled block ≡ bytes)
HoldsBytes (Err fault) (Err named) block = fault ≡ named
HoldsBytes (Ok bytes) (Err named) block = ⊥
HoldsBytes (Err fault) (Ok filled) block = ⊥

-- one of the byte of this run; where the run has a fault, any block
abbrev pub IsOfByte : Result PlainRun LineFault → List ℕ → Type 0
IsOfByte (Ok run) block = block ≡ filled_block run.byte
IsOfByte (Err fault) block = Unit {0}
