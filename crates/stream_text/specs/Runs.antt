-- Bytes as runs.
use Rattle.std.specs.Prelude.{ℕ, suc, List, [], ◌∷◌, ◌++◌, ◌==◌, codes, decimal, if◌then◌else◌}
use Rattle.hex.specs.Hex.{encode_lower}

-- so many times the same byte
pub record Run : Type 0 where
  pub count : ℕ
  pub byte : ℕ

-- a byte before these runs: the first of them gets longer, if it is of this byte
abbrev pub with_byte : ℕ → List Run → List Run
with_byte byte [] = record { count = 1; byte = byte } ∷ []
with_byte byte (run ∷ runs) =
    if run.byte == byte then record { count = suc run.count; byte = byte } ∷ runs else record { count = 1; byte = byte } ∷ run ∷ runs

-- the longest runs
abbrev pub runs_of : List ℕ → List Run
runs_of [] = []
runs_of (byte ∷ bytes) = with_byte byte (runs_of bytes)

-- `4096*61`
abbrev pub run_text : Run → List ℕ
run_text run = decimal run.count ++ codes "*" ++ encode_lower (run.byte ∷ [])

-- the runs behind the first
abbrev pub later_text : List Run → List ℕ
later_text [] = []
later_text (run ∷ runs) = codes "+" ++ run_text run ++ later_text runs

-- `1*41+4095*00`
abbrev pub runs_text : List Run → List ℕ
runs_text [] = []
runs_text (run ∷ runs) = run_text run ++ later_text runs
