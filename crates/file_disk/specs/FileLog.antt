-- The log of a file: the writes and syncs made, the newest first, and what a read and a stop may find of them.
use Rattle.std.specs.Prelude.{ℕ, ◌≡◌, ◌+◌, ◌-◌, ◌*◌, Bool, true, false, if◌then◌else◌, ◌&&◌, leb, ltb, List, [], ◌∷◌, length, drop}
use Rattle.disk_model.specs.Images.{OneOf}
use Rattle.file_disk.specs.FileBytes.{front, file_sector}

-- a call that may change a file, and whether it succeeded
pub data FileCall : Type 0 where
  -- bytes written at an offset
  WriteAt : ℕ → List ℕ → Bool → FileCall
  -- all that was written so far is made to last
  Sync : Bool → FileCall

-- whether a write of these bytes at this offset reaches this sector
abbrev pub reaches : ℕ → List ℕ → ℕ → Bool
reaches offset bytes s = leb offset (512 * s) && ltb (512 * s) (offset + length bytes)

-- what such a write puts into this sector
abbrev pub put_into : ℕ → List ℕ → ℕ → List ℕ
put_into offset bytes s = front 512 (drop (512 * s - offset) bytes)

-- what a read may find in a sector: what the last successful write to it put there (or what was there when the log began), and
-- what the failed writes since then put
abbrev pub sector_settled : List ℕ → List FileCall → ℕ → List (List ℕ)
sector_settled opening [] s = file_sector s opening ∷ []
sector_settled opening (Sync _ ∷ older) s = sector_settled opening older s
sector_settled opening (WriteAt offset bytes true ∷ older) s = if reaches offset bytes s then put_into offset bytes s ∷ [] else sector_settled opening older s
sector_settled opening (WriteAt offset bytes false ∷ older) s = if reaches offset bytes s then put_into offset bytes s ∷ sector_settled opening older s else sector_settled opening older s

-- what a stop may leave in a sector: what was settled at the last successful sync (or what was there when the log began), and
-- what any write since then put, failed or not
abbrev pub sector_contents : List ℕ → List FileCall → ℕ → List (List ℕ)
sector_contents opening [] s = file_sector s opening ∷ []
sector_contents opening (Sync true ∷ older) s = sector_settled opening older s
sector_contents opening (Sync false ∷ older) s = sector_contents opening older s
sector_contents opening (WriteAt offset bytes _ ∷ older) s = if reaches offset bytes s then put_into offset bytes s ∷ sector_contents opening older s else sector_contents opening older s

-- a file that holds, sector by sector, what these calls settled
abbrev pub HoldsCalls : List ℕ → List FileCall → List ℕ → Type 0
HoldsCalls opening log bytes = (s : ℕ) → OneOf (λ content. file_sector s bytes ≡ content) (sector_settled opening log s)

-- a file that a stop after these calls may leave
abbrev pub IsFileImage : List ℕ → List FileCall → List ℕ → Type 0
IsFileImage opening log image = (s : ℕ) → OneOf (λ content. file_sector s image ≡ content) (sector_contents opening log s)
