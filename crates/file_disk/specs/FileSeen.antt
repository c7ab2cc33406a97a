-- What contracts see of a file at a moment.
use Rattle.std.specs.Prelude.{ℕ, ◌≡◌, ◌*◌, ◌≤◌, ◌<◌, List, [], take, drop, length}
use Rattle.file_disk.specs.FileBytes.{front}
use Rattle.file_disk.specs.FileLog.{FileCall}

-- the bytes that it had when its log began, the writes and syncs since, the newest first, and the bytes that it has
pub record FileSeen : Type 0 where
  pub opening : List ℕ
  pub log : List FileCall
  pub bytes : List ℕ

-- a file on which no call was made since its log began
pub record IsJustOpened (file : FileSeen) : Type 0 where
  pub log : file.log ≡ []

-- a read at an offset gave so many bytes: those of the file, zeros behind its end, and none only there
pub record Gives (file : FileSeen) (offset : ℕ) (into : List ℕ) (count : ℕ) : Type 0 where
  pub bytes : take count into ≡ front count (drop offset file.bytes)
  pub end : count ≡ 0 → 0 < length into → length file.bytes ≤ offset

-- an offset at which a sector begins
abbrev pub BeginsSector : ℕ → Type 0
BeginsSector offset = (s : ℕ) × (offset ≡ 512 * s)
