-- A file as a device of blocks.
use Rattle.std.specs.Prelude.{ℕ, ◌≡◌, ◌*◌, IsTrue, List, [], ◌∷◌, length}
use Rattle.disk_model.specs.declared.call.Call.{Call}
use Rattle.disk_model.specs.declared.call.Call.TheVariants.{Read, Write, Flush}
use Rattle.disk_model.specs.Seen.{Seen}
use Rattle.disk_model.specs.Trust.{Trust}
use Rattle.file_disk.specs.FileBytes.{blocks_of}
use Rattle.file_disk.specs.FileLog.{FileCall, WriteAt, Sync}
use Rattle.file_disk.specs.FileSeen.{FileSeen}

-- what contracts see of it: its file, its size in blocks, its log and how many calls failed
pub record FileBlocks (F : Type 0) : Type 0 where
  pub file : F
  pub blocks : ℕ
  pub log : List Call
  pub faults : ℕ

-- what it shows as a device: block n is the bytes of the file from 4,096 n on
abbrev pub disk_seen : {F : Type 0} → (F → FileSeen) → FileBlocks F → Seen
disk_seen seen disk = record { opening = blocks_of disk.blocks (seen disk.file).opening; size = disk.blocks; log = disk.log; faults = disk.faults; unkept = 0 }

-- what the calls of a device do to its file: a read changes nothing, a write writes the block's bytes, and a flush syncs
abbrev pub file_calls : List Call → List FileCall
file_calls [] = []
file_calls (Read _ _ _ ∷ older) = file_calls older
file_calls (Write at bytes ok ∷ older) = WriteAt (4096 * at.0) bytes ok ∷ file_calls older
file_calls (Flush ok ∷ older) = Sync ok ∷ file_calls older

-- each write is of a whole block
abbrev pub AreWhole : List Call → Type 0
AreWhole [] = Unit {0}
AreWhole (Read _ _ _ ∷ older) = AreWhole older
AreWhole (Write at bytes ok ∷ older) = (length bytes ≡ 4096) × AreWhole older
AreWhole (Flush _ ∷ older) = AreWhole older

-- the log is that of the file, where the file tells
pub record IsTied (trust : Trust) (file : FileSeen) (log : List Call) : Type 0 where
  pub whole : AreWhole log
  pub same : IsTrue trust.tells → file.log ≡ file_calls log
