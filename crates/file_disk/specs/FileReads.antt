-- How far a read of a file has come.
use Rattle.std.specs.Prelude.{ℕ, ◌≡◌, ◌<◌, IsTrue, List, take, drop}
use Rattle.disk_model.specs.Trust.{Trust}
use Rattle.file_disk.specs.FileBytes.{front}
use Rattle.file_disk.specs.FileLog.{HoldsCalls}
use Rattle.file_disk.specs.FileSeen.{FileSeen}

-- the first so many bytes from an offset on are read, and the file is as it was
pub record IsReadTo (trust : Trust) (before now : FileSeen) (offset : ℕ) (into : List ℕ) (filled : ℕ) : Type 0 where
  pub opening : now.opening ≡ before.opening
  pub stays : IsTrue trust.tells → now ≡ before
  pub given : IsTrue trust.tells → IsTrue trust.honest → take filled into ≡ front filled (drop offset before.bytes)
  pub holds : IsTrue trust.tells → IsTrue trust.honest → 0 < filled → HoldsCalls before.opening before.log before.bytes
