-- The calls of a file, for clauses alone.
use Rattle.std.specs.Prelude.{List, [], ◌∷◌}
use Rattle.file_disk.specs.FileLog.{FileCall, WriteAt, Sync}
use Rattle.file_disk.specs.declared.file_history.NewestCall.{NewestCall}
use Rattle.file_disk.specs.declared.file_history.NewestCall.TheVariants.{None as NoCall, Write as NewestWrite, Sync as NewestSync}

-- the newest call, and those before it
abbrev pub file_calls_of : NewestCall → List FileCall
file_calls_of NoCall = []
file_calls_of (NewestWrite offset bytes ok older) = WriteAt offset bytes.value ok ∷ older.value
file_calls_of (NewestSync ok older) = Sync ok ∷ older.value
