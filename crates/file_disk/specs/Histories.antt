-- The calls of a device, for clauses alone.
use Rattle.std.specs.Prelude.{List, [], ◌∷◌}
use Rattle.disk_model.specs.declared.call.Call.{Call}
use Rattle.disk_model.specs.declared.call.Call.TheVariants.{Read, Write, Flush}
use Rattle.file_disk.specs.declared.history.Newest.{Newest}
use Rattle.file_disk.specs.declared.history.Newest.TheVariants.{None as NoCall, Read as NewestRead, Write as NewestWrite, Flush as NewestFlush}

-- the newest call, and those before it
abbrev pub calls_of : Newest → List Call
calls_of NoCall = []
calls_of (NewestRead at bytes ok older) = Read at bytes.value ok ∷ older.value
calls_of (NewestWrite at bytes ok older) = Write at bytes.value ok ∷ older.value
calls_of (NewestFlush ok older) = Flush ok ∷ older.value
