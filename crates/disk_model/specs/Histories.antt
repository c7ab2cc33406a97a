-- The calls of a device, of which each succeeded.
use Rattle.std.specs.Prelude.{List, [], ◌∷◌, true}
use Rattle.disk_model.specs.declared.call.Call.{Call}
use Rattle.disk_model.specs.declared.call.Call.TheVariants.{Read, Write, Flush}
use Rattle.disk_model.specs.declared.history.Newest.{Newest}
use Rattle.disk_model.specs.declared.history.Newest.TheVariants.{None as NoCall, Read as NewestRead, Write as NewestWrite, Flush as NewestFlush}

-- the newest call, and those before it
abbrev pub calls_of : Newest → List Call
calls_of NoCall = []
calls_of (NewestRead at bytes older) = Read at bytes.value true ∷ older.value
calls_of (NewestWrite at bytes older) = Write at bytes.value true ∷ older.value
calls_of (NewestFlush older) = Flush true ∷ older.value
