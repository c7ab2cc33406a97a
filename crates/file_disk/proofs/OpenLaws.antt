-- What the calls that make a file come to.
use Rattle.std.proofs.Common.{◌≡◌, ◌++◌, ◌∷◌, true, Bool, List, Some, Result, Ok, Err, OnOk, refl}
use Rattle.file_disk.specs.declared.open_calls.Attempt.{Attempt}
use Rattle.file_disk.specs.declared.open_calls.OpenMode.TheVariants.{Make}
use Rattle.file_disk.specs.declared.open_files.Access.{Access}
use Rattle.file_disk.specs.OpenLog.{OpenCall, IsMade, New, Opened, SyncedFolder, misses}

-- Where it is seen that there is no file, one that is made and whose folder is synced is new.
pub made_new : {F E : Type 0} (r : Result F E) (access : Access) (before missed after : List OpenCall)
    → missed ≡ misses access ++ before
    → OnOk r ((synced : Attempt) × (after ≡ SyncedFolder (Some synced) ∷ Opened Make (Some true) ∷ missed))
    → OnOk r (IsMade access before after)
made_new (Ok file) access before missed after is made = New made.0 (rw is at made.1)
made_new (Err error) access before missed after is made = tt
