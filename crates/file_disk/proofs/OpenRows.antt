-- Small cases that each clause on how a file is opened accepts, and ones that it refuses.
use Rattle.std.proofs.Common.{◌≡◌, Bool, true, false, None, Some, List, [], ◌∷◌, refl}
use Rattle.file_disk.specs.declared.open_calls.FileKind.TheVariants.{Missing, Other}
use Rattle.file_disk.specs.declared.open_calls.OpenMode.TheVariants.{Read, Change, Make}
use Rattle.file_disk.specs.declared.open_calls.Attempt.TheVariants.{Done, LeftOut}
use Rattle.file_disk.specs.declared.open_files.Access.TheVariants.{Look as ToLook, Change as ToChange}
use Rattle.file_disk.specs.OpenLog.{OpenCall, AskedKind, Copied, Locked, Opened, SyncedFolder, IsMade, Found, New, IsOpened, IsRefused}

-- A file that is there is opened as it is.
found_to_look : IsMade ToLook [] (Opened Read (Some true) ∷ AskedKind (Some Other) ∷ [])
found_to_look = Found refl

found_to_change : IsMade ToChange [] (Opened Change (Some true) ∷ [])
found_to_change = Found refl

-- One that is looked at isn't opened to be written.
looks_alone : IsMade ToLook [] (Opened Change (Some true) ∷ AskedKind (Some Other) ∷ []) → ⊥
looks_alone (Found same) = cc same
looks_alone (New synced same) = cc same

-- One that is made has its folder synced, and is made where none was found.
made_to_change : IsMade ToChange [] (SyncedFolder (Some Done) ∷ Opened Make (Some true) ∷ Opened Change (Some false) ∷ [])
made_to_change = New Done refl

made_to_look : IsMade ToLook [] (SyncedFolder (Some LeftOut) ∷ Opened Make (Some true) ∷ AskedKind (Some Missing) ∷ [])
made_to_look = New LeftOut refl

made_not_synced : IsMade ToChange [] (Opened Make (Some true) ∷ Opened Change (Some false) ∷ []) → ⊥
made_not_synced (Found same) = cc same
made_not_synced (New synced same) = cc same

made_at_once : IsMade ToChange [] (SyncedFolder (Some Done) ∷ Opened Make (Some true) ∷ []) → ⊥
made_at_once (Found same) = cc same
made_at_once (New synced same) = cc same

-- It is locked behind that, for what is done to it.
opened_to_change : IsOpened ToChange [] (Locked ToChange (Some Done) ∷ Copied true ∷ Opened Change (Some true) ∷ [])
opened_to_change = record { locked = Done; made = Opened Change (Some true) ∷ []; is_made = found_to_change; calls = refl }

locked_to_look : IsOpened ToChange [] (Locked ToLook (Some Done) ∷ Copied true ∷ Opened Change (Some true) ∷ []) → ⊥
locked_to_look is = cc is.calls

lock_failed : IsOpened ToChange [] (Locked ToChange None ∷ Copied true ∷ Opened Change (Some true) ∷ []) → ⊥
lock_failed is = cc is.calls

not_copied : IsOpened ToChange [] (Locked ToChange (Some Done) ∷ Opened Change (Some true) ∷ []) → ⊥
not_copied is = cc is.calls

-- Refused is what a call that failed refuses, and not one that was made.
refused_by_lock : IsRefused (Locked ToChange None ∷ [])
refused_by_lock = tt

not_by_a_lock : IsRefused (Locked ToChange (Some Done) ∷ []) → ⊥
not_by_a_lock is = is

not_by_a_copy : IsRefused (Copied true ∷ []) → ⊥
not_by_a_copy is = is
