-- The calls that open a file, the newest first, and what came of each.
use Rattle.std.specs.Prelude.{◌≡◌, Bool, true, false, Option, None, Some, Result, Ok, Err, List, [], ◌∷◌, ◌++◌}
use Rattle.file_disk.specs.declared.open_calls.FileKind.{FileKind}
use Rattle.file_disk.specs.declared.open_calls.FileKind.TheVariants.{Missing, Pipe, Other}
use Rattle.file_disk.specs.declared.open_calls.OpenMode.{OpenMode}
use Rattle.file_disk.specs.declared.open_calls.OpenMode.TheVariants.{Read, Change, Make}
use Rattle.file_disk.specs.declared.open_calls.Attempt.{Attempt}
use Rattle.file_disk.specs.declared.open_files.Access.{Access}
use Rattle.file_disk.specs.declared.open_files.Access.TheVariants.{Look as ToLook, Change as ToChange}

-- a call, and what it gave; none where it failed
pub data OpenCall : Type 0 where
  -- what is at the path was asked
  AskedKind : Option FileKind → OpenCall
  -- the file was to be opened: it was, or there is none
  Opened : OpenMode → Option Bool → OpenCall
  -- its folder was to be synced
  SyncedFolder : Option Attempt → OpenCall
  -- a descriptor of its own was asked for
  Copied : Bool → OpenCall
  -- it was to be locked
  Locked : Access → Option Attempt → OpenCall

-- whether a file was found, where the call didn't fail
abbrev pub found_in : {F E : Type 0} → Result (Option F) E → Option Bool
found_in (Ok (Some file)) = Some true
found_in (Ok None) = Some false
found_in (Err error) = None

-- how a file that is there is opened
abbrev pub opens : Access → List OpenCall
opens ToLook = Opened Read (Some true) ∷ AskedKind (Some Other) ∷ []
opens ToChange = Opened Change (Some true) ∷ []

-- how it is seen that there is none
abbrev pub misses : Access → List OpenCall
misses ToLook = AskedKind (Some Missing) ∷ []
misses ToChange = Opened Change (Some false) ∷ []

-- a file that is there was opened, or one was made, and behind that its folder was synced
pub data IsMade (access : Access) (before after : List OpenCall) : Type 0 where
  Found : after ≡ opens access ++ before → IsMade access before after
  New : (synced : Attempt) → after ≡ SyncedFolder (Some synced) ∷ Opened Make (Some true) ∷ (misses access ++ before) → IsMade access before after

-- a file was opened or made, its descriptor copied, and then it was locked for what is done to it
pub record IsOpened (access : Access) (before after : List OpenCall) : Type 0 where
  pub locked : Attempt
  pub made : List OpenCall
  pub is_made : IsMade access before made
  pub calls : after ≡ Locked access (Some locked) ∷ Copied true ∷ made

-- the newest call failed, found a pipe, or no file to be opened
abbrev pub IsRefused : List OpenCall → Type 0
IsRefused (AskedKind None ∷ _) = Unit {0}
IsRefused (AskedKind (Some Pipe) ∷ _) = Unit {0}
IsRefused (Opened _ None ∷ _) = Unit {0}
IsRefused (Opened _ (Some false) ∷ _) = Unit {0}
IsRefused (SyncedFolder None ∷ _) = Unit {0}
IsRefused (Copied false ∷ _) = Unit {0}
IsRefused (Locked _ None ∷ _) = Unit {0}
IsRefused _ = ⊥
