-- How long each list of a zone gets: each has room for that from the start.
use Rattle.std.specs.Prelude.{ℕ}
use Rattle.std.specs.List.{AllByRecursion}
use Rattle.core_model.specs.declared.zones.ZoneData.{ZoneData}
use Rattle.core_model.specs.declared.zones.ZoneData.TheVariants as at
use Rattle.core_model.specs.declared.zones.Zone.{Zone}
use Rattle.core_model.specs.DeskLimits.{IsDeskWithin}
use Rattle.core_model.specs.DeviceLimits.{IsDeviceWithin}
use Rattle.core_model.specs.JournalLimits.{IsJournalWithin}
use Rattle.core_model.specs.LogicalLimits.{IsLogicalWithin}
use Rattle.core_model.specs.PhysicalLimits.{IsPhysicalWithin}
use Rattle.core_model.specs.SessionLimits.{IsShort}

-- what a zone keeps
abbrev pub IsDataWithin : ℕ → ZoneData → Type 0
IsDataWithin steps (at.Desk desk) = IsDeskWithin desk
IsDataWithin steps (at.Logical l) = IsLogicalWithin steps l
IsDataWithin steps (at.Physical p) = IsPhysicalWithin steps p
IsDataWithin steps (at.Journal j) = IsJournalWithin j
IsDataWithin steps (at.Device d) = IsDeviceWithin steps d

-- A zone keeps within its room.
pub record IsWithin (z : Zone) : Type 0 where
  pub inbox : IsShort z.ports.inbox
  pub outboxes : AllByRecursion (λ lane. IsShort lane) z.ports.outboxes
  pub own : IsDataWithin z.steps z.keeps
