-- What an image shows after a stop: its recovery, its audit, and the values of a script's addresses.
use Rattle.std.specs.Prelude.{ℕ, ◌≡◌, ◌⊎◌, true, List, map, Some, Ok, Err}
use Rattle.audit.specs.Audits.{AuditFails, IsAudited}
use Rattle.audit.specs.declared.forms.Report.{Report}
use Rattle.blk_base.specs.Pages.{leaf_of}
use Rattle.blk_base.specs.declared.geometry.Super.{Super}
use Rattle.blk_base.specs.declared.journal_entry.CommittedEntry.{CommittedEntry}
use Rattle.command_text.specs.declared.crashes.AddressValue.{AddressValue}
use Rattle.disk_model.specs.Causes.{Rose}
use Rattle.disk_model.specs.Log.{Blocks}
use Rattle.disk_model.specs.Memory.{Memory, fresh, seen_of}
use Rattle.disk_model.specs.Picks.{IsPicked, counted_log}
use Rattle.disk_model.specs.Seen.{Seen}
use Rattle.disk_model.specs.Trust.{Trust, trust_of}
use Rattle.disk_model.specs.Since.{IsUntouched}
use Rattle.image_model.specs.Maps.{ArePagesGood}
use Rattle.image_model.specs.Sound.{Opens, image_of}
use Rattle.image_model.specs.declared.fault.ImageFault.{ImageFault}
use Rattle.image_model.specs.declared.fault.ImageFault.TheVariants as image
use Rattle.rebuild.specs.Recoveries.{IsRecovery, IsTold}
use Rattle.rebuild.specs.declared.forms.Recovered.{Recovered}
use Rattle.vdo_model.specs.Scripts.{Script}
use Rattle.crash_images.specs.Addresses.{AreAddresses}
use Rattle.crash_images.specs.Maps.{HasNoMap, ShowsMap}
use Rattle.crash_images.specs.Values.{LinkTo, address_of, value_in}
use Rattle.crash_images.specs.declared.fault.ValueFault.{ValueFault}
use Rattle.crash_images.specs.declared.fault.ValueFault.TheVariants as value
use Rattle.crash_images.specs.declared.maps.ImageMap.{ImageMap}
use Rattle.crash_images.specs.declared.shown.Shown.{Shown}

-- The values.

-- The image can be opened with this superblock, each of its pages can be read, and these are values by its map, whatever its
-- counts are.
pub record HasValues (blocks : Blocks) (head : Super) (values : List AddressValue) : Type 0 where
  pub last : ℕ
  pub window : List CommittedEntry
  pub opens : Opens blocks head last window
  pub pages : ArePagesGood (image_of head blocks window)
  pub right : values ≡ map (value_in (image_of head blocks window)) (map address_of values)

-- the map was read, and these are the addresses that the script names, with their values
pub record AreValues (trust : Trust) (script : Script) (before : Seen) (values : List AddressValue) : Type 0 where
  -- of any device
  pub found : ImageMap
  pub behind : Seen
  pub read : ShowsMap trust before behind found
  pub named : AreAddresses script found.head.geometry.logical (map address_of values)
  -- of an honest one, by its one image
  pub says : (blocks : Blocks) → IsTold trust before blocks → HasValues blocks found.head values

-- the fault of a value, as one of an image
abbrev pub image_fault_of : ValueFault → ImageFault
image_fault_of value.Device = image.Device
image_fault_of (value.Page at fault) = image.Page at fault
image_fault_of value.Memory = image.Memory

-- why a value wasn't read by a map: a read failed; a leaf is damaged; or there was no memory
abbrev pub ValueFails : ImageMap → Seen → Seen → ImageFault → Type 0
ValueFails found behind now image.Device = Rose behind.faults now.faults
ValueFails found behind now (image.Page at fault) = (address : ℕ) × LinkTo found.pages.links.items (leaf_of address) (Some at)
ValueFails found behind now image.Memory = Unit {0}
ValueFails found behind now other = ⊥

-- no page is damaged, so it has none of the faults of an image
abbrev pub IsNoPage : ImageFault → Type 0
IsNoPage (image.Page at fault) = ⊥
IsNoPage other = Unit {0}

-- the map was read, and a value wasn't
pub record HasNoValue (trust : Trust) (before now : Seen) (why : ImageFault) : Type 0 where
  -- of any device
  pub found : ImageMap
  pub behind : Seen
  pub read : ShowsMap trust before behind found
  pub cause : ValueFails found behind now why
  -- of an honest one
  pub undamaged : (blocks : Blocks) → IsTold trust before blocks → IsNoPage why

-- why there are no values: there is no map; or it was read
abbrev pub ValuesFail : Trust → Seen → Seen → ImageFault → Type 0
ValuesFail trust before now why = HasNoMap trust before now why ⊎ HasNoValue trust before now why

-- The whole.

-- a device was recovered and audited, and then the values were read, whatever blocks differ
pub record IsShown (trust : Trust) (script : Script) (before : Seen) (shown : Shown) : Type 0 where
  pub middle : Seen
  pub recovery : IsRecovery trust before middle (Ok shown.recovery)
  pub behind : Seen
  pub audited : IsAudited trust middle behind shown.audit
  pub untouched : IsUntouched trust.tells middle behind
  pub values : AreValues trust script behind shown.values.items

-- it was recovered, and its audit was refused
pub record IsNotAudited (trust : Trust) (before now : Seen) (why : ImageFault) : Type 0 where
  pub found : Recovered
  pub middle : Seen
  pub recovery : IsRecovery trust before middle (Ok found)
  pub cause : AuditFails trust middle now why

-- both were done, and there are no values
pub record HasNoValues (trust : Trust) (before now : Seen) (why : ImageFault) : Type 0 where
  pub found : Recovered
  pub middle : Seen
  pub recovery : IsRecovery trust before middle (Ok found)
  pub report : Report
  pub behind : Seen
  pub audited : IsAudited trust middle behind report
  pub untouched : IsUntouched trust.tells middle behind
  pub cause : ValuesFail trust behind now why

-- why a device shows nothing
abbrev pub ShowsNothing : Trust → Seen → Seen → ImageFault → Type 0
ShowsNothing trust before now why =
    IsRecovery trust before now (Err why) ⊎ IsNotAudited trust before now why ⊎ HasNoValues trust before now why

-- Of a picked image.

-- the image that the number picks, on a device in memory of its own
abbrev pub IsPickOf : Memory → ℕ → Blocks → Type 0
IsPickOf disk number blocks = IsPicked disk.opening (counted_log disk.fuse disk.log) number blocks

-- it shows this
pub record IsPickShown (disk : Memory) (number : ℕ) (script : Script) (shown : Shown) : Type 0 where
  pub picked : Blocks
  pub is : IsPickOf disk number picked
  pub shows : IsShown (trust_of true true) script (seen_of (fresh picked)) shown

-- it is refused for this
pub record IsPickRefused (disk : Memory) (number : ℕ) (why : ImageFault) : Type 0 where
  pub picked : Blocks
  pub is : IsPickOf disk number picked
  pub now : Seen
  pub cause : ShowsNothing (trust_of true true) (seen_of (fresh picked)) now why

-- the fault of an image there: a call of a device in memory that has no fuse fails for want of memory alone
abbrev pub pick_fault_of : ImageFault → ImageFault
pick_fault_of image.Device = image.Memory
pick_fault_of other = other

-- why a picked image shows nothing: there was no memory, or else it is refused
abbrev pub PickFails : Memory → ℕ → ImageFault → Type 0
PickFails disk number image.Memory = Unit {0}
PickFails disk number image.Device = ⊥
PickFails disk number why = IsPickRefused disk number why
