-- The map of an image, by which its values are read, whatever its counts are.
use Rattle.std.specs.Prelude.{◌≡◌, ◌⊎◌, List, Ok}
use Rattle.audit.specs.Audits.{IsOpenedTo}
use Rattle.blk_base.specs.Limits.{IsGeometry}
use Rattle.blk_base.specs.declared.geometry.Super.{Super}
use Rattle.blk_base.specs.declared.journal_entry.CommittedEntry.{CommittedEntry}
use Rattle.disk_model.specs.Log.{Blocks}
use Rattle.disk_model.specs.Seen.{Seen}
use Rattle.disk_model.specs.Trust.{Trust}
use Rattle.image_layout.specs.Opened.{super_of_image}
use Rattle.image_model.specs.Maps.{Image}
use Rattle.image_model.specs.Sound.{image_of}
use Rattle.image_model.specs.declared.fault.ImageFault.{ImageFault}
use Rattle.image_opening.specs.Heads.{HeadFails, IsHeadRead}
use Rattle.journal_window.specs.States.{WindowState}
use Rattle.rebuild.specs.Recoveries.{IsTold}
use Rattle.replay_map.specs.Changes.{AreNewest}
use Rattle.replay_map.specs.Forms.{HasForm}
use Rattle.replay_map.specs.Reads.{LeadToData}
use Rattle.replay_map.specs.Replayed.{HasMap, IsMapRead, ReplayFails}
use Rattle.crash_images.specs.declared.maps.ImageMap.{ImageMap}

-- Of any device.

-- it fits its sizes: its links have the form of a map, and its changes lead to data blocks alone
pub record Fits (map : ImageMap) : Type 0 where
  pub sizes : IsGeometry map.head.geometry
  pub form : HasForm map.head.geometry map.pages.links.items map.pages.slots.items
  pub leads : LeadToData map.head.geometry map.changes

-- block 0 was read, then the journal, and then pages, and they show this map
pub record ShowsMap (trust : Trust) (before now : Seen) (map : ImageMap) : Type 0 where
  pub window : WindowState
  pub middle : Seen
  pub opened_to : IsOpenedTo trust before middle map.head window
  pub pages : IsMapRead trust map.head.geometry window middle now map.pages
  pub newest : AreNewest window.entries map.changes

-- why there is none: block 0 is no superblock; or it was read, and the journal or the pages show why
abbrev pub HasNoMap : Trust → Seen → Seen → ImageFault → Type 0
HasNoMap trust before now why =
    HeadFails trust before now why
    ⊎ ((head : Super) × (middle : Seen) × IsHeadRead trust before middle head × ReplayFails trust head middle now why)

-- Of an honest device.

-- these blocks have this superblock and, with this window, this map; and the changes are those of the window
pub record IsMapIn (map : ImageMap) (blocks : Blocks) (window : List CommittedEntry) : Type 0 where
  pub accepted : super_of_image blocks ≡ Ok map.head
  pub newest : AreNewest window map.changes
  pub has : HasMap (image_of map.head blocks window) map.pages

-- something is said of an honest device whose one image, the index aside, has this map
abbrev pub OfMap : Trust → Seen → ImageMap → (Image → Type 0) → Type 0
OfMap trust before map Says =
    (blocks : Blocks) (window : List CommittedEntry) → IsTold trust before blocks → IsMapIn map blocks window → Says (image_of map.head blocks window)
