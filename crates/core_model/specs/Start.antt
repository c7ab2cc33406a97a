-- The start of a core: nothing is begun, and every lane is empty.
use Rattle.std.specs.Prelude.{ℕ, ◌+◌, ◌≡◌, ◌<◌, false, None, [], length}
use Rattle.std.specs.List.{AllByRecursion}
use Rattle.core_model.specs.declared.zones.ZoneData.{ZoneData}
use Rattle.core_model.specs.declared.zones.ZoneData.TheVariants as at
use Rattle.core_model.specs.DeskData.{Desk}
use Rattle.core_model.specs.declared.zones.DeviceZone.{DeviceZone}
use Rattle.core_model.specs.declared.zones.SuperblockStage.TheVariants.{AsOpened}
use Rattle.core_model.specs.JournalData.{JournalZone}
use Rattle.core_model.specs.LogicalData.{LogicalZone}
use Rattle.core_model.specs.declared.zones.PhysicalZone.{PhysicalZone}
use Rattle.core_model.specs.declared.zones.Zone.{Zone}
use Rattle.data_vio.specs.Zones.{desk_number, logical_number, physical_number, journal_number, device_number, zone_count}
use Rattle.core_model.specs.PageTrees.{IsMapTree}
use Rattle.blk_base.specs.declared.place.Pbn.{Pbn}
use Rattle.core_model.specs.Sessions.{Session, opened_uses}
use Rattle.core_model.specs.PhysicalRules.{HasTicketRoom}
use Rattle.slab_tickets.specs.Tickets.{empty_desk}
use Rattle.zone_counts.specs.ByBlock.{claims_in, counter_in}
use Rattle.zone_counts.specs.Zone.{IsOfZone, IsZone}
use Rattle.core_model.specs.Steps.{Core}
use Rattle.data_vio.specs.declared.sizes.Sizes.{Sizes}
use Rattle.plain_laws.specs.Sums.{Each}
use Rattle.recovery_journal.specs.Log.{Log, opening}

-- the desk has the script, and began nothing
pub record IsFirstDesk (s : Session) (number : ℕ) (desk : Desk) : Type 0 where
  pub number_is : number ≡ desk_number
  pub requests : desk.requests ≡ s.script
  pub log : desk.log ≡ []
  pub marks : desk.marks ≡ []
  pub receipts : desk.receipts ≡ []
  pub notices : desk.notices ≡ 0
  pub parked : desk.parked ≡ []

-- a logical zone drew nothing, and has set nothing; it has the pages that the opened image links
pub record IsFirstLogical (s : Session) (number : ℕ) (l : LogicalZone) : Type 0 where
  pub number_is : number ≡ logical_number l.zone
  pub among : l.zone < s.sizes.zones
  pub notified : l.notified ≡ false
  pub next : l.next ≡ 0
  pub places : l.places ≡ []
  pub held : l.held ≡ []
  pub waiting : l.waiting ≡ []
  pub retired : l.retired ≡ []
  pub tree : IsMapTree s.sizes.geometry l.zone s.sizes.zones s.links [] l.tree
  pub making : l.making ≡ []
  pub lacking : l.lacking ≡ []
  pub unlinkable : l.unlinkable ≡ []
  pub settling : l.settling ≡ []
  pub reported : l.reported ≡ []
  pub slots : l.slots ≡ []

-- a physical zone has its slabs, with the counters of the opened image, no claim and no ticket
pub record IsFirstPhysical (s : Session) (number : ℕ) (p : PhysicalZone) : Type 0 where
  pub number_is : number ≡ physical_number s.sizes p.counts.zone
  pub notified : p.notified ≡ false
  pub strays : p.strays ≡ []
  pub is_zone : IsZone p.counts
  pub geometry : p.counts.geometry ≡ s.sizes.geometry
  pub zones : p.counts.zones ≡ s.sizes.physical
  pub counters : (x : Pbn) → IsOfZone p.counts x → counter_in x p.counts.slabs ≡ opened_uses s x
  pub claims : (x : Pbn) → claims_in x p.counts.slabs ≡ 0
  pub desk : p.counts.desk ≡ empty_desk p.counts.zone p.counts.desk.room
  pub room : HasTicketRoom s.sizes p.counts.desk.room

-- The log of a session is empty. The logical and the physical zones say what they need of it.
abbrev pub first_log : Sizes → Log
first_log sizes = opening sizes.geometry sizes.start (sizes.zones + sizes.physical)

pub record IsFirstJournal (s : Session) (number : ℕ) (j : JournalZone) : Type 0 where
  pub number_is : number ≡ journal_number s.sizes
  pub notified : j.notified ≡ false
  pub busy : j.busy ≡ false
  pub broken : j.broken ≡ false
  pub log : j.log ≡ first_log s.sizes
  pub filling : j.filling ≡ []
  pub waiting : j.waiting ≡ []
  pub entered : j.entered ≡ []
  pub committed : j.committed ≡ []

pub record IsFirstDevice (s : Session) (number : ℕ) (d : DeviceZone) : Type 0 where
  pub number_is : number ≡ device_number s.sizes
  pub stopped : d.stopped ≡ false
  pub calls : d.calls ≡ 0
  pub superblock : d.superblock ≡ AsOpened
  pub damage : d.damage ≡ None

abbrev pub IsFirstData : Session → ℕ → ZoneData → Type 0
IsFirstData s number (at.Desk desk) = IsFirstDesk s number desk
IsFirstData s number (at.Logical l) = IsFirstLogical s number l
IsFirstData s number (at.Physical p) = IsFirstPhysical s number p
IsFirstData s number (at.Journal j) = IsFirstJournal s number j
IsFirstData s number (at.Device d) = IsFirstDevice s number d

-- a zone that made no step, with nothing in its lanes
pub record IsFirstZone (s : Session) (number : ℕ) (z : Zone) : Type 0 where
  pub number_is : z.number ≡ number
  pub steps : z.steps ≡ 0
  pub lanes : length z.ports.outboxes ≡ zone_count s.sizes
  pub inbox : z.ports.inbox ≡ []
  pub outboxes : AllByRecursion (λ lane. lane ≡ []) z.ports.outboxes
  pub own : IsFirstData s number z.keeps

pub record IsFirst (s : Session) (core : Core) : Type 0 where
  pub count : length core.zones ≡ zone_count s.sizes
  pub each : Each (IsFirstZone s) core.zones
  pub trace_is : core.trace ≡ []
