-- A step of one zone, and a move between two. They speak of a zone's own data and lanes and of nothing else.
use Rattle.std.specs.Prelude.{ℕ, zero, suc, ◌+◌, ◌-◌, ◌^◌, ◌≡◌, ◌≢◌, ◌<◌, ◌≤◌, ◌⊎◌, Bool, true, false, List, [], ◌∷◌, ◌++◌, Some, slice_get, slice_set, nat_eq}
use Rattle.blk_base.specs.declared.place.ZoneId.TheVariants as id
use Rattle.blk_base.specs.declared.request.Answer.TheVariants as reply
use Rattle.blk_base.specs.declared.request.Writer.{Writer}
use Rattle.vdo_model.specs.DeskLog.{IsNextLine}
use Rattle.vdo_model.specs.declared.report.Damage.{Damage}
use Rattle.vdo_model.specs.declared.report.DeskLine.TheVariants as line
use Rattle.data_vio.specs.declared.items.Item.{Item}
use Rattle.data_vio.specs.declared.items.Item.TheVariants.{Request, Block, Decrement, Report, StopNotice}
use Rattle.data_vio.specs.declared.items.Item.TheVariants as item
use Rattle.data_vio.specs.declared.items.SealedBlock.{SealedBlock}
use Rattle.data_vio.specs.declared.items.Vio.{Vio}
use Rattle.data_vio.specs.declared.logged.Remapping.{Remapping}
use Rattle.data_vio.specs.declared.sizes.Sizes.{Sizes}
use Rattle.core_model.specs.declared.zones.ZoneData.{ZoneData}
use Rattle.core_model.specs.declared.zones.ZoneData.TheVariants as at
use Rattle.core_model.specs.DeskData.{Desk}
use Rattle.core_model.specs.declared.zones.DeviceZone.{DeviceZone}
use Rattle.core_model.specs.JournalData.{JournalZone}
use Rattle.core_model.specs.LogicalData.{LogicalZone}
use Rattle.core_model.specs.declared.zones.PhysicalZone.{PhysicalZone}
use Rattle.core_model.specs.declared.zones.Zone.{Zone}
use Rattle.core_model.specs.Trace.{Trace}
use Rattle.data_vio.specs.Vios.{Post}
use Rattle.core_model.specs.DeskRules.{DeskBegins, DeskServes, with_notice, woken}
use Rattle.core_model.specs.LogicalRules.{LogicalServes, LogicalHears}
use Rattle.core_model.specs.PhysicalRules.{PhysicalServes, PhysicalTakes}
use Rattle.core_model.specs.JournalRules.{JournalServes, JournalEnds, all_refused}
use Rattle.core_model.specs.DeviceRules.{DeviceServes, DeviceWorks, DeviceHears}
use Rattle.data_vio.specs.Zones.{zone_number}
use Rattle.plain_laws.specs.Sums.{Each}

-- What a zone does with the item at the front of its inbox, or the desk with none: what it keeps then, what happens, and
-- what it posts.
pub data Act (sizes : Sizes) : ZoneData → List Item → ZoneData → Trace → List Post → Type 0 where
  begins : {old new : Desk} {made : Trace} {posts : List Post} → DeskBegins sizes old new made posts → Act sizes (at.Desk old) [] (at.Desk new) made posts
  answers : {old new : Desk} {v : Vio} {made : Trace} {posts : List Post} → DeskServes sizes old v new made posts → Act sizes (at.Desk old) (Request v ∷ []) (at.Desk new) made posts
  hears : {old : Desk} → Act sizes (at.Desk old) (StopNotice ∷ []) (at.Desk (with_notice old)) [] (woken old.parked)
  serves : {old new : LogicalZone} {v : Vio} {made : Trace} {posts : List Post} → LogicalServes sizes old v new made posts → Act sizes (at.Logical old) (Request v ∷ []) (at.Logical new) made posts
  settles : {old new : LogicalZone} {e : Remapping} {made : Trace} {posts : List Post} → LogicalHears sizes old e new made posts → Act sizes (at.Logical old) (Report e ∷ []) (at.Logical new) made posts
  serves_notice : {old : LogicalZone} → Act sizes (at.Logical old) (StopNotice ∷ []) (at.Logical (record old { notified = true })) [] ((id.Desk, StopNotice) ∷ [])
  takes : {old new : PhysicalZone} {v : Vio} {made : Trace} {posts : List Post} → PhysicalServes sizes old v new made posts → Act sizes (at.Physical old) (Request v ∷ []) (at.Physical new) made posts
  updates : {old new : PhysicalZone} {e : Remapping} {made : Trace} {posts : List Post} → PhysicalTakes sizes old e new made posts → Act sizes (at.Physical old) (Decrement e ∷ []) (at.Physical new) made posts
  takes_notice : {old : PhysicalZone} → Act sizes (at.Physical old) (StopNotice ∷ []) (at.Physical (record old { notified = true })) [] ((id.Desk, StopNotice) ∷ [])
  enters : {old new : JournalZone} {v : Vio} {made : Trace} {posts : List Post} → JournalServes sizes old v new made posts → Act sizes (at.Journal old) (Request v ∷ []) (at.Journal new) made posts
  ends : {old new : JournalZone} {b : SealedBlock} {made : Trace} {posts : List Post} → JournalEnds sizes old b new made posts → Act sizes (at.Journal old) (Block b ∷ []) (at.Journal new) made posts
  enters_notice : {old : JournalZone} → Act sizes (at.Journal old) (StopNotice ∷ []) (at.Journal (record old { notified = true; waiting = [] })) []
      ((id.Desk, StopNotice) ∷ all_refused sizes reply.Stopped old.waiting)
  calls : {old new : DeviceZone} {v : Vio} {made : Trace} {posts : List Post} → DeviceServes sizes old v new made posts → Act sizes (at.Device old) (Request v ∷ []) (at.Device new) made posts
  works : {old new : DeviceZone} {b : SealedBlock} {made : Trace} {posts : List Post} → DeviceWorks sizes old b new made posts → Act sizes (at.Device old) (Block b ∷ []) (at.Device new) made posts
  halts : {old new : DeviceZone} {damage : Damage} {made : Trace} {posts : List Post} → DeviceHears sizes old damage new made posts → Act sizes (at.Device old) (item.Damage damage ∷ []) (at.Device new) made posts

-- a rule applies to it
abbrev pub HasAct : Sizes → ZoneData → List Item → Type 0
HasAct sizes keeps front = (new : ZoneData) × (made : Trace) × (posts : List Post) × Act sizes keeps front new made posts

-- the zone calls the device
abbrev pub CallsDevice : ZoneData → Type 0
CallsDevice (at.Device d) = Unit {0}
CallsDevice other = ⊥

-- an item behind those of one of the lists
abbrev pub posted : ℕ → Item → List (List Item) → List (List Item)
posted to item [] = []
posted zero item (lane ∷ lanes) = (lane ++ item ∷ []) ∷ lanes
posted (suc to) item (lane ∷ lanes) = lane ∷ posted to item lanes

-- a zone with other items in its inbox, or in its outboxes
abbrev pub with_inbox : Zone → List Item → Zone
with_inbox z items = record z { ports = record z.ports { inbox = items } }

abbrev pub with_outboxes : Zone → List (List Item) → Zone
with_outboxes z lanes = record z { ports = record z.ports { outboxes = lanes } }

-- what a zone posts to itself goes to its own inbox
abbrev pub sent_to : Bool → ℕ → Item → Zone → Zone
sent_to true to item z = with_inbox z (z.ports.inbox ++ item ∷ [])
sent_to false to item z = with_outboxes z (posted to item z.ports.outboxes)

abbrev pub sent : Sizes → Post → Zone → Zone
sent sizes post z = sent_to (nat_eq (zone_number sizes post.0) z.number) (zone_number sizes post.0) post.1 z

abbrev pub delivered : Sizes → List Post → Zone → Zone
delivered sizes [] z = z
delivered sizes (post ∷ posts) z = delivered sizes posts (sent sizes post z)

-- how many steps a zone may make
abbrev pub step_limit : ℕ
step_limit = 2 ^ 64 - 1

-- One step of a zone: it takes the front of its inbox; where that is empty, the desk begins a request. Its steps are
-- counted.
pub record ZoneStep (sizes : Sizes) (old new : Zone) (made : Trace) : Type 0 where
  pub front : List Item
  pub rest : List Item
  pub posts : List Post
  pub counts : old.steps < step_limit
  pub taken : old.ports.inbox ≡ front ++ rest
  pub in_turn : front ≡ [] → rest ≡ []
  pub act : Act sizes old.keeps front new.keeps made posts
  pub lanes : new ≡ delivered sizes posts (record old { keeps = new.keeps; ports = record old.ports { inbox = rest }; steps = old.steps + 1 })

-- a stream may begin its next request, where the zone is the desk
abbrev pub MayBegin : Sizes → ZoneData → Type 0
MayBegin sizes (at.Desk desk) = (w : Writer) × IsNextLine sizes.depth desk.requests (line.Begin w) desk.log
MayBegin sizes other = ⊥

-- there is nothing for a zone to do: its inbox is empty, and no stream may begin a request
pub record HasNothing (sizes : Sizes) (z : Zone) : Type 0 where
  pub inbox : z.ports.inbox ≡ []
  pub none_begins : MayBegin sizes z.keeps → ⊥

-- A zone has no work: there is nothing to do, or it made all its steps.
abbrev pub IsIdle : Sizes → Zone → Type 0
IsIdle sizes z = HasNothing sizes z ⊎ (step_limit ≤ z.steps)

-- Nothing is left to do in a core: each zone has nothing to do, and all that it posted to another has moved there.
pub record IsStill (sizes : Sizes) (zones : List Zone) : Type 0 where
  pub nothing : Each (λ n z. HasNothing sizes z) zones
  pub all_moved : Each (λ n z. (to : ℕ) (lane : List Item) → to ≢ n → slice_get z.ports.outboxes to ≡ Some lane → lane ≡ []) zones

-- The core: its zones by number, and what has happened.
pub record Core : Type 0 where
  pub zones : List Zone
  pub trace : Trace

abbrev pub core_with : List Zone → Trace → Core
core_with zones t = record { zones = zones; trace = t }

-- One zone steps, and all others stay.
pub record StepOf (sizes : Sizes) (old new : Core) : Type 0 where
  pub number : ℕ
  pub zone : Zone
  pub zone' : Zone
  pub made : Trace
  pub had : slice_get old.zones number ≡ Some zone
  pub step : ZoneStep sizes zone zone' made
  pub has : new ≡ record { zones = slice_set old.zones number zone'; trace = made ++ old.trace }

-- A front part of an outbox becomes the tail of the receiver's inbox.
pub record MoveOf (old new : Core) : Type 0 where
  pub from : ℕ
  pub to : ℕ
  pub source : Zone
  pub target : Zone
  pub part : List Item
  pub left : List Item
  pub apart : from ≢ to
  pub had_source : slice_get old.zones from ≡ Some source
  pub had_target : slice_get old.zones to ≡ Some target
  pub outbox : slice_get source.ports.outboxes to ≡ Some (part ++ left)
  pub has : new ≡ record {
    zones = slice_set (slice_set old.zones from (with_outboxes source (slice_set source.ports.outboxes to left))) to (with_inbox target (target.ports.inbox ++ part));
    trace = old.trace;
  }

-- A list of events leads from one core to another: the newest event stands first.
pub data Leads (sizes : Sizes) : Core → Core → Type 0 where
  rests : {core : Core} → Leads sizes core core
  steps : {first before after : Core} → StepOf sizes before after → Leads sizes first before → Leads sizes first after
  moves : {first before after : Core} → MoveOf before after → Leads sizes first before → Leads sizes first after
