-- What the device zone does: one call of the device. A failed read has any bytes.
use Rattle.std.specs.Prelude.{ℕ, ◌+◌, ◌≡◌, ◌<◌, Bool, true, false, Option, None, Some, List, [], ◌∷◌, map, replicate, slice_index_or, ◌⊎◌}
use Rattle.blk_base.specs.Pages.{slot_of_address}
use Rattle.blk_base.specs.Regions.{journal_slot_of, needed_blocks}
use Rattle.blk_base.specs.declared.place.Mapping.{Mapping}
use Rattle.blk_base.specs.declared.place.Mapping.TheVariants.{At, Unmapped}
use Rattle.blk_base.specs.declared.place.PageId.{PageId}
use Rattle.blk_base.specs.declared.sizes.TheConstants.{PAGE_SLOTS}
use Rattle.page_codec.specs.Grammar.{IsPage, IsPageFault}
use Rattle.page_codec.specs.PageBytes.{page_bytes}
use Rattle.page_codec.specs.declared.fault.PageFault.{PageFault}
use Rattle.vdo_model.specs.declared.report.Damage.{Damage}
use Rattle.vdo_model.specs.declared.report.Damage.TheVariants.{Page}
use Rattle.blk_base.specs.declared.place.Pbn.{Pbn}
use Rattle.blk_base.specs.declared.place.ZoneId.{ZoneId}
use Rattle.blk_base.specs.declared.place.ZoneId.TheVariants as id
use Rattle.blk_base.specs.declared.request.Answer.TheVariants as reply
use Rattle.blk_base.specs.declared.request.Writer.{Writer}
use Rattle.disk_model.specs.declared.call.Call.{Call}
use Rattle.disk_model.specs.declared.call.Call.TheVariants.{Read, Write, Flush}
use Rattle.journal_codec.specs.BlockBytes.{block_bytes}
use Rattle.vdo_model.specs.Journals.{block_of_slot}
use Rattle.data_vio.specs.declared.items.Item.{Item}
use Rattle.data_vio.specs.declared.items.Item.TheVariants as item
use Rattle.data_vio.specs.declared.items.Phase.TheVariants as phase
use Rattle.data_vio.specs.declared.items.SealedBlock.{SealedBlock}
use Rattle.data_vio.specs.declared.items.Stage.{Stage}
use Rattle.data_vio.specs.declared.items.Stage.TheVariants as stage
use Rattle.data_vio.specs.declared.items.Vio.{Vio}
use Rattle.data_vio.specs.declared.sizes.Sizes.{Sizes}
use Rattle.core_model.specs.declared.zones.DeviceZone.{DeviceZone}
use Rattle.core_model.specs.declared.zones.SuperblockStage.{SuperblockStage}
use Rattle.core_model.specs.declared.zones.SuperblockStage.TheVariants.{AsOpened, Written, Durable}
use Rattle.core_model.specs.Superblocks.{superblock_bytes}
use Rattle.data_vio.specs.Phases.{AtDevice, phase_rule, stage_rule}
use Rattle.core_model.specs.PageLinks.{leaf_head}
use Rattle.core_model.specs.Trace.{Trace, Calls, Fails, Harms, Hears, entry_of, first_of}
use Rattle.data_vio.specs.Vios.{Post, counts_of, turned, ended, has_leaf, logged, staged}
use Rattle.data_vio.specs.Zones.{notified}

-- one more call succeeded
abbrev pub counted : DeviceZone → DeviceZone
counted d = record d { calls = d.calls + 1 }

-- the session is stopped
abbrev pub halted : DeviceZone → DeviceZone
halted d = record d { stopped = true }

-- the notice of that, to these zones
abbrev pub stop_notices : List ZoneId → List Post
stop_notices [] = []
stop_notices (to ∷ others) = (to, item.StopNotice) ∷ stop_notices others

-- one that was stopped before sends no more
abbrev pub notices_after : Bool → Sizes → List Post
notices_after true sizes = []
notices_after false sizes = stop_notices (notified sizes)

-- something is damaged: that stops the session
abbrev pub harmed : Damage → DeviceZone → DeviceZone
harmed damage d = record d { stopped = true; damage = first_of d.damage damage }

-- what is written for a write to its block: its data, or the page that it makes, which leads nowhere
abbrev pub page_at : Sizes → PageId → Pbn → List ℕ
page_at sizes page x = page_bytes (record { geometry = sizes.geometry; page = page; at = x }) (replicate PAGE_SLOTS Unmapped)

abbrev pub stored_for : Sizes → Option PageId → List ℕ → Pbn → List ℕ
stored_for sizes None bytes x = bytes
stored_for sizes (Some page) bytes x = page_at sizes page x

abbrev pub stored : Sizes → Vio → Pbn → List ℕ
stored sizes v x = stored_for sizes v.page v.bytes x

-- Until the superblock is durable, each item that comes in front has its next call made, and waits again behind the others.
-- that call, and how far the superblock has come then
abbrev pub superblock_call : Sizes → Bool → SuperblockStage → Option Call
superblock_call sizes ok AsOpened = Some (Write (record { 0 = 0 }) (superblock_bytes sizes) ok)
superblock_call sizes ok Written = Some (Flush ok)
superblock_call sizes ok Durable = None

abbrev pub next_superblock : SuperblockStage → SuperblockStage
next_superblock AsOpened = Written
next_superblock other = Durable

abbrev pub announced : DeviceZone → DeviceZone
announced d = record (counted d) { superblock = next_superblock d.superblock }

-- it is made where the session isn't stopped, and a failure is told to this request
pub data Announces (sizes : Sizes) (old : DeviceZone) (front : Item) (w : Writer) (new : DeviceZone) (made : Trace) (posts : List Post) : Type 0 where
  succeeds : (call : Call) → superblock_call sizes true old.superblock ≡ Some call → old.stopped ≡ false
      → new ≡ announced old → made ≡ Calls call ∷ [] → posts ≡ (id.Device, front) ∷ []
      → Announces sizes old front w new made posts
  fails : (call : Call) (kept : Bool) → superblock_call sizes false old.superblock ≡ Some call → old.stopped ≡ false
      → new ≡ halted old → made ≡ Fails w call kept ∷ [] → posts ≡ (id.Device, front) ∷ stop_notices (notified sizes)
      → Announces sizes old front w new made posts

-- nothing waits for it: it is durable, or the session is stopped
abbrev pub IsReady : DeviceZone → Type 0
IsReady d = (d.stopped ≡ true) ⊎ (d.superblock ≡ Durable)

-- the block lies inside the image
abbrev pub IsInside : Sizes → Pbn → Type 0
IsInside sizes x = x.0 < needed_blocks sizes.geometry

pub data DeviceServes (sizes : Sizes) (old : DeviceZone) (v : Vio) (new : DeviceZone) (made : Trace) (posts : List Post) : Type 0 where
  -- the superblock, for which it waits
  announces : (phase_rule v.phase).zone ≡ AtDevice → Announces sizes old (item.Request v) v.request new made posts → DeviceServes sizes old v new made posts
  -- the data of a write
  stores : (x : Pbn) → v.phase ≡ phase.Store → v.new ≡ At x → old.stopped ≡ false → old.superblock ≡ Durable → IsInside sizes x
      → new ≡ counted old → made ≡ Calls (Write x (stored sizes v x) true) ∷ [] → posts ≡ (id.Journal, item.Request (turned phase.Enter v)) ∷ []
      → DeviceServes sizes old v new made posts
  store_fails : (x : Pbn) (kept : Bool) → v.phase ≡ phase.Store → v.new ≡ At x → old.stopped ≡ false → old.superblock ≡ Durable → IsInside sizes x
      → new ≡ halted old → made ≡ Fails v.request (Write x (stored sizes v x) false) kept ∷ []
      → posts ≡ (counts_of sizes v, item.Request (ended phase.AbortClaim reply.Stopped v)) ∷ stop_notices (notified sizes)
      → DeviceServes sizes old v new made posts
  store_unmade : v.phase ≡ phase.Store → old.stopped ≡ true
      → new ≡ old → made ≡ [] → posts ≡ (counts_of sizes v, item.Request (ended phase.AbortClaim reply.Stopped v)) ∷ []
      → DeviceServes sizes old v new made posts
  -- the block of a read
  loads : (x : Pbn) (bytes : List ℕ) → v.phase ≡ phase.Load → v.old ≡ At x → IsReady old → IsInside sizes x
      → new ≡ counted old → made ≡ Calls (Read x bytes true) ∷ [] → posts ≡ (v.home, item.Request (record v { phase = phase.Loaded; bytes = bytes })) ∷ []
      → DeviceServes sizes old v new made posts
  load_fails : (x : Pbn) (bytes : List ℕ) (kept : Bool) → v.phase ≡ phase.Load → v.old ≡ At x → IsReady old → IsInside sizes x
      → new ≡ old → made ≡ Fails v.request (Read x bytes false) kept ∷ [] → posts ≡ (v.home, item.Request (ended phase.Abort reply.ReadFault v)) ∷ []
      → DeviceServes sizes old v new made posts
  -- the leaf of an address, which says what that is mapped to
  loads_leaf : (x : Pbn) (bytes : List ℕ) (mappings : List Mapping) → v.phase ≡ phase.LoadLeaf → v.leaf ≡ Some x → IsReady old → IsInside sizes x → IsPage (leaf_head sizes.geometry v.at.0 x) bytes mappings
      → new ≡ counted old → made ≡ Calls (Read x bytes true) ∷ []
      → posts ≡ (v.home, item.Request (has_leaf (slice_index_or mappings (slot_of_address v.at.0) Unmapped) v)) ∷ []
      → DeviceServes sizes old v new made posts
  leaf_fails : (x : Pbn) (bytes : List ℕ) (kept : Bool) → v.phase ≡ phase.LoadLeaf → v.leaf ≡ Some x → IsReady old → IsInside sizes x
      → new ≡ old → made ≡ Fails v.request (Read x bytes false) kept ∷ [] → posts ≡ (v.home, item.Request (ended phase.Abort reply.ReadFault v)) ∷ []
      → DeviceServes sizes old v new made posts
  -- or doesn't decode: the session is stopped, where it isn't yet
  harms : (x : Pbn) (bytes : List ℕ) (fault : PageFault) → v.phase ≡ phase.LoadLeaf → v.leaf ≡ Some x → IsReady old → IsInside sizes x → IsPageFault (leaf_head sizes.geometry v.at.0 x) bytes fault
      → new ≡ harmed (Page x fault) (counted old) → made ≡ Harms v.request x bytes fault ∷ []
      → posts ≡ (v.home, item.Request (ended phase.Abort reply.Damaged v)) ∷ notices_after old.stopped sizes
      → DeviceServes sizes old v new made posts
  -- a flush request
  flushes : v.phase ≡ phase.Flush → old.stopped ≡ false → old.superblock ≡ Durable
      → new ≡ counted old → made ≡ Calls (Flush true) ∷ []
      → posts ≡ (id.Desk, item.Request (record v { phase = phase.Reply; answer = Some reply.Ok; calls = old.calls + 1 })) ∷ []
      → DeviceServes sizes old v new made posts
  flush_fails : (kept : Bool) → v.phase ≡ phase.Flush → old.stopped ≡ false → old.superblock ≡ Durable
      → new ≡ halted old → made ≡ Fails v.request (Flush false) kept ∷ []
      → posts ≡ (id.Desk, item.Request (ended phase.Reply reply.Stopped v)) ∷ stop_notices (notified sizes)
      → DeviceServes sizes old v new made posts
  flush_unmade : v.phase ≡ phase.Flush → old.stopped ≡ true
      → new ≡ old → made ≡ [] → posts ≡ (id.Desk, item.Request (ended phase.Reply reply.Stopped v)) ∷ []
      → DeviceServes sizes old v new made posts

-- the bytes of a sealed block: its entries, the oldest first, with its head
abbrev pub journal_bytes : Sizes → SealedBlock → List ℕ
journal_bytes sizes b = block_bytes sizes.geometry.nonce b.sequence b.head (map (λ (v : Vio). entry_of (logged v)) b.vios)

-- the block of the journal where it stands
abbrev pub IsItsSlot : Sizes → SealedBlock → Pbn → Type 0
IsItsSlot sizes b slot = slot.0 ≡ block_of_slot (journal_slot_of sizes.geometry b.sequence)

-- what a sealed block needs of the device at a stage, and where it goes then
abbrev pub call_of : Sizes → SealedBlock → Pbn → Bool → Stage → Option Call
call_of sizes b slot ok stage.Cover = Some (Flush ok)
call_of sizes b slot ok stage.Write = Some (Write slot (journal_bytes sizes b) ok)
call_of sizes b slot ok stage.Harden = Some (Flush ok)
call_of sizes b slot ok other = None

abbrev pub next_stage : Stage → Stage
next_stage now = (stage_rule now).next

abbrev pub next_zone : Stage → ZoneId
next_zone now = (stage_rule (next_stage now)).zone

-- A block without an entry is none of these. A failure is told to the oldest of its requests.
pub data DeviceWorks (sizes : Sizes) (old : DeviceZone) (b : SealedBlock) (new : DeviceZone) (made : Trace) (posts : List Post) : Type 0 where
  -- the superblock, for which it waits
  announces : (v : Vio) (vs : List Vio) → b.vios ≡ v ∷ vs → (stage_rule b.stage).zone ≡ id.Device → Announces sizes old (item.Block b) v.request new made posts → DeviceWorks sizes old b new made posts
  makes : (call : Call) (slot : Pbn) (v : Vio) (vs : List Vio) → b.vios ≡ v ∷ vs → IsItsSlot sizes b slot → call_of sizes b slot true b.stage ≡ Some call → old.stopped ≡ false → old.superblock ≡ Durable
      → new ≡ counted old → made ≡ Calls call ∷ [] → posts ≡ (next_zone b.stage, item.Block (staged (next_stage b.stage) b)) ∷ []
      → DeviceWorks sizes old b new made posts
  fails : (call : Call) (slot : Pbn) (kept : Bool) (v : Vio) (vs : List Vio) → b.vios ≡ v ∷ vs → IsItsSlot sizes b slot → call_of sizes b slot false b.stage ≡ Some call → old.stopped ≡ false → old.superblock ≡ Durable
      → new ≡ halted old → made ≡ Fails v.request call kept ∷ [] → posts ≡ (id.Journal, item.Block (staged stage.Fail b)) ∷ stop_notices (notified sizes)
      → DeviceWorks sizes old b new made posts
  unmade : (call : Call) (slot : Pbn) (v : Vio) (vs : List Vio) → b.vios ≡ v ∷ vs → call_of sizes b slot false b.stage ≡ Some call → old.stopped ≡ true
      → new ≡ old → made ≡ [] → posts ≡ (id.Journal, item.Block (staged stage.Fail b)) ∷ []
      → DeviceWorks sizes old b new made posts

-- The device's zone is told what another zone found damaged: the session is stopped, where it isn't yet.
pub record DeviceHears (sizes : Sizes) (old : DeviceZone) (damage : Damage) (new : DeviceZone) (made : Trace) (posts : List Post) : Type 0 where
  pub new_is : new ≡ harmed damage old
  pub made_is : made ≡ Hears damage ∷ []
  pub posts_are : posts ≡ notices_after old.stopped sizes
