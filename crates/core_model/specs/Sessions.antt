-- What a session is over, what stands on its device, and which values its addresses have.
use Rattle.std.specs.Prelude.{ℕ, ◌+◌, ◌*◌, ◌≡◌, ◌⊎◌, ◌<◌, ◌≤◌, ◌^◌, true, Option, None, Some, List, [], ◌∷◌, ◌++◌, length, map, reverse, slice_index, IsSome, IsTrue}
use Rattle.std.specs.List.{AllByRecursion}
use Rattle.blk_base.specs.Counters.{limit_of}
use Rattle.blk_base.specs.Limits.{IsGeometry}
use Rattle.blk_base.specs.Regions.{IsDataBlock, needed_blocks}
use Rattle.blk_base.specs.Pages.{above}
use Rattle.blk_base.specs.declared.geometry.Geometry.{Geometry}
use Rattle.blk_base.specs.declared.journal_entry.Entry.{Entry}
use Rattle.blk_base.specs.declared.place.Mapping.{Mapping}
use Rattle.blk_base.specs.declared.place.Mapping.TheVariants.{At}
use Rattle.blk_base.specs.declared.place.PageId.{PageId}
use Rattle.blk_base.specs.declared.place.Pbn.{Pbn}
use Rattle.disk_model.specs.Images.{IsMixOf}
use Rattle.disk_model.specs.Log as device
use Rattle.disk_model.specs.declared.call.Call.{Call}
use Rattle.disk_model.specs.declared.call.Call.TheVariants.{Read}
use Rattle.disk_model.specs.OneImages.{HasOneImageIn}
use Rattle.image_model.specs.Counts.{HasMappings}
use Rattle.image_model.specs.Sound.{AreUnshared}
use Rattle.image_model.specs.Maps.{ArePagesGood, Image, image_with, mapping_of, page_at, value_of}
use Rattle.vdo_model.specs.Journals.{Surely}
use Rattle.vdo_model.specs.Scripts.{IsServed, Script, request_at, value_written}
use Rattle.data_vio.specs.declared.sizes.Sizes.{Sizes}
use Rattle.data_vio.specs.declared.logged.Logged.{Logged}
use Rattle.data_vio.specs.declared.logged.Logged.TheVariants.{Remaps, Makes}
use Rattle.data_vio.specs.declared.logged.NewPage.{NewPage}
use Rattle.data_vio.specs.declared.logged.Remapping.{Remapping}
use Rattle.core_model.specs.PageLinks.{IsThere, empty_page}
use Rattle.core_model.specs.SessionLimits.{IsLimited}
use Rattle.core_model.specs.declared.zones.SuperblockStage.{SuperblockStage}
use Rattle.core_model.specs.declared.zones.SuperblockStage.TheVariants.{AsOpened, Written, Durable}
use Rattle.core_model.specs.Superblocks.{superblock_bytes, superblock_stage}
use Rattle.zone_counts.specs.Openings.{opened_count}
use Rattle.core_model.specs.Trace.{Calls, Harms, Trace, all_of, calls, durable, done, filled, sealed, of_address, newest, new_of, new_pages, remappings, entry_of}
use Rattle.journal_stops.specs.Rings.{IsAtRest, IsUnderWay, IsWritten}
use Rattle.journal_stops.specs.Sealed.{Sealed}
use Rattle.image_model.specs.Looked.{is_looked_at}
use Rattle.blk_base.specs.declared.journal_entry.CommittedEntry.{CommittedEntry}

-- What is fixed: the sizes, the script, where the image that was opened links its pages, and the counter of each of its data
-- blocks; the blocks that the device had when its log began, its log before the session, and the one image, the index aside, that
-- a stop left then. Of the device and its image all is said where the session is fair, and nothing else.
pub record Session : Type 0 where
  pub sizes : Sizes
  pub script : Script
  pub links : PageId → Option Pbn
  pub counters : List ℕ
  pub blocks : device.Blocks
  pub before : List Call
  pub image : device.Blocks

-- how many mappings a block had when the session began
abbrev pub opened_uses : Session → Pbn → ℕ
opened_uses s x = opened_count s.sizes.geometry s.counters x

-- the entries without their points
abbrev pub said_by : List CommittedEntry → List Entry
said_by committed = map (λ (c : CommittedEntry). c.entry) committed

-- there is a counter for each data block, and none is above the limit
pub record AreCounters (g : Geometry) (counters : List ℕ) : Type 0 where
  pub each : length counters ≡ g.slabs * g.slab_blocks
  pub limit : (k : ℕ) → slice_index counters k ≤ limit_of g

-- the session can be served, whatever the device does
pub record IsSession (s : Session) : Type 0 where
  pub sizes : IsGeometry s.sizes.geometry
  pub start : (1 ≤ s.sizes.start) × (s.sizes.start < 2 ^ 54)
  -- one block of the journal stays free
  pub used : 0 < s.sizes.geometry.journal
  pub zones : (1 ≤ s.sizes.zones) × (1 ≤ s.sizes.physical)
  -- it is no larger than it may be
  pub limits : IsLimited s.sizes s.script
  pub served : AllByRecursion (AllByRecursion IsServed) s.script
  -- a page that is linked stands at a data block, and the page above it is a root or linked
  pub linked : (page : PageId) (x : Pbn) → s.links page ≡ Some x → IsDataBlock s.sizes.geometry x.0
  pub rooted : (page : PageId) → IsSome (s.links page) → IsThere s.sizes.geometry.height s.links [] (above page)
  pub counters : AreCounters s.sizes.geometry s.counters

-- the image that was opened: a closed one has no window
abbrev pub opened_image : Session → Image
opened_image s = image_with s.sizes.geometry s.image []

-- where it maps an address
abbrev pub opened_at : Session → ℕ → Mapping
opened_at s a = mapping_of (opened_image s) a

-- The image is as it was opened: the device has room for it and had no other, the index aside; no block of its journal is as late
-- as the session; its pages can be read, and are linked as the session knows; each block has as many mappings as its counter
-- says, and the block of a page has no address.
pub record IsAsOpened (s : Session) : Type 0 where
  pub room : needed_blocks s.sizes.geometry ≤ length s.blocks
  pub one_image : HasOneImageIn (is_looked_at s.sizes.geometry) s.blocks s.before s.image
  pub journal : IsAtRest s.image [] s.sizes.geometry s.sizes.start []
  pub pages : ArePagesGood (opened_image s)
  pub links : (page : PageId) → page.level + 1 < s.sizes.geometry.height → s.links page ≡ page_at (opened_image s) page
  pub counts : (x : Pbn) → HasMappings (opened_image s) x (opened_uses s x)
  pub unshared : AreUnshared (opened_image s)

-- the device's log
abbrev pub log : Session → Trace → List Call
log s t = calls t ++ s.before

-- a read gave what the device had
abbrev pub IsHonestRead : Session → Trace → Pbn → List ℕ → Type 0
IsHonestRead s t at bytes = (length bytes ≡ 4096) × IsMixOf (device.settled s.blocks (log s t) at.0) bytes

-- each read of the session did
abbrev pub HasHonestReads : Session → Trace → Type 0
HasHonestReads s [] = Unit {0}
HasHonestReads s (Calls (Read at bytes true) ∷ t) = IsHonestRead s t at bytes × HasHonestReads s t
HasHonestReads s (Harms w at bytes fault ∷ t) = IsHonestRead s t at bytes × HasHonestReads s t
HasHonestReads s (other ∷ t) = HasHonestReads s t

-- The session is fair: its reads were honest, and the image as it was opened. What it promises of images, and of the values of
-- addresses, rests on that.
pub record IsFair (s : Session) (t : Trace) : Type 0 where
  pub honest : HasHonestReads s t
  pub opened : IsAsOpened s

-- whatever a stop leaves in a block is these bytes; and whatever a read may give is
abbrev pub Stands : Session → Trace → ℕ → List ℕ → Type 0
Stands s t x bytes = Surely s.blocks (log s t) x (λ content. content ≡ bytes)

abbrev pub ReadsAs : Session → Trace → ℕ → List ℕ → Type 0
ReadsAs s t x bytes = AllByRecursion (λ content. content ≡ bytes) (device.settled s.blocks (log s t) x)

-- what a write or a discard gives its address
abbrev pub bytes_of : Session → Remapping → List ℕ
bytes_of s e = value_written (request_at s.script e.request)

-- what the block of an entry has: what its write gives its address, or an empty page
abbrev pub content_of : Session → Logged → List ℕ
content_of s (Remaps e) = bytes_of s e
content_of s (Makes p) = empty_page s.sizes.geometry p

-- what holds of the block of a mapping, where it has one
abbrev pub OnBlock : (Pbn → Type 0) → Mapping → Type 0
OnBlock P (At x) = P x
OnBlock P other = Unit {0}

-- what these writes and discards map an address to, or else the opened image
abbrev pub mapped_or : Option Remapping → Mapping → Mapping
mapped_or None opened = opened
mapped_or (Some e) opened = e.new

abbrev pub mapping_by : Session → List Logged → ℕ → Mapping
mapping_by s es a = mapped_or (newest (of_address a (remappings es))) (opened_at s a)

-- the value of an address: that of its last write, or the one that it had when the session began
abbrev pub value_from : Session → ℕ → Option Remapping → List ℕ
value_from s a None = value_of (opened_image s) a
value_from s a (Some e) = bytes_of s e

-- What these writes, on top of the opened image, map the addresses to stands: the block of each address that has one has its value.
abbrev pub MapStands : Session → Trace → List Logged → Type 0
MapStands s t es = (a : ℕ) → OnBlock (λ x. Stands s t x.0 (value_from s a (newest (of_address a (remappings es))))) (mapping_by s es a)

-- the block of the journal that is sealed with the entries of these writes, the newest first; it names the first sequence as
-- its head
abbrev pub sealed_with : Session → List Logged → Sealed
sealed_with s es = record { head = s.sizes.start; entries = reverse (map entry_of es) }

-- the blocks of the journal with the entries of these writes, block by block
abbrev pub blocks_of : Session → List (List Logged) → List Sealed
blocks_of s [] = []
blocks_of s (es ∷ older) = sealed_with s es ∷ blocks_of s older

-- the journal has these
abbrev pub HasBlocks : Session → Trace → List (List Logged) → Type 0
HasBlocks s t blocks = IsAtRest s.blocks (log s t) s.sizes.geometry s.sizes.start (blocks_of s blocks)

-- The pages among these entries stand as empty ones: as yet no page is written again.
abbrev pub PagesStand : Session → Trace → List Logged → Type 0
PagesStand s t es = AllByRecursion (λ (p : NewPage). Stands s t p.at.0 (empty_page s.sizes.geometry p)) (new_pages es)

-- and their map stands, with its pages
abbrev pub AtRest : Session → Trace → List (List Logged) → Type 0
AtRest s t blocks = HasBlocks s t blocks × MapStands s t (all_of blocks) × PagesStand s t (all_of blocks)

-- what each of these writes maps its address to stands; and a read gives it
abbrev pub NewStands : Session → Trace → List Logged → Type 0
NewStands s t es = AllByRecursion (λ (e : Logged). OnBlock (λ x. Stands s t x.0 (content_of s e)) (new_of e)) es

abbrev pub NewReads : Session → Trace → List Logged → Type 0
NewReads s t es = AllByRecursion (λ (e : Logged). OnBlock (λ x. ReadsAs s t x.0 (content_of s e)) (new_of e)) es

-- besides, the block of these writes is under way, and what they map their addresses to stands
abbrev pub OnItsWay : Session → Trace → List (List Logged) → List Logged → Type 0
OnItsWay s t older es =
    IsUnderWay s.blocks (log s t) s.sizes.geometry s.sizes.start (blocks_of s older) (sealed_with s es) × MapStands s t (all_of older) × PagesStand s t (all_of older) × NewStands s t es

-- and a read of that block's place gives it
abbrev pub ReadsBlock : Session → Trace → List (List Logged) → List Logged → Type 0
ReadsBlock s t older es = IsWritten s.blocks (log s t) s.sizes.geometry s.sizes.start (blocks_of s older) (sealed_with s es)

-- All blocks that were sealed are there; of the last one some may not be committed.
pub record AreAllThere (s : Session) (t : Trace) : Type 0 where
  pub rest : List Logged
  pub all : all_of (sealed t) ≡ rest ++ durable t
  pub stands : AtRest s t (sealed t)

-- The last one comes: the others are there and committed, and it wasn't written, or is under way.
pub record ComesLast (s : Session) (t : Trace) : Type 0 where
  pub block : List Logged
  pub older : List (List Logged)
  pub sealed_is : sealed t ≡ block ∷ older
  pub committed_is : durable t ≡ all_of older
  pub stands : AtRest s t older ⊎ OnItsWay s t older block

-- block 0 is as it was opened, or the superblock of the session
abbrev pub IsSuperblock : Session → List ℕ → Type 0
IsSuperblock s content = (content ≡ device.block_at s.image 0) ⊎ (content ≡ superblock_bytes s.sizes)

abbrev pub HasSuperblock : Session → Trace → Type 0
HasSuperblock s t = Surely s.blocks (log s t) 0 (IsSuperblock s)

-- what stands of it: until it is durable, whatever a stop leaves is one of the two; once it is written, a read gives it
abbrev pub SuperblockStands : Session → Trace → SuperblockStage → Type 0
SuperblockStands s t AsOpened = HasSuperblock s t
SuperblockStands s t Written = HasSuperblock s t × ReadsAs s t 0 (superblock_bytes s.sizes)
SuperblockStands s t Durable = Stands s t 0 (superblock_bytes s.sizes)

-- a block that the session leaves as it was: it is none of the index, the superblock and the journal, and no data block but one
-- that has a page of the opened image
pub record IsKept (s : Session) (x : ℕ) : Type 0 where
  pub inside : x < needed_blocks s.sizes.geometry
  pub looked : IsTrue (is_looked_at s.sizes.geometry x)
  pub behind : s.sizes.geometry.journal < x
  pub unfreed : IsDataBlock s.sizes.geometry x → (page : PageId) × (page.level + 1 < s.sizes.geometry.height) × (s.links page ≡ Some (record { 0 = x }))

-- each of these stands as it was opened
abbrev pub KeptStands : Session → Trace → Type 0
KeptStands s t = (x : ℕ) → IsKept s x → Stands s t x (device.block_at s.image x)

-- What stands on the device: the superblock, all that the session leaves as it was, the blocks that were sealed, of which the last may be coming, with the map of
-- their entries; and a read of each block to which an entry of the block being filled maps its address gives its value.
pub record Shown (s : Session) (t : Trace) : Type 0 where
  pub superblock : SuperblockStands s t (superblock_stage t)
  pub kept : KeptStands s t
  pub journal : AreAllThere s t ⊎ ComesLast s t
  pub filling : NewReads s t (filled t)

abbrev pub value_at : Session → Trace → ℕ → List ℕ
value_at s t a = value_from s a (newest (of_address a (done t)))
