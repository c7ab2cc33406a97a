-- What each item carries, and what each zone has: the facts of all zones together.
use Rattle.std.specs.Prelude.{ℕ, ◌≡◌, ◌≤◌, true, false, Option, None, Some, List, [], ◌∷◌, length, slice_get, Contains, if◌then◌else◌}
use Rattle.std.specs.List.{AllByRecursion}
use Rattle.blk_base.specs.declared.place.ZoneId.{ZoneId}
use Rattle.blk_base.specs.declared.place.ZoneId.TheVariants as id
use Rattle.blk_base.specs.declared.request.Writer.{Writer}
use Rattle.blk_base.specs.Regions.{IsDataBlock}
use Rattle.vdo_model.specs.Places.{zone_of}
use Rattle.data_vio.specs.declared.items.Asks.TheVariants.{Write, Flush}
use Rattle.data_vio.specs.declared.items.Item.{Item}
use Rattle.data_vio.specs.declared.items.Item.TheVariants as item
use Rattle.data_vio.specs.declared.items.Phase.{Phase}
use Rattle.data_vio.specs.declared.items.Phase.TheVariants as phase
use Rattle.data_vio.specs.declared.items.SealedBlock.{SealedBlock}
use Rattle.data_vio.specs.declared.items.Vio.{Vio}
use Rattle.core_model.specs.declared.zones.ZoneData.{ZoneData}
use Rattle.core_model.specs.declared.zones.ZoneData.TheVariants as at
use Rattle.core_model.specs.declared.zones.Zone.{Zone}
use Rattle.core_model.specs.DeviceRules.{page_at}
use Rattle.data_vio.specs.Phases.{phase_rule}
use Rattle.data_vio.specs.Zones.{counts_in, zone_number, zone_count, notified_zones, logical_number, device_number}
use Rattle.core_model.specs.RightTraces.{IsLeafy, MapsTo, NeedsBlock, IsCommitted, AllBelow}
use Rattle.core_model.specs.Sessions.{Session, IsFair, OnBlock, ReadsAs, value_at}
use Rattle.blk_base.specs.declared.place.PageId.{PageId}
use Rattle.plain_laws.specs.Sums.{Each}
use Rattle.core_model.specs.Trace.{Trace, durable, added, has_taken, has_stopped}
use Rattle.data_vio.specs.Vios.{logged, remapping}
use Rattle.core_model.specs.PhysicalRules.{next_step}
use Rattle.data_vio.specs.declared.logged.Logged.TheVariants.{Remaps}
use Rattle.core_model.specs.DeskFacts.{DeskLists, DeskWasTold, IsSoundDesk, MayReply}
use Rattle.core_model.specs.DeviceFacts.{DeviceLists, IsToInside, IsTold, NeedsLeaf}
use Rattle.core_model.specs.JournalFacts.{HasPageEntry, HasPendingEntry, IsEntered, IsSoundJournal, JournalLists, JournalWasTold, RestsAt, StandsAt}
use Rattle.core_model.specs.LogicalFacts.{HasLeaf, HasSpent, Holds, IsInTurn, IsPlaced, IsReport, IsSoundLogical, IsUndrawn, IsUnmade, LogicalAnswers, LogicalLists, LogicalWasTold, Looks, MakesPage, TookNone, turn_of}
use Rattle.core_model.specs.PhysicalFacts.{IsAsking, IsDecrement, IsSoundPhysical, IsWithdrawing, PhysicalLists}
use Rattle.core_model.specs.RequestFacts.{ClaimOk, IsToBlock, VioOk, zone_at, zone_of_stage}

-- what a write carries while it makes a page
abbrev pub CarriesPage : Session → Trace → Vio → PageId → Phase → Type 0
CarriesPage s t v page phase.Claim = MakesPage s t v page × IsUnmade s t page × IsAsking s t v.request v.place v.tickets × (has_taken t v.request (Some page) ≡ false)
CarriesPage s t v page phase.Withdraw = MakesPage s t v page × IsUnmade s t page × IsWithdrawing s t v.request v.claim v.tickets
CarriesPage s t v page phase.Store = MakesPage s t v page × IsUnmade s t page × IsToBlock v.new
CarriesPage s t v page phase.Enter = MakesPage s t v page × IsUnmade s t page × IsToBlock v.new × (IsFair s t → OnBlock (λ x. ReadsAs s t x.0 (page_at s.sizes page x)) v.new)
CarriesPage s t v page phase.Pending = MakesPage s t v page × IsToBlock v.new × HasPageEntry s t (logged v) page
CarriesPage s t v page phase.Count = MakesPage s t v page × IsToBlock v.new × HasPageEntry s t (logged v) page × Contains (durable t) (logged v)
CarriesPage s t v page phase.Settle = MakesPage s t v page × IsToBlock v.new × HasPageEntry s t (logged v) page × Contains (durable t) (logged v) × Contains (added t) (logged v)
CarriesPage s t v page phase.AbortClaim = MakesPage s t v page × IsUnmade s t page × MayReply s t v v.answer
CarriesPage s t v page phase.Abort = MakesPage s t v page × IsUnmade s t page × MayReply s t v v.answer
CarriesPage s t v page phase.AbortEnteredClaim = MakesPage s t v page × IsToBlock v.new × HasPageEntry s t (logged v) page × MayReply s t v v.answer × (has_stopped t ≡ true)
CarriesPage s t v page phase.AbortEntered = MakesPage s t v page × IsToBlock v.new × HasPageEntry s t (logged v) page × MayReply s t v v.answer × (has_stopped t ≡ true)
CarriesPage s t v page other = ⊥

-- What a request carries in each phase, while it is about its own address.
abbrev pub CarriesOwn : Session → Trace → Vio → Phase → Type 0
CarriesOwn s t v phase.Arrive = IsUndrawn t v.request v.asks
CarriesOwn s t v phase.Wait = IsPlaced s t v × TookNone t v.request
CarriesOwn s t v phase.Look = IsInTurn s t v × HasSpent s t v.request None
CarriesOwn s t v phase.LoadLeaf = IsInTurn s t v × (has_taken t v.request None ≡ false) × NeedsLeaf s t v.at.0 v.leaf v.latest
CarriesOwn s t v phase.LoadedLeaf = HasLeaf s t (turn_of v) v.old v.latest × (has_taken t v.request None ≡ false)
CarriesOwn s t v phase.Claim = Holds s t v × (v.asks ≡ Write) × NeedsBlock t v.request v.bytes × IsLeafy s t v.at.0 × IsAsking s t v.request v.place v.tickets
CarriesOwn s t v phase.Withdraw = Holds s t v × (v.asks ≡ Write) × IsLeafy s t v.at.0 × IsWithdrawing s t v.request v.claim v.tickets
CarriesOwn s t v phase.Store = Holds s t v × (v.asks ≡ Write) × IsToBlock v.new × IsLeafy s t v.at.0
CarriesOwn s t v phase.Enter = Holds s t v × MapsTo v.asks v.bytes v.new × (IsFair s t → OnBlock (λ x. ReadsAs s t x.0 v.bytes) v.new) × IsLeafy s t v.at.0
CarriesOwn s t v phase.Pending = HasPendingEntry s t v.asks v.bytes (remapping v)
CarriesOwn s t v phase.Count = IsEntered s t v × IsCommitted t (remapping v) × AllBelow t v.at.0 v.place × IsToBlock v.new × IsLeafy s t v.at.0
CarriesOwn s t v phase.Settle = IsEntered s t v × IsCommitted t (remapping v) × AllBelow t v.at.0 v.place × OnBlock (λ x. IsDataBlock s.sizes.geometry x.0 × Contains (added t) (Remaps (remapping v))) v.new × IsLeafy s t v.at.0
CarriesOwn s t v phase.Load = Looks s t v × IsToInside s v.old
CarriesOwn s t v phase.Loaded = Looks s t v × (IsFair s t → v.bytes ≡ value_at s t v.at.0)
CarriesOwn s t v phase.AbortClaim = IsInTurn s t v × MayReply s t v v.answer
CarriesOwn s t v phase.Abort = IsInTurn s t v × MayReply s t v v.answer
CarriesOwn s t v phase.AbortEnteredClaim = IsEntered s t v × MayReply s t v v.answer × (has_stopped t ≡ true)
CarriesOwn s t v phase.AbortEntered = IsEntered s t v × MayReply s t v v.answer × (has_stopped t ≡ true)
CarriesOwn s t v phase.Flush = v.asks ≡ Flush
CarriesOwn s t v phase.Reply = MayReply s t v v.answer

-- and whatever it is about
abbrev pub CarriesFor : Session → Trace → Vio → Phase → Option PageId → Type 0
CarriesFor s t v q None = CarriesOwn s t v q
CarriesFor s t v q (Some page) = CarriesPage s t v page q

abbrev pub Carries : Session → Trace → Vio → Phase → Type 0
Carries s t v q = CarriesFor s t v q v.page

-- a request that a zone keeps, or that is in a block, is in one phase
abbrev pub KeptOk : Session → Trace → Phase → Vio → Type 0
KeptOk s t one v = VioOk s t v × Carries s t v v.phase × (v.phase ≡ one) × ClaimOk s v

-- each request of a block has its entry there, this stands on the device, and all blocks of the window are needed yet
abbrev pub BlockOk : Session → Trace → SealedBlock → Type 0
BlockOk s t b = AllByRecursion (KeptOk s t phase.Pending) b.vios × StandsAt s t b.vios b.sequence b.stage × (b.head ≡ s.sizes.start)

-- an item in a lane to the zone of this number
abbrev pub ItemOk : Session → Trace → ℕ → Item → Type 0
ItemOk s t to (item.Request v) = VioOk s t v × Carries s t v v.phase × (to ≡ zone_at s.sizes v v.phase) × ClaimOk s v
ItemOk s t to (item.Decrement e) = (is : IsDecrement s t e) × (to ≡ zone_number s.sizes (counts_in s.sizes is.block))
ItemOk s t to (item.Report e) = IsReport s t e × (to ≡ logical_number (zone_of s.sizes.zones e.at.0))
ItemOk s t to (item.Damage damage) = IsTold t damage × (to ≡ device_number s.sizes)
ItemOk s t to (item.Block b) = BlockOk s t b × (to ≡ zone_of_stage s.sizes b.stage)
ItemOk s t to item.StopNotice = (has_stopped t ≡ true) × (to ≤ notified_zones s.sizes)

-- this holds of each request that a zone keeps, with the phase that it is in
abbrev pub KeptEach : (Phase → Vio → Type 0) → ZoneData → Type 0
KeptEach P (at.Desk desk) = AllByRecursion (P phase.Reply) desk.parked
KeptEach P (at.Logical l) = AllByRecursion (P phase.Wait) l.waiting × AllByRecursion (P phase.Look) l.lacking × AllByRecursion (P phase.Settle) l.settling
KeptEach P (at.Journal j) = AllByRecursion (P phase.Pending) j.filling × AllByRecursion (P phase.Enter) j.waiting
KeptEach P other = Unit {0}

-- the name of a zone
abbrev pub name_of : ZoneData → ZoneId
name_of (at.Desk desk) = id.Desk
name_of (at.Logical l) = id.Logical l.zone
name_of (at.Physical p) = id.Physical p.counts.zone
name_of (at.Journal j) = id.Journal
name_of (at.Device d) = id.Device

abbrev pub HasLists : Session → Trace → ZoneData → Type 0
HasLists s t (at.Desk desk) = DeskLists t desk
HasLists s t (at.Logical l) = LogicalLists s t l.zone l.next l.places l.slots l.reported l.tree
HasLists s t (at.Physical p) = PhysicalLists s t p
HasLists s t (at.Journal j) = JournalLists s t j
HasLists s t (at.Device d) = DeviceLists t d

-- What holds of its data alone.
abbrev pub IsSound : Session → ZoneData → Type 0
IsSound s (at.Desk desk) = IsSoundDesk s desk
IsSound s (at.Logical l) = IsSoundLogical s l
IsSound s (at.Physical p) = IsSoundPhysical s p
IsSound s (at.Journal j) = IsSoundJournal j
IsSound s other = Unit {0}

-- What it answers for: a logical zone for its addresses and its pages, the journal for the device while it is idle.
abbrev pub Answers : Session → Trace → ZoneData → Type 0
Answers s t (at.Logical l) = LogicalAnswers s t l
Answers s t (at.Journal j) = RestsAt s t j.busy j.broken
Answers s t other = Unit {0}

-- What it was told, and is so from then on: the session is stopped.
abbrev pub WasTold : Trace → ZoneData → Type 0
WasTold t (at.Desk desk) = DeskWasTold t desk
WasTold t (at.Logical l) = LogicalWasTold t l
WasTold t (at.Journal j) = JournalWasTold t j
WasTold t other = Unit {0}

-- What a zone has beside its lanes: its own lists, what holds of its data alone, the requests that it keeps, what it answers
-- for, and what it was told.
pub record DataOk (s : Session) (t : Trace) (number : ℕ) (d : ZoneData) : Type 0 where
  pub number_is : number ≡ zone_number s.sizes (name_of d)
  pub lists : HasLists s t d
  pub sound : IsSound s d
  pub kept : KeptEach (KeptOk s t) d
  pub answers : Answers s t d
  pub told : WasTold t d

-- the requests among these items that have yet to draw a place
abbrev pub arriving : Phase → Writer → List Writer
arriving p w = if (phase_rule p).arrives then w ∷ [] else []

abbrev pub arrival : Item → List Writer
arrival (item.Request v) = arriving v.phase v.request
arrival other = []

-- how many places a zone drew, or calls it made, or how often it gave or took back tickets: a step makes one more at most
abbrev pub made_by : ZoneData → ℕ
made_by (at.Logical l) = l.next
made_by (at.Physical p) = next_step p.counts.desk.step
made_by (at.Device d) = d.calls
made_by other = 0

-- a zone with its lanes
pub record ZoneOk (s : Session) (t : Trace) (number : ℕ) (z : Zone) : Type 0 where
  pub number_is : z.number ≡ number
  pub lanes : length z.ports.outboxes ≡ zone_count s.sizes
  pub inbox : AllByRecursion (ItemOk s t number) z.ports.inbox
  pub outboxes : Each (λ to. AllByRecursion (ItemOk s t to)) z.ports.outboxes
  -- what it posts to itself is in its inbox
  pub to_itself : (lane : List Item) → slice_get z.ports.outboxes number ≡ Some lane → lane ≡ []
  pub own : DataOk s t number z.keeps
  pub counted : made_by z.keeps ≤ z.steps
