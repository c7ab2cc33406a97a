-- Facts of a logical zone: what a request with a place or a lock there carries, the pages that are made, and what the zone keeps.
use Rattle.std.specs.Prelude.{ℕ, ◌≡◌, ◌<◌, ◌≤◌, Bool, true, false, not, Option, None, Some, IsNone, IsSome, List, [], ◌∷◌, length}
use Rattle.std.specs.List.{AllByRecursion}
use Rattle.blk_base.specs.declared.place.Lba.{Lba}
use Rattle.blk_base.specs.declared.place.Mapping.{Mapping}
use Rattle.blk_base.specs.declared.place.ZoneId.TheVariants as id
use Rattle.blk_base.specs.declared.request.Writer.{Writer}
use Rattle.vdo_model.specs.Places.{drawn, place_of, zone_of}
use Rattle.vdo_model.specs.declared.report.Placed.{Placed}
use Rattle.vdo_model.specs.ZoneOrder.{places_in}
use Rattle.data_vio.specs.declared.items.Asks.{Asks}
use Rattle.data_vio.specs.declared.items.Asks.TheVariants.{Read, Write}
use Rattle.data_vio.specs.declared.items.Vio.{Vio}
use Rattle.core_model.specs.LogicalData.{Lock, LogicalZone}
use Rattle.data_vio.specs.declared.logged.Remapping.{Remapping}
use Rattle.core_model.specs.LogicalRules.{is_among, is_held, is_reported}
use Rattle.core_model.specs.RightTraces.{IsLeafy, IsReported, Quiet, AllBelow, HasPlace, HasBelow}
use Rattle.core_model.specs.Sessions.{Session, IsFair, mapping_by}
use Rattle.block_map_tree.specs.Tree.{Tree, IsLinkable}
use Rattle.blk_base.specs.Pages.{above}
use Rattle.blk_base.specs.declared.place.PageId.{PageId}
use Rattle.image_model.specs.Pages.{is_page}
use Rattle.core_model.specs.PageLinks.{IsThere, MayLack, page_in}
use Rattle.core_model.specs.PageTrees.{IsMapTree, is_listed, link_at, missing_at}
use Rattle.plain_laws.specs.Sums.{bit, total}
use Rattle.core_model.specs.Tokens.{lock_weight}
use Rattle.core_model.specs.Trace.{Trace, places, journaled, entered, applied, remappings, aborted, has_taken, is_for, has_stopped, of_address, newest, logged_of}
use Rattle.data_vio.specs.Vios.{asked}
use Rattle.core_model.specs.PhysicalFacts.{IsDecrement}
use Rattle.core_model.specs.RequestFacts.{IsForBlock, IsToBlock, IsToData}

-- no entry puts a page anywhere, or one does, or the image that was opened
abbrev pub IsUnmade : Session → Trace → PageId → Type 0
IsUnmade s t page = page_in s.links (journaled t) page ≡ None

abbrev pub IsMade : Session → Trace → PageId → Type 0
IsMade s t page = IsSome (page_in s.links (journaled t) page)

-- a request claimed no block, neither for its data nor for a page
abbrev pub TookNone : Trace → Writer → Type 0
TookNone t w = (page : Option PageId) → has_taken t w page ≡ false

-- it claimed none for its data, and each page but this one for which it claimed one was handed in
abbrev pub is_other : Option PageId → PageId → Bool
is_other own page = not (is_for own (Some page))

pub record HasSpent (s : Session) (t : Trace) (w : Writer) (own : Option PageId) : Type 0 where
  pub none_taken : has_taken t w None ≡ false
  pub others : (page : PageId) → is_other own page ≡ true → has_taken t w (Some page) ≡ true → IsMade s t page

-- a request for a block that drew no place yet, and claimed no block
pub record IsUndrawn (t : Trace) (w : Writer) (asks : Asks) : Type 0 where
  pub for_block : IsForBlock asks
  pub unplaced : IsNone (place_of (places t) w)
  pub not_entered : IsNone (logged_of (entered t) w)
  pub took_none : TookNone t w

-- one that has its place, and whose entry wasn't handed in
pub record IsDrawn (s : Session) (t : Trace) (w : Writer) (asks : Asks) (a place : ℕ) : Type 0 where
  pub for_block : IsForBlock asks
  pub placed : HasPlace s t w a place
  pub not_entered : IsNone (logged_of (entered t) w)

abbrev pub IsPlaced : Session → Trace → Vio → Type 0
IsPlaced s t v = IsDrawn s t v.request v.asks v.at.0 v.place

-- what a turn at an address is: whose it is, what that asks, where, and the place that it drew
pub record Turn : Type 0 where
  pub request : Writer
  pub asks : Asks
  pub at : Lba
  pub place : ℕ

abbrev pub turn_of : Vio → Turn
turn_of v = record { request = v.request; asks = v.asks; at = v.at; place = v.place }

-- one that holds the lock of its address: all entries there are done, and whatever was done or given there has a lower place
pub record HasTurn (s : Session) (t : Trace) (turn : Turn) : Type 0 where
  pub is_placed : IsDrawn s t turn.request turn.asks turn.at.0 turn.place
  pub quiet : Quiet t turn.at.0
  pub below : AllBelow t turn.at.0 turn.place

abbrev pub IsInTurn : Session → Trace → Vio → Type 0
IsInTurn s t v = HasTurn s t (turn_of v)

-- and knows what is mapped there
pub record HasLock (s : Session) (t : Trace) (own : Turn) (old : Mapping) : Type 0 where
  pub turn : HasTurn s t own
  pub old_data : IsToData s old
  -- where the session is fair, it knows what its address is mapped to, by the slots that are set
  pub old_is : IsFair s t → old ≡ mapping_by s (applied t) own.at.0

abbrev pub Holds : Session → Trace → Vio → Type 0
Holds s t v = HasLock s t (turn_of v) v.old

-- a read that holds it, and knows the last write of its address
pub record HasLooked (s : Session) (t : Trace) (own : Turn) (old : Mapping) (last : Option Remapping) : Type 0 where
  pub held : HasLock s t own old
  pub is_read : own.asks ≡ Read
  pub latest : last ≡ newest (of_address own.at.0 (remappings (applied t)))

abbrev pub Looks : Session → Trace → Vio → Type 0
Looks s t v = HasLooked s t (turn_of v) v.old v.latest

-- one that holds it, and knows what its leaf says
pub record HasLeaf (s : Session) (t : Trace) (own : Turn) (old : Mapping) (last : Option Remapping) : Type 0 where
  pub held : HasLock s t own old
  pub leaf : IsLeafy s t own.at.0
  pub unset : of_address own.at.0 (remappings (applied t)) ≡ []
  pub latest : last ≡ None

-- a write that makes a page: it has the lock of its address, claimed no block for its data, handed in the pages that it made before, and
-- lacks this page
pub record IsMaking (s : Session) (t : Trace) (own : Turn) (bytes : List ℕ) (page : PageId) : Type 0 where
  pub turn : HasTurn s t own
  pub is_write : own.asks ≡ Write
  pub spent : HasSpent s t own.request (Some page)
  pub lacked : MayLack s.sizes.geometry.height (asked own.asks own.at bytes) page
  pub up : IsThere s.sizes.geometry.height s.links (applied t) (above page)

abbrev pub MakesPage : Session → Trace → Vio → PageId → Type 0
MakesPage s t v page = IsMaking s t (turn_of v) v.bytes page

-- A report says that a decrement was taken.
pub record IsReport (s : Session) (t : Trace) (e : Remapping) : Type 0 where
  pub decrement : IsDecrement s t e
  pub reported : IsReported t e

-- places rise from each that waits to those behind it
abbrev pub Rises : List Vio → Type 0
Rises [] = Unit {0}
Rises (v ∷ behind) = AllByRecursion (λ w. v.place < w.place) behind × Rises behind

-- a report that was kept is of an address of the zone
abbrev pub ReportOk : Session → Trace → ℕ → Remapping → Type 0
ReportOk s t zone e = IsReport s t e × (zone_of s.sizes.zones e.at.0 ≡ zone)

-- Its own lists are parts of the trace.
pub record LogicalLists (s : Session) (t : Trace) (zone next : ℕ) (placed : List Placed) (slots reported : List Remapping) (tree : Tree) : Type 0 where
  pub places_is : placed ≡ places_in zone (places t)
  pub next_is : next ≡ drawn zone (places t)
  pub slots_are : (a : ℕ) → zone_of s.sizes.zones a ≡ zone → of_address a slots ≡ of_address a (remappings (applied t))
  -- what was set or given at its addresses has a place that was drawn
  pub below : (a : ℕ) → zone_of s.sizes.zones a ≡ zone → AllBelow t a next
  -- its trees have the pages that are linked
  pub tree_is : IsMapTree s.sizes.geometry zone s.sizes.zones s.links (applied t) tree
  pub reports_are : AllByRecursion (ReportOk s t zone) reported

-- each slot that is set maps its address to a data block, or to none
abbrev pub MapOk : Session → List Remapping → Type 0
MapOk s slots = AllByRecursion (λ (e : Remapping). IsToData s e.new) slots

-- a lock of an address of the zone, whose place was drawn
abbrev pub LockOk : Session → (zone next : ℕ) → Lock → Type 0
LockOk s zone next lock = (zone_of s.sizes.zones lock.at.0 ≡ zone) × (lock.place < next)

-- a request that waits for a lock that is held
pub record WaitsOk (zone next : ℕ) (held : List Lock) (v : Vio) : Type 0 where
  pub at_home : v.home ≡ id.Logical zone
  pub drawn_before : v.place < next
  pub locked : is_held v.at.0 held ≡ true

-- who waits for this lock came behind its holder
abbrev pub InLine : List Vio → Lock → Type 0
InLine waiting lock = AllByRecursion (λ v. v.at.0 ≡ lock.at.0 → lock.place < v.place) waiting

-- The locks that are held, one for each address at most, and who waits for one.
pub record LocksOk (s : Session) (zone next : ℕ) (held : List Lock) (waiting : List Vio) : Type 0 where
  pub locks_are : AllByRecursion (LockOk s zone next) held
  pub once : (a : ℕ) → total (lock_weight a (λ p. true)) held ≤ 1
  pub waits : AllByRecursion (WaitsOk zone next held) waiting
  -- who waits for a lock came behind its holder, and in the order of places
  pub in_line : AllByRecursion (InLine waiting) held
  pub in_order : Rises waiting

-- who waits for a page that is being made: a write that lacks it
pub record Awaits (tree : Tree) (making : List PageId) (v : Vio) : Type 0 where
  pub page : PageId
  pub lacked : missing_at tree v.at.0 ≡ Some page
  pub is_made : is_listed page making ≡ true

-- The pages that are being made: each may be linked, and is made once.
pub record PagesOk (zone : ℕ) (tree : Tree) (making : List PageId) (lacking : List Vio) : Type 0 where
  pub linkable : AllByRecursion (IsLinkable tree) making
  pub once : (page : PageId) → total (λ other. bit (is_page other page)) making ≤ 1
  pub waits : AllByRecursion (Awaits tree making) lacking
  pub at_home : AllByRecursion (λ v. v.home ≡ id.Logical zone) lacking

-- who waits for the report of its decrement: its home is here, its entry replaces a block, and that report didn't come
pub record AwaitsReport (zone : ℕ) (reported : List Remapping) (v : Vio) : Type 0 where
  pub at_home : v.home ≡ id.Logical zone
  pub own : v.page ≡ None
  pub replaces : IsToBlock v.old
  pub none : is_reported v.request reported ≡ false

-- What holds of its data alone.
pub record IsSoundLogical (s : Session) (l : LogicalZone) : Type 0 where
  pub among : l.zone < s.sizes.zones
  pub map : MapOk s l.slots
  pub locks : LocksOk s l.zone l.next l.held l.waiting
  pub pages : PagesOk l.zone l.tree l.making l.lacking
  pub reports : AllByRecursion (AwaitsReport l.zone l.reported) l.settling

-- no entry puts a page of these trees anywhere that isn't linked, is not being made, and may be linked yet
abbrev pub AreUnmade : Session → Trace → Tree → (making unlinkable : List PageId) → Type 0
AreUnmade s t tree making unlinkable = (page : PageId) → IsLinkable tree page → link_at tree page ≡ None → is_listed page making ≡ false → is_listed page unlinkable ≡ false → IsUnmade s t page

-- What it answers for: its addresses that are free (all entries of them are done), and its pages that nobody makes.
abbrev pub LogicalAnswers : Session → Trace → LogicalZone → Type 0
LogicalAnswers s t l =
    ((a : ℕ) → zone_of s.sizes.zones a ≡ l.zone → is_held a l.held ≡ false → is_among a l.retired ≡ false → Quiet t a)
    × AreUnmade s t l.tree l.making l.unlinkable

-- What it was told: a lock is never released since a write of its address was aborted, and pages are given up after a stop alone.
abbrev pub LogicalWasTold : Trace → LogicalZone → Type 0
LogicalWasTold t l = ((a : ℕ) → is_among a l.retired ≡ true → (has_stopped t ≡ true) × HasBelow a l.next (aborted t)) × (0 < length l.unlinkable → has_stopped t ≡ true)
