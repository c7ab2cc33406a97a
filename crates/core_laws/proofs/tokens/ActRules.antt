-- The rows of the table of phases as the tokens see them: what a zone's data was and is, and the items that were there
-- (the front, and those that are kept) and are there (those that are posted, and those that are kept), by their sum.
use Rattle.std.proofs.Common.{◌≡◌, ℕ, ◌+◌, ◌*◌, true, false, not, Option, None, Some, is_some, List, [], ◌∷◌, ◌++◌, length, map, ◌&&◌}
use Rattle.core_laws.proofs.Common.{Answer, Desk, DeviceZone, FlushMark, Item, JournalZone, Remapping, LogicalZone, Mapping, Pbn, Phase, PhysicalZone, SealedBlock, Sizes, Stage, Vio, Writer, ZoneData, bit, ended, has_entry, has_old, holds, is_committed, is_old, logged, notified_zones, owes, remapping, remappings, staged, total, turned, waiter_weight}
use Rattle.blk_base.specs.declared.request.Answer.TheVariants as reply
use Rattle.vdo_model.specs.declared.report.DeskLine.TheVariants as line
use Rattle.data_vio.specs.declared.items.Item.TheVariants.{Request, Block, Decrement, Report, StopNotice}
use Rattle.data_vio.specs.declared.items.Item.TheVariants as item
use Rattle.data_vio.specs.Vios.{unclaiming}
use Rattle.slab_counts.specs.declared.tickets.Receipt.{Receipt}
use Rattle.slab_counts.specs.declared.tickets.Ticket.{Ticket}
use Rattle.core_model.specs.PageLinks.{block_in}
use Rattle.core_model.specs.PhysicalRules.{with_counts}
use Rattle.slab_counts.specs.Operations.{one_of}
use Rattle.zone_counts.specs.Zone.{Zone}
use Rattle.core_laws.proofs.tokens.Moves.{AsksIn, Moves, Passes, no_block}
use Rattle.data_vio.specs.declared.items.Phase.TheVariants as phase
use Rattle.data_vio.specs.declared.items.Stage.TheVariants as stage
use Rattle.core_model.specs.declared.zones.ZoneData.TheVariants as at
use Rattle.core_model.specs.DeskRules.{with_notice}
use Rattle.core_model.specs.DeviceRules.{announced, counted, halted, harmed}
use Rattle.vdo_model.specs.declared.report.Damage.{Damage}
use Rattle.core_model.specs.JournalRules.{committed_by, entered_by, next_block, sealed_by}
use Rattle.core_model.specs.LogicalRules.{drawn_by, placed, lock_of, without, all_for, none_for, retire}
use Rattle.core_model.specs.PageTrees.{but_page}
use Rattle.blk_base.specs.declared.place.PageId.{PageId}
use Rattle.block_map_tree.specs.Tree.{Tree}
use Rattle.data_vio.specs.Vios as vios
use Rattle.core_laws.proofs.tokens.Known.{IsCounted, Leased, MadeIn}
use Rattle.blk_base.specs.declared.place.Mapping.TheVariants.{At}
use Rattle.vdo_model.specs.declared.report.NoSpaceReceipt.{NoSpaceReceipt}

-- what items have together of what one may have
abbrev pub Sum : Type 0
Sum = (Item → ℕ) → ℕ

-- requests in a phase, and those that are to be answered so
abbrev pub all_in : Phase → List Vio → Sum
all_in q vs f = total (λ v. f (Request (turned q v))) vs

abbrev pub all_ended : Phase → Answer → List Vio → Sum
all_ended q a vs f = total (λ v. f (Request (ended q a v))) vs

-- requests as they are, and those that the journal keeps
abbrev pub all_there : List Vio → Sum
all_there vs f = total (λ v. f (Request v)) vs

abbrev pub kept_of : JournalZone → Sum
kept_of j f = all_there j.filling f + all_there j.waiting f

-- how a request goes on that has looked
pub record Onward : Type 0 where
  pub phase : Phase
  pub leaf : Option Pbn
  pub old : Mapping
  pub latest : Option Remapping
  pub new : Mapping
  pub bytes : List ℕ
  pub locks : holds phase ≡ true
  pub unowed : owes phase ≡ false
  pub unentered : has_entry phase ≡ false
  pub uncommitted : is_committed phase ≡ false

abbrev pub onward : Onward → Vio → Vio
onward on v = record v { phase = on.phase; leaf = on.leaf; old = on.old; latest = on.latest; new = on.new; bytes = on.bytes }

-- A phase in which a request has the lock of its address, and no entry of it was handed in.
pub record IsEarly (q : Phase) : Type 0 where
  pub locks : holds q ≡ true
  pub unowed : owes q ≡ false
  pub unentered : has_entry q ≡ false
  pub uncommitted : is_committed q ≡ false

-- how a request goes on that asked for a block, or withdrew a ticket
pub record Further : Type 0 where
  pub phase : Phase
  pub new : Mapping
  pub claim : Option Pbn
  pub tickets : List Ticket
  pub receipt : Option Receipt
  pub answer : Option Answer
  pub early : IsEarly phase

abbrev pub further : Further → Vio → Vio
further on v = record v { phase = on.phase; new = on.new; claim = on.claim; tickets = on.tickets; receipt = on.receipt; answer = on.answer }

-- a request with its answer
abbrev pub replied : Option Answer → Vio → Vio
replied answer v = record v { phase = phase.Reply; answer = answer }

-- Whoever leaves a lock with an entry of its own sets a slot: of those that replace a block, the report was there.
pub record IsSetBy (l : LogicalZone) (v : Vio) (q : Phase) (slots reported : List Remapping) : Type 0 where
  pub count : length slots ≡ bit (has_entry q && not (is_some v.page)) + length l.slots
  pub waited : (w : Writer) → total (has_old w) slots ≡ waiter_weight w (turned q v) + total (has_old w) l.slots
  pub told : (w : Writer) → total (has_old w) slots + total (has_old w) reported ≡ total (has_old w) l.slots + total (has_old w) l.reported
  pub unowed : owes q ≡ false

-- whoever leaves its page with an entry of it makes it one that is never linked
pub record IsDroppedBy (l : LogicalZone) (q : Phase) (unlinkable : List PageId) : Type 0 where
  pub count : length unlinkable ≡ bit (has_entry q) + length l.unlinkable
  pub unowed : owes q ≡ false
  pub uncommitted : is_committed q ≡ false

-- a request whose page isn't made any more is aborted
abbrev pub without_page : Vio → Vio
without_page v = record v { phase = phase.Abort; page = None }

-- a zone with these trees and unlinkable pages, that makes this page no more: nobody waits for a page there
abbrev pub unmaking : LogicalZone → Tree → List PageId → PageId → LogicalZone
unmaking l tree unlinkable page = record l { tree = tree; making = but_page page l.making; lacking = []; unlinkable = unlinkable }

-- where a committed request goes: with its block it is counted, or it has none and no claim
pub data IsHandedOut (v : Vio) : Phase → Type 0 where
  to_count : IsHandedOut v phase.Count
  to_slot : v.claim ≡ None → IsHandedOut v phase.Settle

-- what goes behind it: the decrement of what it replaces, where it makes no page and that has a block; or nothing
pub data IsDecrementOf (v : Vio) : Sum → Type 0 where
  of_block : v.page ≡ None → IsDecrementOf v (λ f. f (Decrement (remapping v)))
  of_page : (page : PageId) → v.page ≡ Some page → ((y : Pbn) → total (is_old y) (remappings (logged v ∷ [])) ≡ 0) → ((w : Writer) → total (has_old w) (remappings (logged v ∷ [])) ≡ 0) → IsDecrementOf v (λ f. 0)
  of_none : v.page ≡ None → block_in v.old ≡ None → IsDecrementOf v (λ f. 0)

pub data Rule (sizes : Sizes) : ZoneData → ZoneData → Sum → Sum → Type 0 where
  -- the desk
  says : (d : Desk) (w : Writer) (a : Answer) → Rule sizes (at.Desk d) (at.Desk (record d { log = line.Answer w a ∷ line.Begin w ∷ d.log })) (all_in phase.Reply d.parked) (all_in phase.Reply d.parked)
  begins : (d : Desk) (v : Vio) → v.page ≡ None → v.claim ≡ None → v.tickets ≡ []
      → Rule sizes (at.Desk d) (at.Desk (record d { log = line.Begin v.request ∷ d.log })) (all_in phase.Reply d.parked) (λ f. f (Request (turned phase.Arrive v)) + all_in phase.Reply d.parked f)
  begins_flush : (d : Desk) (v : Vio) → v.page ≡ None → v.claim ≡ None → v.tickets ≡ []
      → Rule sizes (at.Desk d) (at.Desk (record d { log = line.Begin v.request ∷ d.log })) (all_in phase.Reply d.parked) (λ f. f (Request (turned phase.Flush v)) + all_in phase.Reply d.parked f)
  parks : (d : Desk) (v : Vio) (parked : List Vio)
      → Rule sizes (at.Desk d) (at.Desk (record d { parked = parked })) (λ f. f (Request (turned phase.Reply v)) + all_in phase.Reply d.parked f) (λ f. f (Request (turned phase.Reply v)) + all_in phase.Reply d.parked f)
  answers : (d : Desk) (v : Vio) (a : Answer) (marks : List FlushMark) (receipts : List NoSpaceReceipt) → v.page ≡ None → v.claim ≡ None → v.tickets ≡ []
      → Rule sizes (at.Desk d) (at.Desk (record d { log = line.Answer v.request a ∷ d.log; marks = marks; receipts = receipts })) (λ f. f (Request (turned phase.Reply v)) + all_in phase.Reply d.parked f) (all_in phase.Reply d.parked)
  hears : (d : Desk) → Rule sizes (at.Desk d) (at.Desk (with_notice d)) (λ f. f StopNotice + all_in phase.Reply d.parked f) (all_in phase.Reply d.parked)
  -- a logical zone
  arrives_retired : (l : LogicalZone) (v : Vio)
      → Rule sizes (at.Logical l) (at.Logical (drawn_by l v)) (λ f. f (Request (turned phase.Arrive v)) + all_in phase.Wait l.waiting f) (λ f. f (Request (ended phase.Reply reply.Stopped (placed l v))) + all_in phase.Wait l.waiting f)
  arrives_free : (l : LogicalZone) (v : Vio)
      → Rule sizes (at.Logical l) (at.Logical (record (drawn_by l v) { held = lock_of (placed l v) ∷ l.held }))
      (λ f. f (Request (turned phase.Arrive v)) + all_in phase.Wait l.waiting f) (λ f. f (Request (turned phase.Look (placed l v))) + all_in phase.Wait l.waiting f)
  arrives_held : (l : LogicalZone) (v : Vio) (waiting : List Vio)
      → Rule sizes (at.Logical l) (at.Logical (record (drawn_by l v) { waiting = waiting })) (λ f. f (Request (turned phase.Arrive v)) + all_in phase.Wait l.waiting f) (λ f. f (Request (turned phase.Wait (placed l v))) + all_in phase.Wait l.waiting f)
  looks : (l : LogicalZone) (v : Vio) (on : Onward)
      → Rule sizes (at.Logical l) (at.Logical l) (λ f. f (Request (turned phase.Look v)) + all_in phase.Wait l.waiting f) (λ f. f (Request (onward on v)) + all_in phase.Wait l.waiting f)
  leafed : (l : LogicalZone) (v : Vio) (on : Onward)
      → Rule sizes (at.Logical l) (at.Logical l) (λ f. f (Request (turned phase.LoadedLeaf v)) + all_in phase.Wait l.waiting f) (λ f. f (Request (onward on v)) + all_in phase.Wait l.waiting f)
  -- a request leaves its lock, and nobody waits for it, or one does
  leaves : (l : LogicalZone) (slots reported : List Remapping) (v : Vio) (q : Phase) (a : Option Answer) → holds q ≡ true → IsSetBy l v q slots reported → Leased l v
      → Rule sizes (at.Logical l) (at.Logical (record l { slots = slots; reported = reported; held = without v.at.0 l.held })) (λ f. f (Request (turned q v)) + all_in phase.Wait l.waiting f) (λ f. f (Request (replied a v)) + all_in phase.Wait l.waiting f)
  hands_on : (l : LogicalZone) (slots reported : List Remapping) (v : Vio) (q : Phase) (a : Option Answer) (w : Vio) (others : List Vio) → holds q ≡ true → IsSetBy l v q slots reported → Leased l v
      → Rule sizes (at.Logical l) (at.Logical (record l { slots = slots; reported = reported; held = lock_of w ∷ without v.at.0 l.held; waiting = others }))
      (λ f. f (Request (turned q v)) + (f (Request (turned phase.Wait w)) + all_in phase.Wait others f)) (λ f. f (Request (replied a v)) + (f (Request (turned phase.Look w)) + all_in phase.Wait others f))
  retires : (l : LogicalZone) (v : Vio) → v.page ≡ None → Leased l v
      → Rule sizes (at.Logical l) (at.Logical (retire v.at.0 l)) (λ f. f (Request (turned phase.AbortEntered v)) + (all_in phase.Wait (all_for v.at.0 l.waiting) f + all_in phase.Wait (none_for v.at.0 l.waiting) f))
      (λ f. f (Request (turned phase.Reply v)) + (all_ended phase.Reply reply.Stopped (all_for v.at.0 l.waiting) f + all_in phase.Wait (none_for v.at.0 l.waiting) f))
  -- it makes a page, or waits for one; the page is linked, or isn't made any more
  makes : (l : LogicalZone) (v : Vio) (page : PageId) → v.page ≡ None
      → Rule sizes (at.Logical l) (at.Logical (record l { making = l.making ++ page ∷ [] })) (λ f. f (Request (turned phase.Look v)) + all_in phase.Wait l.waiting f) (λ f. f (Request (vios.makes page v)) + all_in phase.Wait l.waiting f)
  lacks : (l : LogicalZone) (v : Vio) (lacking : List Vio)
      → Rule sizes (at.Logical l) (at.Logical (record l { lacking = lacking })) (λ f. f (Request v) + all_in phase.Wait l.waiting f) (λ f. f (Request v) + all_in phase.Wait l.waiting f)
  links : (l : LogicalZone) (tree : Tree) (v : Vio) (page : PageId) → v.page ≡ Some page → MadeIn l page
      → Rule sizes (at.Logical l) (at.Logical (unmaking l tree l.unlinkable page)) (λ f. f (Request (turned phase.Settle v)) + all_in phase.Wait l.waiting f) (λ f. f (Request (vios.made v)) + all_in phase.Wait l.waiting f)
  forgets : (l : LogicalZone) (unlinkable : List PageId) (v : Vio) (q : Phase) (page : PageId) → holds q ≡ true → IsDroppedBy l q unlinkable → v.page ≡ Some page → MadeIn l page
      → Rule sizes (at.Logical l) (at.Logical (unmaking l l.tree unlinkable page)) (λ f. f (Request (turned q v)) + all_in phase.Wait l.waiting f) (λ f. f (Request (without_page v)) + all_in phase.Wait l.waiting f)
  -- a request waits for the report of its decrement; a report is kept, while others stay as they are
  awaits : (l : LogicalZone) (v : Vio) (settling : List Vio)
      → Rule sizes (at.Logical l) (at.Logical (record l { settling = settling })) (λ f. f (Request v) + all_in phase.Wait l.waiting f) (λ f. f (Request v) + all_in phase.Wait l.waiting f)
  keeps_report : (l : LogicalZone) (e : Remapping) (settling : List Vio) (others : Sum)
      → Rule sizes (at.Logical l) (at.Logical (record l { settling = settling; reported = l.reported ++ e ∷ [] })) (λ f. f (Report e) + others f) others
  tells_logical : (l : LogicalZone) → Rule sizes (at.Logical l) (at.Logical (record l { notified = true })) (λ f. f StopNotice + all_in phase.Wait l.waiting f) (λ f. f StopNotice + all_in phase.Wait l.waiting f)
  -- the physical zone
  asks_on : (p : PhysicalZone) (z : Zone) (v : Vio) (q : Phase) (on : Further) → IsEarly q → AsksIn p.counts z v on.claim on.tickets
      → Rule sizes (at.Physical p) (at.Physical (with_counts z p)) (λ f. f (Request (turned q v))) (λ f. f (Request (further on v)))
  counts_block : (p : PhysicalZone) (z : Zone) (v : Vio) (x : Pbn) → v.claim ≡ Some x → Moves p.counts z no_block no_block (one_of x) → Passes p.counts z no_block no_block
      → Rule sizes (at.Physical p) (at.Physical (with_counts z p)) (λ f. f (Request (turned phase.Count v))) (λ f. f (Request (unclaiming phase.Settle v)))
  drops_claim : (p : PhysicalZone) (z : Zone) (v : Vio) (x : Pbn) (given : Pbn → ℕ) → v.claim ≡ Some x → Moves p.counts z given (one_of x) (one_of x) → Passes p.counts z given no_block
      → Rule sizes (at.Physical p) (at.Physical (with_counts z p)) (λ f. f (Request (turned phase.AbortClaim v))) (λ f. f (Request (unclaiming phase.Abort v)))
  drops_none : (p : PhysicalZone) (v : Vio) → Rule sizes (at.Physical p) (at.Physical p) (λ f. f (Request (turned phase.AbortClaim v))) (λ f. f (Request (turned phase.Abort v)))
  spends_claim : (p : PhysicalZone) (v : Vio) → Rule sizes (at.Physical p) (at.Physical p) (λ f. f (Request (turned phase.AbortEnteredClaim v))) (λ f. f (Request (unclaiming phase.AbortEntered v)))
  removes : (p : PhysicalZone) (z : Zone) (e : Remapping) (x : Pbn) (given : Pbn → ℕ) → e.old ≡ At x → Moves p.counts z given (one_of x) no_block → Passes p.counts z given no_block
      → Rule sizes (at.Physical p) (at.Physical (with_counts z p)) (λ f. f (Decrement e)) (λ f. f (Report e))
  strays : (p : PhysicalZone) (e : Remapping) (damage : Damage) → Rule sizes (at.Physical (record p { strays = [] })) (at.Physical (record p { strays = e ∷ [] })) (λ f. f (Decrement e)) (λ f. f (Report e) + f (item.Damage damage))
  strays_again : (p : PhysicalZone) (e first : Remapping) (strays : List Remapping)
      → Rule sizes (at.Physical (record p { strays = first ∷ strays })) (at.Physical (record p { strays = e ∷ first ∷ strays })) (λ f. f (Decrement e)) (λ f. f (Report e))
  tells_physical : (p : PhysicalZone) → Rule sizes (at.Physical p) (at.Physical (record p { notified = true })) (λ f. f StopNotice) (λ f. f StopNotice)
  -- the journal
  refuses : (j : JournalZone) (v : Vio) (a : Answer) → Rule sizes (at.Journal j) (at.Journal j) (λ f. f (Request (turned phase.Enter v)) + kept_of j f) (λ f. f (Request (ended phase.AbortClaim a v)) + kept_of j f)
  waits : (j : JournalZone) (v : Vio) (waiting : List Vio)
      → Rule sizes (at.Journal j) (at.Journal (record j { waiting = waiting })) (λ f. f (Request (turned phase.Enter v)) + kept_of j f) (λ f. f (Request (turned phase.Enter v)) + kept_of j f)
  enters : (j : JournalZone) (v : Vio) → IsCounted v → v.claim ≡ block_in v.new
      → Rule sizes (at.Journal j) (at.Journal (entered_by v j)) (λ f. f (Request (turned phase.Enter v)) + kept_of j f) (λ f. f (Request (turned phase.Pending v)) + kept_of j f)
  enters_first : (j : JournalZone) (v : Vio) → IsCounted v → v.claim ≡ block_in v.new
      → Rule sizes (at.Journal (record j { busy = false })) (at.Journal (record (entered_by v j) { busy = true })) (λ f. f (Request (turned phase.Enter v)) + kept_of j f)
      (λ f. f (Request (turned phase.Pending v)) + (f (Block (next_block j stage.Commit [])) + kept_of j f))
  -- a committed entry goes to be counted, or to its slot; of what it replaces there is a decrement, or none
  commits : (j : JournalZone) (b : SealedBlock) (v : Vio) (vs : List Vio) (q : Phase) (more : Sum) → IsHandedOut v q → IsDecrementOf v more
      → Rule sizes (at.Journal j) (at.Journal (committed_by v j)) (λ f. f (Block (record b { vios = turned phase.Pending v ∷ vs })) + kept_of j f)
      (λ f. f (Request (turned q v)) + (more f + (f (Block (record b { vios = vs })) + kept_of j f)))
  seals : (j : JournalZone) (b : SealedBlock)
      → Rule sizes (at.Journal j) (at.Journal (sealed_by j)) (λ f. f (Block (record b { vios = [] })) + kept_of j f) (λ f. f (Block (next_block j stage.Cover j.filling)) + all_there j.waiting f)
  rests : (j : JournalZone) (b : SealedBlock)
      → Rule sizes (at.Journal (record j { busy = true })) (at.Journal (record j { busy = false; waiting = [] })) (λ f. f (Block (record b { vios = [] })) + kept_of j f) (kept_of j)
  fails : (j : JournalZone) (b : SealedBlock)
      → Rule sizes (at.Journal (record j { busy = true })) (at.Journal (record j { busy = false; broken = true; filling = []; waiting = [] }))
      (λ f. f (Block (record b { vios = map (turned phase.Pending) b.vios })) + (all_in phase.Pending j.filling f + all_in phase.Enter j.waiting f))
      (λ f. all_ended phase.AbortEnteredClaim reply.Stopped b.vios f + (all_ended phase.AbortEnteredClaim reply.Stopped j.filling f + all_ended phase.AbortClaim reply.Stopped j.waiting f))
  tells_journal : (j : JournalZone)
      → Rule sizes (at.Journal j) (at.Journal (record j { notified = true; waiting = [] })) (λ f. f StopNotice + (all_there j.filling f + all_in phase.Enter j.waiting f))
      (λ f. f StopNotice + (all_there j.filling f + all_ended phase.AbortClaim reply.Stopped j.waiting f))
  -- the device
  announces : (d : DeviceZone) (front : Item) → Rule sizes (at.Device d) (at.Device (announced d)) (λ f. f front) (λ f. f front)
  announce_fails : (d : DeviceZone) (front : Item) → Rule sizes (at.Device (record d { stopped = false })) (at.Device (halted d)) (λ f. f front) (λ f. f front + notified_zones sizes * f StopNotice)
  stores : (d : DeviceZone) (v : Vio) → Rule sizes (at.Device d) (at.Device (counted d)) (λ f. f (Request (turned phase.Store v))) (λ f. f (Request (turned phase.Enter v)))
  store_fails : (d : DeviceZone) (v : Vio)
      → Rule sizes (at.Device (record d { stopped = false })) (at.Device (halted d)) (λ f. f (Request (turned phase.Store v))) (λ f. f (Request (ended phase.AbortClaim reply.Stopped v)) + notified_zones sizes * f StopNotice)
  store_unmade : (d : DeviceZone) (v : Vio) → Rule sizes (at.Device d) (at.Device d) (λ f. f (Request (turned phase.Store v))) (λ f. f (Request (ended phase.AbortClaim reply.Stopped v)))
  loads : (d : DeviceZone) (v : Vio) (bytes : List ℕ) → Rule sizes (at.Device d) (at.Device (counted d)) (λ f. f (Request (turned phase.Load v))) (λ f. f (Request (record v { phase = phase.Loaded; bytes = bytes })))
  load_fails : (d : DeviceZone) (v : Vio) → Rule sizes (at.Device d) (at.Device d) (λ f. f (Request (turned phase.Load v))) (λ f. f (Request (ended phase.Abort reply.ReadFault v)))
  loads_leaf : (d : DeviceZone) (v : Vio) (mapping : Mapping) → Rule sizes (at.Device d) (at.Device (counted d)) (λ f. f (Request (turned phase.LoadLeaf v))) (λ f. f (Request (vios.has_leaf mapping v)))
  leaf_fails : (d : DeviceZone) (v : Vio) → Rule sizes (at.Device d) (at.Device d) (λ f. f (Request (turned phase.LoadLeaf v))) (λ f. f (Request (ended phase.Abort reply.ReadFault v)))
  harms : (d : DeviceZone) (v : Vio) (damage : Damage)
      → Rule sizes (at.Device (record d { stopped = false })) (at.Device (harmed damage (counted d))) (λ f. f (Request (turned phase.LoadLeaf v))) (λ f. f (Request (ended phase.Abort reply.Damaged v)) + notified_zones sizes * f StopNotice)
  harms_again : (d : DeviceZone) (v : Vio) (damage : Damage)
      → Rule sizes (at.Device (record d { stopped = true })) (at.Device (harmed damage (counted d))) (λ f. f (Request (turned phase.LoadLeaf v))) (λ f. f (Request (ended phase.Abort reply.Damaged v)))
  halts : (d : DeviceZone) (damage : Damage) → Rule sizes (at.Device (record d { stopped = false })) (at.Device (harmed damage d)) (λ f. f (item.Damage damage)) (λ f. notified_zones sizes * f StopNotice)
  halts_again : (d : DeviceZone) (damage : Damage) → Rule sizes (at.Device (record d { stopped = true })) (at.Device (harmed damage d)) (λ f. f (item.Damage damage)) (λ f. 0)
  flushes : (d : DeviceZone) (v : Vio) → Rule sizes (at.Device d) (at.Device (counted d)) (λ f. f (Request (turned phase.Flush v))) (λ f. f (Request (record v { phase = phase.Reply; answer = Some reply.Ok; calls = d.calls + 1 })))
  flush_fails : (d : DeviceZone) (v : Vio)
      → Rule sizes (at.Device (record d { stopped = false })) (at.Device (halted d)) (λ f. f (Request (turned phase.Flush v))) (λ f. f (Request (ended phase.Reply reply.Stopped v)) + notified_zones sizes * f StopNotice)
  flush_unmade : (d : DeviceZone) (v : Vio) → Rule sizes (at.Device d) (at.Device d) (λ f. f (Request (turned phase.Flush v))) (λ f. f (Request (ended phase.Reply reply.Stopped v)))
  works : (d : DeviceZone) (calls : ℕ) (b : SealedBlock) (next : Stage) → Rule sizes (at.Device d) (at.Device (record d { calls = calls })) (λ f. f (Block b)) (λ f. f (Block (staged next b)))
  work_fails : (d : DeviceZone) (b : SealedBlock) (next : Stage)
      → Rule sizes (at.Device (record d { stopped = false })) (at.Device (halted d)) (λ f. f (Block b)) (λ f. f (Block (staged next b)) + notified_zones sizes * f StopNotice)
  -- one behind the other
  both : {old between new : ZoneData} {before here again after : Sum} → Rule sizes old between before here → ((f : Item → ℕ) → here f ≡ again f) → Rule sizes between new again after → Rule sizes old new before after
