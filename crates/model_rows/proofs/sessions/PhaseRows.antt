-- Each row of the table of phases at a small zone: what the zone keeps, what happens, and what it posts.
use Rattle.std.proofs.Common.{ℕ, ◌≡◌, ◌-◌, ◌<◌, ◌++◌, ◌∙◌, Option, length, Bool, true, false, None, Some, List, [], ◌∷◌, refl, ap, subst, replicate, inl, inr, arith}
use Rattle.std.specs.Prelude.{slice_index, slice_set}
use Rattle.std.proofs.lemmas.List.{get_or-replicate, get_or_append_left}
use Rattle.blk_base.specs.Sectors.{zero_block}
use Rattle.blk_base.specs.declared.journal_entry.Entry.{Entry}
use Rattle.blk_base.specs.declared.place.Mapping.{Mapping}
use Rattle.blk_base.specs.declared.place.Mapping.TheVariants.{Unmapped, Zero, At}
use Rattle.blk_base.specs.declared.place.Pbn.{Pbn}
use Rattle.blk_base.specs.declared.place.ZoneId.{ZoneId}
use Rattle.blk_base.specs.declared.place.ZoneId.TheVariants as id
use Rattle.blk_base.specs.declared.request.Answer.{Answer}
use Rattle.blk_base.specs.declared.request.Answer.TheVariants as reply
use Rattle.blk_base.specs.declared.request.Request.TheVariants as request
use Rattle.blk_base.specs.declared.request.Writer.{Writer}
use Rattle.disk_model.specs.declared.call.Call.TheVariants.{Read, Write, Flush}
use Rattle.vdo_model.specs.declared.report.DeskLine.{DeskLine}
use Rattle.vdo_model.specs.declared.report.DeskLine.TheVariants as line
use Rattle.vdo_model.specs.declared.report.FlushMark.{FlushMark}
use Rattle.vdo_model.specs.Scripts.{Script}
use Rattle.data_vio.specs.declared.logged.Logged.TheVariants.{Remaps}
use Rattle.data_vio.specs.declared.items.Asks.{Asks}
use Rattle.data_vio.specs.declared.items.Asks.TheVariants as asks
use Rattle.data_vio.specs.declared.items.Item.{Item}
use Rattle.data_vio.specs.declared.items.Item.TheVariants.{Request, Block, Decrement, Report, StopNotice}
use Rattle.data_vio.specs.declared.items.Item.TheVariants as item
use Rattle.data_vio.specs.declared.items.Phase.{Phase}
use Rattle.data_vio.specs.declared.items.Phase.TheVariants as phase
use Rattle.data_vio.specs.declared.items.SealedBlock.{SealedBlock}
use Rattle.data_vio.specs.declared.items.Stage.{Stage}
use Rattle.data_vio.specs.declared.items.Stage.TheVariants as stage
use Rattle.data_vio.specs.declared.items.Vio.{Vio}
use Rattle.core_model.specs.LogicalData.{Lock, LogicalZone}
use Rattle.data_vio.specs.declared.logged.Remapping.{Remapping}
use Rattle.core_model.specs.declared.zones.ZoneData.{ZoneData}
use Rattle.core_model.specs.declared.zones.ZoneData.TheVariants as at
use Rattle.core_model.specs.DeskRules.{DeskBegins, DeskServes}
use Rattle.core_model.specs.DeviceRules.{DeviceServes, DeviceWorks, journal_bytes, Announces}
use Rattle.core_model.specs.Superblocks.{superblock_bytes}
use Rattle.core_model.specs.declared.zones.SuperblockStage.{SuperblockStage}
use Rattle.core_model.specs.declared.zones.SuperblockStage.TheVariants.{AsOpened, Written, Durable}
use Rattle.core_model.specs.PhysicalRules.{PhysicalServes, PhysicalTakes}
use Rattle.blk_base.specs.declared.point.Half.TheVariants as half
use Rattle.blk_base.specs.Forms.{lba as address, pbn as block}
use Rattle.slab_counts.specs.Counts.{Counts, ClaimsFree, HasNoFree, Takes as Fits}
use Rattle.slab_tickets.specs.declared.forms.Waiting.{Waiting}
use Rattle.zone_counts.specs.ZoneAnswers.{GivesBlock}
use Rattle.zone_counts.specs.Zone.{Zone, IsClaimedIn, NoneFree, slab_at}
use Rattle.core_model.specs.JournalData.{JournalZone}
use Rattle.core_model.specs.JournalFacts.{IsSoundJournal}
use Rattle.core_model.specs.JournalRules.{IsDue, JournalServes, JournalEnds, hands_out}
use Rattle.core_model.specs.LogicalRules.{LogicalServes, LogicalHears, awaits_report, goes_on, known_by}
use Rattle.core_model.specs.Steps.{Act, begins, answers, hears, serves, serves_notice, takes, takes_notice, enters, ends, enters_notice, calls, works, halts, updates}
use Rattle.core_model.specs.Steps as step
use Rattle.core_model.specs.PageLinks.{leaf_head}
use Rattle.core_model.specs.PageTrees.{HasPath, leaf_at}
use Rattle.core_model.specs.Trace.{Says, Flushes, Draws, Enters, Passes, Seals, Commits, Sets, Gives, Takes, Asks as AsksIn, Drops, Adds, Removes, Strays, Hears, Aborts, Calls, Fails, Harms, Trace, entry_of}
use Rattle.page_codec.proofs.HeldLaws.{held_unmapped}
use Rattle.page_codec.proofs.ReadLaws.{no_page_fault}
use Rattle.page_codec.proofs.SpellingLaws.{length-head}
use Rattle.page_codec.specs.Grammar.{IsPage, IsPageFault}
use Rattle.page_codec.specs.PageBytes.{head_bytes, page_bytes}
use Rattle.page_codec.specs.declared.fault.PageFault.{PageFault}
use Rattle.page_codec.specs.declared.fault.PageFault.TheVariants.{Compressed, Header}
use Rattle.vdo_model.specs.declared.report.Damage.{Damage}
use Rattle.vdo_model.specs.declared.report.Damage.TheVariants.{Page, Stray}
use Rattle.data_vio.specs.Vios.{Post, logged}
use Rattle.recovery_journal.specs.Log.{Log, placed}
use Rattle.model_rows.proofs.sessions.BeginRows.{one_busy, two_busy, past_one, past_two}
use Rattle.model_rows.proofs.sessions.TicketTraces.{ticket}
use Rattle.core_model.proofs.WorkedTraces.{x, y, first, reader, other, flush, sizes, place, of_first, of_second, given}
use Rattle.core_model.proofs.ZoneForms.{desk, logical_over, tree_with, leafy, logical, slab_with, zone_with, physical, nothing, one, log_with, empty_log, journal, device}

abbrev pub Acts : ZoneData → List Item → ZoneData → Trace → List Post → Type 0
Acts = Act sizes

-- a request of address 0, which is in logical zone 0
abbrev pub vio : Writer → Asks → Phase → ℕ → Vio
vio w what now n =
    record { request = w; asks = what; at = address 0; home = id.Logical 0; phase = now; page = None; leaf = None; bytes = x; place = n; old = Unmapped; latest = None; new = Unmapped; claim = None; tickets = []; receipt = None; answer = None; calls = 0 }

-- the first write, once it has its block; the reader, and as it is once it knows that block
abbrev pub writes : Phase → Vio
writes now = record (vio first asks.Write now 0) { new = At (block 85) }

abbrev pub reads : Phase → Vio
reads now = vio reader asks.Read now 2

abbrev pub finds : Phase → Vio
finds now = record (reads now) { old = At (block 85); latest = Some of_first }

-- the reader, while the leaf of its address is read; and once it knows what that says
abbrev pub needs : Phase → Vio
needs now = record (reads now) { leaf = Some (block 87) }

abbrev pub answered : Answer → Vio → Vio
answered answer v = record v { answer = Some answer }

-- a desk with another script, with this log and these marks
abbrev desk_of : Script → List DeskLine → List FlushMark → ZoneData
desk_of requests log marks = at.Desk (record { requests = requests; log = log; marks = marks; receipts = []; notices = 0; parked = [] })

abbrev pass_of_first : Remapping
pass_of_first = record { request = first; at = address 0; place = 0; old = Unmapped; new = Unmapped }

abbrev discards : Script
discards = (request.Discard (address 0) ∷ []) ∷ []

pub has_path : (slots : List Mapping) → HasPath (tree_with slots) 0
has_path slots = record { inside = omega arith; own = record { inside = omega arith; own = refl } }

abbrev pub lock : ℕ → Lock
lock n = record { at = address 0; place = n }

abbrev pub all : List ℕ
all = replicate 64 1

abbrev pub six : List ℕ
six = replicate 6 1 ++ replicate 58 0

abbrev pub seven : List ℕ
seven = replicate 7 1 ++ replicate 57 0

-- the entries of these two, as the journal has them
abbrev pub of_write : Entry
of_write = entry_of (logged (writes phase.Pending))

abbrev of_read : Entry
of_read = entry_of (logged (reads phase.Pending))

-- one whose block was sealed with two entries, is durable, and has so many of them handed out
abbrev full_log : ℕ → Log
full_log handed = log_with 2 [] (placed 1 0 (of_write ∷ of_read ∷ [])) handed 2

-- a block with these requests
abbrev block_of : Stage → List Vio → SealedBlock
block_of now vios = record { stage = now; sequence = 1; head = 1; vios = vios }

abbrev sealed : Stage → SealedBlock
sealed now = block_of now (writes phase.Pending ∷ [])

-- one whose superblock has come so far
abbrev beginning : Bool → ℕ → SuperblockStage → ZoneData
beginning stopped made now = at.Device (record { stopped = stopped; calls = made; superblock = now; damage = None })

-- what the device sends where the session is stopped
abbrev notify : List Post
notify = (id.Journal, StopNotice) ∷ (id.Physical 0, StopNotice) ∷ (id.Logical 1, StopNotice) ∷ (id.Logical 0, StopNotice) ∷ []

-- (begins): a write and a read go to their home, a flush to the device; one outside of the logical size, and a write after a
-- stop, is answered at once
begins_a_write : Acts (desk [] [] 0 []) [] (desk (line.Begin first ∷ []) [] 0 []) (Says (line.Begin first) ∷ []) ((id.Logical 0, Request (vio first asks.Write phase.Arrive 0)) ∷ [])
begins_a_write = begins (DeskBegins.sends first (request.Write (address 0) x false) _ (record { may = (refl, refl, omega arith); lowest = λ w may. omega arith }) refl refl refl refl refl refl)

begins_a_flush : Acts (desk two_busy [] 0 []) [] (desk (line.Begin flush ∷ two_busy) [] 0 []) (Says (line.Begin flush) ∷ [])
    ((id.Device, Request (record (vio flush asks.Flush phase.Flush 0) { bytes = zero_block })) ∷ [])
begins_a_flush = begins (DeskBegins.sends flush request.Flush _ (record { may = (refl, refl, omega arith); lowest = past_two }) refl refl refl refl refl refl)

begins_a_read : Acts (desk (line.Begin first ∷ []) [] 0 []) [] (desk (line.Begin reader ∷ line.Begin first ∷ []) [] 0 []) (Says (line.Begin reader) ∷ [])
    ((id.Logical 0, Request (record (vio reader asks.Read phase.Arrive 0) { bytes = zero_block })) ∷ [])
begins_a_read = begins (DeskBegins.sends reader (request.Read (address 0)) _ (record { may = (refl, refl, omega arith); lowest = λ w may. omega arith }) refl refl refl refl refl refl)

begins_a_discard : Act sizes (desk_of discards [] []) [] (desk_of discards (line.Begin first ∷ []) []) (Says (line.Begin first) ∷ [])
    ((id.Logical 0, Request (record (vio first asks.Discard phase.Arrive 0) { bytes = zero_block })) ∷ [])
begins_a_discard = begins (DeskBegins.sends first (request.Discard (address 0)) _ (record { may = (refl, refl, omega arith); lowest = λ w may. omega arith }) refl refl refl refl refl refl)

begins_out_of_range : Act (record sizes { geometry = record sizes.geometry { logical = 812 } }) (desk one_busy [] 0 []) []
    (desk (line.Answer other reply.Range ∷ line.Begin other ∷ one_busy) [] 0 []) (Says (line.Answer other reply.Range) ∷ Says (line.Begin other) ∷ []) []
begins_out_of_range = begins (DeskBegins.answers other (request.Write (address 812) y false) _ reply.Range (record { may = (refl, refl, omega arith); lowest = past_one }) refl refl refl refl refl refl)

begins_after_a_stop : Acts (desk [] [] 4 []) [] (desk (line.Answer first reply.Stopped ∷ line.Begin first ∷ []) [] 4 []) (Says (line.Answer first reply.Stopped) ∷ Says (line.Begin first) ∷ []) []
begins_after_a_stop = begins (DeskBegins.answers first (request.Write (address 0) x false) _ reply.Stopped (record { may = (refl, refl, omega arith); lowest = λ w may. omega arith }) refl refl refl refl refl refl)

-- Reply: an answer is said, a flush gets its mark, one that is stopped waits for all stop notices
replies : Acts (desk [] [] 0 []) (Request (answered reply.Ok (writes phase.Reply)) ∷ []) (desk (line.Answer first reply.Ok ∷ []) [] 0 []) (Says (line.Answer first reply.Ok) ∷ []) []
replies = answers (DeskServes.answers reply.Ok refl refl (λ is. absurd cc) refl refl refl refl refl)

replies_to_a_flush : Acts (desk [] [] 0 []) (Request (record (vio flush asks.Flush phase.Reply 0) { answer = Some reply.Ok; calls = 3 }) ∷ [])
    (desk (line.Answer flush reply.Ok ∷ []) (record { request = flush; calls = 3 } ∷ []) 0 []) (Flushes (record { request = flush; calls = 3 }) ∷ []) []
replies_to_a_flush = answers (DeskServes.marks refl refl refl refl refl refl)

replies_later : Acts (desk [] [] 3 []) (Request (answered reply.Stopped (writes phase.Reply)) ∷ []) (desk [] [] 3 (answered reply.Stopped (writes phase.Reply) ∷ [])) [] []
replies_later = answers (DeskServes.parks reply.Stopped refl refl refl refl refl refl refl)

replies_at_last : Acts (desk [] [] 3 (answered reply.Stopped (writes phase.Reply) ∷ [])) (StopNotice ∷ []) (desk [] [] 4 []) [] ((id.Desk, Request (answered reply.Stopped (writes phase.Reply))) ∷ [])
replies_at_last = hears

-- Arrive: the address is free, or held, or retired
arrives : Acts (logical 0 [] [] [] [] []) (Request (vio first asks.Write phase.Arrive 0) ∷ []) (logical 1 (place first 0 0 ∷ []) (lock 0 ∷ []) [] [] []) (Draws (place first 0 0) ∷ [])
    ((id.Logical 0, Request (vio first asks.Write phase.Look 0)) ∷ [])
arrives = serves (LogicalServes.arrives_free refl refl refl refl refl refl)

arrives_to_wait : Acts (logical 2 [] (lock 0 ∷ []) [] [] []) (Request (vio reader asks.Read phase.Arrive 0) ∷ [])
    (logical 3 (place reader 0 2 ∷ []) (lock 0 ∷ []) (vio reader asks.Read phase.Wait 2 ∷ []) [] []) (Draws (place reader 0 2) ∷ []) []
arrives_to_wait = serves (LogicalServes.arrives_held refl refl refl refl refl refl)

arrives_retired : Acts (logical 2 [] [] [] (address 0 ∷ []) []) (Request (vio reader asks.Read phase.Arrive 0) ∷ []) (logical 3 (place reader 0 2 ∷ []) [] [] (address 0 ∷ []) [])
    (Draws (place reader 0 2) ∷ []) ((id.Desk, Request (answered reply.Stopped (vio reader asks.Read phase.Reply 2))) ∷ [])
arrives_retired = serves (LogicalServes.arrives_retired refl refl refl refl refl)

-- Look: what the last write of its address set says where it goes: a write claims a block, but for one of zeros, a discard hands in its
-- entry, a read goes to the block that is mapped, or has zeros; and so does a read whose address has no leaf
abbrev knows : Vio → Vio
knows v = record v { old = At (block 85); latest = Some of_first }

abbrev of_zeros : Remapping
of_zeros = record of_first { new = Zero }

looks_to_write : Acts (logical 1 [] (lock 0 ∷ []) [] [] (of_first ∷ [])) (Request (vio first asks.Write phase.Look 0) ∷ []) (logical 1 [] (lock 0 ∷ []) [] [] (of_first ∷ [])) []
    ((id.Physical 0, Request (knows (vio first asks.Write phase.Claim 0))) ∷ [])
looks_to_write = serves (LogicalServes.looks (At (block 85)) _ refl (has_path _) refl refl refl refl refl refl refl)

looks_to_write_zeros : Acts (logical 1 [] (lock 0 ∷ []) [] [] (of_first ∷ [])) (Request (record (vio first asks.Write phase.Look 0) { bytes = 0 ∷ 0 ∷ [] }) ∷ []) (logical 1 [] (lock 0 ∷ []) [] [] (of_first ∷ [])) []
    ((id.Journal, Request (record (knows (vio first asks.Write phase.Enter 0)) { bytes = 0 ∷ 0 ∷ []; new = Zero })) ∷ [])
looks_to_write_zeros = serves (LogicalServes.looks (At (block 85)) _ refl (has_path _) refl refl refl refl refl refl refl)

looks_to_discard : Acts (logical 1 [] (lock 0 ∷ []) [] [] (of_first ∷ [])) (Request (vio first asks.Discard phase.Look 0) ∷ []) (logical 1 [] (lock 0 ∷ []) [] [] (of_first ∷ [])) []
    ((id.Journal, Request (knows (vio first asks.Discard phase.Enter 0))) ∷ [])
looks_to_discard = serves (LogicalServes.looks (At (block 85)) _ refl (has_path _) refl refl refl refl refl refl refl)

looks_to_read : Acts (logical 3 [] (lock 2 ∷ []) [] [] (of_first ∷ [])) (Request (reads phase.Look) ∷ []) (logical 3 [] (lock 2 ∷ []) [] [] (of_first ∷ [])) [] ((id.Device, Request (finds phase.Load)) ∷ [])
looks_to_read = serves (LogicalServes.looks (At (block 85)) _ refl (has_path _) refl refl refl refl refl refl refl)

looks_to_read_zeros : Acts (logical 3 [] (lock 2 ∷ []) [] [] (of_zeros ∷ [])) (Request (reads phase.Look) ∷ []) (logical 3 [] (lock 2 ∷ []) [] [] (of_zeros ∷ [])) []
    ((id.Logical 0, Request (record (reads phase.Loaded) { old = Zero; latest = Some of_zeros; bytes = zero_block })) ∷ [])
looks_to_read_zeros = serves (LogicalServes.looks Zero _ refl (has_path _) refl refl refl refl refl refl refl)

looks_to_read_without_a_leaf : Acts (logical_over (tree_with []) 3 [] (lock 2 ∷ []) [] [] []) (Request (reads phase.Look) ∷ []) (logical_over (tree_with []) 3 [] (lock 2 ∷ []) [] [] []) []
    ((id.Logical 0, Request (record (reads phase.Loaded) { bytes = zero_block })) ∷ [])
looks_to_read_without_a_leaf = serves (LogicalServes.looks Unmapped _ refl (has_path _) refl refl refl refl refl refl refl)

-- or a discard passes where it has no leaf; but not where a slot of its address was set
looks_past : Acts (logical_over (tree_with []) 1 [] (lock 0 ∷ []) [] [] []) (Request (vio first asks.Discard phase.Look 0) ∷ []) (logical_over (tree_with []) 1 [] [] [] [] []) (Passes pass_of_first ∷ [])
    ((id.Desk, Request (answered reply.Ok (vio first asks.Discard phase.Reply 0))) ∷ [])
looks_past = serves (LogicalServes.passes refl (has_path _) refl refl refl refl)

looks_to_discard_again : Acts (logical_over (tree_with []) 1 [] (lock 0 ∷ []) [] [] (of_first ∷ [])) (Request (vio first asks.Discard phase.Look 0) ∷ []) (logical_over (tree_with []) 1 [] (lock 0 ∷ []) [] [] (of_first ∷ [])) []
    ((id.Journal, Request (knows (vio first asks.Discard phase.Enter 0))) ∷ [])
looks_to_discard_again = serves (LogicalServes.looks (At (block 85)) _ refl (has_path _) refl refl refl refl refl refl refl)

-- or the leaf of its address is read first, at its block
looks_for_its_leaf : Acts (logical 3 [] (lock 2 ∷ []) [] [] []) (Request (reads phase.Look) ∷ []) (logical 3 [] (lock 2 ∷ []) [] [] []) [] ((id.Device, Request (needs phase.LoadLeaf)) ∷ [])
looks_for_its_leaf = serves (LogicalServes.needs_leaf (block 87) refl (has_path _) refl refl refl refl refl refl refl)

looks_for_its_leaf_to_write : Acts (logical 1 [] (lock 0 ∷ []) [] [] []) (Request (vio first asks.Write phase.Look 0) ∷ []) (logical 1 [] (lock 0 ∷ []) [] [] []) []
    ((id.Device, Request (record (vio first asks.Write phase.LoadLeaf 0) { leaf = Some (block 87) })) ∷ [])
looks_for_its_leaf_to_write = serves (LogicalServes.needs_leaf (block 87) refl (has_path _) refl refl refl refl refl refl refl)

-- known_by: what the last write set is known, and that nothing is mapped where there is no leaf; else nothing is
known_by_a_write : (known_by (Some of_first) None ≡ Some (At (block 85))) × (known_by (Some of_first) (Some (block 87)) ≡ Some (At (block 85)))
known_by_a_write = (refl, refl)

known_without_a_leaf : known_by None None ≡ Some Unmapped
known_without_a_leaf = refl

not_known_without_its_leaf : known_by None (Some (block 87)) ≡ None
not_known_without_its_leaf = refl

-- leaf_at: the block to which the page above leads, where each page of the path is there
leaf_stands : leaf_at leafy 0 ≡ Some (block 87)
leaf_stands = refl

leaf_of_another : leaf_at leafy 1 ≡ Some (block 87)
leaf_of_another = refl

no_leaf_there : (leaf_at (tree_with []) 0 ≡ None) × (leaf_at (tree_with (Zero ∷ [])) 0 ≡ None)
no_leaf_there = (refl, refl)

-- LoadedLeaf: it knows what its leaf says, and goes on as one that looked it up
goes_to_load : Acts (logical 3 [] (lock 2 ∷ []) [] [] []) (Request (record (reads phase.LoadedLeaf) { old = At (block 85) }) ∷ []) (logical 3 [] (lock 2 ∷ []) [] [] []) []
    ((id.Device, Request (record (reads phase.Load) { old = At (block 85) })) ∷ [])
goes_to_load = serves (LogicalServes.leafed _ refl refl refl refl refl)

goes_on_with_zeros : Acts (logical 3 [] (lock 2 ∷ []) [] [] []) (Request (reads phase.LoadedLeaf) ∷ []) (logical 3 [] (lock 2 ∷ []) [] [] []) [] ((id.Logical 0, Request (record (reads phase.Loaded) { bytes = zero_block })) ∷ [])
goes_on_with_zeros = serves (LogicalServes.leafed _ refl refl refl refl refl)

goes_to_claim : Acts (logical 1 [] (lock 0 ∷ []) [] [] []) (Request (record (vio first asks.Write phase.LoadedLeaf 0) { old = At (block 85) }) ∷ []) (logical 1 [] (lock 0 ∷ []) [] [] []) []
    ((id.Physical 0, Request (record (vio first asks.Write phase.Claim 0) { old = At (block 85) })) ∷ [])
goes_to_claim = serves (LogicalServes.leafed _ refl refl refl refl refl)

goes_to_enter : Acts (logical 1 [] (lock 0 ∷ []) [] [] []) (Request (record (vio first asks.Discard phase.LoadedLeaf 0) { old = Zero }) ∷ []) (logical 1 [] (lock 0 ∷ []) [] [] []) []
    ((id.Journal, Request (record (vio first asks.Discard phase.Enter 0) { old = Zero })) ∷ [])
goes_to_enter = serves (LogicalServes.leafed _ refl refl refl refl refl)

-- a flush takes no lock, and goes nowhere
flush_goes_nowhere : goes_on sizes (vio flush asks.Flush phase.LoadedLeaf 0) ≡ None
flush_goes_nowhere = refl

-- Claim: the lowest free block, or none is free, and it is given a ticket
abbrev pub has_block : Phase → Vio
has_block now = record (writes now) { claim = Some (block 85) }

used : (k : ℕ) → k < 6 → slice_index six k ≡ 1
used k below = get_or_append_left (replicate 6 1) (replicate 58 0) 0 k (omega (arith, below)) ∙ get_or-replicate 6 k 1 0 below

claims_85 : ClaimsFree (slab_with six nothing) (slab_with six one) (block 85)
claims_85 = record {
  of_slab = (omega arith, omega arith);
  free = (refl, refl);
  lowest = λ other here below free. let place : other.0 - 79 < 6 = omega (arith, here.0, below) in omega (arith, used (other.0 - 79) place, free.0);
  now_claimed = refl;
}

pub gives_85 : GivesBlock (zone_with (slab_with six nothing)) (zone_with (slab_with six one)) (block 85)
gives_85 = record { claims = record { place = 0; inside = omega arith; before = λ k below. absurd (omega (arith, below)); slab = slab_with six one; claims = claims_85; after = refl }; same = refl }

claims : Acts (physical six nothing) (Request (vio first asks.Write phase.Claim 0) ∷ []) (physical six one) (Takes first None (block 85) ∷ []) ((id.Device, Request (has_block phase.Store)) ∷ [])
claims = takes (PhysicalServes.claims (block 85) (zone_with (slab_with six one)) refl gives_85 refl refl refl)

all_used : HasNoFree (slab_with all nothing)
all_used at here free = let is : slice_index all (at.0 - 79) ≡ 1 = get_or-replicate 64 (at.0 - 79) 1 0 (omega (arith, here.0, here.1)) in omega (arith, is, free.0)

pub none_free : NoneFree (zone_with (slab_with all nothing)).slabs
none_free k below = let first_one : 0 ≡ k = omega (arith, below) in subst (λ (n : ℕ). HasNoFree (slab_at ((slab_with all nothing) ∷ []) n)) first_one all_used

-- the zone in this step, with so many tickets issued and these out
abbrev pub stepped : Zone → ℕ → ℕ → List Waiting → Zone
stepped z step issued out = record z { desk = record z.desk { step = Some step; issued = issued; out = out } }

abbrev pub waiting : Writer → ℕ → Option Pbn → Waiting
waiting w number block = record { number = number; asked = 0; writer = w; block = block }

asks_for_a_block : Acts (physical all nothing) (Request (vio first asks.Write phase.Claim 0) ∷ []) (at.Physical (record { notified = false; strays = []; counts = stepped (zone_with (slab_with all nothing)) 0 1 (waiting first 0 None ∷ []) })) (AsksIn first (ticket 0 0) ∷ [])
    ((id.Physical 0, Request (record (vio first asks.Write phase.Withdraw 0) { tickets = ticket 0 0 ∷ [] })) ∷ [])
asks_for_a_block = takes (PhysicalServes.asks (ticket 0 0) (stepped (zone_with (slab_with all nothing)) 0 0 []) (stepped (zone_with (slab_with all nothing)) 0 1 (waiting first 0 None ∷ [])) refl (omega arith)
    (false, record { some = λ is. cc; none = λ is. none_free; after = refl })
    (record { none_free = none_free; issues = record { now = refl; zone = refl; number = refl; after = refl }; same = refl }) refl refl refl)

claims_though_none_is_free : (x : Pbn) (z : Zone) → ¬ GivesBlock (zone_with (slab_with all nothing)) z x
claims_though_none_is_free x z = λ gives. none_free gives.claims.place gives.claims.inside x gives.claims.claims.of_slab gives.claims.claims.free

-- Count: the increment is taken and the claim spent; that of a page too, which from now on nobody shares
pub claimed_85 : IsClaimedIn (zone_with (slab_with six one)) (block 85)
claimed_85 = record { own = record { data_block = record { slab = 0; offset = 6; inside = (omega arith, omega arith); stands = refl }; own = refl }; some = omega arith }

counts_one : Acts (physical six one) (Request (has_block phase.Count) ∷ []) (physical seven nothing) (Adds (Remaps of_first) ∷ []) ((id.Logical 0, Request (writes phase.Settle)) ∷ [])
counts_one = takes (PhysicalServes.counts (block 85) (slab_with seven nothing) (zone_with (slab_with seven nothing)) refl refl claimed_85 (omega arith, omega arith, refl) (record { serves = inl (inl refl, refl, refl); same = refl }) refl refl refl)

counts_without_a_claim : ¬ IsClaimedIn (zone_with (slab_with six nothing)) (block 85)
counts_without_a_claim = λ is. omega (arith, is.some)

abbrev pub with_page_at : ℕ → Counts → Counts
with_page_at k slab = record slab { pages = slice_set slab.pages k true }

-- Decrement: it is taken, and reported; where its block's counter is 0 it is reported too, and the device's zone is told, once
removes : Acts (physical seven nothing) (Decrement of_second ∷ []) (physical six nothing) (Removes of_second None ∷ []) ((id.Logical 0, Report of_second) ∷ [])
removes = updates (PhysicalTakes.removes (block 85) (slab_with six nothing) (zone_with (slab_with six nothing)) refl claimed_85.own (omega arith, refl) (record { serves = inl (inl refl, refl, refl); same = refl }) refl refl refl)

abbrev with_strays : List Remapping → ZoneData
with_strays strays = at.Physical (record { notified = false; strays = strays; counts = zone_with (slab_with six nothing) })

strays : Acts (physical six nothing) (Decrement of_second ∷ []) (with_strays (of_second ∷ [])) (Strays of_second ∷ []) ((id.Logical 0, Report of_second) ∷ (id.Device, item.Damage (Stray (block 85) 0)) ∷ [])
strays = updates (PhysicalTakes.is_stray (block 85) refl claimed_85.own refl refl refl refl)

strays_again : Acts (with_strays (of_first ∷ [])) (Decrement of_second ∷ []) (with_strays (of_second ∷ of_first ∷ [])) (Strays of_second ∷ []) ((id.Logical 0, Report of_second) ∷ [])
strays_again = updates (PhysicalTakes.is_stray (block 85) refl claimed_85.own refl refl refl refl)

-- a decrement finds 0 where it is taken from nothing
removes_from_nothing : (slab : Counts) → ¬ Fits half.Decrement (slab_with six nothing) slab (block 85)
removes_from_nothing slab = λ fits. omega (arith, fits.0)

-- the device's zone is told, and stops the session, once
is_told : Acts (device false 6) (item.Damage (Stray (block 85) 0) ∷ []) (at.Device (record { stopped = true; calls = 6; superblock = Durable; damage = Some (Stray (block 85) 0) })) (Hears (Stray (block 85) 0) ∷ []) notify
is_told = halts (record { new_is = refl; made_is = refl; posts_are = refl })

-- Before all else the superblock is written and flushed, or that fails; what came waits.
announces : Acts (beginning false 0 AsOpened) (Request (writes phase.Store) ∷ []) (beginning false 1 Written) (Calls (Write (block 0) (superblock_bytes sizes) true) ∷ []) ((id.Device, Request (writes phase.Store)) ∷ [])
announces = calls (DeviceServes.announces refl (Announces.succeeds _ refl refl refl refl refl))

announces_by_a_flush : Acts (beginning false 1 Written) (Block (sealed stage.Cover) ∷ []) (beginning false 2 Durable) (Calls (Flush true) ∷ []) ((id.Device, Block (sealed stage.Cover)) ∷ [])
announces_by_a_flush = works (DeviceWorks.announces _ _ refl refl (Announces.succeeds _ refl refl refl refl refl))

announces_in_vain : Acts (beginning false 1 Written) (Request (finds phase.Load) ∷ []) (beginning true 1 Written) (Fails reader (Flush false) true ∷ []) ((id.Device, Request (finds phase.Load)) ∷ notify)
announces_in_vain = calls (DeviceServes.announces refl (Announces.fails _ true refl refl refl refl refl))

loads_once_stopped : Acts (beginning true 1 Written) (Request (finds phase.Load) ∷ []) (beginning true 2 Written) (Calls (Read (block 85) y true) ∷ []) ((id.Logical 0, Request (record (finds phase.Loaded) { bytes = y })) ∷ [])
loads_once_stopped = calls (DeviceServes.loads (block 85) y refl refl (inl refl) (omega arith) refl refl refl)

-- no request that belongs elsewhere waits there
announces_at_the_device : (new : ZoneData) (made : Trace) (posts : List Post) → Act sizes (beginning false 0 AsOpened) (Request (writes phase.Enter) ∷ []) new made posts → ⊥
announces_at_the_device new made posts (calls (DeviceServes.announces there act)) = absurd cc
announces_at_the_device new made posts (calls (DeviceServes.stores a is b c d e f g h)) = absurd cc
announces_at_the_device new made posts (calls (DeviceServes.store_fails a k is b c d e f g h)) = absurd cc
announces_at_the_device new made posts (calls (DeviceServes.store_unmade is b c d e)) = absurd cc
announces_at_the_device new made posts (calls (DeviceServes.loads a b is c d e f g h)) = absurd cc
announces_at_the_device new made posts (calls (DeviceServes.load_fails a b k is c d e f g h)) = absurd cc
announces_at_the_device new made posts (calls (DeviceServes.loads_leaf a b m is c d e f g h i)) = absurd cc
announces_at_the_device new made posts (calls (DeviceServes.leaf_fails a b k is c d e f g h)) = absurd cc
announces_at_the_device new made posts (calls (DeviceServes.harms a b w is c d e f g h i)) = absurd cc
announces_at_the_device new made posts (calls (DeviceServes.flushes is a b c d e)) = absurd cc
announces_at_the_device new made posts (calls (DeviceServes.flush_fails k is a b c d e)) = absurd cc
announces_at_the_device new made posts (calls (DeviceServes.flush_unmade is a b c d)) = absurd cc

-- no data are stored, read or flushed before it is durable, unless the session is stopped
stores_none_before : (new : ZoneData) (posts : List Post) → Act sizes (beginning false 1 Written) (Request (writes phase.Store) ∷ []) new (Calls (Write (block 85) x true) ∷ []) posts → ⊥
stores_none_before new posts (calls (DeviceServes.announces there (Announces.succeeds c is a b m p))) = absurd cc
stores_none_before new posts (calls (DeviceServes.announces there (Announces.fails c k is a b m p))) = absurd cc
stores_none_before new posts (calls (DeviceServes.stores a is b c d e f g h)) = absurd cc
stores_none_before new posts (calls (DeviceServes.store_fails a k is b c d e f g h)) = absurd cc
stores_none_before new posts (calls (DeviceServes.store_unmade is b c d e)) = absurd cc
stores_none_before new posts (calls (DeviceServes.loads a b is c d e f g h)) = absurd cc
stores_none_before new posts (calls (DeviceServes.load_fails a b k is c d e f g h)) = absurd cc
stores_none_before new posts (calls (DeviceServes.loads_leaf a b m is c d e f g h i)) = absurd cc
stores_none_before new posts (calls (DeviceServes.leaf_fails a b k is c d e f g h)) = absurd cc
stores_none_before new posts (calls (DeviceServes.harms a b w is c d e f g h i)) = absurd cc
stores_none_before new posts (calls (DeviceServes.flushes is a b c d e)) = absurd cc
stores_none_before new posts (calls (DeviceServes.flush_fails k is a b c d e)) = absurd cc
stores_none_before new posts (calls (DeviceServes.flush_unmade is a b c d)) = absurd cc

loads_none_before : (new : ZoneData) (posts : List Post) → Act sizes (beginning false 1 Written) (Request (finds phase.Load) ∷ []) new (Calls (Read (block 85) y true) ∷ []) posts → ⊥
loads_none_before new posts (calls (DeviceServes.announces there (Announces.succeeds c is a b m p))) = absurd cc
loads_none_before new posts (calls (DeviceServes.announces there (Announces.fails c k is a b m p))) = absurd cc
loads_none_before new posts (calls (DeviceServes.stores a is b c d e f g h)) = absurd cc
loads_none_before new posts (calls (DeviceServes.store_fails a k is b c d e f g h)) = absurd cc
loads_none_before new posts (calls (DeviceServes.store_unmade is b c d e)) = absurd cc
loads_none_before new posts (calls (DeviceServes.loads a b is c d e f g h)) = elim d [ inl stopped ↦ absurd cc | inr durable ↦ absurd cc ]
loads_none_before new posts (calls (DeviceServes.load_fails a b k is c d e f g h)) = absurd cc
loads_none_before new posts (calls (DeviceServes.loads_leaf a b m is c d e f g h i)) = absurd cc
loads_none_before new posts (calls (DeviceServes.leaf_fails a b k is c d e f g h)) = absurd cc
loads_none_before new posts (calls (DeviceServes.harms a b w is c d e f g h i)) = absurd cc
loads_none_before new posts (calls (DeviceServes.flushes is a b c d e)) = absurd cc
loads_none_before new posts (calls (DeviceServes.flush_fails k is a b c d e)) = absurd cc
loads_none_before new posts (calls (DeviceServes.flush_unmade is a b c d)) = absurd cc

abbrev first_zone : List Post → ZoneId
first_zone [] = id.Device
first_zone (post ∷ posts) = post.0

flushes_none_before : (new : ZoneData) (made : Trace) → Act sizes (beginning false 1 Written) (Request (vio flush asks.Flush phase.Flush 0) ∷ []) new made ((id.Desk, Request (record (vio flush asks.Flush phase.Reply 0) { answer = Some reply.Ok; calls = 2 })) ∷ []) → ⊥
flushes_none_before new made (calls (DeviceServes.announces there (Announces.succeeds c is a b m p))) = let to = ap first_zone p in absurd cc
flushes_none_before new made (calls (DeviceServes.announces there (Announces.fails c k is a b m p))) = let to = ap first_zone p in absurd cc
flushes_none_before new made (calls (DeviceServes.stores a is b c d e f g h)) = absurd cc
flushes_none_before new made (calls (DeviceServes.store_fails a k is b c d e f g h)) = absurd cc
flushes_none_before new made (calls (DeviceServes.store_unmade is b c d e)) = absurd cc
flushes_none_before new made (calls (DeviceServes.loads a b is c d e f g h)) = absurd cc
flushes_none_before new made (calls (DeviceServes.load_fails a b k is c d e f g h)) = absurd cc
flushes_none_before new made (calls (DeviceServes.loads_leaf a b m is c d e f g h i)) = absurd cc
flushes_none_before new made (calls (DeviceServes.leaf_fails a b k is c d e f g h)) = absurd cc
flushes_none_before new made (calls (DeviceServes.harms a b w is c d e f g h i)) = absurd cc
flushes_none_before new made (calls (DeviceServes.flushes is a b c d e)) = absurd cc
flushes_none_before new made (calls (DeviceServes.flush_fails k is a b c d e)) = absurd cc
flushes_none_before new made (calls (DeviceServes.flush_unmade is a b c d)) = absurd cc

-- Store: the data is written, or not
stores : Acts (device false 6) (Request (writes phase.Store) ∷ []) (device false 7) (Calls (Write (block 85) x true) ∷ []) ((id.Journal, Request (writes phase.Enter)) ∷ [])
stores = calls (DeviceServes.stores (block 85) refl refl refl refl (omega arith) refl refl refl)

stores_in_vain : Acts (device false 6) (Request (writes phase.Store) ∷ []) (device true 6) (Fails first (Write (block 85) x false) true ∷ [])
    ((id.Physical 0, Request (answered reply.Stopped (writes phase.AbortClaim))) ∷ notify)
stores_in_vain = calls (DeviceServes.store_fails (block 85) true refl refl refl refl (omega arith) refl refl refl)

stores_no_more : Acts (device true 6) (Request (writes phase.Store) ∷ []) (device true 6) [] ((id.Physical 0, Request (answered reply.Stopped (writes phase.AbortClaim))) ∷ [])
stores_no_more = calls (DeviceServes.store_unmade refl refl refl refl refl)

-- Enter: the entry is handed in, with the first one the block goes round; or it waits, or has no block, or the journal was notified
enters_now : Acts (journal false empty_log [] [] [] []) (Request (writes phase.Enter) ∷ []) (journal true (log_with 1 (of_write ∷ []) [] 0 1) (writes phase.Pending ∷ []) [] (of_first ∷ []) []) (Enters (Remaps of_first) ∷ [])
    ((id.Journal, Block (block_of stage.Commit [])) ∷ [])
enters_now = enters (JournalServes.enters_first refl refl refl refl refl refl refl refl)

enters_next : Acts (journal true (log_with 1 (of_read ∷ []) [] 0 1) (reads phase.Pending ∷ []) [] [] []) (Request (writes phase.Enter) ∷ [])
    (journal true (log_with 1 (of_read ∷ of_write ∷ []) [] 0 1) (reads phase.Pending ∷ writes phase.Pending ∷ []) [] (of_first ∷ []) []) (Enters (Remaps of_first) ∷ []) []
enters_next = enters (JournalServes.enters refl refl refl refl refl refl refl refl)

enters_later : Acts (journal true (log_with 1 (replicate 192 of_read) [] 0 1) (replicate 192 (reads phase.Pending)) [] [] []) (Request (writes phase.Enter) ∷ [])
    (journal true (log_with 1 (replicate 192 of_read) [] 0 1) (replicate 192 (reads phase.Pending)) (writes phase.Enter ∷ []) [] []) [] []
enters_later = enters (JournalServes.waits refl refl refl refl refl refl refl)

enters_full : Acts (journal false (full_log 2) [] [] (of_second ∷ []) []) (Request (writes phase.Enter) ∷ []) (journal false (full_log 2) [] [] (of_second ∷ []) []) []
    ((id.Physical 0, Request (answered reply.Full (writes phase.AbortClaim))) ∷ [])
enters_full = enters (JournalServes.is_full refl refl refl refl refl refl)

-- Cover, Write, Harden: each call leads to the next stage, or to Fail
covers : Acts (device false 7) (Block (sealed stage.Cover) ∷ []) (device false 8) (Calls (Flush true) ∷ []) ((id.Device, Block (sealed stage.Write)) ∷ [])
covers = works (DeviceWorks.makes (Flush true) (block 2) _ _ refl refl refl refl refl refl refl refl)

hardens : Acts (device false 9) (Block (sealed stage.Harden) ∷ []) (device false 10) (Calls (Flush true) ∷ []) ((id.Journal, Block (sealed stage.Commit)) ∷ [])
hardens = works (DeviceWorks.makes (Flush true) (block 2) _ _ refl refl refl refl refl refl refl refl)

writes_a_block : Acts (device false 8) (Block (sealed stage.Write) ∷ []) (device false 9) (Calls (Write (block 2) (journal_bytes sizes (sealed stage.Write)) true) ∷ []) ((id.Device, Block (sealed stage.Harden)) ∷ [])
writes_a_block = works (DeviceWorks.makes (Write (block 2) (journal_bytes sizes (sealed stage.Write)) true) (block 2) _ _ refl refl refl refl refl refl refl refl)

hardens_in_vain : Acts (device false 9) (Block (sealed stage.Harden) ∷ []) (device true 9) (Fails first (Flush false) false ∷ []) ((id.Journal, Block (sealed stage.Fail)) ∷ notify)
hardens_in_vain = works (DeviceWorks.fails (Flush false) (block 2) false _ _ refl refl refl refl refl refl refl refl)

hardens_no_more : Acts (device true 9) (Block (sealed stage.Harden) ∷ []) (device true 9) [] ((id.Journal, Block (sealed stage.Fail)) ∷ [])
hardens_no_more = works (DeviceWorks.unmade (Flush false) (block 2) _ _ refl refl refl refl refl refl)

-- Commit, Fail: the oldest entry goes to be counted, with the decrement of what it replaces; behind the last one the next block is sealed, or there is none; or all are
-- aborted, and those that wait are stopped
commits : Acts (journal true (log_with 2 [] (placed 1 0 (of_write ∷ of_read ∷ [])) 0 1) [] [] (of_first ∷ []) []) (Block (block_of stage.Commit (writes phase.Pending ∷ reads phase.Pending ∷ [])) ∷ [])
    (journal true (full_log 1) [] [] (of_first ∷ []) (of_first ∷ [])) (Commits (Remaps of_first) ∷ [])
    ((id.Physical 0, Request (writes phase.Count)) ∷ (id.Journal, Block (block_of stage.Commit (reads phase.Pending ∷ []))) ∷ [])
commits = ends (JournalEnds.commits _ _ refl refl (omega arith) refl refl refl)

-- one that has no block goes to its slot; and one that replaces a block has its decrement behind it
hands_to_its_slot : hands_out sizes (record (writes phase.Pending) { new = Zero }) ≡ (id.Logical 0, Request (record (writes phase.Settle) { new = Zero })) ∷ []
hands_to_its_slot = refl

hands_a_decrement : hands_out sizes (record (writes phase.Pending) { old = At (block 90) }) ≡ (id.Physical 0, Request (record (writes phase.Count) { old = At (block 90) })) ∷ (id.Physical 0, Decrement (record of_first { old = At (block 90) })) ∷ []
hands_a_decrement = refl

seals : Acts (journal true (log_with 1 (of_write ∷ []) [] 0 1) (writes phase.Pending ∷ []) [] [] []) (Block (block_of stage.Commit []) ∷ [])
    (journal true (log_with 2 [] (placed 1 0 (of_write ∷ [])) 0 1) [] [] [] []) (Seals ∷ []) ((id.Device, Block (sealed stage.Cover)) ∷ [])
seals = ends (JournalEnds.seals _ _ refl refl refl (record { sealable = record { some = omega arith; durable = refl }; all = refl }) refl refl refl)

-- a block that is full, while another waits for the next one
seals_full : (others : List Vio) → length others ≡ 191
    → Acts (journal true (log_with 1 (of_write ∷ []) [] 0 1) (writes phase.Pending ∷ others) (reads phase.Enter ∷ []) [] []) (Block (block_of stage.Commit []) ∷ [])
    (journal true (log_with 2 [] (placed 1 0 (of_write ∷ [])) 0 1) [] [] [] []) (Seals ∷ [])
    ((id.Device, Block (block_of stage.Cover (writes phase.Pending ∷ others))) ∷ (id.Journal, Request (reads phase.Enter)) ∷ [])
seals_full others full = ends (JournalEnds.seals _ _ refl refl refl (record { sealable = record { some = omega arith; durable = refl }; all = omega (arith, full) }) refl refl refl)

-- but none with room for one that waits, and none that may not be sealed; nor does anybody wait while there is room
abbrev filled_with : List Vio → List Vio → JournalZone
filled_with filling waiting = record { notified = false; busy = true; broken = false; log = log_with 1 (of_write ∷ []) [] 0 1; filling = filling; waiting = waiting; entered = []; committed = [] }

due : IsDue (filled_with (writes phase.Pending ∷ reads phase.Pending ∷ []) [])
due = record { sealable = record { some = omega arith; durable = refl }; all = refl }

due-alone : ¬ IsDue (filled_with (writes phase.Pending ∷ []) (reads phase.Enter ∷ []))
due-alone = λ is. let all = is.all in omega (arith, all)

due-while_one_is_written : ¬ IsDue (record (filled_with (writes phase.Pending ∷ []) []) { log = log_with 2 (of_write ∷ []) [] 0 1 })
due-while_one_is_written = λ is. omega (arith, is.sealable.durable)

waits_for_no_room : ¬ IsSoundJournal (filled_with (writes phase.Pending ∷ []) (reads phase.Enter ∷ []))
waits_for_no_room = λ is. let full = is.2 (omega arith) in omega (arith, full)

rests : Acts (journal true (full_log 2) [] [] [] []) (Block (block_of stage.Commit []) ∷ []) (journal false (full_log 2) [] [] [] []) [] []
rests = ends (JournalEnds.rests refl refl refl refl refl refl)

fails : Acts (journal true (log_with 2 (of_read ∷ []) (placed 1 0 (of_write ∷ [])) 0 1) (reads phase.Pending ∷ []) (writes phase.Enter ∷ []) [] []) (Block (sealed stage.Fail) ∷ [])
    (at.Journal (record { notified = false; busy = false; broken = true; log = log_with 2 (of_read ∷ []) (placed 1 0 (of_write ∷ [])) 0 1; filling = []; waiting = []; entered = []; committed = [] })) []
    ((id.Physical 0, Request (answered reply.Stopped (writes phase.AbortEnteredClaim))) ∷ (id.Physical 0, Request (answered reply.Stopped (reads phase.AbortEnteredClaim)))
    ∷ (id.Physical 0, Request (answered reply.Stopped (writes phase.AbortClaim))) ∷ [])
fails = ends (JournalEnds.fails refl refl refl refl)

-- Settle: the slot is set, and the lock goes to the reader
settles : Acts (logical 3 [] (lock 0 ∷ []) (reads phase.Wait ∷ []) [] []) (Request (writes phase.Settle) ∷ []) (logical 3 [] (lock 2 ∷ []) [] [] (of_first ∷ [])) (Sets (Remaps of_first) ∷ [])
    ((id.Desk, Request (answered reply.Ok (writes phase.Reply))) ∷ (id.Logical 0, Request (reads phase.Look)) ∷ [])
settles = serves (LogicalServes.settles refl refl refl refl refl refl)

-- where its entry replaces a block, once its decrement is reported; or the report comes first, and is kept
abbrev replaces : Phase → Vio
replaces now = record (writes now) { old = At (block 90) }

abbrev of_replaces : Remapping
of_replaces = record of_first { old = At (block 90) }

abbrev zone_awaiting : List Vio → List Remapping → List Remapping → List Lock → LogicalZone
zone_awaiting settling reported slots held =
    record { zone = 0; notified = false; next = 3; places = []; held = held; waiting = []; retired = []; tree = leafy; making = []; lacking = []; unlinkable = []; settling = settling; reported = reported; slots = slots }

abbrev awaiting : List Vio → List Remapping → List Remapping → List Lock → ZoneData
awaiting settling reported slots held = at.Logical (zone_awaiting settling reported slots held)

awaits : Acts (awaiting [] [] [] (lock 0 ∷ [])) (Request (replaces phase.Settle) ∷ []) (awaiting (replaces phase.Settle ∷ []) [] [] (lock 0 ∷ [])) [] []
awaits = serves (LogicalServes.awaits refl refl refl refl refl refl)

settles_by_the_report : Acts (awaiting (replaces phase.Settle ∷ []) [] [] (lock 0 ∷ [])) (Report of_replaces ∷ []) (awaiting [] [] (of_replaces ∷ []) []) (Sets (Remaps of_replaces) ∷ [])
    ((id.Desk, Request (answered reply.Ok (replaces phase.Reply))) ∷ [])
settles_by_the_report = step.settles (LogicalHears.settles (replaces phase.Settle) refl refl refl refl)

keeps_the_report : Acts (awaiting [] [] [] (lock 0 ∷ [])) (Report of_replaces ∷ []) (awaiting [] (of_replaces ∷ []) [] (lock 0 ∷ [])) [] []
keeps_the_report = step.settles (LogicalHears.keeps refl refl refl refl)

settles_behind_the_report : Acts (awaiting [] (of_replaces ∷ []) [] (lock 0 ∷ [])) (Request (replaces phase.Settle) ∷ []) (awaiting [] [] (of_replaces ∷ []) []) (Sets (Remaps of_replaces) ∷ [])
    ((id.Desk, Request (answered reply.Ok (replaces phase.Reply))) ∷ [])
settles_behind_the_report = serves (LogicalServes.settles refl refl refl refl refl refl)

-- it doesn't wait where the report came, nor where its entry replaces no block
waits_for_no_more : (awaits_report (zone_awaiting [] (of_replaces ∷ []) [] []) (replaces phase.Settle) ≡ false) × (awaits_report (zone_awaiting [] [] [] []) (writes phase.Settle) ≡ false)
waits_for_no_more = (refl, refl)

-- Load: the block is read, or not
loads : Acts (device true 6) (Request (finds phase.Load) ∷ []) (device true 7) (Calls (Read (block 85) y true) ∷ []) ((id.Logical 0, Request (record (finds phase.Loaded) { bytes = y })) ∷ [])
loads = calls (DeviceServes.loads (block 85) y refl refl (inl refl) (omega arith) refl refl refl)

loads_in_vain : Acts (device false 6) (Request (finds phase.Load) ∷ []) (device false 6) (Fails reader (Read (block 85) y false) true ∷ []) ((id.Logical 0, Request (answered reply.ReadFault (finds phase.Abort))) ∷ [])
loads_in_vain = calls (DeviceServes.load_fails (block 85) y true refl refl (inr refl) (omega arith) refl refl refl)

-- LoadLeaf: the leaf is read, and says what is mapped; or that fails; or it doesn't decode, and the session is stopped, once
abbrev empty_leaf : List ℕ
empty_leaf = page_bytes (leaf_head sizes.geometry 0 (block 87)) (replicate 812 Unmapped)

loads_a_leaf : Acts (device false 6) (Request (needs phase.LoadLeaf) ∷ []) (device false 7) (Calls (Read (block 87) empty_leaf true) ∷ []) ((id.Logical 0, Request (reads phase.LoadedLeaf)) ∷ [])
loads_a_leaf = calls (DeviceServes.loads_leaf (block 87) empty_leaf (replicate 812 Unmapped) refl refl (inr refl) (omega arith) (record { spelled = refl; held = held_unmapped sizes.geometry 0 }) refl refl refl)

loads_a_leaf_in_vain : Acts (device false 6) (Request (needs phase.LoadLeaf) ∷ []) (device false 6) (Fails reader (Read (block 87) y false) true ∷ [])
    ((id.Logical 0, Request (answered reply.ReadFault (needs phase.Abort))) ∷ [])
loads_a_leaf_in_vain = calls (DeviceServes.leaf_fails (block 87) y true refl refl (inr refl) (omega arith) refl refl refl)

-- a block that begins otherwise isn't the leaf
pub no_leaf_bytes : IsPageFault (leaf_head sizes.geometry 0 (block 87)) [] Header
no_leaf_bytes = record {
  slot = 0;
  inside = omega arith;
  before = λ i below. absurd (omega (arith, below));
  of_slot = λ headed.
      let none : 0 ≡ length (head_bytes (leaf_head sizes.geometry 0 (block 87))) = ap (λ (bytes : List ℕ). length bytes) headed in
      let all = length-head (leaf_head sizes.geometry 0 (block 87)) in
      omega (arith, none, all);
}

abbrev damaged : Bool → ℕ → Option Damage → ZoneData
damaged stopped made damage = at.Device (record { stopped = stopped; calls = made; superblock = Durable; damage = damage })

finds_damage : Acts (device false 6) (Request (needs phase.LoadLeaf) ∷ []) (damaged true 7 (Some (Page (block 87) Header))) (Harms reader (block 87) [] Header ∷ [])
    ((id.Logical 0, Request (answered reply.Damaged (needs phase.Abort))) ∷ notify)
finds_damage = calls (DeviceServes.harms (block 87) [] Header refl refl (inr refl) (omega arith) no_leaf_bytes refl refl refl)

finds_more_damage : Acts (damaged true 6 (Some (Page (block 79) (Compressed 3)))) (Request (needs phase.LoadLeaf) ∷ []) (damaged true 7 (Some (Page (block 79) (Compressed 3)))) (Harms reader (block 87) [] Header ∷ [])
    ((id.Logical 0, Request (answered reply.Damaged (needs phase.Abort))) ∷ [])
finds_more_damage = calls (DeviceServes.harms (block 87) [] Header refl refl (inl refl) (omega arith) no_leaf_bytes refl refl refl)

-- what decodes is no damage, and what doesn't is no leaf
no_damage_of_a_leaf : (mappings : List Mapping) (fault : PageFault) → IsPage (leaf_head sizes.geometry 0 (block 87)) empty_leaf mappings → IsPageFault (leaf_head sizes.geometry 0 (block 87)) empty_leaf fault → ⊥
no_damage_of_a_leaf mappings fault is harm = no_page_fault (leaf_head sizes.geometry 0 (block 87)) empty_leaf mappings fault is harm

no_leaf_of_damage : (mappings : List Mapping) → IsPage (leaf_head sizes.geometry 0 (block 87)) [] mappings → ⊥
no_leaf_of_damage mappings is = no_page_fault (leaf_head sizes.geometry 0 (block 87)) [] mappings Header is no_leaf_bytes

-- Loaded: it is given its bytes, and the lock is free
gives : Acts (logical 3 [] (lock 2 ∷ []) [] [] []) (Request (reads phase.Loaded) ∷ []) (logical 3 [] [] [] [] []) (Gives (given 2) ∷ []) ((id.Desk, Request (answered (reply.Bytes x) (reads phase.Reply))) ∷ [])
gives = serves (LogicalServes.gives refl refl refl refl)

-- AbortClaim: its claim is dropped, where it has one; AbortEnteredClaim: its claim stays counted
aborts_claim : Acts (physical six one) (Request (answered reply.Full (has_block phase.AbortClaim)) ∷ []) (physical six nothing) (Drops first (block 85) None ∷ []) ((id.Logical 0, Request (answered reply.Full (writes phase.Abort))) ∷ [])
aborts_claim = takes (PhysicalServes.drops (block 85) (zone_with (slab_with six nothing)) refl refl claimed_85 (record { serves = inl (inl refl, refl, refl); same = refl }) refl refl refl)

aborts_no_claim : Acts (physical six nothing) (Request (answered reply.Full (writes phase.AbortClaim)) ∷ []) (physical six nothing) [] ((id.Logical 0, Request (answered reply.Full (writes phase.Abort))) ∷ [])
aborts_no_claim = takes (PhysicalServes.drops_none refl refl refl refl refl)

aborts_entered_claim : Acts (physical six one) (Request (answered reply.Stopped (has_block phase.AbortEnteredClaim)) ∷ []) (physical six one) [] ((id.Logical 0, Request (answered reply.Stopped (writes phase.AbortEntered))) ∷ [])
aborts_entered_claim = takes (PhysicalServes.spends refl refl refl refl)

-- Abort: the lock goes to the reader; AbortEntered: the address is retired, and the reader is stopped
aborts : Acts (logical 3 [] (lock 0 ∷ []) (reads phase.Wait ∷ []) [] []) (Request (answered reply.Full (writes phase.Abort)) ∷ []) (logical 3 [] (lock 2 ∷ []) [] [] []) []
    ((id.Desk, Request (answered reply.Full (writes phase.Reply))) ∷ (id.Logical 0, Request (reads phase.Look)) ∷ [])
aborts = serves (LogicalServes.aborts refl refl refl refl refl)

aborts_entered : Acts (logical 3 [] (lock 0 ∷ []) (reads phase.Wait ∷ []) [] []) (Request (answered reply.Stopped (writes phase.AbortEntered)) ∷ []) (logical 3 [] [] [] (address 0 ∷ []) []) (Aborts (Remaps of_first) ∷ [])
    ((id.Desk, Request (answered reply.Stopped (writes phase.Reply))) ∷ (id.Desk, Request (answered reply.Stopped (reads phase.Reply))) ∷ [])
aborts_entered = serves (LogicalServes.aborts_entered refl refl refl refl refl)

-- Flush: it returns with its mark, or is stopped
flushes : Acts (device false 9) (Request (vio flush asks.Flush phase.Flush 0) ∷ []) (device false 10) (Calls (Flush true) ∷ [])
    ((id.Desk, Request (record (vio flush asks.Flush phase.Reply 0) { answer = Some reply.Ok; calls = 10 })) ∷ [])
flushes = calls (DeviceServes.flushes refl refl refl refl refl refl)

flushes_in_vain : Acts (device false 9) (Request (vio flush asks.Flush phase.Flush 0) ∷ []) (device true 9) (Fails flush (Flush false) true ∷ [])
    ((id.Desk, Request (answered reply.Stopped (vio flush asks.Flush phase.Reply 0))) ∷ notify)
flushes_in_vain = calls (DeviceServes.flush_fails true refl refl refl refl refl refl)

flushes_no_more : Acts (device true 9) (Request (vio flush asks.Flush phase.Flush 0) ∷ []) (device true 9) [] ((id.Desk, Request (answered reply.Stopped (vio flush asks.Flush phase.Reply 0))) ∷ [])
flushes_no_more = calls (DeviceServes.flush_unmade refl refl refl refl refl)

-- (stop notice): it is passed on to the desk; in the journal those that wait are aborted, and no entry is handed in any more
notifies : Acts (logical 0 [] [] [] [] []) (StopNotice ∷ []) (at.Logical (record { zone = 0; notified = true; next = 0; places = []; held = []; waiting = []; retired = []; tree = leafy; making = []; lacking = []; unlinkable = []; settling = []; reported = []; slots = [] })) []
    ((id.Desk, StopNotice) ∷ [])
notifies = serves_notice

notifies_physical : Acts (physical six one) (StopNotice ∷ []) (at.Physical (record { notified = true; strays = []; counts = zone_with (slab_with six one) })) [] ((id.Desk, StopNotice) ∷ [])
notifies_physical = takes_notice

abbrev closed : ZoneData
closed = at.Journal (record { notified = true; busy = true; broken = false; log = full_log 0; filling = []; waiting = []; entered = []; committed = [] })

notifies_journal : Acts (journal true (full_log 0) [] (writes phase.Enter ∷ []) [] []) (StopNotice ∷ []) closed [] ((id.Desk, StopNotice) ∷ (id.Physical 0, Request (answered reply.Stopped (writes phase.AbortClaim))) ∷ [])
notifies_journal = enters_notice

enters_no_more : Acts closed (Request (writes phase.Enter) ∷ []) closed [] ((id.Physical 0, Request (answered reply.Stopped (writes phase.AbortClaim))) ∷ [])
enters_no_more = enters (JournalServes.is_stopped refl refl refl refl refl)
