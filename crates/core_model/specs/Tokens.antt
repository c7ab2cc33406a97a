-- Tokens: what is given out once and held once. Of each token as many are held as were given.
use Rattle.std.specs.Prelude.{ℕ, ◌+◌, ◌≡◌, ◌≤◌, ◌==◌, Bool, true, false, ◌&&◌, not, Option, None, Some, is_some, List, [], ◌∷◌, ◌++◌, length, cond, nat_eq, if◌then◌else◌}
use Rattle.blk_base.specs.declared.place.Mapping.{Mapping}
use Rattle.blk_base.specs.declared.place.Mapping.TheVariants.{At}
use Rattle.blk_base.specs.declared.place.PageId.{PageId}
use Rattle.blk_base.specs.declared.place.Pbn.{Pbn}
use Rattle.image_model.specs.Pages.{is_page}
use Rattle.blk_base.specs.declared.request.Writer.{Writer}
use Rattle.vdo_model.specs.Scripts.{same_writer}
use Rattle.vdo_model.specs.declared.report.DeskLine.{DeskLine}
use Rattle.vdo_model.specs.declared.report.DeskLine.TheVariants.{Begin, Answer}
use Rattle.data_vio.specs.declared.items.Item.{Item}
use Rattle.data_vio.specs.declared.items.Item.TheVariants.{Request, Block, Decrement, Report, Damage, StopNotice}
use Rattle.data_vio.specs.declared.items.Phase.{Phase}
use Rattle.data_vio.specs.declared.items.Phase.TheVariants as phase
use Rattle.data_vio.specs.declared.items.Vio.{Vio}
use Rattle.data_vio.specs.declared.sizes.Sizes.{Sizes}
use Rattle.core_model.specs.declared.zones.ZoneData.{ZoneData}
use Rattle.core_model.specs.declared.zones.ZoneData.TheVariants as at
use Rattle.core_model.specs.LogicalData.{Lock}
use Rattle.data_vio.specs.declared.logged.Logged.{Logged}
use Rattle.data_vio.specs.declared.logged.Remapping.{Remapping}
use Rattle.core_model.specs.PageLinks.{block_in}
use Rattle.core_model.specs.Trace.{new_of, new_pages, remappings}
use Rattle.core_model.specs.declared.zones.Zone.{Zone}
pub use Rattle.core_model.specs.DeskLines.{is_answer, is_begin}
use Rattle.data_vio.specs.Phases.{phase_rule}
use Rattle.data_vio.specs.Vios.{remapping}
use Rattle.data_vio.specs.Zones.{notified_zones}
use Rattle.plain_laws.specs.Sums.{total, bit}
use Rattle.slab_counts.specs.Operations.{one_of}
use Rattle.slab_counts.specs.declared.tickets.Ticket.{Ticket}
use Rattle.zone_counts.specs.ByBlock.{claims_in, counter_in, is_at, out_with}
use Rattle.zone_counts.specs.Zone.{Zone as Counts}

-- a kind of token: what an item weighs, what a zone's data weighs beside the items that it keeps, and what it gave out
pub record Token : Type 0 where
  pub item : Item → ℕ
  pub own : ZoneData → ℕ
  pub gave : ZoneData → ℕ

-- the requests that a zone keeps beside its lanes, all that it keeps, and what that weighs
abbrev pub kept_by : ZoneData → List Vio
kept_by (at.Desk desk) = desk.parked
kept_by (at.Logical l) = l.waiting ++ (l.lacking ++ l.settling)
kept_by (at.Journal j) = j.filling ++ j.waiting
kept_by other = []

abbrev pub as_items : List Vio → List Item
as_items [] = []
as_items (v ∷ vs) = Request v ∷ as_items vs

abbrev pub kept_items : ZoneData → List Item
kept_items d = as_items (kept_by d)

abbrev pub queued : (Item → ℕ) → ZoneData → ℕ
queued weigh d = total weigh (kept_items d)

abbrev pub weight : Token → Zone → ℕ
weight t z = total t.item z.ports.inbox + total (total t.item) z.ports.outboxes + (queued t.item z.keeps + t.own z.keeps)

abbrev pub given : Token → Zone → ℕ
given t z = t.gave z.keeps

-- all that were given are held
abbrev pub Balanced : Token → List Zone → Type 0
Balanced t zones = total (weight t) zones ≡ total (given t) zones

-- no more are held than were given
abbrev pub AtMost : Token → List Zone → Type 0
AtMost t zones = total (weight t) zones ≤ total (given t) zones

-- a number of the requests that an item has
abbrev pub of_vio : (Vio → ℕ) → Item → ℕ
of_vio f (Request v) = f v
of_vio f (Block b) = total f b.vios
of_vio f other = 0

-- a number of the data of one kind of zone
abbrev pub none : ZoneData → ℕ
none d = 0

-- Requests: one that was begun is under way once, until it is answered.
abbrev pub begins_of : Writer → DeskLine → ℕ
begins_of w (Begin v) = bit (same_writer v w)
begins_of w (Answer v a) = 0

abbrev pub answers_of : Writer → DeskLine → ℕ
answers_of w (Begin v) = 0
answers_of w (Answer v a) = bit (same_writer v w)

abbrev pub in_log : (DeskLine → ℕ) → ZoneData → ℕ
in_log f (at.Desk desk) = total f desk.log
in_log f other = 0

abbrev pub request_token : Writer → Token
request_token w = record { item = of_vio (λ v. bit (same_writer v.request w)); own = in_log (answers_of w); gave = in_log (begins_of w) }

-- Locks: whoever holds the lock of an address has the place of that lock. `test` is any test of places.
abbrev pub holds : Phase → Bool
holds p = (phase_rule p).locks

abbrev pub holder_weight : ℕ → (ℕ → Bool) → Vio → ℕ
holder_weight a test v = bit (holds v.phase && (v.at.0 == a && test v.place))

abbrev pub lock_weight : ℕ → (ℕ → Bool) → Lock → ℕ
lock_weight a test lock = bit (lock.at.0 == a && test lock.place)

abbrev pub locks_at : ℕ → (ℕ → Bool) → ZoneData → ℕ
locks_at a test (at.Logical l) = total (lock_weight a test) l.held
locks_at a test other = 0

abbrev pub lease_token : ℕ → (ℕ → Bool) → Token
lease_token a test = record { item = of_vio (holder_weight a test); own = none; gave = locks_at a test }

-- Holders: as many requests hold a lock as locks are held.
abbrev pub held_at : ZoneData → ℕ
held_at (at.Logical l) = length l.held
held_at other = 0

abbrev pub holder_token : Token
holder_token = record { item = of_vio (λ v. bit (holds v.phase)); own = none; gave = held_at }

-- Entries: a remapping that was handed in is in its block, or on its way to its slot, until the slot is set or the address
-- retired.
abbrev pub has_entry : Phase → Bool
has_entry p = (phase_rule p).entered

abbrev pub ended_at : ZoneData → ℕ
ended_at (at.Logical l) = length l.slots + length l.retired
ended_at other = 0

abbrev pub entered_at : ZoneData → ℕ
entered_at (at.Journal j) = length (remappings j.entered)
entered_at other = 0

abbrev pub entry_token : Token
entry_token = record { item = of_vio (λ v. bit (has_entry v.phase && not (is_some v.page))); own = ended_at; gave = entered_at }

-- Entries of pages: one that was handed in is on its way, or its page is linked, or that is never linked.
abbrev pub unlinkable_at : ZoneData → ℕ
unlinkable_at (at.Logical l) = length l.unlinkable
unlinkable_at other = 0

abbrev pub pages_entered_at : ZoneData → ℕ
pages_entered_at (at.Journal j) = length (new_pages j.entered)
pages_entered_at other = 0

abbrev pub page_entry_token : Token
page_entry_token = record { item = of_vio (λ v. bit (has_entry v.phase && is_some v.page)); own = unlinkable_at; gave = pages_entered_at }

-- Data blocks: each claim of a request whose entry isn't handed in, and of a ticket that is out, each mapping of the opened image, each
-- entry that was handed in, and each decrement under way, or that found 0, against the counters, the claims, and the committed entries that map their addresses away.
-- `opened` has the opened counters.
abbrev pub owes : Phase → Bool
owes p = (phase_rule p).owes

-- 1 where a mapping leads to a block; where this is the block; where an entry maps an address to it, or puts a page there; and
-- where it maps an address away from it
abbrev pub leads_to : Pbn → Mapping → ℕ
leads_to x (At y) = one_of y x
leads_to x other = 0

abbrev pub is_block : Pbn → Pbn → ℕ
is_block x y = one_of y x

abbrev pub is_entry : Pbn → Logged → ℕ
is_entry x e = leads_to x (new_of e)

abbrev pub is_old : Pbn → Remapping → ℕ
is_old x e = leads_to x e.old

-- the claim of a request on a block, and that where no entry of it was handed in
abbrev pub claim_weight : Pbn → Vio → ℕ
claim_weight x v = is_at x v.claim

abbrev pub unowed_weight : Pbn → Vio → ℕ
unowed_weight x v = if owes v.phase then 0 else claim_weight x v

abbrev pub block_item : Pbn → Item → ℕ
block_item x (Decrement e) = is_old x e
block_item x other = of_vio (unowed_weight x) other

abbrev pub entries_at : (Pbn → ℕ) → Pbn → ZoneData → ℕ
entries_at opened x (at.Journal j) = opened x + total (is_entry x) j.entered
entries_at opened x (at.Physical p) = out_with x p.counts.desk + total (is_old x) p.strays
entries_at opened x other = 0

abbrev pub uses_at : Pbn → ZoneData → ℕ
uses_at x (at.Physical p) = counter_in x p.counts.slabs + claims_in x p.counts.slabs
uses_at x (at.Journal j) = total (is_old x) (remappings j.committed)
uses_at x other = 0

abbrev pub block_token : (Pbn → ℕ) → Pbn → Token
block_token opened x = record { item = block_item x; own = entries_at opened x; gave = uses_at x }

-- Claims: each that a request has, or that went to a ticket, is counted; those that were spent for good are counted too.
abbrev pub claims_at : Pbn → ZoneData → ℕ
claims_at x (at.Physical p) = claims_in x p.counts.slabs
claims_at x other = 0

abbrev pub passed_at : Pbn → ZoneData → ℕ
passed_at x (at.Physical p) = out_with x p.counts.desk
passed_at x other = 0

abbrev pub claim_token : Pbn → Token
claim_token x = record { item = of_vio (claim_weight x); own = passed_at x; gave = claims_at x }

-- Tickets: each that is out in a physical zone is held by one request. `test` is any test of numbers.
abbrev pub ticket_weight : ℕ → (ℕ → Bool) → Ticket → ℕ
ticket_weight zone test k = bit (nat_eq k.zone zone && test k.number)

abbrev pub out_in : (ℕ → Bool) → Counts → ℕ
out_in test z = total (λ waiting. bit (test waiting.number)) z.desk.out

abbrev pub out_at : ℕ → (ℕ → Bool) → ZoneData → ℕ
out_at zone test (at.Physical p) = if nat_eq p.counts.zone zone then out_in test p.counts else 0
out_at zone test other = 0

abbrev pub ticket_token : ℕ → (ℕ → Bool) → Token
ticket_token zone test = record { item = of_vio (λ v. total (ticket_weight zone test) v.tickets); own = none; gave = out_at zone test }

-- Decrements: that of each committed entry of a request is under way, or its report is, or that came before its request, or
-- the slot is set. And so is the request itself.
abbrev pub has_old : Writer → Remapping → ℕ
has_old w e = bit (same_writer e.request w && is_some (block_in e.old))

abbrev pub decrement_weight : Writer → Item → ℕ
decrement_weight w (Decrement e) = has_old w e
decrement_weight w (Report e) = has_old w e
decrement_weight w other = 0

abbrev pub settled_at : Writer → ZoneData → ℕ
settled_at w (at.Logical l) = total (has_old w) l.slots
settled_at w other = 0

abbrev pub reported_at : Writer → ZoneData → ℕ
reported_at w (at.Logical l) = total (has_old w) l.slots + total (has_old w) l.reported
reported_at w other = 0

abbrev pub committed_at : Writer → ZoneData → ℕ
committed_at w (at.Journal j) = total (has_old w) (remappings j.committed)
committed_at w other = 0

abbrev pub report_token : Writer → Token
report_token w = record { item = decrement_weight w; own = reported_at w; gave = committed_at w }

-- whether the entry of a request is committed, and what it is set or linked by isn't done
abbrev pub is_committed : Phase → Bool
is_committed phase.Count = true
is_committed phase.Settle = true
is_committed other = false

abbrev pub waiter_weight : Writer → Vio → ℕ
waiter_weight w v = if is_committed v.phase && not (is_some v.page) then has_old w (remapping v) else 0

abbrev pub waiter_token : Writer → Token
waiter_token w = record { item = of_vio (waiter_weight w); own = settled_at w; gave = committed_at w }

-- Damage: a physical zone tells of it once.
abbrev pub is_damage : Item → ℕ
is_damage (Damage d) = 1
is_damage other = 0

abbrev pub some_stray : List Remapping → ℕ
some_stray [] = 0
some_stray (e ∷ strays) = 1

abbrev pub strayed_at : ZoneData → ℕ
strayed_at (at.Physical p) = some_stray p.strays
strayed_at other = 0

abbrev pub damage_token : Token
damage_token = record { item = is_damage; own = none; gave = strayed_at }

-- The journal: one block is under way, sealed or to be sealed, or none.
abbrev pub is_sealed : Item → ℕ
is_sealed (Block b) = 1
is_sealed other = 0

abbrev pub idle_at : ZoneData → ℕ
idle_at (at.Journal j) = bit (not j.busy)
idle_at other = 0

abbrev pub one_journal : ZoneData → ℕ
one_journal (at.Journal j) = 1
one_journal other = 0

abbrev pub journal_token : Token
journal_token = record { item = is_sealed; own = idle_at; gave = one_journal }

-- Pages: one that is being made has one maker.
abbrev pub is_same : PageId → Option PageId → Bool
is_same page None = false
is_same page (Some other) = is_page other page

abbrev pub making_at : PageId → ZoneData → ℕ
making_at page (at.Logical l) = total (λ other. bit (is_page other page)) l.making
making_at page other = 0

abbrev pub making_token : PageId → Token
making_token page = record { item = of_vio (λ v. bit (is_same page v.page)); own = none; gave = making_at page }

-- How many requests are under way, and how many stop notices.
abbrev pub room_token : Token
room_token = record { item = of_vio (λ v. 1); own = in_log is_answer; gave = in_log is_begin }

abbrev pub is_word : Item → ℕ
is_word StopNotice = 1
is_word other = 0

abbrev pub heard_at : ZoneData → ℕ
heard_at (at.Desk desk) = desk.notices
heard_at other = 0

abbrev pub notified_by : Sizes → ZoneData → ℕ
notified_by sizes (at.Device d) = cond d.stopped (notified_zones sizes) 0
notified_by sizes other = 0

abbrev pub notice_token : Sizes → Token
notice_token sizes = record { item = is_word; own = heard_at; gave = notified_by sizes }
