-- Facts on the trace stay where the next happening is about something else.
use Rattle.std.proofs.Common.{All, ◌≡◌, ◌≢◌, ◌⊎◌, ℕ, zero, suc, ◌+◌, ◌<◌, ◌==◌, Bool, true, false, not, ◌&&◌, ◌||◌, if◌then◌else◌, Option, None, Some, IsSome, List, [], ◌∷◌, ◌≤◌, Contains, refl, ap, sym, ◌∙◌, subst, inl, inr, arith}
use Rattle.disk_model.specs.declared.call.Call.TheVariants.{Read}
use Rattle.core_laws.proofs.Common.{Aborts, AllBelow, AllByRecursion, Calls, Adds, Commits, DeskLine, Draws, Drops, Enters, Fails, Flushes, FlushMark, Gives, Happening, Hears, HasBelow, IsCommitted, HasFullJournal, IsOpen, IsPending, Logged, Makes, Mapping, Pbn, Remapping, Remaps, Removes, Strays, NeedsBlock, Quiet, Says, Seals, Session, Sets, Takes, Trace, Writer, aborted, begun, committed, done, dropped, entered, eqb_tells, gift_of, gifts, has_read_fault, has_stopped, has_taken, is_read, lines, logged_of, moments, newest, of_address, place_of, places, remappings, request_in, same_self, same_writer, value_at, Passes, applied, durable, journaled, passed, mapped_or, mapping_by, opened_at, Harms, is_harmed}
use Rattle.core_laws.proofs.lists.Between.{address_between, every_between, logged_between}
use Rattle.blk_base.specs.Pages.{leaf_of}
use Rattle.blk_base.specs.declared.request.Answer.TheVariants as reply
use Rattle.vdo_model.specs.FlushMarks.{Moment, Desk, Device, IsMark}
use Rattle.vdo_model.specs.declared.report.DeskLine.TheVariants.{Begin, Answer}
use Rattle.blk_base.specs.declared.place.PageId.{PageId}
use Rattle.image_model.specs.Pages.{is_page}
use Rattle.core_model.specs.RightTraces.{HadNoFree, HearingMayFollow, WasRefused, IsLeafy, IsLinkedAt, IsReported}
use Rattle.core_model.specs.Trace.{Asks, Withdraws, added, removed, strayed, is_for, last_asked}
use Rattle.core_model.specs.DeskFacts.{HasReceipt}
use Rattle.core_model.specs.LogicalFacts.{HasSpent, IsMade, TookNone}
use Rattle.core_model.specs.PhysicalFacts.{IsAsking, IsWithdrawing, LacksBlock, WasIssued}
use Rattle.core_model.specs.RequestFacts.{HasClaim}
use Rattle.slab_counts.specs.declared.tickets.Receipt.{Receipt}
use Rattle.slab_counts.specs.declared.tickets.Ticket.{Ticket}
use Rattle.slab_tickets.specs.declared.forms.Waiting.{Waiting}
use Rattle.std.proofs.lemmas.List.Elements.{All-weaker}
use Rattle.std.proofs.Math.Bool.{or-true}
use Rattle.vdo_model.specs.declared.report.Damage.{Damage}
use Rattle.core_model.specs.PageLinks.{IsThere, page_in}

-- What a happening is about: a request, an address, a page of the block map.
pub record About : Type 0 where
  pub request : Option Writer
  pub address : Option ℕ
  pub page : Option PageId

abbrev pub answered_by : DeskLine → Option Writer
answered_by (Answer w a) = Some w
answered_by (Begin w) = None

-- the address that an entry maps anew, and the page that it makes
abbrev pub address_in : Logged → Option ℕ
address_in (Remaps e) = Some e.at.0
address_in (Makes p) = None

abbrev pub page_named : Logged → Option PageId
page_named (Remaps e) = None
page_named (Makes p) = Some p.page

abbrev about_request : Writer → About
about_request w = record { request = Some w; address = None; page = None }

abbrev about_both : Writer → ℕ → About
about_both w a = record { request = Some w; address = Some a; page = None }

abbrev pub about : Happening → About
about (Says line) = record { request = answered_by line; address = None; page = None }
about (Flushes m) = about_request m.request
about (Draws p) = about_request p.request
about (Enters e) = record { request = Some (request_in e); address = address_in e; page = page_named e }
about (Commits e) = record { request = Some (request_in e); address = address_in e; page = None }
about (Sets e) = record { request = Some (request_in e); address = address_in e; page = page_named e }
about (Gives g) = about_both g.request g.at.0
about (Aborts e) = record { request = Some (request_in e); address = None; page = page_named e }
about (Passes e) = about_both e.request e.at.0
about (Takes w page x) = about_request w
about (Asks w k) = about_request w
about (Withdraws w k got) = about_request w
about (Drops w x to) = about_request w
about other = record { request = None; address = None; page = None }

abbrev pub OffRequest : Option Writer → Writer → Type 0
OffRequest None w = Unit {0}
OffRequest (Some v) w = same_writer v w ≡ false

abbrev pub OffNumber : Option ℕ → ℕ → Type 0
OffNumber None a = Unit {0}
OffNumber (Some b) a = b ≢ a

abbrev pub OffPage : Option PageId → PageId → Type 0
OffPage None page = Unit {0}
OffPage (Some other) page = is_page other page ≡ false

-- it is about another request, or address, or page, or none
abbrev pub SparesRequest : Happening → Writer → Type 0
SparesRequest h w = OffRequest (about h).request w

abbrev pub SparesAddress : Happening → ℕ → Type 0
SparesAddress h a = OffNumber (about h).address a

abbrev pub SparesPage : Happening → PageId → Type 0
SparesPage h page = OffPage (about h).page page

begun_later : (b : Bool) (n m : ℕ) → n < m → n < (if b then m + 1 else m)
begun_later true n m h = omega (arith, h)
begun_later false n m h = h

pub open_kept : (h : Happening) (t : Trace) (w : Writer) → SparesRequest h w → IsOpen t w → IsOpen (h ∷ t) w
open_kept (Says (Begin v)) t w apart ok = record { is_begun = begun_later (v.stream == w.stream) w.number (begun w.stream (lines t)) ok.is_begun; unanswered = ok.unanswered }
open_kept (Says (Answer v a)) t w apart ok = record { is_begun = ok.is_begun; unanswered = rw apart ok.unanswered }
open_kept (Flushes m) t w apart ok = record { is_begun = ok.is_begun; unanswered = rw apart ok.unanswered }
open_kept (Fails v c true) t w apart ok = record { is_begun = ok.is_begun; unanswered = ok.unanswered }
open_kept other t w apart ok = record { is_begun = ok.is_begun; unanswered = ok.unanswered }

-- what the parts of the trace say of a request
pub place_same : (h : Happening) (t : Trace) (w : Writer) → SparesRequest h w → place_of (places (h ∷ t)) w ≡ place_of (places t) w
place_same (Draws p) t w apart = rw apart refl
place_same other t w apart = refl

pub entry_same : (h : Happening) (t : Trace) (w : Writer) → SparesRequest h w → logged_of (entered (h ∷ t)) w ≡ logged_of (entered t) w
entry_same (Enters (Remaps e)) t w apart = rw apart refl
entry_same (Passes e) t w apart = logged_between (remappings (journaled t)) (passed t) e w apart
entry_same other t w apart = refl

pub slot_same : (h : Happening) (t : Trace) (w : Writer) → SparesRequest h w → logged_of (done (h ∷ t)) w ≡ logged_of (done t) w
slot_same (Sets (Remaps e)) t w apart = rw apart refl
slot_same (Passes e) t w apart = logged_between (remappings (applied t)) (passed t) e w apart
slot_same other t w apart = refl

pub abort_same : (h : Happening) (t : Trace) (w : Writer) → SparesRequest h w → logged_of (aborted (h ∷ t)) w ≡ logged_of (aborted t) w
abort_same (Aborts (Remaps e)) t w apart = rw apart refl
abort_same other t w apart = refl

pub gift_same : (h : Happening) (t : Trace) (w : Writer) → SparesRequest h w → gift_of (gifts (h ∷ t)) w ≡ gift_of (gifts t) w
gift_same (Gives g) t w apart = rw apart refl
gift_same other t w apart = refl

-- what is claimed by another, is claimed by it for nothing
pub or_other : (b c : Bool) → ((b && false) || c) ≡ c
or_other true c = refl
or_other false c = refl

pub take_same : (h : Happening) (t : Trace) (w : Writer) (page : Option PageId) → SparesRequest h w → has_taken (h ∷ t) w page ≡ has_taken t w page
take_same (Takes v one x) t w page apart = rw apart (or_other (is_for one page) (has_taken t w page))
take_same other t w page apart = refl

-- a page that was handed in, or that the image has, is made
pub made_kept : (s : Session) (h : Happening) (t : Trace) (page : PageId) → IsMade s t page → IsMade s (h ∷ t) page
made_kept s (Enters (Remaps e)) t page made = made
made_kept s (Enters (Makes p)) t page made = by (is_page p.page page)
  where
    by : (b : Bool) → IsSome (if b then Some p.at else page_in s.links (journaled t) page)
    by true = refl
    by false = made
made_kept s other t page made = made

-- and what it claimed for pages but its own was handed in
pub spent_kept : (s : Session) (h : Happening) (t : Trace) (w : Writer) (own : Option PageId) → ((page : Option PageId) → has_taken (h ∷ t) w page ≡ has_taken t w page) → HasSpent s t w own → HasSpent s (h ∷ t) w own
spent_kept s h t w own same k = record {
  none_taken = same None ∙ k.none_taken;
  others = λ page other taken. made_kept s h t page (k.others page other (sym (same (Some page)) ∙ taken));
}

-- one that claimed no block has handed in what it claimed for pages
pub none_spent : (s : Session) (t : Trace) (w : Writer) → TookNone t w → HasSpent s t w None
none_spent s t w none = record { none_taken = none None; others = λ page other taken. absurd (let both : false ≡ true = sym (none (Some page)) ∙ taken in cc) }

pub ask_same : (h : Happening) (t : Trace) (w : Writer) → SparesRequest h w → last_asked (h ∷ t) w ≡ last_asked t w
ask_same (Asks v k) t w apart = rw apart refl
ask_same other t w apart = refl

-- what they say of an address
pub of_other : (e : Remapping) (es : List Remapping) (a : ℕ) → e.at.0 ≢ a → of_address a (e ∷ es) ≡ of_address a es
of_other e es a apart = elim (eqb_tells e.at.0 a) [ inl same ↦ absurd (apart same.1) | inr other ↦ rw other.0 ]

pub of_same : (e : Remapping) (es : List Remapping) → of_address e.at.0 (e ∷ es) ≡ e ∷ of_address e.at.0 es
of_same e es = elim (eqb_tells e.at.0 e.at.0) [ inl same ↦ rw same.0 | inr other ↦ absurd (other.1 refl) ]

pub entered_at : (h : Happening) (t : Trace) (a : ℕ) → SparesAddress h a → of_address a (entered (h ∷ t)) ≡ of_address a (entered t)
entered_at (Enters (Remaps e)) t a apart = of_other e (entered t) a apart
entered_at (Passes e) t a apart = address_between a (remappings (journaled t)) (passed t) e apart
entered_at other t a apart = refl

pub committed_at : (h : Happening) (t : Trace) (a : ℕ) → SparesAddress h a → of_address a (committed (h ∷ t)) ≡ of_address a (committed t)
committed_at (Commits (Remaps e)) t a apart = of_other e (committed t) a apart
committed_at (Passes e) t a apart = address_between a (remappings (durable t)) (passed t) e apart
committed_at other t a apart = refl

pub done_at : (h : Happening) (t : Trace) (a : ℕ) → SparesAddress h a → of_address a (done (h ∷ t)) ≡ of_address a (done t)
done_at (Sets (Remaps e)) t a apart = of_other e (done t) a apart
done_at (Passes e) t a apart = address_between a (remappings (applied t)) (passed t) e apart
done_at other t a apart = refl

pub applied_at : (h : Happening) (t : Trace) (a : ℕ) → SparesAddress h a → of_address a (remappings (applied (h ∷ t))) ≡ of_address a (remappings (applied t))
applied_at (Sets (Remaps e)) t a apart = of_other e (remappings (applied t)) a apart
applied_at other t a apart = refl

pub quiet_kept : (h : Happening) (t : Trace) (a : ℕ) → SparesAddress h a → Quiet t a → Quiet (h ∷ t) a
quiet_kept h t a apart q = record {
  all_committed = entered_at h t a apart ∙ q.all_committed ∙ sym (committed_at h t a apart);
  all_done = committed_at h t a apart ∙ q.all_done ∙ sym (done_at h t a apart);
}

pub committed_kept : (h : Happening) (t : Trace) (e : Remapping) → SparesAddress h e.at.0 → IsCommitted t e → IsCommitted (h ∷ t) e
committed_kept h t e apart q = record {
  all_committed = entered_at h t e.at.0 apart ∙ q.all_committed ∙ sym (committed_at h t e.at.0 apart);
  last = committed_at h t e.at.0 apart ∙ q.last ∙ ap (λ es. e ∷ es) (sym (done_at h t e.at.0 apart));
}

pub pending_kept : (h : Happening) (t : Trace) (e : Remapping) → SparesAddress h e.at.0 → IsPending t e → IsPending (h ∷ t) e
pending_kept h t e apart q = record {
  last = entered_at h t e.at.0 apart ∙ q.last ∙ ap (λ es. e ∷ es) (sym (committed_at h t e.at.0 apart));
  others = committed_at h t e.at.0 apart ∙ q.others ∙ sym (done_at h t e.at.0 apart);
}

pub below_kept : (h : Happening) (t : Trace) (a place : ℕ) → SparesAddress h a → AllBelow t a place → AllBelow (h ∷ t) a place
below_kept (Sets (Remaps e)) t a place apart b = record { writes = ((λ same. absurd (apart same)), b.writes); reads = b.reads }
below_kept (Passes e) t a place apart b = record { writes = every_between (λ (f : Remapping). f.at.0 ≡ a → f.place < place) (remappings (applied t)) (passed t) e (λ same. absurd (apart same)) b.writes; reads = b.reads }
below_kept (Gives g) t a place apart b = record { writes = b.writes; reads = ((λ same. absurd (apart same)), b.reads) }
below_kept other t a place apart b = record { writes = b.writes; reads = b.reads }

-- What they say of a page: where an entry puts it, where it is linked, whether it is dropped. A page that is there stays there.
module _ (height : ℕ) (links : PageId → Option Pbn) where
  pub put_same : (h : Happening) (t : Trace) (page : PageId) → SparesPage h page → page_in links (journaled (h ∷ t)) page ≡ page_in links (journaled t) page
  put_same (Enters (Makes p)) t page apart = rw apart refl
  put_same other t page apart = refl

  pub link_same : (h : Happening) (t : Trace) (page : PageId) → SparesPage h page → page_in links (applied (h ∷ t)) page ≡ page_in links (applied t) page
  link_same (Sets (Makes p)) t page apart = rw apart refl
  link_same other t page apart = refl

  some_more : (b : Bool) (x : Pbn) (o : Option Pbn) → IsSome o → IsSome (if b then Some x else o)
  some_more true x o some = refl
  some_more false x o some = some

  pub there_kept : (h : Happening) (t : Trace) (page : PageId) → IsThere height links (applied t) page → IsThere height links (applied (h ∷ t)) page
  there_kept h t page (inl root) = inl root
  there_kept (Sets (Makes p)) t page (inr some) = inr (some_more (is_page p.page page) p.at (page_in links (applied t) page) some)
  there_kept other t page (inr some) = inr some

pub leafy_kept : (s : Session) (h : Happening) (t : Trace) (a : ℕ) → IsLeafy s t a → IsLeafy s (h ∷ t) a
leafy_kept s h t a leaf = there_kept s.sizes.geometry.height s.links h t (leaf_of a) leaf

-- an element of a list with one more in front
pub contains_more : {X : Type 0} (y : X) (xs : List X) (x : X) → Contains xs x → Contains (y ∷ xs) x
contains_more y xs x (k, low, is) = (suc k, omega (arith, low), is)

pub contains_cut : {X : Type 0} (y : X) (xs : List X) (x : X) → Contains (y ∷ xs) x → (y ≡ x) ⊎ Contains xs x
contains_cut y xs x (zero, low, is) = inl is
contains_cut y xs x (suc k, low, is) = inr (k, omega (arith, low), is)

-- a page that stands at a block stands there from then on
pub linked_at_kept : (s : Session) (h : Happening) (t : Trace) (page : PageId) (x : Pbn) → IsLinkedAt s t page x → IsLinkedAt s (h ∷ t) page x
linked_at_kept s h t page x (inl opened) = inl opened
linked_at_kept s (Sets e) t page x (inr made) = inr (made.0, contains_more e (applied t) (Makes (record { request = made.0; page = page; at = x })) made.1)
linked_at_kept s other t page x (inr made) = inr made

-- an entry that was handed in or committed is so from then on
pub journaled_has : (h : Happening) (t : Trace) (e : Logged) → Contains (journaled t) e → Contains (journaled (h ∷ t)) e
journaled_has (Enters f) t e has = contains_more f (journaled t) e has
journaled_has other t e has = has

pub durable_has : (h : Happening) (t : Trace) (e : Logged) → Contains (durable t) e → Contains (durable (h ∷ t)) e
durable_has (Commits f) t e has = contains_more f (durable t) e has
durable_has other t e has = has

-- one that isn't dropped is dropped by its own request alone
pub undropped_kept : (h : Happening) (t : Trace) (e : Logged) → SparesRequest h (request_in e) → (Contains (dropped t) e → ⊥) → Contains (dropped (h ∷ t)) e → ⊥
undropped_kept (Aborts f) t e apart off has = elim (contains_cut f (dropped t) e has) [
  | inl same ↦ let own : same_writer (request_in f) (request_in e) ≡ true = ap (λ (g : Logged). same_writer (request_in f) (request_in g)) (sym same) ∙ same_self (request_in f) in absurd cc
  | inr rest ↦ off rest
]
undropped_kept other t e apart off has = off has

-- a mark stays
pub mark_later : (moment : Moment) (older : List Moment) (m : FlushMark) → IsMark older m → IsMark (moment ∷ older) m
mark_later moment older m k = record {
  later = moment ∷ k.later;
  older = k.older;
  at = ap (λ ms. moment ∷ ms) k.at;
  calls = k.calls;
  begun_by_then = k.begun_by_then;
  not_answered = k.not_answered;
}

pub mark_kept : (h : Happening) (t : Trace) (m : FlushMark) → IsMark (moments t) m → IsMark (moments (h ∷ t)) m
mark_kept (Says line) t m k = mark_later (Desk line) (moments t) m k
mark_kept (Flushes f) t m k = mark_later (Desk (Answer f.request reply.Ok)) (moments t) m k
mark_kept (Calls c) t m k = mark_later (Device c) (moments t) m k
mark_kept (Fails w c true) t m k = mark_later (Device c) (moments t) m k
mark_kept (Harms w x bytes fault) t m k = mark_later (Device (Read x bytes true)) (moments t) m k
mark_kept other t m k = k

-- What was there once is there from then on: a stop, a read that failed, an abort, blocks that are taken.
pub stop_kept : (h : Happening) (t : Trace) → has_stopped t ≡ true → has_stopped (h ∷ t) ≡ true
stop_kept (Fails w c kept) t is = rw is (or-true (not (is_read c)))
stop_kept (Harms w x bytes fault) t is = refl
stop_kept (Hears damage) t is = refl
stop_kept other t is = is

pub fault_kept : (h : Happening) (t : Trace) (w : Writer) → has_read_fault t w ≡ true → has_read_fault (h ∷ t) w ≡ true
fault_kept (Fails v c kept) t w is = rw is (or-true (is_read c && same_writer v w))
fault_kept other t w is = is

pub harm_kept : (h : Happening) (t : Trace) (w : Writer) → is_harmed t w ≡ true → is_harmed (h ∷ t) w ≡ true
harm_kept (Harms v x bytes fault) t w is = rw is (or-true (same_writer v w))
harm_kept other t w is = is

pub abort_kept : (h : Happening) (t : Trace) (a place : ℕ) → HasBelow a place (aborted t) → HasBelow a place (aborted (h ∷ t))
abort_kept (Aborts (Remaps e)) t a place is = inr is
abort_kept other t a place is = is

pub journal_full_kept : (s : Session) (h : Happening) (t : Trace) → HasFullJournal s t → HasFullJournal s (h ∷ t)
journal_full_kept s Seals t full = omega (arith, full)
journal_full_kept s other t full = full

-- a ticket that was withdrawn is so from then on
pub refused_kept : (h : Happening) (newer older : Trace) (w : Writer) (zone : ℕ) → WasRefused newer older w zone → WasRefused (h ∷ newer) older w zone
refused_kept h newer older w zone k = record { ticket = k.ticket; zone_is = k.zone_is; asked = k.asked; withdrawn = contains_more h newer (Withdraws w k.ticket None) k.withdrawn }

-- and that no data block was free at one moment
pub no_free_kept : (s : Session) (h : Happening) (t : Trace) (w : Writer) → HadNoFree s t w → HadNoFree s (h ∷ t) w
no_free_kept s h t w k = record {
  newer = h ∷ k.newer;
  older = k.older;
  moment = ap (λ (u : Trace). h ∷ u) k.moment;
  placed = k.placed;
  none_free = k.none_free;
  refused = λ zone inside. refused_kept h k.newer k.older w zone (k.refused zone inside);
}

-- and what it has of tickets, over everything
pub asked_kept : (h : Happening) (t : Trace) (w : Writer) (tickets : List Ticket) → AllByRecursion (λ k. Contains t (Asks w k)) tickets → AllByRecursion (λ k. Contains (h ∷ t) (Asks w k)) tickets
asked_kept h t w [] all = tt
asked_kept h t w (k ∷ others) all = (contains_more h t (Asks w k) all.0, asked_kept h t w others all.1)

pub asking_kept : (s : Session) (h : Happening) (t : Trace) (w : Writer) (place : ℕ) (tickets : List Ticket) → IsAsking s t w place tickets → IsAsking s (h ∷ t) w place tickets
asking_kept s h t w place tickets k = record { in_turn = k.in_turn; fewer = k.fewer; asked = asked_kept h t w tickets k.asked }

-- one that begins to ask has no ticket yet
pub asks_none : (s : Session) (t : Trace) (w : Writer) (place : ℕ) (tickets : List Ticket) → 1 ≤ s.sizes.physical → tickets ≡ [] → IsAsking s t w place tickets
asks_none s t w place tickets some none = subst (IsAsking s t w place) (sym none) (record { in_turn = tt; fewer = some; asked = tt })

pub may_ask : {s : Session} {claim : Option Pbn} {new : Mapping} {tickets : List Ticket} → HasClaim s false false claim new tickets → HasClaim s false true claim new tickets
may_ask k = record { claim_is = k.claim_is; on_data = k.on_data; no_ticket = λ asks. absurd cc }

pub lacking_kept : (s : Session) (h : Happening) (t : Trace) (w : Writer) (tickets : List Ticket) → has_taken (h ∷ t) w None ≡ has_taken t w None → LacksBlock s t w tickets → LacksBlock s (h ∷ t) w tickets
lacking_kept s h t w tickets same k = record {
  newer = h ∷ k.newer;
  older = k.older;
  moment = ap (λ (u : Trace). h ∷ u) k.moment;
  placed = k.placed;
  none_taken = same ∙ k.none_taken;
  each = λ zone inside. elim (k.each zone inside) [ inl was ↦ inl (refused_kept h k.newer k.older w zone was) | inr held ↦ inr held ];
}

pub withdrawing_kept : (s : Session) (h : Happening) (t : Trace) (w : Writer) (claim : Option Pbn) (tickets : List Ticket) → SparesRequest h w → IsWithdrawing s t w claim tickets → IsWithdrawing s (h ∷ t) w claim tickets
withdrawing_kept s h t w claim tickets apart k = record {
  turn = k.turn;
  in_turn = k.in_turn;
  few = k.few;
  some = k.some;
  asked = asked_kept h t w tickets k.asked;
  lacks = λ none. lacking_kept s h t w tickets (take_same h t w None apart) (k.lacks none);
  last = λ none. ask_same h t w apart ∙ k.last none;
}

-- and the receipt of the ticket that it was given last
pub receipt_kept : (h : Happening) (t : Trace) (w : Writer) (receipt : Option Receipt) → last_asked (h ∷ t) w ≡ last_asked t w → HasReceipt t w receipt → HasReceipt (h ∷ t) w receipt
receipt_kept h t w receipt same k = record { ticket = k.ticket; last = same ∙ k.last; given = k.given; receipt_is = k.receipt_is; asked = k.asked }

-- and the tickets that are out in a zone were given there
pub issued_kept : (h : Happening) (t : Trace) (zone : ℕ) (out : List Waiting) → All (WasIssued t zone) out → All (WasIssued (h ∷ t) zone) out
issued_kept h t zone out all = All-weaker (WasIssued t zone) (WasIssued (h ∷ t) zone) (λ waiting was. contains_more h t _ was) out all

-- what was counted is so from then on
pub added_has : (h : Happening) (t : Trace) (e : Logged) → Contains (added t) e → Contains (added (h ∷ t)) e
added_has (Adds f) t e has = contains_more f (added t) e has
added_has other t e has = has

pub reported_kept : (h : Happening) (t : Trace) (e : Remapping) → IsReported t e → IsReported (h ∷ t) e
reported_kept (Removes f to) t e (inl has) = inl (contains_more f (removed t) e has)
reported_kept (Strays f) t e (inr has) = inr (contains_more f (strayed t) e has)
reported_kept other t e (inl has) = inl has
reported_kept other t e (inr has) = inr has

pub hearing_kept : (h : Happening) (t : Trace) (damage : Damage) → HearingMayFollow damage t → HearingMayFollow damage (h ∷ t)
hearing_kept h t damage k = record { entry = k.entry; strays = strays h k.strays; block = k.block; old_is = k.old_is; damage_is = k.damage_is }
  where
    strays : (h : Happening) → Contains (strayed t) k.entry → Contains (strayed (h ∷ t)) k.entry
    strays (Strays f) has = contains_more f (strayed t) k.entry has
    strays other has = has

-- and a write that took none needs one, where it takes none then
pub needs_kept : (h : Happening) (t : Trace) (w : Writer) (bytes : List ℕ) → has_taken (h ∷ t) w None ≡ has_taken t w None → NeedsBlock t w bytes → NeedsBlock (h ∷ t) w bytes
needs_kept h t w bytes same needs = record { not_zeros = needs.not_zeros; none_taken = same ∙ needs.none_taken }

-- what an address is mapped to, by the writes of it
pub mapping_same : (s : Session) (es fs : List Logged) (a : ℕ) → of_address a (remappings es) ≡ of_address a (remappings fs) → mapping_by s es a ≡ mapping_by s fs a
mapping_same s es fs a same = ap (λ xs. mapped_or (newest xs) (opened_at s a)) same

pub value_same : (s : Session) (h : Happening) (t : Trace) (a : ℕ) → SparesAddress h a → value_at s (h ∷ t) a ≡ value_at s t a
value_same s h t a apart = rw (done_at h t a apart) refl
