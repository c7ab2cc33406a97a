-- What each row does to each kind of token. A row that doesn't touch a token stands in its last clause.
use Rattle.std.proofs.Common.{◌≡◌, ℕ, ◌+◌, ◌==◌, Bool, true, false, ◌&&◌, not, Option, None, Some, is_some, List, [], ◌∷◌, length, map, refl, ap, ◌∙◌, if◌then◌else◌, nat_eq, arith}
use Rattle.core_laws.proofs.Common.{Logged, Makes, Mapping, Phase, Remapping, Remaps, Sizes, Vio, Writer, ZoneData, bit, block_token, claim_token, claim_weight, damage_token, entry_token, has_entry, holder_token, holder_weight, holds, journal_token, lease_token, has_old, is_committed, is_old, leads_to, logged, new_of, new_pages, notice_token, owes, remapping, remappings, report_token, request_token, room_token, same_writer, total, total-append, turned, waiter_token, waiter_weight, Pbn}
use Rattle.blk_base.specs.declared.place.Mapping.TheVariants.{Unmapped, Zero, At}
use Rattle.blk_base.specs.declared.place.PageId.{PageId}
use Rattle.core_model.specs.Tokens.{is_same, making_token, out_in, page_entry_token, ticket_token, ticket_weight, unowed_weight}
use Rattle.core_laws.proofs.tokens.Moves.{Passes}
use Rattle.zone_counts.specs.Zone.{Zone}
use Rattle.core_model.specs.PageLinks.{block_in}
use Rattle.slab_counts.specs.Operations.{one_of}
use Rattle.zone_counts.specs.ByBlock.{is_at}
use Rattle.data_vio.specs.Vios.{logged_for}
use Rattle.data_vio.specs.declared.items.Phase.TheVariants as phase
use Rattle.core_laws.proofs.tokens.ActRules as rule
use Rattle.core_laws.proofs.tokens.ActRules.{Rule, Sum, further, onward, to_count, to_slot, of_block, of_none, of_page}
use Rattle.core_laws.proofs.tokens.LeaseTokens.{freed, one_freed}
use Rattle.core_laws.proofs.tokens.Lift.{Conserves, Shrinks}
use Rattle.core_laws.proofs.tokens.PageTokens.{taken_out}
use Rattle.core_laws.proofs.logical.PageLists.{times_more}

-- the requests of a block that failed, in their phase
in_block : (g : Vio → ℕ) (q : Phase) (vs : List Vio) → total g (map (turned q) vs) ≡ total (λ v. g (turned q v)) vs
in_block g q [] = refl
in_block g q (v ∷ vs) = omega (arith, in_block g q vs)

nothing : (vs : List Vio) → total (λ v. 0) vs ≡ 0
nothing [] = refl
nothing (v ∷ vs) = omega (arith, nothing vs)

-- an entry, by the count of remappings and by its block
one_entry : (e : Logged) (es : List Logged) → length (remappings (e ∷ es)) ≡ length (remappings (e ∷ [])) + length (remappings es)
one_entry (Remaps e) es = omega arith
one_entry (Makes p) es = omega arith

one_kind : (e : Logged) → length (remappings (e ∷ [])) + length (new_pages (e ∷ [])) ≡ 1
one_kind (Remaps e) = refl
one_kind (Makes p) = refl

page_entry : (e : Logged) (es : List Logged) → length (new_pages (e ∷ es)) ≡ length (new_pages (e ∷ [])) + length (new_pages es)
page_entry (Remaps e) es = omega arith
page_entry (Makes p) es = omega arith

either_bit : (b : Bool) → bit b + bit (not b) ≡ 1
either_bit true = refl
either_bit false = refl

logged_new : (v : Vio) (o : Option PageId) (m : Mapping) → v.new ≡ m → new_of (logged_for v o m) ≡ m
logged_new v None m is = is
logged_new v (Some page) (At x) is = refl
logged_new v (Some page) Unmapped is = is
logged_new v (Some page) Zero is = is

entry_leads : (x : Pbn) (v : Vio) → leads_to x (new_of (logged v)) ≡ leads_to x v.new
entry_leads x v = ap (leads_to x) (logged_new v v.page v.new refl)

-- a claim on the block of a mapping weighs as that leads there
claim_leads : (x : Pbn) (m : Mapping) → is_at x (block_in m) ≡ leads_to x m
claim_leads x (At y) = refl
claim_leads x Unmapped = refl
claim_leads x Zero = refl

claim_is_entry : (x : Pbn) (v : Vio) → v.claim ≡ block_in v.new → claim_weight x v ≡ leads_to x v.new
claim_is_entry x v is = ap (is_at x) is ∙ claim_leads x v.new

claim_none : (x : Pbn) (v : Vio) → v.claim ≡ None → claim_weight x v ≡ 0
claim_none x v is = ap (is_at x) is

claim_some : (x y : Pbn) (v : Vio) → v.claim ≡ Some y → claim_weight x v ≡ one_of y x
claim_some x y v is = ap (is_at x) is

-- what a request weighs that owes nothing, and one that waits for nothing
unowed_is : (x : Pbn) (b : Bool) (v : Vio) → b ≡ false → (if b then 0 else claim_weight x v) ≡ claim_weight x v
unowed_is x b v is = ap (λ (c : Bool). if c then 0 else claim_weight x v) is

unwaited : (w : Writer) (b : Bool) (v : Vio) → b ≡ false → (if b && not (is_some v.page) then has_old w (remapping v) else 0) ≡ 0
unwaited w b v is = ap (λ (c : Bool). if c && not (is_some v.page) then has_old w (remapping v) else 0) is

own_waits : (w : Writer) (v : Vio) → v.page ≡ None → (if not (is_some v.page) then has_old w (remapping v) else 0) ≡ has_old w (remapping v)
own_waits w v none = ap (λ (o : Option PageId). if not (is_some o) then has_old w (remapping v) else 0) none

page_waits : (w : Writer) (v : Vio) (page : PageId) → v.page ≡ Some page → (if not (is_some v.page) then has_old w (remapping v) else 0) ≡ 0
page_waits w v page is = ap (λ (o : Option PageId). if not (is_some o) then has_old w (remapping v) else 0) is

-- the entries that replace a block, with one more
old_more : (f : Remapping → ℕ) (e : Logged) (es : List Logged) → total f (remappings (e ∷ es)) ≡ total f (remappings (e ∷ [])) + total f (remappings es)
old_more f (Remaps e) es = omega arith
old_more f (Makes p) es = omega arith

own_old : (f : Remapping → ℕ) (v : Vio) → v.page ≡ None → total f (remappings (logged v ∷ [])) ≡ f (remapping v)
own_old f v none = ap (λ (o : Option PageId). total f (remappings (logged_for v o v.new ∷ []))) none ∙ (let one : f (remapping v) + 0 ≡ f (remapping v) = omega arith in one)

leads_none : (x : Pbn) (m : Mapping) → block_in m ≡ None → leads_to x m ≡ 0
leads_none x (At y) none = absurd cc
leads_none x Unmapped none = refl
leads_none x Zero none = refl

old_none : (w : Writer) (e : Remapping) → block_in e.old ≡ None → has_old w e ≡ 0
old_none w e none = ap (λ (o : Option Pbn). bit (same_writer e.request w && is_some o)) none ∙ none_of_both (same_writer e.request w)
  where
    none_of_both : (b : Bool) → bit (b && false) ≡ 0
    none_of_both true = refl
    none_of_both false = refl

-- a request by its page
unless_page : (b : Bool) (v : Vio) (page : PageId) → v.page ≡ Some page → bit (b && not (is_some v.page)) ≡ 0
unless_page true v page is = ap (λ (o : Option PageId). bit (not (is_some o))) is
unless_page false v page is = refl

with_page : (b : Bool) (v : Vio) (page : PageId) → v.page ≡ Some page → bit (b && is_some v.page) ≡ bit b
with_page true v page is = ap (λ (o : Option PageId). bit (is_some o)) is
with_page false v page is = refl

own_entry : (v : Vio) → v.page ≡ None → bit (not (is_some v.page)) ≡ 1
own_entry v none = ap (λ (o : Option PageId). bit (not (is_some o))) none

is_page_of : (page : PageId) (v : Vio) (o : Option PageId) → v.page ≡ o → bit (is_same page v.page) ≡ bit (is_same page o)
is_page_of page v o is = ap (λ (p : Option PageId). bit (is_same page p)) is

-- the tickets that are out, where the zone is the same one, and none is given nor withdrawn
same_out : (zone : ℕ) (test : ℕ → Bool) (p z : Zone) → z.zone ≡ p.zone → (n : ℕ) → (if nat_eq z.zone zone then n else 0) ≡ (if nat_eq p.zone zone then n else 0)
same_out zone test p z same n = ap (λ (m : ℕ). if nat_eq m zone then n else 0) same

out_kept : (zone : ℕ) (test : ℕ → Bool) (p z : Zone) {given taken : Pbn → ℕ} → Passes p z given taken → (if nat_eq z.zone zone then out_in test z else 0) ≡ (if nat_eq p.zone zone then out_in test p else 0)
out_kept zone test p z passes = same_out zone test p z passes.zone (out_in test z) ∙ ap (λ (n : ℕ). if nat_eq p.zone zone then n else 0) (passes.numbers test)

module _ (sizes : Sizes) where
  -- the requests are begun and answered at the desk
  pub requests_law : (w : Writer) → {old new : ZoneData} {before after : Sum} → Rule sizes old new before after → Conserves (request_token w) old new before after
  requests_law w (rule.says d v a) = omega arith
  requests_law w (rule.both first same second) = omega (arith, requests_law w first, same (request_token w).item, requests_law w second)
  requests_law w (rule.fails j b) = omega (arith, in_block (λ v. bit (same_writer v.request w)) phase.Pending b.vios)
  requests_law w (rule.commits j b v vs q more (to_count) (of_block none)) = omega arith
  requests_law w (rule.commits j b v vs q more (to_count) (of_page page_is is no_old no_report)) = omega arith
  requests_law w (rule.commits j b v vs q more (to_count) (of_none none unmapped)) = omega arith
  requests_law w (rule.commits j b v vs q more (to_slot claimless) (of_block none)) = omega arith
  requests_law w (rule.commits j b v vs q more (to_slot claimless) (of_page page_is is no_old no_report)) = omega arith
  requests_law w (rule.commits j b v vs q more (to_slot claimless) (of_none none unmapped)) = omega arith
  requests_law w other = omega arith

  pub room_law : {old new : ZoneData} {before after : Sum} → Rule sizes old new before after → Conserves room_token old new before after
  room_law (rule.says d v a) = omega arith
  room_law (rule.both first same second) = omega (arith, room_law first, same room_token.item, room_law second)
  room_law (rule.fails j b) = omega (arith, in_block (λ v. 1) phase.Pending b.vios)
  room_law (rule.commits j b v vs q more (to_count) (of_block none)) = omega arith
  room_law (rule.commits j b v vs q more (to_count) (of_page page_is is no_old no_report)) = omega arith
  room_law (rule.commits j b v vs q more (to_count) (of_none none unmapped)) = omega arith
  room_law (rule.commits j b v vs q more (to_slot claimless) (of_block none)) = omega arith
  room_law (rule.commits j b v vs q more (to_slot claimless) (of_page page_is is no_old no_report)) = omega arith
  room_law (rule.commits j b v vs q more (to_slot claimless) (of_none none unmapped)) = omega arith
  room_law other = omega arith

  -- the stop notices are given out at the device, and heard at the desk
  pub notices_law : {old new : ZoneData} {before after : Sum} → Rule sizes old new before after → Conserves (notice_token sizes) old new before after
  notices_law (rule.both first same second) = omega (arith, notices_law first, same (notice_token sizes).item, notices_law second)
  notices_law (rule.hears d) = omega arith
  notices_law (rule.commits j b v vs q more (to_count) (of_block none)) = omega arith
  notices_law (rule.commits j b v vs q more (to_count) (of_page page_is is no_old no_report)) = omega arith
  notices_law (rule.commits j b v vs q more (to_count) (of_none none unmapped)) = omega arith
  notices_law (rule.commits j b v vs q more (to_slot claimless) (of_block none)) = omega arith
  notices_law (rule.commits j b v vs q more (to_slot claimless) (of_page page_is is no_old no_report)) = omega arith
  notices_law (rule.commits j b v vs q more (to_slot claimless) (of_none none unmapped)) = omega arith
  notices_law other = omega (arith, nothing)

  -- a block is under way while the journal is busy
  pub journal_law : {old new : ZoneData} {before after : Sum} → Rule sizes old new before after → Conserves journal_token old new before after
  journal_law (rule.both first same second) = omega (arith, journal_law first, same journal_token.item, journal_law second)
  journal_law (rule.enters_first j v counted claimed) = omega (arith, nothing)
  journal_law (rule.commits j b v vs q more (to_count) (of_block none)) = omega arith
  journal_law (rule.commits j b v vs q more (to_count) (of_page page_is is no_old no_report)) = omega arith
  journal_law (rule.commits j b v vs q more (to_count) (of_none none unmapped)) = omega arith
  journal_law (rule.commits j b v vs q more (to_slot claimless) (of_block none)) = omega arith
  journal_law (rule.commits j b v vs q more (to_slot claimless) (of_page page_is is no_old no_report)) = omega arith
  journal_law (rule.commits j b v vs q more (to_slot claimless) (of_none none unmapped)) = omega arith
  journal_law other = omega (arith, nothing)

  -- A claim is made on a free block, goes from a request to its entry when that is handed in, and becomes a mapping when that is
  -- counted; a mapping goes by its decrement.
  pub blocks_law : (opened : Pbn → ℕ) (x : Pbn) → {old new : ZoneData} {before after : Sum} → Rule sizes old new before after → Conserves (block_token opened x) old new before after
  blocks_law opened x (rule.both first same second) = omega (arith, blocks_law opened x first, same (block_token opened x).item, blocks_law opened x second)
  blocks_law opened x (rule.begins d v pageless claimless ticketless) = omega (arith, claim_none x v claimless)
  blocks_law opened x (rule.begins_flush d v pageless claimless ticketless) = omega (arith, claim_none x v claimless)
  blocks_law opened x (rule.answers d v answer marks receipts pageless claimless ticketless) = omega (arith, claim_none x v claimless)
  blocks_law opened x (rule.looks l v on) = omega (arith, unowed_is x (owes on.phase) v on.unowed)
  blocks_law opened x (rule.leafed l v on) = omega (arith, unowed_is x (owes on.phase) v on.unowed)
  blocks_law opened x (rule.leaves l slots reported v q answer locks is_set leased) = omega (arith, unowed_is x (owes q) v is_set.unowed)
  blocks_law opened x (rule.hands_on l slots reported v q answer w others locks is_set leased) = omega (arith, unowed_is x (owes q) v is_set.unowed)
  blocks_law opened x (rule.forgets l unlinkable v q page locks is_dropped is_page made) = omega (arith, unowed_is x (owes q) v is_dropped.unowed)
  blocks_law opened x (rule.asks_on p z v q on early asks) = omega (arith, unowed_is x (owes q) v early.unowed, unowed_is x (owes on.phase) (further on v) on.early.unowed, asks.uses x, asks.held x)
  blocks_law opened x (rule.counts_block p z v y some moves passes) = omega (arith, moves.uses x, passes.out x)
  blocks_law opened x (rule.drops_claim p z v y given some moves passes) = omega (arith, claim_some x y v some, moves.uses x, passes.out x)
  blocks_law opened x (rule.removes p z e y given from moves passes) = omega (arith, ap (leads_to x) from, moves.uses x, passes.out x)
  blocks_law opened x (rule.enters j v counted claimed) = omega (arith, entry_leads x v, claim_is_entry x v claimed)
  blocks_law opened x (rule.enters_first j v counted claimed) = omega (arith, nothing, entry_leads x v, claim_is_entry x v claimed)
  blocks_law opened x (rule.commits j b v vs q more (to_count) (of_block none)) = omega (arith, old_more (is_old x) (logged v) j.committed, own_old (is_old x) v none)
  blocks_law opened x (rule.commits j b v vs q more (to_slot claimless) (of_block none)) = omega (arith, old_more (is_old x) (logged v) j.committed, own_old (is_old x) v none, claim_none x v claimless)
  blocks_law opened x (rule.commits j b v vs q more (to_count) (of_page page is no_old no_report)) = omega (arith, old_more (is_old x) (logged v) j.committed, no_old x)
  blocks_law opened x (rule.commits j b v vs q more (to_slot claimless) (of_page page is no_old no_report)) = omega (arith, old_more (is_old x) (logged v) j.committed, no_old x, claim_none x v claimless)
  blocks_law opened x (rule.commits j b v vs q more (to_count) (of_none none unmapped)) = omega (arith, old_more (is_old x) (logged v) j.committed, own_old (is_old x) v none, leads_none x v.old unmapped)
  blocks_law opened x (rule.commits j b v vs q more (to_slot claimless) (of_none none unmapped)) = omega (arith, old_more (is_old x) (logged v) j.committed, own_old (is_old x) v none, leads_none x v.old unmapped, claim_none x v claimless)
  blocks_law opened x (rule.fails j b) = omega (arith, nothing, in_block (unowed_weight x) phase.Pending b.vios)
  blocks_law opened x other = omega (arith, nothing)

  -- each claim of a request is counted, until it is spent or dropped
  pub claims_law : (x : Pbn) → {old new : ZoneData} {before after : Sum} → Rule sizes old new before after → Shrinks (claim_token x) old new before after
  claims_law x (rule.both first same second) = omega (arith, claims_law x first, same (claim_token x).item, claims_law x second)
  claims_law x (rule.begins d v pageless claimless ticketless) = omega (arith, claim_none x v claimless)
  claims_law x (rule.begins_flush d v pageless claimless ticketless) = omega (arith, claim_none x v claimless)
  claims_law x (rule.asks_on p z v q on early asks) = omega (arith, asks.claims x)
  claims_law x (rule.counts_block p z v y some moves passes) = omega (arith, claim_some x y v some, moves.claims x, passes.out x)
  claims_law x (rule.drops_claim p z v y given some moves passes) = omega (arith, claim_some x y v some, moves.claims x, passes.out x)
  claims_law x (rule.removes p z e y given from moves passes) = omega (arith, moves.claims x, passes.out x)
  claims_law x (rule.commits j b v vs q more (to_count) (of_block none)) = omega arith
  claims_law x (rule.commits j b v vs q more (to_slot claimless) (of_block none)) = omega arith
  claims_law x (rule.commits j b v vs q more (to_count) (of_page page is no_old no_report)) = omega arith
  claims_law x (rule.commits j b v vs q more (to_slot claimless) (of_page page is no_old no_report)) = omega arith
  claims_law x (rule.commits j b v vs q more (to_count) (of_none none unmapped)) = omega arith
  claims_law x (rule.commits j b v vs q more (to_slot claimless) (of_none none unmapped)) = omega arith
  claims_law x (rule.fails j b) = omega (arith, nothing, in_block (claim_weight x) phase.Pending b.vios)
  claims_law x other = omega (arith, nothing)

  -- each ticket that is out goes to the request that asked, and comes back with it
  pub tickets_law : (zone : ℕ) (test : ℕ → Bool) → {old new : ZoneData} {before after : Sum} → Rule sizes old new before after → Conserves (ticket_token zone test) old new before after
  tickets_law zone test (rule.both first same second) = omega (arith, tickets_law zone test first, same (ticket_token zone test).item, tickets_law zone test second)
  tickets_law zone test (rule.begins d v pageless claimless ticketless) = omega (arith, ap (total (ticket_weight zone test)) ticketless)
  tickets_law zone test (rule.begins_flush d v pageless claimless ticketless) = omega (arith, ap (total (ticket_weight zone test)) ticketless)
  tickets_law zone test (rule.answers d v answer marks receipts pageless claimless ticketless) = omega (arith, ap (total (ticket_weight zone test)) ticketless)
  tickets_law zone test (rule.asks_on p z v q on early asks) = omega (arith, asks.numbers zone test, same_out zone test p.counts z asks.zone (out_in test z))
  tickets_law zone test (rule.counts_block p z v y some moves passes) = omega (arith, out_kept zone test p.counts z passes)
  tickets_law zone test (rule.drops_claim p z v y given some moves passes) = omega (arith, out_kept zone test p.counts z passes)
  tickets_law zone test (rule.removes p z e y given from moves passes) = omega (arith, out_kept zone test p.counts z passes)
  tickets_law zone test (rule.commits j b v vs q more (to_count) (of_block none)) = omega arith
  tickets_law zone test (rule.commits j b v vs q more (to_slot claimless) (of_block none)) = omega arith
  tickets_law zone test (rule.commits j b v vs q more (to_count) (of_page page is no_old no_report)) = omega arith
  tickets_law zone test (rule.commits j b v vs q more (to_slot claimless) (of_page page is no_old no_report)) = omega arith
  tickets_law zone test (rule.commits j b v vs q more (to_count) (of_none none unmapped)) = omega arith
  tickets_law zone test (rule.commits j b v vs q more (to_slot claimless) (of_none none unmapped)) = omega arith
  tickets_law zone test (rule.fails j b) = omega (arith, nothing, in_block (λ v. total (ticket_weight zone test) v.tickets) phase.Pending b.vios)
  tickets_law zone test other = omega (arith, nothing)

  -- the decrement of an entry goes with its commit to the physical zone, its report from there to its request
  pub reports_law : (w : Writer) → {old new : ZoneData} {before after : Sum} → Rule sizes old new before after → Conserves (report_token w) old new before after
  reports_law w (rule.both first same second) = omega (arith, reports_law w first, same (report_token w).item, reports_law w second)
  reports_law w (rule.leaves l slots reported v q answer locks is_set leased) = omega (arith, is_set.told w)
  reports_law w (rule.hands_on l slots reported v q answer u others locks is_set leased) = omega (arith, is_set.told w)
  reports_law w (rule.keeps_report l e settling others) = omega (arith, total-append (has_old w) l.reported (e ∷ []))
  reports_law w (rule.commits j b v vs q more (to_count) (of_block none)) = omega (arith, old_more (has_old w) (logged v) j.committed, own_old (has_old w) v none)
  reports_law w (rule.commits j b v vs q more (to_slot claimless) (of_block none)) = omega (arith, old_more (has_old w) (logged v) j.committed, own_old (has_old w) v none)
  reports_law w (rule.commits j b v vs q more (to_count) (of_page page is no_old no_report)) = omega (arith, old_more (has_old w) (logged v) j.committed, no_report w)
  reports_law w (rule.commits j b v vs q more (to_slot claimless) (of_page page is no_old no_report)) = omega (arith, old_more (has_old w) (logged v) j.committed, no_report w)
  reports_law w (rule.commits j b v vs q more (to_count) (of_none none unmapped)) = omega (arith, old_more (has_old w) (logged v) j.committed, own_old (has_old w) v none, old_none w (remapping v) unmapped)
  reports_law w (rule.commits j b v vs q more (to_slot claimless) (of_none none unmapped)) = omega (arith, old_more (has_old w) (logged v) j.committed, own_old (has_old w) v none, old_none w (remapping v) unmapped)
  reports_law w other = omega (arith, nothing)

  -- and so does the request itself, from its commit to its slot
  pub waiters_law : (w : Writer) → {old new : ZoneData} {before after : Sum} → Rule sizes old new before after → Conserves (waiter_token w) old new before after
  waiters_law w (rule.both first same second) = omega (arith, waiters_law w first, same (waiter_token w).item, waiters_law w second)
  waiters_law w (rule.looks l v on) = omega (arith, unwaited w (is_committed on.phase) (onward on v) on.uncommitted)
  waiters_law w (rule.leafed l v on) = omega (arith, unwaited w (is_committed on.phase) (onward on v) on.uncommitted)
  waiters_law w (rule.asks_on p z v q on early asks) = omega (arith, unwaited w (is_committed q) v early.uncommitted, unwaited w (is_committed on.phase) (further on v) on.early.uncommitted)
  waiters_law w (rule.leaves l slots reported v q answer locks is_set leased) = omega (arith, is_set.waited w)
  waiters_law w (rule.hands_on l slots reported v q answer u others locks is_set leased) = omega (arith, is_set.waited w)
  waiters_law w (rule.links l tree v page is_page made) = omega (arith, page_waits w v page is_page)
  waiters_law w (rule.forgets l unlinkable v q page locks is_dropped is_page made) = omega (arith, unwaited w (is_committed q) v is_dropped.uncommitted)
  waiters_law w (rule.commits j b v vs q more (to_count) (of_block none)) = omega (arith, old_more (has_old w) (logged v) j.committed, own_old (has_old w) v none, own_waits w v none)
  waiters_law w (rule.commits j b v vs q more (to_slot claimless) (of_block none)) = omega (arith, old_more (has_old w) (logged v) j.committed, own_old (has_old w) v none, own_waits w v none)
  waiters_law w (rule.commits j b v vs q more (to_count) (of_page page is no_old no_report)) = omega (arith, old_more (has_old w) (logged v) j.committed, no_report w, page_waits w v page is)
  waiters_law w (rule.commits j b v vs q more (to_slot claimless) (of_page page is no_old no_report)) = omega (arith, old_more (has_old w) (logged v) j.committed, no_report w, page_waits w v page is)
  waiters_law w (rule.commits j b v vs q more (to_count) (of_none none unmapped)) = omega (arith, old_more (has_old w) (logged v) j.committed, own_old (has_old w) v none, own_waits w v none)
  waiters_law w (rule.commits j b v vs q more (to_slot claimless) (of_none none unmapped)) = omega (arith, old_more (has_old w) (logged v) j.committed, own_old (has_old w) v none, own_waits w v none)
  waiters_law w (rule.fails j b) = omega (arith, nothing, in_block (waiter_weight w) phase.Pending b.vios)
  waiters_law w other = omega (arith, nothing)

  -- damage is told once
  pub damage_law : {old new : ZoneData} {before after : Sum} → Rule sizes old new before after → Shrinks damage_token old new before after
  damage_law (rule.both first same second) = omega (arith, damage_law first, same damage_token.item, damage_law second)
  damage_law (rule.commits j b v vs q more (to_count) (of_block none)) = omega arith
  damage_law (rule.commits j b v vs q more (to_slot claimless) (of_block none)) = omega arith
  damage_law (rule.commits j b v vs q more (to_count) (of_page page is no_old no_report)) = omega arith
  damage_law (rule.commits j b v vs q more (to_slot claimless) (of_page page is no_old no_report)) = omega arith
  damage_law (rule.commits j b v vs q more (to_count) (of_none none unmapped)) = omega arith
  damage_law (rule.commits j b v vs q more (to_slot claimless) (of_none none unmapped)) = omega arith
  damage_law other = omega (arith, nothing)

  -- a lock goes to who arrives first, or from who leaves it to the first that waits
  pub leases_law : (a : ℕ) (test : ℕ → Bool) {old new : ZoneData} {before after : Sum} → Rule sizes old new before after → Conserves (lease_token a test) old new before after
  leases_law a test (rule.both first same second) = omega (arith, leases_law a test first, same (lease_token a test).item, leases_law a test second)
  leases_law a test (rule.looks l v on) = omega (arith, ap (λ b. bit (b && (v.at.0 == a && test v.place))) on.locks)
  leases_law a test (rule.leafed l v on) = omega (arith, ap (λ b. bit (b && (v.at.0 == a && test v.place))) on.locks)
  leases_law a test (rule.asks_on p z v q on early asks) = omega (arith, ap (λ b. bit (b && (v.at.0 == a && test v.place))) early.locks, ap (λ b. bit (b && (v.at.0 == a && test v.place))) on.early.locks)
  leases_law a test (rule.leaves l slots reported v q answer locks is_set leased) = omega (arith, ap (λ b. bit (b && (v.at.0 == a && test v.place))) locks, freed a test l v leased)
  leases_law a test (rule.hands_on l slots reported v q answer w others locks is_set leased) = omega (arith, ap (λ b. bit (b && (v.at.0 == a && test v.place))) locks, freed a test l v leased)
  leases_law a test (rule.retires l v pageless leased) = omega (arith, freed a test l v leased)
  leases_law a test (rule.forgets l unlinkable v q page locks is_dropped is_page made) = omega (arith, ap (λ b. bit (b && (v.at.0 == a && test v.place))) locks)
  leases_law a test (rule.fails j b) = omega (arith, in_block (holder_weight a test) phase.Pending b.vios)
  leases_law a test (rule.commits j b v vs q more (to_count) (of_block none)) = omega arith
  leases_law a test (rule.commits j b v vs q more (to_count) (of_page page_is is no_old no_report)) = omega arith
  leases_law a test (rule.commits j b v vs q more (to_count) (of_none none unmapped)) = omega arith
  leases_law a test (rule.commits j b v vs q more (to_slot claimless) (of_block none)) = omega arith
  leases_law a test (rule.commits j b v vs q more (to_slot claimless) (of_page page_is is no_old no_report)) = omega arith
  leases_law a test (rule.commits j b v vs q more (to_slot claimless) (of_none none unmapped)) = omega arith
  leases_law a test other = omega arith

  -- and the zone has so many more or less
  pub holders_law : {old new : ZoneData} {before after : Sum} → Rule sizes old new before after → Conserves holder_token old new before after
  holders_law (rule.both first same second) = omega (arith, holders_law first, same holder_token.item, holders_law second)
  holders_law (rule.looks l v on) = omega (arith, ap bit on.locks)
  holders_law (rule.leafed l v on) = omega (arith, ap bit on.locks)
  holders_law (rule.asks_on p z v q on early asks) = omega (arith, ap bit early.locks, ap bit on.early.locks)
  holders_law (rule.leaves l slots reported v q answer locks is_set leased) = omega (arith, ap bit locks, one_freed l v leased)
  holders_law (rule.hands_on l slots reported v q answer w others locks is_set leased) = omega (arith, ap bit locks, one_freed l v leased)
  holders_law (rule.retires l v pageless leased) = omega (arith, one_freed l v leased)
  holders_law (rule.forgets l unlinkable v q page locks is_dropped is_page made) = omega (arith, ap bit locks)
  holders_law (rule.fails j b) = omega (arith, in_block (λ v. bit (holds v.phase)) phase.Pending b.vios)
  holders_law (rule.commits j b v vs q more (to_count) (of_block none)) = omega arith
  holders_law (rule.commits j b v vs q more (to_count) (of_page page_is is no_old no_report)) = omega arith
  holders_law (rule.commits j b v vs q more (to_count) (of_none none unmapped)) = omega arith
  holders_law (rule.commits j b v vs q more (to_slot claimless) (of_block none)) = omega arith
  holders_law (rule.commits j b v vs q more (to_slot claimless) (of_page page_is is no_old no_report)) = omega arith
  holders_law (rule.commits j b v vs q more (to_slot claimless) (of_none none unmapped)) = omega arith
  holders_law other = omega arith

  -- an entry goes from its block to its slot, or its address is retired
  pub entries_law : {old new : ZoneData} {before after : Sum} → Rule sizes old new before after → Conserves entry_token old new before after
  entries_law (rule.both first same second) = omega (arith, entries_law first, same entry_token.item, entries_law second)
  entries_law (rule.looks l v on) = omega (arith, ap (λ b. bit (b && not (is_some v.page))) on.unentered)
  entries_law (rule.leafed l v on) = omega (arith, ap (λ b. bit (b && not (is_some v.page))) on.unentered)
  entries_law (rule.asks_on p z v q on early asks) = omega (arith, ap (λ b. bit (b && not (is_some v.page))) early.unentered, ap (λ b. bit (b && not (is_some v.page))) on.early.unentered)
  entries_law (rule.leaves l slots reported v q answer locks is_set leased) = omega (arith, is_set.count)
  entries_law (rule.hands_on l slots reported v q answer w others locks is_set leased) = omega (arith, is_set.count)
  entries_law (rule.retires l v pageless leased) = omega (arith, nothing, own_entry v pageless)
  entries_law (rule.links l tree v page is_page made) = omega (arith, unless_page true v page is_page)
  entries_law (rule.forgets l unlinkable v q page locks is_dropped is_page made) = omega (arith, unless_page (has_entry q) v page is_page)
  entries_law (rule.enters j v counted claimed) = omega (arith, one_entry (logged v) j.entered, counted)
  entries_law (rule.enters_first j v counted claimed) = omega (arith, nothing, one_entry (logged v) j.entered, counted)
  entries_law (rule.fails j b) = omega (arith, nothing, in_block (λ v. bit (has_entry v.phase && not (is_some v.page))) phase.Pending b.vios)
  entries_law (rule.commits j b v vs q more (to_count) (of_block none)) = omega arith
  entries_law (rule.commits j b v vs q more (to_count) (of_page page_is is no_old no_report)) = omega arith
  entries_law (rule.commits j b v vs q more (to_count) (of_none none unmapped)) = omega arith
  entries_law (rule.commits j b v vs q more (to_slot claimless) (of_block none)) = omega arith
  entries_law (rule.commits j b v vs q more (to_slot claimless) (of_page page_is is no_old no_report)) = omega arith
  entries_law (rule.commits j b v vs q more (to_slot claimless) (of_none none unmapped)) = omega arith
  entries_law other = omega (arith, nothing)

  -- so does an entry of a page, until that is linked or never will be
  pub page_entries_law : {old new : ZoneData} {before after : Sum} → Rule sizes old new before after → Shrinks page_entry_token old new before after
  page_entries_law (rule.both first same second) = omega (arith, page_entries_law first, same page_entry_token.item, page_entries_law second)
  page_entries_law (rule.looks l v on) = omega (arith, ap (λ b. bit (b && is_some v.page)) on.unentered)
  page_entries_law (rule.leafed l v on) = omega (arith, ap (λ b. bit (b && is_some v.page)) on.unentered)
  page_entries_law (rule.asks_on p z v q on early asks) = omega (arith, ap (λ b. bit (b && is_some v.page)) early.unentered, ap (λ b. bit (b && is_some v.page)) on.early.unentered)
  page_entries_law (rule.forgets l unlinkable v q page locks is_dropped is_page made) = omega (arith, is_dropped.count, with_page (has_entry q) v page is_page)
  page_entries_law (rule.enters j v counted claimed) = omega (arith, page_entry (logged v) j.entered, one_kind (logged v), either_bit (is_some v.page), counted)
  page_entries_law (rule.enters_first j v counted claimed) = omega (arith, nothing, page_entry (logged v) j.entered, one_kind (logged v), either_bit (is_some v.page), counted)
  page_entries_law (rule.fails j b) = omega (arith, nothing, in_block (λ v. bit (has_entry v.phase && is_some v.page)) phase.Pending b.vios)
  page_entries_law (rule.commits j b v vs q more (to_count) (of_block none)) = omega arith
  page_entries_law (rule.commits j b v vs q more (to_count) (of_page page_is is no_old no_report)) = omega arith
  page_entries_law (rule.commits j b v vs q more (to_count) (of_none none unmapped)) = omega arith
  page_entries_law (rule.commits j b v vs q more (to_slot claimless) (of_block none)) = omega arith
  page_entries_law (rule.commits j b v vs q more (to_slot claimless) (of_page page_is is no_old no_report)) = omega arith
  page_entries_law (rule.commits j b v vs q more (to_slot claimless) (of_none none unmapped)) = omega arith
  page_entries_law other = omega (arith, nothing)

  -- a page goes to its maker, and from it when it is linked, or isn't made any more
  pub making_law : (page : PageId) → {old new : ZoneData} {before after : Sum} → Rule sizes old new before after → Conserves (making_token page) old new before after
  making_law page (rule.both first same second) = omega (arith, making_law page first, same (making_token page).item, making_law page second)
  making_law page (rule.begins d v pageless claimless ticketless) = omega (arith, is_page_of page v None pageless)
  making_law page (rule.begins_flush d v pageless claimless ticketless) = omega (arith, is_page_of page v None pageless)
  making_law page (rule.answers d v answer marks receipts pageless claimless ticketless) = omega (arith, is_page_of page v None pageless)
  making_law page (rule.makes l v p pageless) = omega (arith, is_page_of page v None pageless, times_more page p l.making)
  making_law page (rule.links l tree v p is_page made) = omega (arith, is_page_of page v (Some p) is_page, taken_out p page l.making made)
  making_law page (rule.forgets l unlinkable v q p locks is_dropped is_page made) = omega (arith, is_page_of page v (Some p) is_page, taken_out p page l.making made)
  making_law page (rule.fails j b) = omega (arith, in_block (λ v. bit (is_same page v.page)) phase.Pending b.vios)
  making_law page (rule.commits j b v vs q more (to_count) (of_block none)) = omega arith
  making_law page (rule.commits j b v vs q more (to_count) (of_page page_is is no_old no_report)) = omega arith
  making_law page (rule.commits j b v vs q more (to_count) (of_none none unmapped)) = omega arith
  making_law page (rule.commits j b v vs q more (to_slot claimless) (of_block none)) = omega arith
  making_law page (rule.commits j b v vs q more (to_slot claimless) (of_page page_is is no_old no_report)) = omega arith
  making_law page (rule.commits j b v vs q more (to_slot claimless) (of_none none unmapped)) = omega arith
  making_law page other = omega (arith, nothing)
