-- How often blocks are used by what happened, the updates in their order, and what tokens weigh: each at a small case that has it,
-- and at one that hasn't.
use Rattle.std.proofs.Common.{ℕ, ◌≡◌, ◌+◌, ◌==◌, true, false, Option, None, Some, List, [], ◌∷◌, replicate, refl, arith, length, length-append, ap, sym, subst}
use Rattle.blk_base.specs.declared.place.Mapping.TheVariants.{Unmapped, Zero, At}
use Rattle.blk_base.specs.declared.place.Pbn.{Pbn}
use Rattle.data_vio.specs.declared.items.Item.TheVariants.{Request, Decrement, Report, Damage, StopNotice}
use Rattle.data_vio.specs.declared.items.Phase.TheVariants as phase
use Rattle.data_vio.specs.declared.logged.Logged.TheVariants.{Remaps, Makes}
use Rattle.data_vio.specs.declared.logged.Remapping.{Remapping}
use Rattle.core_model.specs.CountUpdates.{IsNextUpdate, is_counted_in, replaced_in, updates_by, updates_in, updates_of, updates_taken}
use Rattle.core_model.specs.CountUpdates as update
use Rattle.core_model.specs.LogicalFacts.{AwaitsReport}
use Rattle.core_model.specs.Tokens.{Token, block_token, claim_token, damage_token, report_token, ticket_token, ticket_weight, waiter_token}
use Rattle.core_model.specs.Trace.{Adds, Asks, Commits, Drops, Hears, Removes, Strays, Withdraws, Trace, added, claimed, damage_in, has_stopped, passed_on, removed, strayed, unclaimed}
use Rattle.core_model.specs.Uses.{IsFreeAt, NoneFree, NoneFreeIn, Waits, counted, gained, is_used, issued, lost, sum_below, ticket_at, uncounted, used_at, used_of_slab}
use Rattle.core_model.specs.declared.zones.ZoneData.{ZoneData}
use Rattle.core_model.specs.declared.zones.ZoneData.TheVariants as at
use Rattle.vdo_model.specs.declared.report.Damage.TheVariants.{Stray}
use Rattle.core_model.proofs.ZoneForms.{empty_log, journal, logical, nothing, one, physical, slab_with, zone_with}
use Rattle.model_rows.proofs.sessions.PhaseRows.{has_block, seven, stepped, waiting, writes}
use Rattle.model_rows.proofs.sessions.TicketTraces.{one_asked, one_has, ticket, two, two_asked}
use Rattle.core_model.proofs.WorkedTraces.{first, of_first, of_second, other, second, session, sizes, took}
use Rattle.blk_base.specs.Regions.{first_slab_of, slab_stride_of, data_blocks}
use Rattle.blk_base.proofs.Example.{leaf}
use Rattle.blk_base.specs.Forms.{pbn as block}
use Rattle.data_vio.specs.declared.items.Vio.{Vio}
use Rattle.slab_tickets.specs.declared.forms.Waiting.{Waiting}
use Rattle.std.proofs.Math.Nat.{mod-one}
use Rattle.std.proofs.lemmas.Bool.{eqb-true}
use Rattle.zone_counts.specs.Zone.{slab_number}

-- a page that the first write made; and an entry that maps an address of block 85 to nothing
abbrev made : ℕ → Trace → Trace
made b t = Adds (Makes (record { request = first; page = leaf; at = block b })) ∷ t

abbrev unmaps : Remapping
unmaps = record of_second { new = Unmapped }

-- the lists by what happened
lists : (claimed took ≡ block 85 ∷ []) × (unclaimed (Drops first (block 85) None ∷ took) ≡ block 85 ∷ []) × (added (made 85 took) ≡ Makes (record { request = first; page = leaf; at = block 85 }) ∷ [])
    × (removed (Removes of_second None ∷ took) ≡ of_second ∷ []) × (strayed (Strays of_second ∷ took) ≡ of_second ∷ [])
lists = (refl, refl, refl, refl, refl)

not_the_others : (claimed (Drops first (block 85) None ∷ []) ≡ []) × (unclaimed took ≡ []) × (added (Commits (Remaps of_first) ∷ took) ≡ []) × (removed (Strays of_second ∷ took) ≡ []) × (strayed (Removes of_second None ∷ took) ≡ [])
not_the_others = (refl, refl, refl, refl, refl)

-- a block that becomes free is claimed anew where it went to a ticket; an entry that replaces none frees none
passed_on_to_one : (passed_on (Some (block 85)) (Some 0) ≡ block 85 ∷ []) × (passed_on (Some (block 85)) None ≡ []) × (passed_on None (Some 0) ≡ [])
passed_on_to_one = (refl, refl, refl)

claimed_for_a_ticket : (claimed (Drops first (block 85) (Some 0) ∷ took) ≡ block 85 ∷ block 85 ∷ []) × (claimed (Removes of_second (Some 0) ∷ took) ≡ block 85 ∷ block 85 ∷ [])
claimed_for_a_ticket = (refl, refl)

claimed_for_none : (claimed (Drops first (block 85) None ∷ took) ≡ block 85 ∷ []) × (claimed (Removes of_second None ∷ took) ≡ block 85 ∷ []) × (claimed (Removes of_first (Some 0) ∷ took) ≡ block 85 ∷ [])
    × (claimed (one_asked took) ≡ block 85 ∷ []) × (claimed (Withdraws second (ticket 0 0) (Some (block 85)) ∷ took) ≡ block 85 ∷ [])
claimed_for_none = (refl, refl, refl, refl, refl)

still_let_go : (unclaimed (Drops first (block 85) (Some 0) ∷ took) ≡ block 85 ∷ []) × (removed (Removes of_second (Some 0) ∷ took) ≡ of_second ∷ []) × (updates_taken (Removes of_second (Some 0) ∷ took) ≡ update.Decrement of_second ∷ [])
still_let_go = (refl, refl, refl)

-- gained, lost: by the opened image and claims; by drops and decrements of this block
used : (gained session took (block 85) ≡ 1) × (gained (record session { counters = replicate 64 2 }) took (block 85) ≡ 3) × (gained session took (block 86) ≡ 0)
used = (refl, refl, refl)

let_go : (lost (Drops first (block 85) None ∷ took) (block 85) ≡ 1) × (lost (Removes of_second None ∷ Drops first (block 85) None ∷ took) (block 85) ≡ 2) × (lost (Strays of_second ∷ took) (block 85) ≡ 0) × (lost (Removes of_second None ∷ took) (block 86) ≡ 0)
let_go = (refl, refl, refl, refl)

-- an increment uses no block anew
not_by_an_increment : gained session (made 85 took) (block 85) ≡ 1
not_by_an_increment = refl

-- counted, uncounted
counts : (counted (record session { counters = replicate 64 2 }) (made 85 took) (block 85) ≡ 3) × (counted session (Adds (Remaps of_first) ∷ took) (block 85) ≡ 1) × (counted session took (block 85) ≡ 0)
    × (uncounted (Removes of_second None ∷ took) (block 85) ≡ 1) × (uncounted (Drops first (block 85) None ∷ took) (block 85) ≡ 0)
counts = (refl, refl, refl, refl, refl)

-- IsFreeAt, NoneFree
free_again : IsFreeAt session (Drops first (block 85) None ∷ took) (block 85)
free_again = refl

not_free : ¬ IsFreeAt session took (block 85)
not_free = λ free. omega (arith, free)

not_free_where_it_was_passed_on : ¬ IsFreeAt session (one_has (one_asked took)) (block 85)
not_free_where_it_was_passed_on = λ free. omega (arith, free)

-- ticket_at: a ticket is out once it was given, in its zone and with its number; a block goes to it by a drop, or by a decrement, in its
-- zone and with its number; and it is out until it is withdrawn
abbrev known : Trace → ℕ → ℕ → Option (Option Pbn)
known t zone number = ticket_at two t zone number

out_once_given : (known (one_asked took) 0 0 ≡ Some None) × (known took 0 0 ≡ None) × (known (one_asked took) 1 0 ≡ None) × (known (one_asked took) 0 1 ≡ None) × (known (two_asked took) 0 1 ≡ Some None)
out_once_given = (refl, refl, refl, refl, refl)

has_a_block : (known (one_has (one_asked took)) 0 0 ≡ Some (Some (block 85))) × (known (Removes of_second (Some 0) ∷ one_asked took) 0 0 ≡ Some (Some (block 85))) × (known (one_has (two_asked took)) 0 0 ≡ Some (Some (block 85)))
has_a_block = (refl, refl, refl)

has_none_of_others : (known (one_has (two_asked took)) 0 1 ≡ Some None) × (known (Drops first (block 85) None ∷ one_asked took) 0 0 ≡ Some None) × (known (Removes of_second None ∷ one_asked took) 0 0 ≡ Some None)
    × (known (Drops first (block (first_slab_of two.geometry + slab_stride_of two.geometry)) (Some 0) ∷ one_asked took) 0 0 ≡ Some None) × (known (Strays of_second ∷ one_asked took) 0 0 ≡ Some None)
    × (known (Removes of_first (Some 0) ∷ one_asked took) 0 0 ≡ Some None)
has_none_of_others = (refl, refl, refl, refl, refl, refl)

out_no_longer : (known (Withdraws second (ticket 0 0) None ∷ one_asked took) 0 0 ≡ None) × (known (Withdraws second (ticket 0 0) (Some (block 85)) ∷ one_has (one_asked took)) 0 0 ≡ None)
out_no_longer = (refl, refl)

out_though_others_are_not : (known (Withdraws other (ticket 0 1) None ∷ two_asked took) 0 0 ≡ Some None) × (known (Withdraws other (ticket 1 0) None ∷ one_asked took) 0 0 ≡ Some None)
out_though_others_are_not = (refl, refl)

-- Waits: it is out, and no block went to it
waits : Waits two (one_asked took) 0 0
waits = refl

waits_no_more : (¬ Waits two (one_has (one_asked took)) 0 0) × (¬ Waits two took 0 0) × (¬ Waits two (one_asked took) 1 0)
waits_no_more = (λ waits. cc, λ waits. cc, λ waits. cc)

-- issued: each that a zone gave, those that are out no longer too
were_issued : (issued (two_asked took) 0 ≡ 2) × (issued (Withdraws second (ticket 0 0) None ∷ one_asked took) 0 ≡ 1) × (issued (two_asked took) 1 ≡ 0) × (issued took 0 ≡ 0) × (issued (Asks second (ticket 1 0) ∷ one_asked took) 1 ≡ 1)
were_issued = (refl, refl, refl, refl, refl)

-- NoneFreeIn: of the blocks of the zone alone
some_is_free_here : ¬ NoneFreeIn session took 0
some_is_free_here = λ none. none (block 90) (record { slab = 0; offset = 11; inside = (omega arith, omega arith); stands = refl }) refl refl

none_of_another_zone : NoneFreeIn session took 1
none_of_another_zone = λ x is_data here free. let one = mod-one (slab_number sizes.geometry x) in omega (arith, one, here)

some_is_free : ¬ NoneFree session took
some_is_free = λ none. none (block 90) (record { slab = 0; offset = 11; inside = (omega arith, omega arith); stands = refl }) refl

-- is_used: where more mappings were counted than taken off, whatever was claimed
used_ones : (is_used session (made 85 took) (block 85) ≡ true) × (is_used (record session { counters = replicate 64 2 }) (Removes of_second None ∷ []) (block 85) ≡ true)
used_ones = (refl, refl)

not_used : (is_used session took (block 85) ≡ false) × (is_used session (made 85 took) (block 86) ≡ false) × (is_used session (Removes of_second None ∷ made 85 took) (block 85) ≡ false)
not_used = (refl, refl, refl)

-- sum_below, used_of_slab, used_at, data_blocks
sums : (sum_below (λ n. n) 4 ≡ 6) × (sum_below (λ n. 7) 0 ≡ 0)
sums = (refl, refl)

used_of_all : (used_at (record session { counters = replicate 64 2 }) took ≡ 64) × (used_at session (made 85 (made 90 took)) ≡ 2) × (used_of_slab session (made 85 (made 90 took)) 1 ≡ 0)
    × (used_at session (Removes of_second None ∷ made 85 took) ≡ 0) × (data_blocks session.sizes.geometry ≡ 64)
used_of_all = (refl, refl, refl, refl, refl)

-- updates: an increment, then the decrement; of a new page an increment; of zeros and of nothing none
of_an_entry : updates_by (Remaps of_second) ≡ update.Increment (Remaps of_second) ∷ update.Decrement of_second ∷ []
of_an_entry = refl

of_others : (updates_by (Makes (record { request = first; page = leaf; at = block 85 })) ≡ update.Increment (Makes (record { request = first; page = leaf; at = block 85 })) ∷ [])
    × (updates_by (Remaps unmaps) ≡ update.Decrement unmaps ∷ []) × (updates_by (Remaps (record of_first { new = Zero })) ≡ [])
of_others = (refl, refl, refl)

in_their_order : updates_of (Remaps of_second ∷ Remaps of_first ∷ []) ≡ update.Increment (Remaps of_first) ∷ update.Increment (Remaps of_second) ∷ update.Decrement of_second ∷ []
in_their_order = refl

taken_so_far : (updates_taken (Strays of_second ∷ Adds (Remaps of_second) ∷ Adds (Remaps of_first) ∷ took) ≡ updates_of (Remaps of_second ∷ Remaps of_first ∷ []))
    × (updates_taken (Removes of_second None ∷ Adds (Remaps of_second) ∷ Adds (Remaps of_first) ∷ took) ≡ updates_of (Remaps of_second ∷ Remaps of_first ∷ []))
taken_so_far = (refl, refl)

-- is_counted_in, updates_in, replaced_in: of the first of two zones, in its order
abbrev elsewhere : Remapping
elsewhere = record of_second { old = Unmapped; new = At (block (first_slab_of two.geometry + slab_stride_of two.geometry)) }

counted_by_zone : (is_counted_in two 0 (At (block 85)) ≡ true) × (is_counted_in two 1 (At (block 85)) ≡ false) × (is_counted_in two 1 elsewhere.new ≡ true) × (is_counted_in two 0 Zero ≡ false) × (is_counted_in two 0 Unmapped ≡ false)
counted_by_zone = (refl, refl, refl, refl, refl)

parted : (updates_in two 0 (updates_of (Remaps elsewhere ∷ Remaps of_second ∷ Remaps of_first ∷ [])) ≡ update.Increment (Remaps of_first) ∷ update.Increment (Remaps of_second) ∷ update.Decrement of_second ∷ [])
    × (updates_in two 1 (updates_of (Remaps elsewhere ∷ Remaps of_second ∷ Remaps of_first ∷ [])) ≡ update.Increment (Remaps elsewhere) ∷ [])
    × (replaced_in two 0 (of_second ∷ elsewhere ∷ []) ≡ of_second ∷ []) × (replaced_in two 1 (of_second ∷ []) ≡ [])
parted = (refl, refl, refl, refl)

-- IsNextUpdate: the next of its zone, whatever another zone has yet to take; that it is of the zone follows, since the zone's
-- updates have it
next_one : IsNextUpdate sizes (Remaps of_second ∷ Remaps of_first ∷ []) (Adds (Remaps of_first) ∷ took) (update.Increment (Remaps of_second))
next_one = record { zone = 0; own = refl; rest = update.Decrement of_second ∷ []; next = refl }

next_of_its_zone : IsNextUpdate two (Remaps elsewhere ∷ Remaps of_first ∷ []) took (update.Increment (Remaps elsewhere))
next_of_its_zone = record { zone = 1; own = refl; rest = []; next = refl }

not_before_the_first : ¬ IsNextUpdate two (Remaps of_second ∷ Remaps of_first ∷ []) took (update.Increment (Remaps of_second))
not_before_the_first = λ is.
    let zone : 0 ≡ is.zone = eqb-true 0 is.zone is.own in
    let first_one = subst (λ (z : ℕ). updates_in two z (updates_of (Remaps of_second ∷ Remaps of_first ∷ [])) ≡ update.Increment (Remaps of_second) ∷ is.rest) (sym zone) is.next in
    cc

none_is_next : (u : update.CountUpdate) → ¬ IsNextUpdate sizes (Remaps of_first ∷ []) (Adds (Remaps of_first) ∷ took) u
none_is_next u = λ is.
    let all = ap length is.next in
    let parts = length-append (updates_in sizes is.zone (update.Increment (Remaps of_first) ∷ [])) (u ∷ is.rest) in
    omega (arith, all, parts)

-- damage of another zone stops the session, and is its damage
stops : (has_stopped (Hears (Stray (block 85) 0) ∷ took) ≡ true) × (damage_in (Hears (Stray (block 86) 0) ∷ Hears (Stray (block 85) 0) ∷ took) ≡ Some (Stray (block 85) 0)) × (has_stopped (Strays of_second ∷ took) ≡ false)
stops = (refl, refl, refl)

-- What items weigh for a block, and for its claims: a claim, before its entry is handed in, and then too; a decrement.
abbrev blocks : Token
blocks = block_token (λ x. 0) (block 85)

weighs : (blocks.item (Request (has_block phase.Store)) ≡ 1) × (blocks.item (Request (has_block phase.Pending)) ≡ 0) × (blocks.item (Request (writes phase.Settle)) ≡ 0) × (blocks.item (Decrement of_second) ≡ 1)
    × (blocks.item (Report of_second) ≡ 0) × ((claim_token (block 85)).item (Request (has_block phase.Pending)) ≡ 1) × ((claim_token (block 86)).item (Request (has_block phase.Pending)) ≡ 0)
weighs = (refl, refl, refl, refl, refl, refl, refl)

-- what zones have, and give: the entries that were handed in, with the opened mappings; counters, claims, and what was replaced
zones_weigh : (blocks.own (journal true empty_log [] [] (of_first ∷ []) []) ≡ 1) × ((block_token (λ x. 7) (block 85)).own (journal true empty_log [] [] [] []) ≡ 7) × (blocks.gave (journal true empty_log [] [] [] (of_second ∷ [])) ≡ 1)
    × (blocks.gave (physical seven one) ≡ 2) × (blocks.gave (physical nothing nothing) ≡ 0) × ((claim_token (block 85)).gave (physical seven one) ≡ 1)
zones_weigh = (refl, refl, refl, refl, refl, refl)

-- reports and their requests: of an entry that replaces a block
reports_weigh : ((report_token second).item (Decrement of_second) ≡ 1) × ((report_token second).item (Report of_second) ≡ 1) × ((report_token first).item (Report of_second) ≡ 0) × ((report_token first).item (Decrement of_first) ≡ 0)
    × ((report_token second).gave (journal true empty_log [] [] [] (of_second ∷ [])) ≡ 1) × ((report_token second).own (logical 3 [] [] [] [] (of_second ∷ [])) ≡ 1)
reports_weigh = (refl, refl, refl, refl, refl, refl)

waiters_weigh : ((waiter_token first).item (Request (record (writes phase.Settle) { old = At (block 90) })) ≡ 1) × ((waiter_token first).item (Request (record (writes phase.Count) { old = At (block 90) })) ≡ 1)
    × ((waiter_token first).item (Request (record (writes phase.Pending) { old = At (block 90) })) ≡ 0) × ((waiter_token first).item (Request (writes phase.Settle)) ≡ 0)
    × ((waiter_token first).item (Request (record (writes phase.Settle) { old = At (block 90); page = Some leaf })) ≡ 0)
waiters_weigh = (refl, refl, refl, refl, refl)

abbrev strayed_zone : ZoneData
strayed_zone = at.Physical (record { notified = false; strays = of_second ∷ []; counts = zone_with (slab_with nothing nothing) })

strays_weigh : (blocks.own strayed_zone ≡ 1) × (blocks.own (physical seven one) ≡ 0)
strays_weigh = (refl, refl)

-- tickets: each that a request has, of this zone and with such a number; against those that are out there
a_ticket_weighs : (ticket_weight 0 (λ n. n == 3) (ticket 0 3) ≡ 1) × (ticket_weight 1 (λ n. n == 3) (ticket 0 3) ≡ 0) × (ticket_weight 0 (λ n. n == 2) (ticket 0 3) ≡ 0)
a_ticket_weighs = (refl, refl, refl)

abbrev all : ℕ → Token
all zone = ticket_token zone (λ n. true)

abbrev holder : Vio
holder = record (writes phase.Withdraw) { tickets = ticket 1 4 ∷ ticket 0 3 ∷ [] }

holders_weigh : ((all 0).item (Request holder) ≡ 1) × ((all 1).item (Request holder) ≡ 1) × ((all 2).item (Request holder) ≡ 0) × ((ticket_token 0 (λ n. n == 4)).item (Request holder) ≡ 0) × ((all 0).item (Request (writes phase.Withdraw)) ≡ 0)
    × ((all 0).item (Decrement of_second) ≡ 0)
holders_weigh = (refl, refl, refl, refl, refl, refl)

abbrev with_tickets : List Waiting → ZoneData
with_tickets out = at.Physical (record { notified = false; strays = []; counts = stepped (zone_with (slab_with nothing one)) 7 5 out })

abbrev two_out : ZoneData
two_out = with_tickets (waiting second 3 (Some (block 85)) ∷ waiting other 4 None ∷ [])

zones_of_tickets_weigh : ((all 0).gave two_out ≡ 2) × ((ticket_token 0 (λ n. n == 4)).gave two_out ≡ 1) × ((all 1).gave two_out ≡ 0) × ((all 0).gave (physical nothing one) ≡ 0) × ((all 0).own two_out ≡ 0) × ((all 0).gave (logical 3 [] [] [] [] []) ≡ 0)
zones_of_tickets_weigh = (refl, refl, refl, refl, refl, refl)

-- what went to a ticket is a use of the block, and a claim; one that waits has none
blocks_of_tickets_weigh : (blocks.own two_out ≡ 1) × ((claim_token (block 85)).own two_out ≡ 1) × ((claim_token (block 86)).own two_out ≡ 0) × ((claim_token (block 85)).own (with_tickets (waiting other 4 None ∷ [])) ≡ 0)
blocks_of_tickets_weigh = (refl, refl, refl, refl)

damage_weighs : (damage_token.item (Damage (Stray (block 85) 0)) ≡ 1) × (damage_token.item StopNotice ≡ 0) × (damage_token.gave (physical nothing nothing) ≡ 0)
    × (damage_token.gave strayed_zone ≡ 1)
damage_weighs = (refl, refl, refl, refl)

-- AwaitsReport: its entry replaces a block, and the report isn't there
awaits : AwaitsReport 0 [] (record (writes phase.Settle) { old = At (block 90) })
awaits = record { at_home = refl; own = refl; replaces = tt; none = refl }

awaits_though_reported : ¬ AwaitsReport 0 (of_first ∷ []) (record (writes phase.Settle) { old = At (block 90) })
awaits_though_reported = λ is. let no = is.none in absurd cc

awaits_for_nothing : ¬ AwaitsReport 0 [] (writes phase.Settle)
awaits_for_nothing = λ is. is.replaces

awaits_elsewhere : ¬ AwaitsReport 1 [] (record (writes phase.Settle) { old = At (block 90) })
awaits_elsewhere = λ is. let no = is.at_home in absurd cc

awaits_for_a_page : ¬ AwaitsReport 0 [] (record (writes phase.Settle) { old = At (block 90); page = Some leaf })
awaits_for_a_page = λ is. let no = is.own in absurd cc
