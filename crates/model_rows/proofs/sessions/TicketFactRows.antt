-- What is known of a request that asks for a data block, and of one that withdraws its tickets: for each clause a case that it accepts,
-- and one that breaks it alone, in a session with two physical zones.
use Rattle.std.proofs.Common.{ℕ, zero, suc, ◌≡◌, ◌⊎◌, ◌<◌, Option, None, Some, List, [], ◌∷◌, ◌++◌, refl, ap, arith, inl, inr}
use Rattle.std.specs.Prelude.{Contains}
use Rattle.blk_base.specs.declared.request.Writer.{Writer}
use Rattle.blk_base.specs.Forms.{pbn as block}
use Rattle.data_vio.specs.declared.sizes.Sizes.{Sizes}
use Rattle.plain_laws.specs.Sums.{bit, total}
use Rattle.slab_counts.specs.declared.tickets.Ticket.{Ticket}
use Rattle.vdo_model.specs.Places.{place_of}
use Rattle.core_model.specs.PhysicalFacts.{AreInTurn, IsAsking, IsWithdrawing, LacksBlock}
use Rattle.core_model.specs.RightTraces.{WasRefused}
use Rattle.core_model.specs.Sessions.{Session}
use Rattle.core_model.specs.Trace.{Asks, Takes, Trace, Withdraws, places}
use Rattle.model_rows.proofs.sessions.TicketTraces.{are_before, asks_in, before_last, begins_with, crowded, crowded_two, ends_in, ends_with, has_asked, has_ended, one_asked, one_has, ticket}
use Rattle.core_model.proofs.WorkedTraces.{drawn, second, sizes, took}

-- AreInTurn: each of the next zone, from that of the turn on
abbrev three : Sizes
three = record sizes { physical = 3 }

go_round : AreInTurn three 4 (ticket 1 0 ∷ ticket 2 5 ∷ ticket 0 1 ∷ [])
go_round = (refl, (refl, (refl, tt)))

go_round-from_their_turn : ¬ AreInTurn three 4 (ticket 2 5 ∷ [])
go_round-from_their_turn = λ are. omega (arith, are.0)

go_round-past_none : ¬ AreInTurn three 4 (ticket 1 0 ∷ ticket 0 1 ∷ [])
go_round-past_none = λ are. omega (arith, are.1.0)

-- IsAsking: its tickets are of the zones that it asked, from that of its place on, one is left, and it was given each
abbrev asked_1 : Trace
asked_1 = Asks second (ticket 1 0) ∷ drawn

asks : IsAsking crowded_two drawn second 1 []
asks = record { in_turn = tt; fewer = omega arith; asked = tt }

asks_on : IsAsking crowded_two asked_1 second 1 (ticket 1 0 ∷ [])
asks_on = record { in_turn = (refl, tt); fewer = omega arith; asked = ((0, omega arith, refl), tt) }

asks-in_turn : ¬ IsAsking crowded_two (one_asked drawn) second 1 (ticket 0 0 ∷ [])
asks-in_turn = λ is. omega (arith, is.in_turn.0)

asks-where_one_is_left : ¬ IsAsking crowded_two (one_asked asked_1) second 1 (ticket 1 0 ∷ ticket 0 0 ∷ [])
asks-where_one_is_left = λ is. omega (arith, is.fewer)

asks-with_what_it_was_given : ¬ IsAsking crowded_two drawn second 1 (ticket 1 0 ∷ [])
asks-with_what_it_was_given = λ is. let found = has_asked second 1 drawn (ticket 1 0) refl is.asked.0 in omega (arith, found)

-- LacksBlock: it claimed no block for its data; by a moment since it had its place it had asked each zone, and of each it has the ticket yet, or withdrew that, to which no
-- block went
abbrev asked_both : Trace
asked_both = one_asked asked_1

abbrev both : List Ticket
both = ticket 1 0 ∷ ticket 0 0 ∷ []

lacks : LacksBlock crowded_two asked_both second both
lacks = record { newer = []; older = asked_both; moment = refl; placed = refl; none_taken = refl; each = by }
  where
    by : (zone : ℕ) → zone < 2 → WasRefused [] asked_both second zone ⊎ ((k : Ticket) × (k.zone ≡ zone) × Contains both k × Contains asked_both (Asks second k))
    by zero below = inr (ticket 0 0, refl, (1, omega arith, refl), (0, omega arith, refl))
    by (suc zero) below = inr (ticket 1 0, refl, (0, omega arith, refl), (1, omega arith, refl))
    by (suc (suc zone)) below = absurd (omega (arith, below))

abbrev refused_1 : Trace
refused_1 = Withdraws second (ticket 1 0) None ∷ []

lacks_once_refused : LacksBlock crowded_two (refused_1 ++ asked_both) second (ticket 0 0 ∷ [])
lacks_once_refused = record { newer = refused_1; older = asked_both; moment = refl; placed = refl; none_taken = refl; each = by }
  where
    by : (zone : ℕ) → zone < 2 → WasRefused refused_1 asked_both second zone ⊎ ((k : Ticket) × (k.zone ≡ zone) × Contains (ticket 0 0 ∷ []) k × Contains asked_both (Asks second k))
    by zero below = inr (ticket 0 0, refl, (0, omega arith, refl), (0, omega arith, refl))
    by (suc zero) below = inl (record { ticket = ticket 1 0; zone_is = refl; asked = (1, omega arith, refl); withdrawn = (0, omega arith, refl) })
    by (suc (suc zone)) below = absurd (omega (arith, below))

lacks-without_a_block : ¬ LacksBlock crowded_two (Takes second None (block 85) ∷ asked_both) second both
lacks-without_a_block = λ h. let no = h.none_taken in absurd cc

lacks-with_its_place : (s : Session) (t : Trace) (w : Writer) (ks : List Ticket) (h : LacksBlock s t w ks) → place_of (places h.older) w ≡ None → ⊥
lacks-with_its_place s t w ks h none = absurd (let some = rw none at h.placed in cc)

-- so by that moment it had asked the zone
asked_then : (newer older : Trace) (w : Writer) (zone : ℕ) (ks : List Ticket) → WasRefused newer older w zone ⊎ ((k : Ticket) × (k.zone ≡ zone) × Contains ks k × Contains older (Asks w k))
    → 0 < total (λ h. bit (asks_in w zone h)) older
asked_then newer older w zone ks (inl was) = has_asked w zone older was.ticket was.zone_is was.asked
asked_then newer older w zone ks (inr has) = has_asked w zone older has.0 has.1 has.3

lacks-once_it_asked_each : ¬ LacksBlock crowded_two asked_1 second (ticket 1 0 ∷ [])
lacks-once_it_asked_each = λ h.
    let asked = asked_then h.newer h.older second 0 (ticket 1 0 ∷ []) (h.each 0 (omega arith)) in
    let all = ap (total (λ g. bit (asks_in second 0 g))) h.moment in
    omega (arith, asked, all, ends_with (asks_in second 0) h.newer h.older)

-- not where a block went to the ticket that it withdrew
abbrev got_one : Trace
got_one = Withdraws second (ticket 0 0) (Some (block 85)) ∷ one_has (one_asked took)

lacks-where_no_block_went_to_it : ¬ LacksBlock crowded got_one second []
lacks-where_no_block_went_to_it = λ h. elim (h.each 0 (omega arith)) [
  | inl was ↦
      let ended = has_ended second 0 h.newer was.ticket was.zone_is was.withdrawn in
      let all = ap (total (λ g. bit (ends_in 0 g))) h.moment in
      omega (arith, ended, all, begins_with (ends_in 0) h.newer h.older)
  | inr has ↦ omega (arith, has.2.1)
]

-- nor where it withdrew the one before it asked for the other
abbrev one_by_one : Trace
one_by_one = Asks second (ticket 1 0) ∷ Withdraws second (ticket 0 0) None ∷ one_asked drawn

lacks-at_one_moment : ¬ LacksBlock crowded_two one_by_one second (ticket 1 0 ∷ [])
lacks-at_one_moment = λ h. elim (h.each 0 (omega arith)) [
  | inl was ↦
      let ended = has_ended second 0 h.newer was.ticket was.zone_is was.withdrawn in
      let asked = asked_then h.newer h.older second 1 (ticket 1 0 ∷ []) (h.each 1 (omega arith)) in
      let none = ap (before_last (ends_in 0) (asks_in second 1)) h.moment in
      omega (arith, asked, none, are_before (ends_in 0) (asks_in second 1) h.newer h.older ended)
  | inr has ↦ not_of_zone_0 has.0 has.2 has.1
]
  where
    not_of_zone_0 : (k : Ticket) → Contains (ticket 1 0 ∷ []) k → k.zone ≡ 0 → ⊥
    not_of_zone_0 k (zero, below, is) of = let zone = ap (λ (t : Ticket). t.zone) is in omega (arith, zone, of)
    not_of_zone_0 k (suc i, below, is) of = omega (arith, below)

-- IsWithdrawing: its tickets are of zones in turn, as many as there are at most, and some; it was given each, and lacks a block while it
-- has no claim, with the one that it was given last
withdraws : IsWithdrawing crowded_two asked_both second None both
withdraws = record { turn = 1; in_turn = (refl, (refl, tt)); few = omega arith; some = omega arith; asked = ((1, omega arith, refl), ((0, omega arith, refl), tt)); lacks = λ is. lacks; last = λ is. refl }

withdraws_with_a_claim : IsWithdrawing crowded_two asked_1 second (Some (block 90)) (ticket 1 0 ∷ [])
withdraws_with_a_claim = record { turn = 1; in_turn = (refl, tt); few = omega arith; some = omega arith; asked = ((0, omega arith, refl), tt); lacks = λ is. absurd cc; last = λ is. absurd cc }

withdraws-in_turn : ¬ IsWithdrawing crowded_two asked_both second (Some (block 90)) (ticket 0 0 ∷ ticket 0 0 ∷ [])
withdraws-in_turn = λ is. omega (arith, is.in_turn.0, is.in_turn.1.0)

withdraws-one_of_each_zone : ¬ IsWithdrawing crowded (Asks second (ticket 0 1) ∷ one_asked drawn) second (Some (block 90)) (ticket 0 0 ∷ ticket 0 1 ∷ [])
withdraws-one_of_each_zone = λ is. omega (arith, is.few)

withdraws-some : ¬ IsWithdrawing crowded_two asked_both second (Some (block 90)) []
withdraws-some = λ is. omega (arith, is.some)

withdraws-what_it_was_given : ¬ IsWithdrawing crowded_two asked_1 second (Some (block 90)) (ticket 0 0 ∷ [])
withdraws-what_it_was_given = λ is. let found = has_asked second 0 asked_1 (ticket 0 0) refl is.asked.0 in omega (arith, found)

withdraws-once_it_asked_each : ¬ IsWithdrawing crowded_two asked_1 second None (ticket 1 0 ∷ [])
withdraws-once_it_asked_each = λ is. lacks-once_it_asked_each (is.lacks refl)

withdraws-the_last_of_all : ¬ IsWithdrawing crowded_two asked_both second None (ticket 1 0 ∷ [])
withdraws-the_last_of_all = λ is. absurd (let last = is.last refl in let zone = ap zone_in last in omega (arith, zone))
  where
    zone_in : Option Ticket → ℕ
    zone_in None = 2
    zone_in (Some k) = k.zone
