-- For each clause of what a zone with its lanes keeps a case that it accepts, and one that breaks it alone: in the middle of
-- a session, where the first write has its block and is on its way to the device, and another write asks for one.
use Rattle.std.specs.Prelude.{All, Contains, ℕ, zero, suc, ◌≡◌, ◌≢◌, ◌≤◌, false, List, [], ◌∷◌, length, slice_set, None, Some, refl}
use Rattle.std.specs.List.{AllByRecursion}
use Rattle.std.proofs.Common.{ap, arith, inl, inr, subst, sym}
use Rattle.std.proofs.lemmas.Bool.Decides.{eqb_tells}
use Rattle.std.proofs.lemmas.List.Elements.{All-nil, All-push}
use Rattle.blk_base.specs.Pages.{leaf_of}
use Rattle.blk_base.specs.declared.geometry.Geometry.{Geometry}
use Rattle.blk_base.specs.declared.place.Mapping.TheVariants.{At}
use Rattle.core_model.specs.declared.zones.PhysicalZone.{PhysicalZone}
use Rattle.slab_tickets.specs.declared.forms.Waiting.{Waiting}
use Rattle.zone_counts.specs.Zone.{IsOfZone, IsZone}
use Rattle.blk_base.specs.declared.place.ZoneId.TheVariants as id
use Rattle.blk_base.specs.Forms.{lba as address, pbn as block}
use Rattle.data_vio.specs.declared.logged.Logged.TheVariants.{Remaps}
use Rattle.data_vio.specs.declared.items.Asks.TheVariants as asks
use Rattle.data_vio.specs.declared.items.Item.{Item}
use Rattle.data_vio.specs.declared.items.Item.TheVariants.{Request, Decrement, Report}
use Rattle.data_vio.specs.declared.items.Phase.TheVariants as phase
use Rattle.data_vio.specs.declared.items.Vio.{Vio}
use Rattle.core_model.specs.declared.zones.Zone.{Zone}
use Rattle.core_model.specs.CountUpdates.{replaced_in}
use Rattle.core_model.specs.Facts.{Carries, DataOk, ItemOk, ZoneOk, made_by}
use Rattle.core_model.specs.LogicalFacts.{IsInTurn}
use Rattle.core_model.specs.PhysicalFacts.{AreFirstClaims, IsDecrement, IsSoundPhysical, PhysicalLists, WasIssued}
use Rattle.core_model.specs.RequestFacts.{ClaimOk, VioOk}
use Rattle.core_model.specs.PhysicalRules.{HasTicketRoom}
use Rattle.core_model.specs.Sessions.{IsFair}
use Rattle.core_model.specs.Trace.{Asks, Commits, Enters, Gives, Removes, Sets, Takes, Trace, Withdraws, strayed, Happening}
use Rattle.core_model.specs.Uses.{ticket_at}
use Rattle.slab_tickets.specs.Numbers.{ticket_of}
use Rattle.core_model.specs.declared.zones.ZoneData.TheVariants as at
use Rattle.plain_laws.specs.Sums.{Each}
use Rattle.core_model.proofs.ZoneForms.{device, nothing, one, physical, slab_with, zone_with}
use Rattle.model_rows.proofs.sessions.PhaseRows.{has_block, seven, stepped, vio, waiting, writes}
use Rattle.model_rows.proofs.sessions.TicketTraces.{has_asked, one_asked, one_has, ticket}
use Rattle.core_model.proofs.WorkedTraces.{sizes, given, of_first, of_second, leafy, other, second, session, took, two_not_zeros, y}

-- the physical zone with these counters and claims
abbrev physical_of : List ℕ → List ℕ → PhysicalZone
physical_of counters held = record { notified = false; strays = []; counts = zone_with (slab_with counters held) }

-- over no device it isn't fair
unfair : (t : Trace) → ¬ IsFair leafy t
unfair t = λ fair. omega (arith, fair.opened.room)

-- the write that asks for a block: of address 812, which is in the second logical zone
abbrev claims : Vio
claims = record (vio other asks.Write phase.Claim 0) { at = address 812; home = id.Logical 1; bytes = y }

-- VioOk: the script has it, it is open, and its home is that of its address
under_way : VioOk leafy took claims
under_way = record { asked = refl; is_open = record { is_begun = omega arith; unanswered = refl }; address = omega arith; home = refl }

with_other_bytes : ¬ VioOk leafy took (record claims { bytes = [] })
with_other_bytes = λ is. let no = is.asked in absurd cc

not_begun : ¬ VioOk leafy [] claims
not_begun = λ is. omega (arith, is.is_open.is_begun)

of_another_home : ¬ VioOk leafy took (record claims { home = id.Logical 0 })
of_another_home = λ is. let no = is.home in absurd cc

-- Carries: it holds its lock: its place is drawn, and all entries of its address are done, with a lower place
in_turn : IsInTurn leafy took claims
in_turn = record {
  is_placed = record { for_block = tt; placed = refl; not_entered = refl };
  quiet = record { all_committed = refl; all_done = refl };
  below = record { writes = tt; reads = tt };
}

may_look : Carries leafy took claims phase.Look
may_look = (in_turn, record { none_taken = refl; others = λ page other taken. absurd cc })

looks_without_a_place : ¬ Carries leafy [] claims phase.Look
looks_without_a_place = λ is. let no = is.0.is_placed.placed in absurd cc

not_before_an_entry_is_done : ¬ IsInTurn leafy (Enters (Remaps (record of_first { at = address 812 })) ∷ took) claims
not_before_an_entry_is_done = λ is. let no = ap length is.quiet.all_committed in omega (arith, no)

not_behind_a_later_write : ¬ IsInTurn leafy (Sets (Remaps (record of_first { at = address 812 })) ∷ took) claims
not_behind_a_later_write = λ is. let no = is.below.writes.0 refl in omega (arith, no)

not_behind_a_later_read : ¬ IsInTurn leafy (Gives (record (given 0) { at = address 812 }) ∷ took) claims
not_behind_a_later_read = λ is. let no = is.below.reads.0 refl in omega (arith, no)

-- and no block was taken for it
first_may_not_look : ¬ Carries leafy took (writes phase.Look) phase.Look
first_may_not_look = λ is. let no = is.1.none_taken in absurd cc

-- and each page for which it took one was handed in
unmade_may_not_look : ¬ Carries leafy (Takes other (Some (leaf_of 1624)) (block 86) ∷ took) claims phase.Look
unmade_may_not_look = λ is. let made = is.1.others (leaf_of 1624) refl refl in absurd cc

-- it knows what is mapped there, it writes, and it needs a block
may_claim : Carries leafy took claims phase.Claim
may_claim = (
  record { turn = in_turn; old_data = tt; old_is = λ fair. absurd (unfair _ fair) },
  refl,
  record { not_zeros = two_not_zeros; none_taken = refl },
  inr refl,
  record { in_turn = tt; fewer = omega arith; asked = tt },
)

without_a_leaf : ¬ Carries session took claims phase.Claim
without_a_leaf = λ is. elim is.3 [ inl level ↦ absurd (omega (arith, level)) | inr some ↦ absurd cc ]

without_a_place : ¬ Carries leafy [] claims phase.Claim
without_a_place = λ is. let no = is.0.turn.is_placed.placed in absurd cc

claims_with_a_ticket_of_each_zone : ¬ Carries leafy (one_asked took) (record claims { tickets = ticket 0 0 ∷ [] }) phase.Claim
claims_with_a_ticket_of_each_zone = λ is. omega (arith, is.4.fewer)

first_has_its_block : ¬ Carries leafy took (writes phase.Claim) phase.Claim
first_has_its_block = λ is. let no = is.2.none_taken in absurd cc

-- with a ticket of each zone it withdraws them
abbrev asked : Trace
asked = Asks other (ticket 0 0) ∷ took

abbrev withdraws : Vio
withdraws = record claims { phase = phase.Withdraw; tickets = ticket 0 0 ∷ [] }

may_withdraw : Carries leafy asked withdraws phase.Withdraw
may_withdraw = (
  record {
    turn = record {
      is_placed = record { for_block = tt; placed = refl; not_entered = refl };
      quiet = record { all_committed = refl; all_done = refl };
      below = record { writes = tt; reads = tt };
    };
    old_data = tt;
    old_is = λ fair. absurd (unfair _ fair);
  },
  refl,
  inr refl,
  record {
    turn = 0;
    in_turn = (refl, tt);
    few = omega arith;
    some = omega arith;
    asked = ((0, omega arith, refl), tt);
    last = λ none. refl;
    lacks = λ none. record {
      newer = [];
      older = asked;
      moment = refl;
      placed = refl;
      none_taken = refl;
      each = λ zone below. inr (ticket 0 0, (let is : 0 ≡ zone = omega (arith, below) in is), (0, omega arith, refl), (0, omega arith, refl));
    };
  },
)

withdraws_without_a_leaf : ¬ Carries session asked withdraws phase.Withdraw
withdraws_without_a_leaf = λ is. elim is.2 [ inl level ↦ absurd (omega (arith, level)) | inr some ↦ absurd cc ]

withdraws_without_a_ticket : ¬ Carries leafy asked (record withdraws { tickets = [] }) phase.Withdraw
withdraws_without_a_ticket = λ is. omega (arith, is.3.some)

-- the first write goes to the device with its block
may_store : Carries leafy took (writes phase.Store) phase.Store
may_store = (
  record {
    turn = record {
      is_placed = record { for_block = tt; placed = refl; not_entered = refl };
      quiet = record { all_committed = refl; all_done = refl };
      below = record { writes = tt; reads = tt };
    };
    old_data = tt;
    old_is = λ fair. absurd (unfair _ fair);
  },
  refl,
  tt,
  inr refl,
)

-- ClaimOk: its claim is on its block, which is a data block, in the phases in which it has one
has_its_claim : ClaimOk leafy (has_block phase.Store)
has_its_claim = record { claim_is = refl; on_data = λ is. record { slab = 0; offset = 6; inside = (omega arith, omega arith); stands = refl }; no_ticket = λ is. refl }

has_none_before : ClaimOk leafy claims
has_none_before = record { claim_is = refl; on_data = λ is. tt; no_ticket = λ is. refl }

without_its_claim : ¬ ClaimOk leafy (writes phase.Store)
without_its_claim = λ is. let no = is.claim_is in absurd cc

with_a_claim_once_counted : ¬ ClaimOk leafy (has_block phase.Settle)
with_a_claim_once_counted = λ is. let no = is.claim_is in absurd cc

with_no_data_block : ¬ ClaimOk leafy (record (has_block phase.Store) { new = At (block 78); claim = Some (block 78) })
with_no_data_block = λ is. let stands = (is.on_data refl).stands in omega (arith, stands)

-- and it has tickets in those alone in which it asks for a block
has_a_ticket : ClaimOk leafy (record claims { tickets = ticket 0 0 ∷ [] }) × ClaimOk leafy (record (has_block phase.Withdraw) { tickets = ticket 0 0 ∷ [] })
has_a_ticket = (
  record { claim_is = refl; on_data = λ is. tt; no_ticket = λ is. absurd cc },
  record { claim_is = refl; on_data = λ is. record { slab = 0; offset = 6; inside = (omega arith, omega arith); stands = refl }; no_ticket = λ is. absurd cc },
)

with_a_ticket_once_it_stores : ¬ ClaimOk leafy (record (has_block phase.Store) { tickets = ticket 0 0 ∷ [] })
with_a_ticket_once_it_stores = λ is. let no = is.no_ticket refl in cc

-- ItemOk: each comes to the zone where its phase is done
comes_to_the_blocks : ItemOk leafy took 3 (Request claims)
comes_to_the_blocks = (under_way, may_claim, refl, has_none_before)

goes_to_the_device : ItemOk leafy took 5 (Request (has_block phase.Store))
goes_to_the_device = (
  record { asked = refl; is_open = record { is_begun = omega arith; unanswered = refl }; address = omega arith; home = refl },
  may_store,
  refl,
  has_its_claim,
)

comes_to_the_device : ¬ ItemOk leafy took 5 (Request claims)
comes_to_the_device = λ is. omega (arith, is.2)

-- IsDecrement, IsReport: of a committed entry that replaces a data block; once it is taken
abbrev replaced : Trace
replaced = Commits (Remaps of_second) ∷ []

decrement : ItemOk leafy replaced 3 (Decrement of_second)
decrement = (record { committed = (0, omega arith, refl); block = block 85; old_is = refl; is_data = record { slab = 0; offset = 6; inside = (omega arith, omega arith); stands = refl } }, refl)

decrement_of_what_is_committed : ¬ ItemOk leafy [] 3 (Decrement of_second)
decrement_of_what_is_committed = λ is. omega (arith, is.0.committed.1)

decrement_of_a_block : ¬ ItemOk leafy (Commits (Remaps of_first) ∷ []) 3 (Decrement of_first)
decrement_of_a_block = λ is. let no = is.0.old_is in absurd cc

decrement_elsewhere : ¬ ItemOk leafy replaced 4 (Decrement of_second)
decrement_elsewhere = λ is. omega (arith, is.1)

report : ItemOk leafy (Removes of_second None ∷ replaced) 1 (Report of_second)
report = (record { decrement = decrement_then; reported = inl (0, omega arith, refl) }, refl)
  where
    decrement_then : IsDecrement leafy (Removes of_second None ∷ replaced) of_second
    decrement_then = record { committed = (0, omega arith, refl); block = block 85; old_is = refl; is_data = record { slab = 0; offset = 6; inside = (omega arith, omega arith); stands = refl } }

report_of_what_was_taken : ¬ ItemOk leafy replaced 1 (Report of_second)
report_of_what_was_taken = λ is. elim is.0.reported [ inl removed ↦ omega (arith, removed.1) | inr strayed ↦ omega (arith, strayed.1) ]

report_elsewhere : ¬ ItemOk leafy (Removes of_second None ∷ replaced) 2 (Report of_second)
report_elsewhere = λ is. omega (arith, is.1)

-- DataOk of the physical zone, where the one claim is that of the first write: the lists by what holds of each block
module _ (lists : PhysicalLists leafy took (physical_of nothing one)) (sound : IsSoundPhysical leafy (physical_of nothing one)) where
  one_is_claimed : DataOk leafy took 3 (physical nothing one)
  one_is_claimed = record { number_is = refl; lists = lists; sound = sound; kept = tt; answers = tt; told = tt }

of_the_journal's_number : ¬ DataOk leafy took 4 (physical nothing one)
of_the_journal's_number = λ is. omega (arith, is.number_is)

own : IsOfZone (zone_with (slab_with nothing one)) (block 85)
own = record { data_block = record { slab = 0; offset = 6; inside = (omega arith, omega arith); stands = refl }; own = refl }

-- PhysicalLists: each use of a block is one of the trace, and each counter has the updates that were taken
a_claim_too_few : ¬ PhysicalLists leafy took (physical_of nothing nothing)
a_claim_too_few = λ lists. let uses = lists.uses (block 85) own in omega (arith, uses)

-- of a stray of another zone it keeps nothing
strays_of_its_own : (replaced_in sizes 0 (of_second ∷ []) ≡ of_second ∷ []) × (replaced_in sizes 1 (of_second ∷ []) ≡ [])
strays_of_its_own = (refl, refl)

a_claim_too_many : ¬ PhysicalLists leafy [] (physical_of nothing one)
a_claim_too_many = λ lists. let uses = lists.uses (block 85) own in omega (arith, uses)

a_counter_too_many : ¬ PhysicalLists leafy [] (physical_of seven nothing)
a_counter_too_many = λ lists. let counters = lists.counters (block 85) own in omega (arith, counters)

stray_unkept : (t : Trace) → replaced_in sizes 0 (strayed t) ≢ [] → ¬ PhysicalLists leafy t (physical_of nothing one)
stray_unkept t some = λ lists. some (sym lists.strays_are)

-- and what it knows of its tickets is what happened to them: of each number, and how many it gave
abbrev with_tickets : ℕ → ℕ → List Waiting → PhysicalZone
with_tickets step issued out = record { notified = false; strays = []; counts = stepped (zone_with (slab_with nothing nothing)) step issued out }

as_it_was_asked : (number : ℕ) → ticket_of (with_tickets 0 1 (waiting second 0 None ∷ [])).counts.desk.out number ≡ ticket_at sizes (one_asked took) 0 number
as_it_was_asked number = elim (eqb_tells 0 number) [ inl same ↦ rw same.0 refl | inr differs ↦ rw differs.0 refl ]

a_ticket_too_few : ¬ PhysicalLists leafy (one_asked took) (with_tickets 0 1 [])
a_ticket_too_few = λ lists. let no = lists.tickets_are 0 in cc

a_ticket_too_many : ¬ PhysicalLists leafy (Withdraws second (ticket 0 0) None ∷ one_asked took) (with_tickets 0 1 (waiting second 0 None ∷ []))
a_ticket_too_many = λ lists. let no = lists.tickets_are 0 in cc

a_ticket_without_its_block : ¬ PhysicalLists leafy (one_has (one_asked took)) (with_tickets 0 1 (waiting second 0 None ∷ []))
a_ticket_without_its_block = λ lists. let no = lists.tickets_are 0 in cc

issued_anew : ¬ PhysicalLists leafy (Withdraws second (ticket 0 0) None ∷ one_asked took) (with_tickets 0 0 [])
issued_anew = λ lists. omega (arith, lists.issued_is)

-- and each asked in the step of its ticket
as_it_was_issued : All (WasIssued (one_asked took) 0) (with_tickets 0 1 (waiting second 0 None ∷ [])).counts.desk.out
as_it_was_issued = All-push (WasIssued (one_asked took) 0) [] (waiting second 0 None) (All-nil (WasIssued (one_asked took) 0)) (0, omega arith, refl)

asked_in_another_step : ¬ PhysicalLists leafy (one_asked took) (with_tickets 0 1 (record (waiting second 0 None) { asked = 3 } ∷ []))
asked_in_another_step = λ lists. absurd (let found = has_asked second 0 took (record (ticket 0 0) { asked = 3 }) refl (other_than_one (lists.out_are 0 (record (waiting second 0 None) { asked = 3 }) (omega arith))) in omega (arith, found))
  where
    step_of : Happening → ℕ
    step_of (Asks w k) = k.asked
    step_of h = 0

    other_than_one : Contains (one_asked took) (Asks second (record (ticket 0 0) { asked = 3 })) → Contains took (Asks second (record (ticket 0 0) { asked = 3 }))
    other_than_one (zero, low, is) = let steps = ap step_of is in absurd (omega (arith, steps))
    other_than_one (suc k, low, is) = (k, omega (arith, low), is)

-- IsSoundPhysical: the slabs of its number, in as many zones as the session has; a block that is claimed is mapped by nobody, and
-- claimed once
claimed_and_mapped : ¬ AreFirstClaims (zone_with (slab_with seven one))
claimed_and_mapped = λ are. let both = (are (block 85) (omega arith)).0 in omega (arith, both)

claimed_twice : ¬ AreFirstClaims (zone_with (slab_with nothing (slice_set nothing 6 2)))
claimed_twice = λ are. let both = (are (block 85) (omega arith)).1 in omega (arith, both)

of_other_sizes : (p : PhysicalZone) → p.counts.geometry.slabs ≡ 2 → ¬ IsSoundPhysical leafy p
of_other_sizes p two = λ is. let same = ap (λ (g : Geometry). g.slabs) is.geometry in omega (arith, two, same)

of_two_zones : (p : PhysicalZone) → p.counts.zones ≡ 2 → ¬ IsSoundPhysical leafy p
of_two_zones p two = λ is. let one_zone = is.zones in omega (arith, two, one_zone)

-- its tickets have numbers of their own, each was issued in a step of its own, and there is room for all that may be out
abbrev two_wait : List Waiting
two_wait = waiting second 0 None ∷ waiting other 1 None ∷ []

two_are_out : IsZone (with_tickets 1 2 two_wait).counts → AreFirstClaims (with_tickets 1 2 two_wait).counts → IsSoundPhysical leafy (with_tickets 1 2 two_wait)
two_are_out is first = record { is_zone = is; geometry = refl; zones = refl; numbered = (omega arith, (omega arith, omega arith)); few = omega arith; room = (omega arith, omega arith); passed = λ x some. absurd (omega (arith, some)); first_claims = first }

numbered_alike : ¬ IsSoundPhysical leafy (with_tickets 1 2 (waiting second 1 None ∷ waiting other 1 None ∷ []))
numbered_alike = λ is. omega (arith, is.numbered.1.0)

numbered_ahead : ¬ IsSoundPhysical leafy (with_tickets 1 2 (waiting second 0 None ∷ waiting other 2 None ∷ []))
numbered_ahead = λ is. omega (arith, is.numbered.1.1)

issued_in_one_step : ¬ IsSoundPhysical leafy (with_tickets 0 2 two_wait)
issued_in_one_step = λ is. omega (arith, is.few)

went_to_one : ¬ IsSoundPhysical leafy (with_tickets 1 1 (waiting second 0 (Some (block 1)) ∷ []))
went_to_one = λ is. let own = is.passed (block 1) (omega arith) in let place = own.data_block.stands in omega (arith, place)

with_less_room : (p : PhysicalZone) → p.counts.desk.room ≡ 63 → ¬ IsSoundPhysical leafy p
with_less_room p less = λ is. omega (arith, less, is.room.1)

-- HasTicketRoom: for twice as many as may be under way in sixteen streams, and for 32 at least
has_room : HasTicketRoom sizes 64 × HasTicketRoom (record sizes { depth = 0 }) 32
has_room = ((omega arith, omega arith), (omega arith, omega arith))

has_less_room : (¬ HasTicketRoom sizes 63) × (¬ HasTicketRoom (record sizes { depth = 0 }) 31)
has_less_room = (λ room. omega (arith, room.1), λ room. omega (arith, room.0))

-- ZoneOk: the zone of the blocks, of which the lists and the rest hold
abbrev lanes_with : List Item → List (List Item)
lanes_with to_the_device = [] ∷ [] ∷ [] ∷ [] ∷ [] ∷ to_the_device ∷ []

abbrev of_blocks : Zone
of_blocks = record {
  number = 3;
  steps = 4;
  keeps = physical nothing one;
  ports = record { inbox = Request claims ∷ []; outboxes = lanes_with (Request (has_block phase.Store) ∷ []) };
}

-- of a list, by its first and those behind it
each_next : {X : Type 0} (P : ℕ → X → Type 0) (x : X) (xs : List X) → P 0 x → Each (λ i. P (suc i)) xs → Each P (x ∷ xs)
each_next P x xs here later zero other at = let same : x ≡ other = cc in subst (P 0) same here
each_next P x xs here later (suc i) other at = later i other at

each_none : {X : Type 0} (P : ℕ → X → Type 0) → Each P []
each_none P i x at = absurd cc

abbrev LaneOk : ℕ → List Item → Type 0
LaneOk to lane = AllByRecursion (ItemOk leafy took to) lane

stores : LaneOk 5 (Request (has_block phase.Store) ∷ [])
stores = (goes_to_the_device, tt)

lanes_go_on : Each LaneOk (lanes_with (Request (has_block phase.Store) ∷ []))
lanes_go_on =
    each_next LaneOk [] ([] ∷ [] ∷ [] ∷ [] ∷ (Request (has_block phase.Store) ∷ []) ∷ []) tt
    (each_next (λ i. LaneOk (suc i)) [] ([] ∷ [] ∷ [] ∷ (Request (has_block phase.Store) ∷ []) ∷ []) tt
    (each_next (λ i. LaneOk (suc (suc i))) [] ([] ∷ [] ∷ (Request (has_block phase.Store) ∷ []) ∷ []) tt
    (each_next (λ i. LaneOk (suc (suc (suc i)))) [] ([] ∷ (Request (has_block phase.Store) ∷ []) ∷ []) tt
    (each_next (λ i. LaneOk (suc (suc (suc (suc i))))) [] ((Request (has_block phase.Store) ∷ []) ∷ []) tt
    (each_next (λ i. LaneOk (suc (suc (suc (suc (suc i)))))) (Request (has_block phase.Store) ∷ []) [] stores (each_none (λ i. LaneOk (suc (suc (suc (suc (suc (suc i)))))))))))))

goes_on : DataOk leafy took 3 (physical nothing one) → ZoneOk leafy took 3 of_blocks
goes_on own = record {
  number_is = refl;
  lanes = refl;
  inbox = (comes_to_the_blocks, tt);
  outboxes = lanes_go_on;
  to_itself = λ lane at. let is : ◌≡◌ (Some []) (Some lane) = at in cc;
  own = own;
  counted = omega arith;
}

of_another_number : ¬ ZoneOk leafy took 4 of_blocks
of_another_number = λ is. omega (arith, is.number_is)

with_a_lane_less : ¬ ZoneOk leafy took 3 (record of_blocks { ports = record of_blocks.ports { outboxes = [] ∷ [] ∷ [] ∷ [] ∷ [] ∷ [] } })
with_a_lane_less = λ is. omega (arith, is.lanes)

with_a_request_of_another_zone : ¬ ZoneOk leafy took 3 (record of_blocks { ports = record of_blocks.ports { inbox = Request (has_block phase.Store) ∷ [] } })
with_a_request_of_another_zone = λ is. omega (arith, is.inbox.0.2)

posts_to_the_wrong_zone : ¬ ZoneOk leafy took 3 (record of_blocks { ports = record of_blocks.ports { outboxes = lanes_with (Request claims ∷ []) } })
posts_to_the_wrong_zone = λ is. let at = is.outboxes 5 (Request claims ∷ []) refl in comes_to_the_device at.0

posts_to_itself : ¬ ZoneOk leafy took 3 (record of_blocks { ports = record of_blocks.ports { outboxes = [] ∷ [] ∷ [] ∷ (Request claims ∷ []) ∷ [] ∷ [] ∷ [] } })
posts_to_itself = λ is. let no = is.to_itself (Request claims ∷ []) refl in absurd cc

hands_a_block_out_unclaimed : ¬ ZoneOk leafy took 3 (record of_blocks { keeps = physical nothing nothing })
hands_a_block_out_unclaimed = λ is. a_claim_too_few is.own.lists

-- more steps with tickets than steps
with_its_steps : made_by (at.Physical (with_tickets 3 1 [])) ≡ of_blocks.steps
with_its_steps = refl

more_tickets_than_steps : ¬ ZoneOk leafy took 3 (record of_blocks { keeps = at.Physical (with_tickets 4 1 []) })
more_tickets_than_steps = λ is. omega (arith, is.counted)

-- more calls of the device than steps
more_calls_than_steps : (z : Zone) → z.steps ≡ 4 → z.keeps ≡ device false 5 → ¬ ZoneOk leafy took 5 z
more_calls_than_steps z steps keeps is = let many : 5 ≤ z.steps = rw keeps at is.counted in omega (arith, many, steps)
