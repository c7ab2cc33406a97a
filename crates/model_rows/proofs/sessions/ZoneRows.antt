-- The zones, the table of phases and stages, and the steps of a zone, at a core of two logical zones.
use Rattle.std.proofs.Common.{◌≡◌, ◌+◌, ℕ, Bool, true, false, Some, List, [], ◌∷◌, length, refl, inl, inr, arith}
use Rattle.blk_base.specs.declared.place.ZoneId.{ZoneId}
use Rattle.blk_base.specs.declared.place.ZoneId.TheVariants as id
use Rattle.blk_base.specs.declared.request.Writer.{Writer}
use Rattle.data_vio.specs.declared.items.Item.{Item}
use Rattle.data_vio.specs.declared.items.Item.TheVariants.{Request, StopNotice}
use Rattle.data_vio.specs.declared.items.Phase.{Phase}
use Rattle.data_vio.specs.declared.items.Phase.TheVariants as phase
use Rattle.data_vio.specs.declared.items.Stage.{Stage}
use Rattle.data_vio.specs.declared.items.Stage.TheVariants as stage
use Rattle.core_model.specs.declared.zones.Zone.{Zone}
use Rattle.core_model.specs.declared.zones.ZoneData.{ZoneData}
use Rattle.core_model.specs.declared.zones.ZoneData.TheVariants as at
use Rattle.core_model.specs.Facts.{arriving}
use Rattle.core_model.specs.RequestFacts.{zone_at, zone_of_stage}
use Rattle.data_vio.specs.Phases.{AtDesk, AtDevice, AtHome, AtJournal, AtPhysical, AtTicket, InNoLane, Where, number_at, phase_rule, stage_rule}
use Rattle.core_model.specs.Steps.{ZoneStep, IsIdle, takes_notice}
use Rattle.core_model.specs.Tokens.{holds, owes, has_entry, kept_items}
use Rattle.blk_base.specs.Regions.{first_slab_of, slab_stride_of}
use Rattle.blk_base.specs.declared.place.Pbn.{Pbn}
use Rattle.blk_base.specs.Forms.{pbn as block}
use Rattle.data_vio.specs.Vios.{counts_of, ticket_zone}
use Rattle.data_vio.specs.Zones.{IsZone, counts_in, physical_zone_of, zone_number, zone_count, notified, notified_zones}
use Rattle.data_vio.specs.declared.items.Vio.{Vio}
use Rattle.core_model.proofs.ZoneForms.{desk, empty_log, logical, nothing, one, physical, slab_with, zone_with, journal, device}
use Rattle.model_rows.proofs.sessions.PhaseRows.{writes, reads}
use Rattle.model_rows.proofs.sessions.TicketTraces.{ticket, two}
use Rattle.core_model.proofs.WorkedTraces.{first, sizes}

-- the desk, two logical zones, one physical zone, the journal and the device are there, and have the numbers from 0 to 5
are_zones : IsZone sizes id.Desk × IsZone sizes (id.Logical 0) × IsZone sizes (id.Logical 1) × IsZone sizes (id.Physical 0) × IsZone sizes id.Journal × IsZone sizes id.Device
are_zones = (omega arith, omega arith, omega arith, omega arith, omega arith, omega arith)

abbrev numbers : List ZoneId → List ℕ
numbers [] = []
numbers (name ∷ names) = zone_number sizes name ∷ numbers names

have_numbers : numbers (id.Desk ∷ id.Logical 0 ∷ id.Logical 1 ∷ id.Physical 0 ∷ id.Journal ∷ id.Device ∷ []) ≡ 0 ∷ 1 ∷ 2 ∷ 3 ∷ 4 ∷ 5 ∷ []
have_numbers = refl

-- others aren't there: a third logical zone, a second physical one, a hash zone, the index; a kind that no core has yet has
-- the number behind all
no_logical_zone : IsZone sizes (id.Logical 2) → ⊥
no_logical_zone is = absurd (omega (arith, is))

no_physical_zone : IsZone sizes (id.Physical 1) → ⊥
no_physical_zone is = absurd (omega (arith, is))

no_others : (IsZone sizes (id.Hash 0) → ⊥) × (IsZone sizes id.Index → ⊥) × (zone_number sizes (id.Hash 0) ≡ zone_count sizes) × (zone_number sizes id.Index ≡ zone_count sizes)
no_others = (λ is. absurd (omega (arith, is)), λ is. absurd (omega (arith, is)), refl, refl)

-- the device notifies all but the desk and itself
are_notified : (notified sizes ≡ id.Journal ∷ id.Physical 0 ∷ id.Logical 1 ∷ id.Logical 0 ∷ []) × (length (notified sizes) ≡ notified_zones sizes)
are_notified = (refl, refl)

-- where there are two physical zones, these have the numbers behind the logical ones, and both are notified
are_two : IsZone two (id.Physical 0) × IsZone two (id.Physical 1) × (IsZone two (id.Physical 2) → ⊥) × (zone_number two (id.Physical 0) ≡ 3) × (zone_number two (id.Physical 1) ≡ 4) × (zone_number two id.Journal ≡ 5) × (zone_number two id.Device ≡ 6)
    × (zone_count two ≡ 7)
are_two = (omega arith, omega arith, λ is. absurd (omega (arith, is)), refl, refl, refl, refl, refl)

both_notified : (notified two ≡ id.Journal ∷ id.Physical 1 ∷ id.Physical 0 ∷ id.Logical 1 ∷ id.Logical 0 ∷ []) × (length (notified two) ≡ notified_zones two)
both_notified = (refl, refl)

-- the slabs go round among them: the first slab is counted in zone 0, the second in zone 1; one zone has both
abbrev of_slab_1 : Pbn
of_slab_1 = block (first_slab_of two.geometry + slab_stride_of two.geometry)

go_round : (physical_zone_of two (block 85) ≡ 0) × (physical_zone_of two of_slab_1 ≡ 1) × (physical_zone_of (record two { physical = 1 }) of_slab_1 ≡ 0) × (counts_in two of_slab_1 ≡ id.Physical 1)
go_round = (refl, refl, refl, refl)

-- a request asks the zone that its place says, and with each ticket the next one; once it has a claim, that is the zone of the block
ask_in_turn : (counts_of two (record (writes phase.Look) { place = 1 }) ≡ id.Physical 1) × (counts_of two (record (writes phase.Look) { place = 2 }) ≡ id.Physical 0)
    × (counts_of two (record (writes phase.Count) { place = 1; claim = Some (block 85) }) ≡ id.Physical 0) × (counts_of two (record (writes phase.Count) { place = 0; claim = Some of_slab_1 }) ≡ id.Physical 1)
ask_in_turn = (refl, refl, refl, refl)

ask_on : (counts_of two (record (writes phase.Claim) { place = 1; tickets = ticket 1 0 ∷ [] }) ≡ id.Physical 0) × (counts_of two (record (writes phase.Claim) { place = 2; tickets = ticket 0 4 ∷ [] }) ≡ id.Physical 1)
ask_on = (refl, refl)

-- what it holds is withdrawn in the zone of its oldest ticket
of_the_oldest : (ticket_zone (ticket 1 0 ∷ ticket 0 2 ∷ []) ≡ id.Physical 1) × (ticket_zone (ticket 0 2 ∷ []) ≡ id.Physical 0) × (ticket_zone [] ≡ id.Desk)
of_the_oldest = (refl, refl, refl)

abbrev Places : Where → ℕ → Type 0
Places place number = number_at two (id.Logical 1) (id.Physical 0) (id.Physical 1) place ≡ number

are_placed : Places AtTicket 4 × Places AtPhysical 3 × Places AtHome 2 × Places AtDesk 0 × Places AtJournal 5 × Places AtDevice 6 × Places InNoLane 7
are_placed = (refl, refl, refl, refl, refl, refl, refl)

withdraws_at_its_zone : (zone_at two (record (writes phase.Withdraw) { tickets = ticket 1 0 ∷ ticket 0 2 ∷ []; claim = Some (block 85) }) phase.Withdraw ≡ 4)
    × (zone_at two (record (writes phase.Claim) { tickets = ticket 1 0 ∷ []; place = 1 }) phase.Claim ≡ 3)
withdraws_at_its_zone = (refl, refl)

abbrev of_zone_1 : Vio
of_zone_1 = record (writes phase.Look) { home = id.Logical 1; tickets = ticket 0 0 ∷ [] }

-- A line of the table of phases, of a request of logical zone 1 with a ticket of the physical zone: the number of the zone where it is
-- done (the count of the zones is none), and whether it has the lock, has a claim, may have tickets, owes an increment, has yet to
-- arrive, and has an entry.
abbrev IsRow : Phase → ℕ → Bool → Bool → Bool → Bool → List Writer → Bool → Type 0
IsRow now number locks claims asking owing arrives entered =
    (zone_at sizes of_zone_1 now ≡ number) × (holds now ≡ locks) × ((phase_rule now).claims ≡ claims) × ((phase_rule now).asks ≡ asking) × (owes now ≡ owing) × (arriving now first ≡ arrives) × (has_entry now ≡ entered)

row_arrive : IsRow phase.Arrive 2 false false false false (first ∷ []) false
row_arrive = (refl, refl, refl, refl, refl, refl, refl)

row_wait : IsRow phase.Wait (zone_count sizes) false false false false [] false
row_wait = (refl, refl, refl, refl, refl, refl, refl)

row_look : IsRow phase.Look 2 true false false false [] false
row_look = (refl, refl, refl, refl, refl, refl, refl)

row_load_leaf : IsRow phase.LoadLeaf 5 true false false false [] false
row_load_leaf = (refl, refl, refl, refl, refl, refl, refl)

row_loaded_leaf : IsRow phase.LoadedLeaf 2 true false false false [] false
row_loaded_leaf = (refl, refl, refl, refl, refl, refl, refl)

row_claim : IsRow phase.Claim 3 true false true false [] false
row_claim = (refl, refl, refl, refl, refl, refl, refl)

row_withdraw : IsRow phase.Withdraw 3 true true true false [] false
row_withdraw = (refl, refl, refl, refl, refl, refl, refl)

row_store : IsRow phase.Store 5 true true false false [] false
row_store = (refl, refl, refl, refl, refl, refl, refl)

row_enter : IsRow phase.Enter 4 true true false false [] false
row_enter = (refl, refl, refl, refl, refl, refl, refl)

row_pending : IsRow phase.Pending (zone_count sizes) true true false true [] true
row_pending = (refl, refl, refl, refl, refl, refl, refl)

row_count : IsRow phase.Count 3 true true false true [] true
row_count = (refl, refl, refl, refl, refl, refl, refl)

row_settle : IsRow phase.Settle 2 true false false false [] true
row_settle = (refl, refl, refl, refl, refl, refl, refl)

row_load : IsRow phase.Load 5 true false false false [] false
row_load = (refl, refl, refl, refl, refl, refl, refl)

row_loaded : IsRow phase.Loaded 2 true false false false [] false
row_loaded = (refl, refl, refl, refl, refl, refl, refl)

row_abort_claim : IsRow phase.AbortClaim 3 true true false false [] false
row_abort_claim = (refl, refl, refl, refl, refl, refl, refl)

row_abort : IsRow phase.Abort 2 true false false false [] false
row_abort = (refl, refl, refl, refl, refl, refl, refl)

row_abort_entered_claim : IsRow phase.AbortEnteredClaim 3 true true false true [] true
row_abort_entered_claim = (refl, refl, refl, refl, refl, refl, refl)

row_abort_entered : IsRow phase.AbortEntered 2 true false false false [] true
row_abort_entered = (refl, refl, refl, refl, refl, refl, refl)

row_flush : IsRow phase.Flush 5 false false false false [] false
row_flush = (refl, refl, refl, refl, refl, refl, refl)

row_reply : IsRow phase.Reply 0 false false false false [] false
row_reply = (refl, refl, refl, refl, refl, refl, refl)

-- a line of the table of stages: the number of the zone where it is done, and the stage behind it
abbrev IsStageRow : Stage → ℕ → Stage → Type 0
IsStageRow now number next = (zone_of_stage sizes now ≡ number) × ((stage_rule now).next ≡ next)

row_of_stages : IsStageRow stage.Cover 5 stage.Write × IsStageRow stage.Write 5 stage.Harden × IsStageRow stage.Harden 5 stage.Commit × IsStageRow stage.Commit 4 stage.Commit × IsStageRow stage.Fail 4 stage.Fail
row_of_stages = ((refl, refl), (refl, refl), (refl, refl), (refl, refl), (refl, refl))

-- what each kind of zone keeps beside its lanes
kept_requests : (kept_items (desk [] [] 0 (writes phase.Reply ∷ [])) ≡ Request (writes phase.Reply) ∷ []) × (kept_items (logical 1 [] [] (reads phase.Wait ∷ []) [] []) ≡ Request (reads phase.Wait) ∷ [])
    × (kept_items (journal true empty_log (writes phase.Pending ∷ []) (reads phase.Enter ∷ []) [] []) ≡ Request (writes phase.Pending) ∷ Request (reads phase.Enter) ∷ [])
kept_requests = (refl, refl, refl)

kept_none : (kept_items (physical nothing one) ≡ []) × (kept_items (device false 6) ≡ [])
kept_none = (refl, refl)

-- the physical zone that made so many steps, with the stop notice in its inbox
abbrev of_steps : ℕ → ZoneData → List Item → List (List Item) → Zone
of_steps made keeps inbox outboxes = record { number = 3; steps = made; keeps = keeps; ports = record { inbox = inbox; outboxes = outboxes } }

abbrev told : ZoneData
told = at.Physical (record { notified = true; strays = []; counts = zone_with (slab_with nothing one) })

-- a step is counted, up to the last one
counts_a_step : ZoneStep sizes (of_steps 7 (physical nothing one) (StopNotice ∷ []) ([] ∷ [])) (of_steps 8 told [] ((StopNotice ∷ []) ∷ [])) []
counts_a_step = record { front = StopNotice ∷ []; rest = []; posts = _; counts = omega arith; taken = refl; in_turn = λ none. absurd cc; act = takes_notice; lanes = refl }

counts_the_last : ZoneStep sizes (of_steps 18446744073709551614 (physical nothing one) (StopNotice ∷ []) ([] ∷ [])) (of_steps 18446744073709551615 told [] ((StopNotice ∷ []) ∷ [])) []
counts_the_last = record { front = StopNotice ∷ []; rest = []; posts = _; counts = omega arith; taken = refl; in_turn = λ none. absurd cc; act = takes_notice; lanes = refl }

-- none is made behind that, and then the zone has no work, though an item lies in its inbox
makes_no_more : (new : Zone) → ZoneStep sizes (of_steps 18446744073709551615 (physical nothing one) (StopNotice ∷ []) ([] ∷ [])) new [] → ⊥
makes_no_more new step = let below = step.counts in absurd (omega (arith, below))

has_no_more_work : IsIdle sizes (of_steps 18446744073709551615 (physical nothing one) (StopNotice ∷ []) ([] ∷ []))
has_no_more_work = inr (omega arith)

-- before that it has work where an item lies in its inbox, and none where none does
has_work : IsIdle sizes (of_steps 18446744073709551614 (physical nothing one) (StopNotice ∷ []) ([] ∷ [])) → ⊥
has_work (inl nothing) = let empty = nothing.inbox in absurd cc
has_work (inr all) = absurd (omega (arith, all))

has_no_work : IsIdle sizes (of_steps 7 (physical nothing one) [] ([] ∷ []))
has_no_work = inl (record { inbox = refl; none_begins = λ may. may })
