-- The turns of a core of two zones: each clause with a case that it accepts and one that breaks it alone.
use Rattle.std.proofs.Common.{ℕ, suc, ◌≡◌, ◌∙◌, ◌++◌, Bool, Some, List, [], ◌∷◌, length, slice_get, refl, sym, ap, subst, inl, inr, arith}
use Rattle.std.proofs.lemmas.Option.{same_Some}
use Rattle.disk_model.specs.Numbers.{next_state, number_in}
use Rattle.disk_model.specs.Seen.{Seen}
use Rattle.disk_model.specs.Trust.{Trust}
use Rattle.data_vio.specs.declared.items.Item.{Item}
use Rattle.data_vio.specs.declared.items.Item.TheVariants.{StopNotice}
use Rattle.data_vio.specs.declared.sizes.Sizes.{Sizes}
use Rattle.core_model.specs.declared.zones.Zone.{Zone}
use Rattle.core_model.specs.declared.zones.ZoneData.{ZoneData}
use Rattle.core_model.specs.declared.zones.ZoneData.TheVariants as at
use Rattle.core_model.specs.Steps.{IsIdle}
use Rattle.core_model.specs.Trace.{Seals, Trace}
use Rattle.core_model.proofs.ZoneForms.{nothing, physical}
use Rattle.vdo_core.specs.Done.{IsDone}
use Rattle.vdo_core.specs.Moves.{has_items}
use Rattle.vdo_core.specs.Plays.{HasNoWork, PlaysOne, Vdo, vdo}
use Rattle.vdo_core.specs.declared.events.Event.{Event}
use Rattle.vdo_core.specs.declared.events.Event.TheVariants as event
use Rattle.schedule.specs.Turns.{AreReady, Drives, Driving, IsTurn, PlaysUntilDone, driving, event_count, event_of}
use Rattle.schedule.proofs.TurnLaws.{ready_once, turn_once}

-- event_count: a step of each zone, and a move from each to each
counts : (event_count 1 ≡ 2) × (event_count 2 ≡ 6) × (event_count 16 ≡ 272)
counts = (refl, refl, refl)

counts-not_steps_alone : event_count 2 ≡ 2 → ⊥
counts-not_steps_alone is = absurd (omega (arith, is))

-- event_of: the steps come first, and of the moves those of the first sender, each in the order of its receivers
steps_first : (event_of 3 0 ≡ event.Step 0) × (event_of 3 2 ≡ event.Step 2)
steps_first = (refl, refl)

then_moves : (event_of 3 3 ≡ event.Move 0 0) × (event_of 3 4 ≡ event.Move 0 1) × (event_of 3 6 ≡ event.Move 1 0) × (event_of 3 11 ≡ event.Move 2 2)
then_moves = (refl, refl, refl, refl)

then_moves-not_by_receiver : event_of 3 4 ≡ event.Move 1 0 → ⊥
then_moves-not_by_receiver is = absurd cc

steps_first-not_past_the_zones : event_of 3 3 ≡ event.Step 3 → ⊥
steps_first-not_past_the_zones is = absurd cc

-- one item
abbrev one : List Item
one = StopNotice ∷ []

-- Two zones. The first has an item in its inbox and one for the other; the second has no work.
abbrev sender : ZoneData → List Item → Zone
sender keeps outbox = record { number = 0; steps = 0; keeps = keeps; ports = record { inbox = one; outboxes = [] ∷ outbox ∷ [] } }

abbrev receiver : List Item → Zone
receiver inbox = record { number = 1; steps = 0; keeps = physical nothing nothing; ports = record { inbox = inbox; outboxes = [] ∷ [] ∷ [] } }

-- before that item moves, and after
abbrev zones : ZoneData → List Zone
zones keeps = sender keeps one ∷ receiver [] ∷ []

abbrev moved : ZoneData → List Zone
moved keeps = sender keeps [] ∷ receiver one ∷ []

-- the first zone is a desk all of whose requests are answered, since it has none; or it is no desk
abbrev done : ZoneData
done = at.Desk (record { requests = []; log = []; marks = []; receipts = []; notices = 0; parked = [] })

abbrev undone : ZoneData
undone = physical nothing nothing

is_done : IsDone (zones done)
is_done = record { zone = sender done one; desk = record { requests = []; log = []; marks = []; receipts = []; notices = 0; parked = [] }; had = refl; keeps = refl; full = refl }

isnt_done : IsDone (zones undone) → ⊥
isnt_done is =
    let keeps : undone ≡ at.Desk is.desk = ap (λ (z : Zone). z.keeps) (same_Some _ _ is.had) ∙ is.keeps in
    absurd cc

module _ (sizes : Sizes) (keeps : ZoneData) where
  -- which events there is work for
  step_of_first : HasNoWork sizes (zones keeps) (event.Step 0) → ⊥
  step_of_first none = elim (none (sender keeps one) refl) [
    | inl nothing ↦ let empty = nothing.inbox in absurd cc
    | inr many ↦ absurd (omega (arith, many))
  ]

  none_of_second : HasNoWork sizes (zones keeps) (event.Step 1)
  none_of_second z had = subst (λ (zone : Zone). IsIdle sizes zone) (same_Some _ _ had) (inl (record { inbox = refl; none_begins = λ begins. begins }))

  none_to_itself : (n : ℕ) → HasNoWork sizes (zones keeps) (event.Move n n)
  none_to_itself n source target apart had_source had_target = absurd (apart refl)

  move_to_second : HasNoWork sizes (zones keeps) (event.Move 0 1) → ⊥
  move_to_second none = let empty = none (sender keeps one) (receiver []) (λ same. omega (arith, same)) refl refl in absurd cc

  none_to_first : HasNoWork sizes (zones keeps) (event.Move 1 0)
  none_to_first source target apart had_source had_target =
      ap (λ (z : Zone). has_items (slice_get z.ports.outboxes 0)) (sym (same_Some _ _ had_source))

  -- AreReady: of no event none; of all those for which there is work, in their order
  abbrev both : List Event
  both = event.Step 0 ∷ event.Move 0 1 ∷ []

  ready_none : AreReady sizes (zones keeps) 0 []
  ready_none = refl

  ready_none-not_one : AreReady sizes (zones keeps) 0 (event.Step 0 ∷ []) → ⊥
  ready_none-not_one are = absurd cc

  ready : AreReady sizes (zones keeps) 6 both
  ready =
      inl (none_to_itself 1, inl (none_to_first, inr (event.Step 0 ∷ [], refl, move_to_second, inl (none_to_itself 0, inl (none_of_second, inr ([], refl, step_of_first, refl))))))

  ready-not_without_work : AreReady sizes (zones keeps) 6 (event.Step 0 ∷ event.Step 1 ∷ event.Move 0 1 ∷ []) → ⊥
  ready-not_without_work are = let same = ready_once sizes (zones keeps) 6 both _ ready are in absurd cc

  ready-none_left_out : AreReady sizes (zones keeps) 6 (event.Step 0 ∷ []) → ⊥
  ready-none_left_out are = let same = ready_once sizes (zones keeps) 6 both _ ready are in absurd cc

  ready-in_no_other_order : AreReady sizes (zones keeps) 6 (event.Move 0 1 ∷ event.Step 0 ∷ []) → ⊥
  ready-in_no_other_order are = let same = ready_once sizes (zones keeps) 6 both _ ready are in absurd cc

  -- IsTurn: from the state 0 the numbers are 167951807 and 218396424, so the second of the two comes first
  first_turn : IsTurn sizes (zones keeps) 0 (event.Move 0 1)
  unfolding next_state number_in
  first_turn = record { ready = both; are_ready = ready; is = refl }

  second_turn : IsTurn sizes (zones keeps) 1442695040888963407 (event.Step 0)
  unfolding next_state number_in
  second_turn = record { ready = both; are_ready = ready; is = refl }

  first_turn-not_another_place : IsTurn sizes (zones keeps) 0 (event.Step 0) → ⊥
  first_turn-not_another_place is = let same = turn_once sizes (zones keeps) 0 _ _ first_turn is in absurd cc

  first_turn-not_without_work : IsTurn sizes (zones keeps) 0 (event.Step 1) → ⊥
  first_turn-not_without_work is = let same = turn_once sizes (zones keeps) 0 _ _ first_turn is in absurd cc

  -- how many items the second zone of two has in its inbox
  abbrev received : List Zone → ℕ
  received [] = 0
  received (a ∷ []) = 0
  received (a ∷ b ∷ rest) = length b.ports.inbox

  -- the move, and what it leaves
  plays : (trust : Trust) (seen : Seen) → PlaysOne trust sizes (event.Move 0 1) (vdo (zones keeps) seen) (vdo (moved keeps) seen) []
  plays trust seen = inl (
    record {
      source = sender keeps one;
      target = receiver [];
      part = one;
      apart = λ same. omega (arith, same);
      had_source = refl;
      had_target = refl;
      outbox = refl;
      has = refl;
    },
    refl,
    refl,
  )

  makes_nothing : (trust : Trust) (before : Seen) (new : Vdo) (made : Trace)
      → PlaysOne trust sizes (event.Move 0 1) (vdo (zones keeps) before) new made → made ≡ []
  makes_nothing trust before new made (inl (moves, silent, nothing)) = nothing
  makes_nothing trust before new made (inr (none, same, nothing)) = nothing

  brings_one : (trust : Trust) (before : Seen) (new : Vdo) (made : Trace)
      → PlaysOne trust sizes (event.Move 0 1) (vdo (zones keeps) before) new made → received new.zones ≡ 1
  brings_one trust before new made (inl (moves, silent, nothing)) =
      let target : receiver [] ≡ moves.target = same_Some _ _ moves.had_target in
      let source : sender keeps one ≡ moves.source = same_Some _ _ moves.had_source in
      let part : one ≡ moves.part = same_Some _ _ (subst (λ (z : Zone). slice_get z.ports.outboxes 1 ≡ Some moves.part) (sym source) moves.outbox) in
      ap received moves.has ∙ ap (λ (z : Zone). length (z.ports.inbox ++ moves.part)) (sym target) ∙ ap length (sym part)
  brings_one trust before new made (inr (none, same, nothing)) = absurd (move_to_second none)

module _ (trust : Trust) (sizes : Sizes) (seen : Seen) where
  -- Drives: no turn changes nothing
  no_turn : Drives trust sizes [] (driving 7 (zones undone) seen) (driving 7 (zones undone) seen) []
  no_turn = (refl, refl)

  no_turn-of_the_state : Drives trust sizes [] (driving 7 (zones undone) seen) (driving 8 (zones undone) seen) [] → ⊥
  no_turn-of_the_state d = let same = ap (λ (new : Driving). new.state) d.0 in absurd (omega (arith, same))

  no_turn-of_the_zones : Drives trust sizes [] (driving 7 (zones undone) seen) (driving 7 (moved undone) seen) [] → ⊥
  no_turn-of_the_zones d = let same = ap (λ (new : Driving). received sizes undone new.vdo.zones) d.0 in absurd (omega (arith, same))

  no_turn-of_the_device : Drives trust sizes [] (driving 7 (zones undone) seen) (driving 7 (zones undone) (record seen { faults = suc seen.faults })) [] → ⊥
  no_turn-of_the_device d = let same = ap (λ (new : Driving). new.vdo.seen.faults) d.0 in absurd (omega (arith, same))

  no_turn-of_the_trace : Drives trust sizes [] (driving 7 (zones undone) seen) (driving 7 (zones undone) seen) (Seals ∷ []) → ⊥
  no_turn-of_the_trace d = let nothing = d.1 in absurd cc

  -- a turn takes its event, and steps the state, where the core isn't done
  one_turn : Drives trust sizes (event.Move 0 1 ∷ []) (driving 0 (zones undone) seen) (driving (next_state 0) (moved undone) seen) []
  one_turn = (vdo (moved undone) seen, [], [], isnt_done, first_turn sizes undone, plays sizes undone trust seen, (refl, refl), refl)

  one_turn-of_a_core_that_is_done : Drives trust sizes (event.Move 0 1 ∷ []) (driving 0 (zones done) seen) (driving (next_state 0) (moved done) seen) [] → ⊥
  one_turn-of_a_core_that_is_done (between, first, later, isnt, turn, one, rest, is) = isnt is_done

  one_turn-not_another : (new : List Zone) (made : Trace)
      → Drives trust sizes (event.Step 0 ∷ []) (driving 0 (zones undone) seen) (driving (next_state 0) new seen) made → ⊥
  one_turn-not_another new made (between, first, later, isnt, turn, one, rest, is) = first_turn-not_another_place sizes undone turn

  one_turn-of_the_zones : Drives trust sizes (event.Move 0 1 ∷ []) (driving 0 (zones undone) seen) (driving (next_state 0) (zones undone) seen) [] → ⊥
  one_turn-of_the_zones (between, first, later, isnt, turn, one, rest, is) =
      let brought = brings_one sizes undone trust seen between first one in
      let same = ap (λ (new : Driving). received sizes undone new.vdo.zones) rest.0 in
      absurd (omega (arith, brought, same))

  one_turn-of_the_state : Drives trust sizes (event.Move 0 1 ∷ []) (driving 0 (zones undone) seen) (driving 0 (moved undone) seen) [] → ⊥
  unfolding next_state
  one_turn-of_the_state (between, first, later, isnt, turn, one, rest, is) = let same = ap (λ (new : Driving). new.state) rest.0 in absurd (omega (arith, same))

  one_turn-of_the_trace : Drives trust sizes (event.Move 0 1 ∷ []) (driving 0 (zones undone) seen) (driving (next_state 0) (moved undone) seen) (Seals ∷ []) → ⊥
  one_turn-of_the_trace (between, first, later, isnt, turn, one, rest, is) =
      let early = makes_nothing sizes undone trust seen between first one in
      let nothing : Seals ∷ [] ≡ [] = is ∙ ap (λ (t : Trace). t ++ first) rest.1 ∙ early in
      absurd cc

  -- PlaysUntilDone: no event changes nothing
  no_event : PlaysUntilDone trust sizes [] (vdo (zones undone) seen) (vdo (zones undone) seen) []
  no_event = (refl, refl)

  no_event-of_the_zones : PlaysUntilDone trust sizes [] (vdo (zones undone) seen) (vdo (moved undone) seen) [] → ⊥
  no_event-of_the_zones p = let same = ap (λ (new : Vdo). received sizes undone new.zones) p.0 in absurd (omega (arith, same))

  no_event-of_the_device : PlaysUntilDone trust sizes [] (vdo (zones undone) seen) (vdo (zones undone) (record seen { faults = suc seen.faults })) [] → ⊥
  no_event-of_the_device p = let same = ap (λ (new : Vdo). new.seen.faults) p.0 in absurd (omega (arith, same))

  no_event-of_the_trace : PlaysUntilDone trust sizes [] (vdo (zones undone) seen) (vdo (zones undone) seen) (Seals ∷ []) → ⊥
  no_event-of_the_trace p = let nothing = p.1 in absurd cc

  -- an event is played where the core isn't done, and only there
  one_event : PlaysUntilDone trust sizes (event.Move 0 1 ∷ []) (vdo (zones undone) seen) (vdo (moved undone) seen) []
  one_event = inr (vdo (moved undone) seen, [], [], isnt_done, plays sizes undone trust seen, (refl, refl), refl)

  one_event-not_left_out : PlaysUntilDone trust sizes (event.Move 0 1 ∷ []) (vdo (zones undone) seen) (vdo (zones undone) seen) [] → ⊥
  one_event-not_left_out (inl (is, same, nothing)) = isnt_done is
  one_event-not_left_out (inr (between, first, later, isnt, played, (same, nothing), is)) =
      let brought = brings_one sizes undone trust seen between first played in
      let stays = ap (λ (new : Vdo). received sizes undone new.zones) same in
      absurd (omega (arith, brought, stays))

  no_event_once_done : PlaysUntilDone trust sizes (event.Move 0 1 ∷ []) (vdo (zones done) seen) (vdo (zones done) seen) []
  no_event_once_done = inl (is_done, refl, refl)

  no_event_once_done-not_played : PlaysUntilDone trust sizes (event.Move 0 1 ∷ []) (vdo (zones done) seen) (vdo (moved done) seen) [] → ⊥
  no_event_once_done-not_played (inl (is, same, nothing)) = let stays = ap (λ (new : Vdo). received sizes done new.zones) same in absurd (omega (arith, stays))
  no_event_once_done-not_played (inr (between, first, later, isnt, played, rest, is)) = isnt is_done

  no_event_once_done-of_the_trace : PlaysUntilDone trust sizes (event.Move 0 1 ∷ []) (vdo (zones done) seen) (vdo (zones done) seen) (Seals ∷ []) → ⊥
  no_event_once_done-of_the_trace (inl (is, same, nothing)) = absurd cc
  no_event_once_done-of_the_trace (inr (between, first, later, isnt, played, rest, is)) = isnt is_done
