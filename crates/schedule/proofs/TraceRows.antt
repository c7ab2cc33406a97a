-- What happens by the turns, and by the events up to the end, of a core of one desk that begins two flushes of one stream:
-- that of the later one stands in front.
use Rattle.std.proofs.Common.{◌≡◌, Bool, List, [], ◌∷◌, ◌++◌, refl, ap, inl, inr, arith}
use Rattle.disk_model.specs.Numbers.{next_state, number_in}
use Rattle.disk_model.specs.Seen.{Seen}
use Rattle.disk_model.specs.Trust.{Trust}
use Rattle.core_model.specs.declared.zones.Zone.{Zone}
use Rattle.core_model.specs.Trace.{Says}
use Rattle.core_model.proofs.WorkedTraces.{sizes}
use Rattle.vdo_core.specs.Plays.{HasNoWork, vdo}
use Rattle.vdo_core.specs.declared.events.Event.{Event}
use Rattle.vdo_core.specs.declared.events.Event.TheVariants as event
use Rattle.vdo_core.proofs.PlayRows.{core_0, core_1, core_2, desk, first_step, has_work, has_work_still, line_of, oldest, oldest_on, played_first, second_step, undone}
use Rattle.schedule.specs.Turns.{AreReady, Drives, IsTurn, PlaysUntilDone, driving}

-- the step of the desk is the one event for which there is work
none_to_itself : (zone : Zone) → HasNoWork sizes (zone ∷ []) (event.Move 0 0)
none_to_itself zone source target apart had_source had_target = absurd (apart refl)

ready : (zone : Zone) → (HasNoWork sizes (zone ∷ []) (event.Step 0) → ⊥) → AreReady sizes (zone ∷ []) 2 (event.Step 0 ∷ [])
ready zone some = inl (none_to_itself zone, inr ([], refl, some, refl))

first_turn : IsTurn sizes core_0 0 (event.Step 0)
unfolding next_state number_in
first_turn = record { ready = event.Step 0 ∷ []; are_ready = ready (desk 0 []) has_work; is = refl }

second_turn : IsTurn sizes core_1 (next_state 0) (event.Step 0)
unfolding next_state number_in
second_turn = record { ready = event.Step 0 ∷ []; are_ready = ready (desk 1 (line_of 0 ∷ [])) has_work_still; is = refl }

abbrev steps : List Event
steps = event.Step 0 ∷ event.Step 0 ∷ []

module _ (trust : Trust) (seen : Seen) where
  -- Drives
  two_turns : Drives trust sizes steps (driving 0 core_0 seen) (driving (next_state (next_state 0)) core_2 seen) (Says (line_of 1) ∷ Says (line_of 0) ∷ [])
  two_turns = (
    vdo core_1 seen,
    Says (line_of 0) ∷ [],
    Says (line_of 1) ∷ [],
    undone 0 [] (omega arith),
    first_turn,
    inl (first_step trust seen),
    (vdo core_2 seen, Says (line_of 1) ∷ [], [], undone 1 (line_of 0 ∷ []) (omega arith), second_turn, inl (second_step trust seen), (refl, refl), refl),
    refl,
  )

  two_turns-in_no_other_order : Drives trust sizes steps (driving 0 core_0 seen) (driving (next_state (next_state 0)) core_2 seen) (Says (line_of 0) ∷ Says (line_of 1) ∷ []) → ⊥
  two_turns-in_no_other_order (between, first, later, isnt, turn, one, rest, is) =
      let number = played_first trust (oldest 0 later) seen between first one in
      let said : 1 ≡ oldest 0 (later ++ first) = ap (oldest 0) is in
      absurd (omega (arith, number, said, oldest_on 0 later first))

  -- PlaysUntilDone
  two_events : PlaysUntilDone trust sizes steps (vdo core_0 seen) (vdo core_2 seen) (Says (line_of 1) ∷ Says (line_of 0) ∷ [])
  two_events = inr (
    vdo core_1 seen,
    Says (line_of 0) ∷ [],
    Says (line_of 1) ∷ [],
    undone 0 [] (omega arith),
    inl (first_step trust seen),
    inr (vdo core_2 seen, Says (line_of 1) ∷ [], [], undone 1 (line_of 0 ∷ []) (omega arith), inl (second_step trust seen), (refl, refl), refl),
    refl,
  )

  two_events-in_no_other_order : PlaysUntilDone trust sizes steps (vdo core_0 seen) (vdo core_2 seen) (Says (line_of 0) ∷ Says (line_of 1) ∷ []) → ⊥
  two_events-in_no_other_order (inl (is, same, nothing)) = undone 0 [] (omega arith) is
  two_events-in_no_other_order (inr (between, first, later, isnt, one, rest, is)) =
      let number = played_first trust (oldest 0 later) seen between first one in
      let said : 1 ≡ oldest 0 (later ++ first) = ap (oldest 0) is in
      absurd (omega (arith, number, said, oldest_on 0 later first))
