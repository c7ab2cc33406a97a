-- Right runs: the run of the example, and for each of the four parts one that breaks it alone.
use Rattle.std.proofs.Common.{◌≡◌, List, [], ◌∷◌, refl, ap, arith}
use Rattle.vdo_model.specs.declared.report.DeskLine.TheVariants.{Begin}
use Rattle.vdo_model.specs.declared.report.HistoryEntry.{HistoryEntry}
use Rattle.vdo_model.specs.declared.report.Mark.TheVariants.{Settled, Unsettled}
use Rattle.vdo_model.specs.declared.report.Placed.{Placed}
use Rattle.vdo_model.specs.DeskLog.{IsDeskLog, AllAnswered}
use Rattle.vdo_model.specs.Places.{ArePlaces, placed}
use Rattle.vdo_model.specs.Histories.{Progress, histories_of}
use Rattle.vdo_model.specs.RightRuns.{RunRight}
use Rattle.vdo_model.proofs.Example.{of_a, of_b, script, desk, first_places, places, entry, histories}
use Rattle.vdo_model.proofs.DeskLogRows.{run_is_desk_log, run_all_answered}
use Rattle.vdo_model.proofs.PlaceRows.{run_has_places, not_answered_yet}

-- two zones, two requests of a stream at once, and addresses below 813
run_is_right : (progress : Progress) → RunRight 2 2 813 progress script desk places histories
run_is_right progress = record { desk_log = run_is_desk_log; all_answered = run_all_answered; are_places = run_has_places; are_histories = refl }

-- desk log: two requests of b are under way, which depth 1 doesn't allow
too_deep : (progress : Progress) → RunRight 2 1 813 progress script desk places histories → ⊥
too_deep progress right = let shallow = right.desk_log.1.1.1.1.1.1.0.2 in omega (arith, shallow)

too_deep_alone : (progress : Progress) → AllAnswered script desk × ArePlaces 2 813 script desk places × (histories ≡ histories_of script desk progress places)
too_deep_alone progress = (run_all_answered, run_has_places, refl)

-- all answered: one request is begun, and nothing is answered
just_begun : (progress : Progress) → RunRight 2 2 813 progress script (Begin (of_a 0) ∷ []) [] [] → ⊥
just_begun progress right = absurd (let is = right.all_answered (of_a 0) refl in cc)

just_begun_alone : (progress : Progress) → IsDeskLog 2 script (Begin (of_a 0) ∷ []) × ArePlaces 2 813 script (Begin (of_a 0) ∷ []) [] × ([] ≡ histories_of script (Begin (of_a 0) ∷ []) progress [])
just_begun_alone progress = (((refl, refl, omega arith), tt), not_answered_yet, refl)

-- places: the last number is left out
abbrev number_left_out : List Placed
number_left_out = placed (of_a 2) 0 3 ∷ placed (of_b 1) 0 1 ∷ first_places

wrong_number : (progress : Progress) → RunRight 2 2 813 progress script desk number_left_out histories → ⊥
wrong_number progress right = let number = right.are_places.places_drawn.0.number in omega (arith, number)

wrong_number_alone : (progress : Progress) → IsDeskLog 2 script desk × AllAnswered script desk × (histories ≡ histories_of script desk progress number_left_out)
wrong_number_alone progress = (run_is_desk_log, run_all_answered, refl)

-- histories: a write that was answered Ok is said to be unsettled
abbrev wrong_histories : List HistoryEntry
wrong_histories = entry 1 (of_a 2) Unsettled ∷ entry 812 (of_b 0) Settled ∷ entry 1 (of_a 0) Settled ∷ []

differ : wrong_histories ≡ histories → ⊥
differ same =
    let last : entry 1 (of_a 2) Unsettled ≡ entry 1 (of_a 2) Settled = cc in
    let marks = ap (λ (e : HistoryEntry). e.mark) last in
    absurd cc

wrong_mark : (progress : Progress) → RunRight 2 2 813 progress script desk places wrong_histories → ⊥
wrong_mark progress right = differ right.are_histories

wrong_mark_alone : IsDeskLog 2 script desk × AllAnswered script desk × ArePlaces 2 813 script desk places
wrong_mark_alone = (run_is_desk_log, run_all_answered, run_has_places)
