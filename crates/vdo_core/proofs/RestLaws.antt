-- A legal core of which no event has work is done: nothing is left to do in it.
use Rattle.std.proofs.Common.{ℕ, ◌≡◌, ◌≢◌, ◌≤◌, false, Some, List, [], ◌∷◌, slice_get, refl, sym, ◌∙◌, ap, inl, inr, arith}
use Rattle.std.proofs.lemmas.Option.{slice_get_within}
use Rattle.core_laws.proofs.Common.{Each, Item, Session}
use Rattle.core_laws.proofs.kept.ZoneKinds.{stood}
use Rattle.core_limits.proofs.Stillness.{all_answered}
use Rattle.core_model.specs.Legal.{Legal}
use Rattle.core_model.specs.Steps.{Core, HasNothing}
use Rattle.vdo_core.specs.Done.{IsDone}
use Rattle.vdo_core.specs.Moves.{has_items}
use Rattle.vdo_core.specs.Plays.{HasNoWork, HaveStepsLeft}
use Rattle.vdo_core.specs.declared.events.Event.{Event}
use Rattle.vdo_core.specs.declared.events.Event.TheVariants as event
use Rattle.vdo_core.proofs.DoneLaws.{done_when_answered}

no_items : (lane : List Item) → has_items (Some lane) ≡ false → lane ≡ []
no_items [] none = refl
no_items (it ∷ lane) none = absurd cc

module _ (s : Session) (core : Core) (legal : Legal s core) (left : HaveStepsLeft core.zones) (idle : (e : Event) → HasNoWork s.sizes core.zones e) where
  nothing : Each (λ n z. HasNothing s.sizes z) core.zones
  nothing n z had = elim (idle (event.Step n) z had) [
    | inl none ↦ none
    | inr spent ↦ let some = left n z had in absurd (omega (arith, some, spent))
  ]

  all_moved : Each (λ n z. (to : ℕ) (lane : List Item) → to ≢ n → slice_get z.ports.outboxes to ≡ Some lane → lane ≡ []) core.zones
  all_moved n z had to lane apart there =
      let below = slice_get_within z.ports.outboxes to lane there in
      let lanes = (legal.each n z had).lanes in
      let count = legal.count in
      let target = stood core.zones to (omega (arith, below, lanes, count)) in
      let none = idle (event.Move n to) z target.it (λ same. apart (sym same)) had target.is in
      no_items lane (ap has_items (sym there) ∙ none)

  pub done_when_idle : 1 ≤ s.sizes.depth → IsDone core.zones
  done_when_idle depth = done_when_answered s core legal (all_answered s core legal (record { nothing = nothing; all_moved = all_moved }) depth)
