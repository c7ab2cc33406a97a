-- When nothing is left to do in a core: each clause at a core of one zone that meets it, and at one that doesn't.
use Rattle.std.proofs.Common.{ℕ, zero, suc, ◌≡◌, false, Some, List, [], ◌∷◌, slice_get, refl, sym, subst, arith}
use Rattle.std.proofs.lemmas.Option.{same_Some}
use Rattle.data_vio.specs.declared.items.Item.{Item}
use Rattle.data_vio.specs.declared.items.Item.TheVariants.{StopNotice}
use Rattle.core_model.specs.declared.zones.Zone.{Zone}
use Rattle.core_model.specs.declared.zones.ZoneData.{ZoneData}
use Rattle.core_model.specs.Steps.{IsStill}
use Rattle.plain_laws.specs.Sums.{Each}
use Rattle.core_model.proofs.ZoneForms.{desk, device}
use Rattle.core_model.proofs.WorkedTraces.{first, sizes}

-- the zone with number 0, which keeps this, with these items in its inbox and its outboxes
abbrev with_items : ZoneData → List Item → List (List Item) → Zone
with_items keeps inbox outboxes = record { number = 0; steps = 0; keeps = keeps; ports = record { inbox = inbox; outboxes = outboxes } }

-- what holds of the one zone
alone : (P : ℕ → Zone → Type 0) (z : Zone) → P 0 z → Each P (z ∷ [])
alone P z holds zero y had = subst (P 0) (same_Some _ _ had) holds
alone P z holds (suc n) y had = absurd cc

still : IsStill sizes (with_items (device false 3) [] ([] ∷ [] ∷ []) ∷ [])
still = record {
  nothing = alone _ _ (record { inbox = refl; none_begins = λ none. none });
  all_moved = alone _ _ empty;
}
  where
    empty : (to : ℕ) (lane : List Item) → (to ≡ 0 → ⊥) → slice_get ([] ∷ [] ∷ []) to ≡ Some lane → lane ≡ []
    empty zero lane ne there = sym (same_Some _ _ there)
    empty (suc zero) lane ne there = sym (same_Some _ _ there)
    empty (suc (suc to)) lane ne there = absurd cc

still-not_with_an_item : IsStill sizes (with_items (device false 3) (StopNotice ∷ []) [] ∷ []) → ⊥
still-not_with_an_item is = absurd (let none = (is.nothing 0 _ refl).inbox in cc)

still-not_where_a_stream_may_begin : IsStill sizes (with_items (desk [] [] 0 []) [] [] ∷ []) → ⊥
still-not_where_a_stream_may_begin is = (is.nothing 0 _ refl).none_begins (first, (refl, refl, omega arith))

still-not_with_a_post : IsStill sizes (with_items (device false 3) [] ([] ∷ (StopNotice ∷ []) ∷ []) ∷ []) → ⊥
still-not_with_a_post is = absurd (let none = is.all_moved 0 _ refl 1 (StopNotice ∷ []) (λ same. cc) refl in cc)
