-- Rows that pin what a core knows of its zones' work: what each definition accepts, and for each clause what it refuses.
use Rattle.vdo_core.specs.declared.numbers.TheConstants.{MOST_ZONES}
use Rattle.std.proofs.Common.{ℕ, zero, suc, ◌≡◌, true, false, List, [], ◌∷◌, replicate, refl, subst, inl, arith}
use Rattle.std.proofs.lemmas.Option.{same_Some}
use Rattle.data_vio.specs.declared.items.Item.{Item}
use Rattle.data_vio.specs.declared.items.Item.TheVariants.{StopNotice}
use Rattle.data_vio.specs.declared.sizes.Sizes.{Sizes}
use Rattle.core_model.specs.declared.zones.Zone.{Zone}
use Rattle.core_model.specs.declared.zones.ZoneData.{ZoneData}
use Rattle.core_model.specs.Steps.{IsIdle, MayBegin}
use Rattle.vdo_core.specs.Notes.{IsKnown, IsSetOfSenders, IsSetOfWork, KnowsPosts, KnowsWork, OthersStay, TellsNone, TellsPosts, TellsWork, sender_of, worker_of}
use Rattle.core_model.specs.ZoneSets.{IsBelow, Puts, TakesFirst, is_in}
use Rattle.vdo_core.specs.declared.events.Event.TheVariants as event
use Rattle.core_model.proofs.ZoneSetLaws.{both_ways, none_inside}

-- the zones of a set are the places of its bits: of 6 the zones 1 and 2
is_in_six : (is_in 6 0 ≡ false) × (is_in 6 1 ≡ true) × (is_in 6 2 ≡ true) × (is_in 6 3 ≡ false)
is_in_six = (refl, refl, refl, refl)

-- there: what is put is in the set
puts-not_left_out : Puts 6 6 0 true → ⊥
puts-not_left_out puts = let there : false ≡ true = puts.there in absurd cc

-- others: and no other changes
puts-not_another : Puts 6 3 0 true → ⊥
puts-not_another puts = let other : false ≡ true = puts.others 2 (λ is. omega (arith, is)) in absurd cc

-- had: not a zone that isn't there
takes-not_what_is_not_there : TakesFirst 6 6 0 → ⊥
takes-not_what_is_not_there taken = let had : false ≡ true = taken.had in absurd cc

-- lowest: not one behind another
takes-not_a_higher : TakesFirst 6 2 2 → ⊥
takes-not_a_higher taken = let lowest : true ≡ false = taken.lowest 1 (omega arith) in absurd cc

-- left: and it leaves
takes-not_without_leaving : TakesFirst 6 5 1 → ⊥
takes-not_without_leaving taken = let other : true ≡ false = taken.left.others 0 (λ is. omega (arith, is)) in absurd cc

-- less: so the number is less
takes-not_more : TakesFirst 6 7 1 → ⊥
takes-not_more taken = omega (arith, taken.less)

-- a set isn't below a number in it
below-not_one_inside : IsBelow 2 6 → ⊥
below-not_one_inside below = let outside : true ≡ false = below 2 (omega arith) in absurd cc

-- the zone that steps, and the one from which something moves
sender_of_step : sender_of (event.Step 3) ≡ 3
sender_of_step = refl

sender_of_move : sender_of (event.Move 3 1) ≡ 3
sender_of_move = refl

-- the zone that steps, and the one to which something moves
worker_of_step : worker_of (event.Step 3) ≡ 3
worker_of_step = refl

worker_of_move : worker_of (event.Move 3 1) ≡ 1
worker_of_move = refl

module _ (sizes : Sizes) (keeps : ZoneData) where
  -- a zone with this inbox and these outboxes
  abbrev zone : List Item → List (List Item) → Zone
  zone inbox lanes = record { number = 1; steps = 0; keeps = keeps; ports = record { inbox = inbox; outboxes = lanes } }

  abbrev one_item : List (List Item)
  one_item = (StopNotice ∷ []) ∷ []

  -- a zone that posted nothing
  tells_posts : TellsPosts 2 1 0 (zone [] [])
  tells_posts = record { yes = λ to inside. absurd (both_ways _ inside (none_inside 0 refl to)); no = λ to outside apart below. refl }

  -- yes: not that it posted where it didn't
  tells-not_of_none : TellsPosts 2 1 1 (zone [] []) → ⊥
  tells-not_of_none told = let posted : false ≡ true = (told.yes 0 refl).2 in absurd cc

  -- no: and not that it didn't where it did
  tells-not_too_few : TellsPosts 2 1 0 (zone [] one_item) → ⊥
  tells-not_too_few told = let nothing : true ≡ false = told.no 0 refl (λ same. omega (arith, same)) (omega arith) in absurd cc

  -- nor that there is no such zone where there is one
  tells_none-not_of_some : TellsNone 2 1 false (zone [] one_item) → ⊥
  tells_none-not_of_some told = let nothing : true ≡ false = told refl 0 (λ same. omega (arith, same)) (omega arith) in absurd cc

  tells_none_of_none : TellsNone 2 1 false (zone [] [])
  tells_none_of_none unset to apart below = refl

  -- a flag tells that a zone without an item has no work where it can't begin any
  tells_work : (MayBegin sizes keeps → ⊥) → TellsWork sizes 0 false (zone [] [])
  tells_work none = record { yes = λ set. absurd cc; no = λ unset. inl (record { inbox = refl; none_begins = none }) }

  -- yes: not that there is some
  tells_work-not_of_an_idle_zone : (MayBegin sizes keeps → ⊥) → TellsWork sizes 0 true (zone [] []) → ⊥
  tells_work-not_of_an_idle_zone none tells = tells.yes refl (inl (record { inbox = refl; none_begins = none }))

  -- no: and not that there is none where there is
  tells_work-not_of_a_zone_at_work : (IsIdle sizes (zone (StopNotice ∷ []) []) → ⊥) → TellsWork sizes 0 false (zone (StopNotice ∷ []) []) → ⊥
  tells_work-not_of_a_zone_at_work works tells = works (tells.no refl)

  -- long: not with fewer sets than a core has zones
  knows-not_by_fewer : (zones : List Zone) (sent : ℕ) → KnowsPosts 2 (0 ∷ 1 ∷ []) sent zones → ⊥
  knows-not_by_fewer zones sent known = omega (arith, known.long)

  -- posts: not with a wrong set
  knows-not_by_a_wrong_set : (sent : ℕ) → KnowsPosts 2 (replicate MOST_ZONES 0) sent (zone [] [] ∷ zone [] one_item ∷ []) → ⊥
  knows-not_by_a_wrong_set sent known = tells-not_too_few (known.posts 1 (zone [] one_item) refl)

  -- senders: nor with one left out
  knows-not_without_a_sender : (receivers : List ℕ) → KnowsPosts 2 receivers 0 (zone [] [] ∷ zone [] one_item ∷ []) → ⊥
  knows-not_without_a_sender receivers known = tells_none-not_of_some (known.senders 1 (zone [] one_item) refl)

  -- few: nor with one past the zones
  knows-not_with_a_sender_past : (receivers : List ℕ) (zones : List Zone) → KnowsPosts 2 receivers 4 zones → ⊥
  knows-not_with_a_sender_past receivers zones known = let outside : true ≡ false = known.few 2 (omega arith) in absurd cc

  -- work: not with a wrong set of work
  knows-not_of_wrong_work : (IsIdle sizes (zone (StopNotice ∷ []) []) → ⊥) → KnowsWork 1 sizes 0 (zone (StopNotice ∷ []) [] ∷ []) → ⊥
  knows-not_of_wrong_work works known = works ((known.work 0 (zone (StopNotice ∷ []) []) refl).no refl)

  -- few: nor with a zone past all
  knows-not_of_work_past : (zones : List Zone) → KnowsWork 1 sizes 2 zones → ⊥
  knows-not_of_work_past zones known = let outside : true ≡ false = known.few 1 (omega arith) in absurd cc

  -- posts and work: a core's notes are right of all its zones
  known-not_with_wrong_posts : (works senders : ℕ) → IsKnown sizes (record { works = works; senders = senders; posted = replicate MOST_ZONES 0 }) (zone [] [] ∷ zone [] one_item ∷ []) → ⊥
  known-not_with_wrong_posts works senders known = knows-not_by_a_wrong_set senders known.posts

  known-not_with_wrong_work : (IsIdle sizes (zone (StopNotice ∷ []) []) → ⊥)
      → IsKnown sizes (record { works = 0; senders = 0; posted = replicate MOST_ZONES 0 }) (zone (StopNotice ∷ []) [] ∷ []) → ⊥
  known-not_with_wrong_work works known = knows-not_of_wrong_work works known.work

  -- the others stay where one posts
  others_stay : OthersStay (TellsNone 2) 0 (zone [] [] ∷ []) (zone [] one_item ∷ [])
  others_stay zero z other got = absurd (other refl)
  others_stay (suc n) z other got = absurd cc

  -- and not where another posts
  others-not_where_another_posts : OthersStay (TellsNone 2) 1 (zone [] [] ∷ zone [] [] ∷ []) (zone [] ([] ∷ (StopNotice ∷ []) ∷ []) ∷ zone [] [] ∷ []) → ⊥
  others-not_where_another_posts stay =
      let (before, had, still) = stay 0 (zone [] ([] ∷ (StopNotice ∷ []) ∷ [])) (λ is. omega (arith, is)) refl in
      let none : TellsNone 2 0 false before = subst (λ (z : Zone). TellsNone 2 0 false z) (same_Some _ _ had) (λ unset to apart below. refl) in
      let wrong : true ≡ false = still false none refl 1 (λ is. omega (arith, is)) (omega arith) in
      absurd cc

  -- yes: a set of work has no zone without it
  set_of_work-not_of_none : (MayBegin sizes keeps → ⊥) → IsSetOfWork sizes (zone [] [] ∷ []) (λ n. event.Step n) 1 → ⊥
  set_of_work-not_of_none none work = work.yes 0 refl (λ z got. subst (λ (other : Zone). IsIdle sizes other) (same_Some _ _ got) (inl (record { inbox = refl; none_begins = none })))

  -- no: and each with it
  set_of_work-not_too_few : (IsIdle sizes (zone (StopNotice ∷ []) []) → ⊥) → IsSetOfWork sizes (zone (StopNotice ∷ []) [] ∷ []) (λ n. event.Step n) 0 → ⊥
  set_of_work-not_too_few works work = works (work.no 0 refl (zone (StopNotice ∷ []) []) refl)

  -- no: a set of senders has each zone from which something moves
  senders-not_too_few : IsSetOfSenders (zone [] [] ∷ zone [] one_item ∷ []) 0 → ⊥
  senders-not_too_few senders = let nothing : true ≡ false = senders.no sizes 1 0 refl (zone [] one_item) (zone [] []) (λ is. omega (arith, is)) refl refl in absurd cc

  -- few: and none past the zones
  senders-not_past : (zones : List Zone) → IsSetOfSenders [] 1 → ⊥
  senders-not_past zones senders = let outside : true ≡ false = senders.few 0 (omega arith) in absurd cc
