-- Rows that pin what a step of a zone needs: a zone that can step, and for each clause one that breaks it alone.
use Rattle.std.proofs.Common.{ℕ, ◌≡◌, ◌≤◌, ◌∙◌, false, List, [], ◌∷◌, length, refl, sym, ap, inl, inr, arith}
use Rattle.std.specs.List.{AllByRecursion}
use Rattle.blk_base.specs.Limits.{IsGeometry}
use Rattle.blk_base.specs.declared.geometry.Geometry.{Geometry}
use Rattle.blk_base.specs.declared.place.ZoneId.TheVariants as id
use Rattle.vdo_model.specs.Scripts.{Script}
use Rattle.core_model.specs.DeskData.{Desk}
use Rattle.data_vio.specs.declared.items.Item.{Item}
use Rattle.data_vio.specs.declared.items.Item.TheVariants.{Request as Asked, StopNotice}
use Rattle.data_vio.specs.declared.items.Phase.TheVariants as phase
use Rattle.data_vio.specs.declared.items.Vio.{Vio}
use Rattle.data_vio.specs.declared.sizes.Sizes.{Sizes}
use Rattle.core_model.specs.declared.zones.Zone.{Zone}
use Rattle.core_model.specs.declared.zones.ZoneData.{ZoneData}
use Rattle.core_model.specs.declared.zones.ZoneData.TheVariants as at
use Rattle.core_model.proofs.ZoneForms.{nothing, slab_with, zone_with}
use Rattle.core_model.specs.PhysicalRules.PhysicalServes.{asks, claims, counts, drops, drops_block, drops_none, has_none, spends, takes_block}
use Rattle.core_model.specs.DeskLimits.{HasRoomToBegin}
use Rattle.core_model.specs.Steps.{Act, HasAct, MayBegin, takes, takes_notice}
use Rattle.core_model.specs.Trace.{Trace}
use Rattle.data_vio.specs.Vios.{Post}
use Rattle.desk_zone.specs.Begins.{CanBegin}
use Rattle.vdo_core.specs.Conditions.{AllCanStep, CanBeginAt, CanStep, HasLane}

module _ (g : Geometry) where
  abbrev sizes : ℕ → Sizes
  sizes zones = record { geometry = g; start = 1; zones = zones; physical = 1; depth = 1 }

  -- the physical zone of a core of two logical ones, with these in its inbox, and so many outboxes
  abbrev physical : List Item → List (List Item) → Zone
  physical inbox outboxes = record { number = 3; steps = 0; keeps = at.Physical (record { notified = false; strays = []; counts = zone_with (slab_with nothing nothing) }); ports = record { inbox = inbox; outboxes = outboxes } }

  -- its notice goes to the desk
  lane_there : (new : ZoneData) (made : Trace) (posts : List Post) → Act (sizes 2) (at.Physical (record { notified = false; strays = []; counts = zone_with (slab_with nothing nothing) })) (StopNotice ∷ []) new made posts
      → AllByRecursion (HasLane (sizes 2) (physical (StopNotice ∷ []) ([] ∷ []))) posts
  lane_there new made posts takes_notice = (inr (omega arith), tt)

  notice_applies : (zones : ℕ) (front : Item) (rest : List Item) → StopNotice ∷ [] ≡ front ∷ rest → HasAct (sizes zones) (at.Physical (record { notified = false; strays = []; counts = zone_with (slab_with nothing nothing) })) (front ∷ [])
  notice_applies zones StopNotice rest is = (_, _, _, takes_notice)
  notice_applies zones other rest is = absurd cc

  can_step : IsGeometry g → CanStep (sizes 2) (physical (StopNotice ∷ []) ([] ∷ []))
  can_step within = record {
    some = omega arith;
    few = record { logical = omega arith; physical = omega arith };
    physical = record { geometry = within; some = omega arith };
    begins = tt;
    within = record { inbox = omega arith; outboxes = (omega arith, tt); own = record { strays = omega arith; tickets = omega arith; issued = omega arith; begun = omega arith } };
    rule = notice_applies 2;
    lanes = lane_there;
  }

  -- some, few, physical: not beside no logical zone, or five, nor beside as many physical ones
  can_step-not_of_none : (z : Zone) → CanStep (sizes 0) z → ⊥
  can_step-not_of_none z can = omega (arith, can.some)

  can_step-not_of_five : (z : Zone) → CanStep (sizes 5) z → ⊥
  can_step-not_of_five z can = omega (arith, can.few.logical)

  can_step-not_of_no_physical : (z : Zone) → CanStep (record (sizes 2) { physical = 0 }) z → ⊥
  can_step-not_of_no_physical z can = omega (arith, can.physical.some)

  can_step-not_of_five_physical : (z : Zone) → CanStep (record (sizes 2) { physical = 5 }) z → ⊥
  can_step-not_of_five_physical z can = omega (arith, can.few.physical)

  -- within: not past its room
  can_step-not_past_its_room : (z : Zone) → 527 ≤ length z.ports.inbox → CanStep (sizes 2) z → ⊥
  can_step-not_past_its_room z many can = omega (arith, can.within.inbox, many)

  -- rule: not with a request in front that no rule serves
  none_serves : (v : Vio) → v.phase ≡ phase.Reply → HasAct (sizes 2) (at.Physical (record { notified = false; strays = []; counts = zone_with (slab_with nothing nothing) })) (Asked v ∷ []) → ⊥
  none_serves v is (new, made, posts, takes (claims x z p gives n m q)) = let both = sym is ∙ p in cc
  none_serves v is (new, made, posts, takes (asks k b z p fewer begins gives n m q)) = let both = sym is ∙ p in cc
  none_serves v is (new, made, posts, takes (takes_block k others x b z p tickets claim begins withdraws n m q)) = let both = sym is ∙ p in cc
  none_serves v is (new, made, posts, takes (drops_block k others x y b w z p tickets claim begins withdraws has change n m q)) = let both = sym is ∙ p in cc
  none_serves v is (new, made, posts, takes (has_none k others receipt b z p tickets begins withdraws n m q)) = let both = sym is ∙ p in cc
  none_serves v is (new, made, posts, takes (counts x slab z p has claimed fits changes n m q)) = let both = sym is ∙ p in cc
  none_serves v is (new, made, posts, takes (drops x z p has claimed changes n m q)) = let both = sym is ∙ p in cc
  none_serves v is (new, made, posts, takes (drops_none p none n m q)) = let both = sym is ∙ p in cc
  none_serves v is (new, made, posts, takes (spends p n m q)) = let both = sym is ∙ p in cc

  can_step-not_without_a_rule : (v : Vio) → v.phase ≡ phase.Reply → CanStep (sizes 2) (physical (Asked v ∷ []) ([] ∷ [])) → ⊥
  can_step-not_without_a_rule v is can = none_serves v is (can.rule (Asked v) [] refl)

  -- lanes: not where it has no lane to the desk
  can_step-not_without_a_lane : CanStep (sizes 2) (physical (StopNotice ∷ []) []) → ⊥
  can_step-not_without_a_lane can = elim (can.lanes _ _ _ takes_notice).0 [
    | inl own ↦ let same : 0 ≡ 3 = own in absurd (omega (arith, same))
    | inr below ↦ absurd (omega (arith, below))
  ]

  -- a zone has a lane to itself, and to each for which it has an outbox
  lane_to_itself : HasLane (sizes 2) (physical [] []) (id.Physical 0, StopNotice)
  lane_to_itself = inl refl

  -- begins: the desk can begin what may begin
  can_begin : (d : Desk) → CanBegin (sizes 2) d → CanBeginAt (sizes 2) (at.Desk d)
  can_begin d can = can

  can_begin-not_without_a_zone : (d : Desk) → CanBeginAt (sizes 0) (at.Desk d) → ⊥
  can_begin-not_without_a_zone d can = omega (arith, can.zones)

  can_begin-not_a_larger_script : (script : Script) (d : Desk) → d.requests ≡ script → 17 ≤ length script → CanBeginAt (sizes 2) (at.Desk d) → ⊥
  can_begin-not_a_larger_script script d is many can = let streams = can.limited.streams in omega (arith, streams, many, ap (λ (s : Script). length s) is)

  can_begin-not_past_its_room : (d : Desk) → 10 ≤ d.notices → CanBeginAt (sizes 2) (at.Desk d) → ⊥
  can_begin-not_past_its_room d many can = omega (arith, many, can.within.notices)

  can_begin-not_without_room : (d : Desk) → MayBegin (sizes 2) (at.Desk d) → (HasRoomToBegin d → ⊥) → CanBeginAt (sizes 2) (at.Desk d) → ⊥
  can_begin-not_without_room d may crowded can = crowded (can.room may)

  -- AllCanStep: each zone of a core
  all_can_step-not_one_past_its_room : (z : Zone) → 527 ≤ length z.ports.inbox → AllCanStep (sizes 2) (physical (StopNotice ∷ []) ([] ∷ []) ∷ z ∷ []) → ⊥
  all_can_step-not_one_past_its_room z many all = can_step-not_past_its_room z many (all 1 z refl)
