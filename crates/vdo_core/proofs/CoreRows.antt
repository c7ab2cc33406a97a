-- Rows that pin what a core is and begins with, when it is done, and what there is to move and room for: for each clause a
-- small case that it accepts, and one that breaks it alone.
use Rattle.std.proofs.Common.{ℕ, ◌≡◌, ◌+◌, ◌-◌, ◌*◌, true, false, List, [], ◌∷◌, length, replicate, None, Some, slice_get, slice_index_or, refl, ap, sym, ◌∙◌, subst, arith}
use Rattle.std.proofs.lemmas.List.{length-replicate}
use Rattle.blk_base.specs.Counters.{limit_of}
use Rattle.blk_base.specs.declared.geometry.Geometry.{Geometry}
use Rattle.blk_base.specs.declared.place.Lba.{Lba}
use Rattle.blk_base.specs.declared.opened.Opened.{Opened}
use Rattle.blk_base.specs.declared.opened.OpenedPage.{OpenedPage}
use Rattle.blk_base.specs.declared.request.Request.TheVariants as request
use Rattle.vdo_model.specs.Scripts.{Script}
use Rattle.vdo_model.specs.declared.report.DeskLine.{DeskLine}
use Rattle.core_model.specs.declared.zones.SuperblockStage.TheVariants.{AsOpened}
use Rattle.core_model.specs.DeskData.{Desk}
use Rattle.data_vio.specs.declared.items.Item.{Item}
use Rattle.data_vio.specs.declared.items.Item.TheVariants.{StopNotice}
use Rattle.data_vio.specs.declared.sizes.Sizes.{Sizes}
use Rattle.core_model.specs.declared.zones.Zone.{Zone}
use Rattle.core_model.specs.declared.zones.ZoneData.TheVariants as at
use Rattle.core_model.specs.SessionLimits.{requests_in}
use Rattle.core_model.specs.Sessions.{IsSession, Session}
use Rattle.core_model.specs.Start.{IsFirst}
use Rattle.core_model.specs.Steps.{StepOf}
use Rattle.core_model.specs.Steps.Leads.{rests, steps}
use Rattle.core_model.specs.Trace.{Trace}
use Rattle.vdo_core.specs.Cores.{CanBegin, IsReached}
use Rattle.vdo_core.specs.Done.{IsDone}
use Rattle.vdo_core.specs.Lanes.{HasRoomFor}
use Rattle.vdo_core.specs.Moves.{MovesSome, has_items}
use Rattle.vdo_core.specs.Plays.{core_with}
use Rattle.vdo_core.proofs.SessionLaws.{legal_here}

-- IsDone: the desk stands first, and has two lines for each request
module _ (lines : List DeskLine) (outboxes : List (List Item)) where
  abbrev desk_number : Script → List DeskLine → Zone
  desk_number script log = record {
    number = 0;
    steps = 0;
    keeps = at.Desk (record { requests = script; log = log; marks = []; receipts = []; notices = 0; parked = [] });
    ports = record { inbox = []; outboxes = outboxes };
  }

  done-of_no_request : IsDone (desk_number [] [] ∷ [])
  done-of_no_request = record { zone = desk_number [] []; desk = _; had = refl; keeps = refl; full = refl }

  done-with_two_lines : length lines ≡ 2 → IsDone (desk_number ((request.Flush ∷ []) ∷ []) lines ∷ [])
  done-with_two_lines two = record { zone = desk_number ((request.Flush ∷ []) ∷ []) lines; desk = _; had = refl; keeps = refl; full = two }

  done-not_with_fewer : IsDone (desk_number ((request.Flush ∷ []) ∷ []) [] ∷ []) → ⊥
  done-not_with_fewer done =
      let zone : desk_number ((request.Flush ∷ []) ∷ []) [] ≡ done.zone = let had = done.had in cc in
      let desk : at.Desk (record { requests = (request.Flush ∷ []) ∷ []; log = []; marks = []; receipts = []; notices = 0; parked = [] }) ≡ at.Desk done.desk = ap (λ (z : Zone). z.keeps) zone ∙ done.keeps in
      let kept : record { requests = (request.Flush ∷ []) ∷ []; log = []; marks = []; receipts = []; notices = 0; parked = [] } ≡ done.desk = cc in
      let full = done.full in
      absurd (omega (arith, ap (λ (d : Desk). length d.log) kept, ap (λ (d : Desk). 2 * requests_in d.requests) kept, full))

  done-not_of_no_zone : IsDone [] → ⊥
  done-not_of_no_zone done = let had = done.had in absurd cc

-- IsReached: a start of a session is, and what events lead to from there
module _ (s : Session) (session : IsSession s) (zones : List Zone) (begins : IsFirst s (core_with zones [])) where
  reached-at_the_start : IsReached s.sizes zones
  reached-at_the_start = record { session = s; first = zones; trace = []; sizes_are = refl; is_session = session; is_first = begins; leads = rests }

  reached-after_a_step : (later : List Zone) (trace : Trace) → StepOf s.sizes (core_with zones []) (core_with later trace) → IsReached s.sizes later
  reached-after_a_step later trace step = record { session = s; first = zones; trace = trace; sizes_are = refl; is_session = session; is_first = begins; leads = steps step rests }

module _ (sizes : Sizes) (zones : List Zone) (reached : IsReached sizes zones) where
  reached-not_of_other_sizes : reached.session.sizes.depth ≡ sizes.depth + 1 → ⊥
  reached-not_of_other_sizes other = omega (arith, other, ap (λ (x : Sizes). x.depth) reached.sizes_are)

  reached-not_in_a_session_that_is_not_served : sizes.zones ≡ 0 → ⊥
  reached-not_in_a_session_that_is_not_served none = omega (arith, none, reached.is_session.zones, ap (λ (x : Sizes). x.zones) reached.sizes_are)

  -- not from zones of which one has made a step, nor to no zones
  reached-not_from_the_middle : (z : Zone) → slice_get reached.first 0 ≡ Some z → z.steps ≡ 1 → ⊥
  reached-not_from_the_middle z had stepped = omega (arith, stepped, (reached.is_first.each 0 z had).steps)

  reached-not_where_no_event_leads : zones ≡ [] → ⊥
  reached-not_where_no_event_leads none = omega (arith, ap length none, (legal_here sizes zones reached).count)

-- MovesSome: what one zone posted to another one that is there
abbrev zone_with : ℕ → List (List Item) → Zone
zone_with number outboxes = record {
  number = number;
  steps = 0;
  keeps = at.Device (record { stopped = false; calls = 0; superblock = AsOpened; damage = None });
  ports = record { inbox = []; outboxes = outboxes };
}

abbrev two_zones : List Zone
two_zones = zone_with 0 ([] ∷ (StopNotice ∷ []) ∷ []) ∷ zone_with 1 ([] ∷ [] ∷ []) ∷ []

moves-posted : MovesSome two_zones 0 1
moves-posted = record {
  source = zone_with 0 ([] ∷ (StopNotice ∷ []) ∷ []);
  target = zone_with 1 ([] ∷ [] ∷ []);
  apart = λ same. omega (arith, same);
  had_source = refl;
  had_target = refl;
  posted = refl;
}

moves-not_to_itself : MovesSome two_zones 1 1 → ⊥
moves-not_to_itself some = some.apart refl

moves-not_to_no_zone : MovesSome two_zones 0 2 → ⊥
moves-not_to_no_zone some = let had = some.had_target in absurd cc

moves-not_from_no_zone : MovesSome two_zones 2 1 → ⊥
moves-not_from_no_zone some = let had = some.had_source in absurd cc

moves-not_nothing : MovesSome two_zones 1 0 → ⊥
moves-not_nothing some = none some.source some.had_source some.posted
  where
    none : (z : Zone) → slice_get two_zones 1 ≡ Some z → has_items (slice_get z.ports.outboxes 0) ≡ true → ⊥
    none z had posted =
        let same : zone_with 1 ([] ∷ [] ∷ []) ≡ z = cc in
        let empty : has_items (slice_get (zone_with 1 ([] ∷ [] ∷ [])).ports.outboxes 0) ≡ true = subst (λ (zone : Zone). has_items (slice_get zone.ports.outboxes 0) ≡ true) (sym same) posted in
        absurd cc

-- HasRoomFor: up to the room of a lane, in the inbox and in each outbox
room-up_to_the_last : (z : Zone) → HasRoomFor 1 (record z { ports = record z.ports { inbox = replicate 1451 StopNotice; outboxes = replicate 1451 StopNotice ∷ [] } })
room-up_to_the_last z = let count = length-replicate 1451 StopNotice in record { inbox = omega (arith, count); outboxes = (omega (arith, count), tt) }

room-not_past_it : (z : Zone) → HasRoomFor 1 (record z { ports = record z.ports { inbox = replicate 1452 StopNotice; outboxes = [] } }) → ⊥
room-not_past_it z room = let count = length-replicate 1452 StopNotice in omega (arith, count, room.inbox)

room-not_past_it_in_an_outbox : (z : Zone) → HasRoomFor 1 (record z { ports = record z.ports { inbox = []; outboxes = [] ∷ replicate 1452 StopNotice ∷ [] } }) → ⊥
room-not_past_it_in_an_outbox z room = let count = length-replicate 1452 StopNotice in omega (arith, count, room.outboxes.1.0)

-- CanBegin: with what was opened of an image of these sizes, and a script that is served and within the limits
module _ (g : Geometry) where
  abbrev sizes : ℕ → ℕ → Sizes
  sizes start zones = record { geometry = g; start = start; zones = zones; physical = 1; depth = 1 }

  module _ (opened : Opened) (at : Lba) where
    begins-not_without_a_zone : (script : Script) → CanBegin (sizes 1 0) script opened → ⊥
    begins-not_without_a_zone script can = omega (arith, can.zones)

    -- nor without a physical one, or with five
    begins-not_without_a_physical_zone : (script : Script) → CanBegin (record (sizes 1 1) { physical = 0 }) script opened → ⊥
    begins-not_without_a_physical_zone script can = omega (arith, can.physical)

    begins-not_with_five_physical_zones : (script : Script) → CanBegin (record (sizes 1 1) { physical = 5 }) script opened → ⊥
    begins-not_with_five_physical_zones script can = omega (arith, can.limits.physical)

    abbrev of_depth : ℕ → Sizes
    of_depth depth = record { geometry = g; start = 1; zones = 1; physical = 1; depth = depth }

    -- one request of a stream is under way at least: where a core begins with two, one begins with one too, but none with none
    begins-of_depth_1 : (script : Script) → CanBegin (of_depth 2) script opened → CanBegin (of_depth 1) script opened
    begins-of_depth_1 script can = record {
      geometry = can.geometry;
      same = can.same;
      start = can.start;
      zones = can.zones;
      physical = can.physical;
      depth = omega arith;
      limits = record { streams = can.limits.streams; depth = omega arith; requests = can.limits.requests; zones = can.limits.zones; physical = can.limits.physical };
      served = can.served;
      pages = can.pages;
      counters = can.counters;
      limit = can.limit;
    }

    begins-not_of_depth_0 : (script : Script) → CanBegin (of_depth 0) script opened → ⊥
    begins-not_of_depth_0 script can = omega (arith, can.depth)

    begins-not_at_sequence_0 : (script : Script) → CanBegin (sizes 0 1) script opened → ⊥
    begins-not_at_sequence_0 script can = omega (arith, can.start.0)

    begins-not_with_half_a_block : CanBegin (sizes 1 1) ((request.Write at (replicate 2048 0) false ∷ []) ∷ []) opened → ⊥
    begins-not_with_half_a_block can = let half : 2048 ≡ 4096 = sym (length-replicate {A = ℕ} 2048 0) ∙ can.served.0.0.0 in absurd (omega (arith, half))

    begins-not_with_a_forced_write : (block : List ℕ) → CanBegin (sizes 1 1) ((request.Write at block true ∷ []) ∷ []) opened → ⊥
    begins-not_with_a_forced_write block can = let forced = can.served.0.0.1 in absurd cc

    begins-not_with_17_streams : CanBegin (sizes 1 1) (replicate 17 []) opened → ⊥
    begins-not_with_17_streams can = omega (arith, can.limits.streams)

    -- the image has these sizes, its pages are the roots at least, and each data block has its counter
    begins-not_of_other_sizes : (script : Script) → opened.head.geometry.slabs ≡ g.slabs + 1 → CanBegin (sizes 1 1) script opened → ⊥
    begins-not_of_other_sizes script more can = let same = ap (λ (h : Geometry). h.slabs) can.same in omega (arith, more, same)

    begins-not_without_roots : (script : Script) → opened.pages.items ≡ [] → CanBegin (sizes 1 1) script opened → ⊥
    begins-not_without_roots script none can =
        let height = can.geometry.height in
        let same = ap (λ (h : Geometry). h.height) can.same in
        let listed = can.pages.roots (record { tree = 0; level = g.height - 1; index = 0 }) (record { tree = record { inside = omega arith; own = omega arith }; level = omega (arith, height, same); index = refl }) in
        let below = listed.1.1 in
        omega (arith, below, ap (λ (pages : List OpenedPage). length pages) none)

    begins-not_with_a_counter_missing : (script : Script) → length opened.counters.items + 1 ≡ opened.head.geometry.slabs * opened.head.geometry.slab_blocks → CanBegin (sizes 1 1) script opened → ⊥
    begins-not_with_a_counter_missing script fewer can = omega (arith, can.counters, fewer)

    begins-not_with_a_counter_past_the_limit : (script : Script) (counters : List ℕ) → opened.counters.items ≡ (limit_of opened.head.geometry + 1) ∷ counters → CanBegin (sizes 1 1) script opened → ⊥
    begins-not_with_a_counter_past_the_limit script counters are can =
        let limited = can.limit 0 0 (omega (arith, ap (λ (ns : List ℕ). length ns) are)) in
        let first : slice_index_or opened.counters.items 0 0 ≡ limit_of opened.head.geometry + 1 = ap (λ (ns : List ℕ). slice_index_or ns 0 0) are in
        omega (arith, limited, first)
