-- Each zone of a legal core can step, and so can each view of it.
use Rattle.std.proofs.Common.{◌≡◌, ◌<◌, ◌++◌, ℕ, Some, List, [], ◌∷◌, length, length-append, take, drop, slice_get, refl, sym, subst, arith, inl, inr}
use Rattle.std.specs.List.{AllByRecursion}
use Rattle.vdo_model.specs.Scripts.{Script, IsServed}
use Rattle.vdo_model.specs.DeskLog.{IsDeskLog}
use Rattle.vdo_model.specs.declared.report.DeskLine.{DeskLine}
use Rattle.core_model.specs.DeskData.{Desk}
use Rattle.core_model.specs.DeskLines.{AreBegunFirst}
use Rattle.data_vio.specs.declared.items.Item.{Item}
use Rattle.data_vio.specs.declared.sizes.Sizes.{Sizes}
use Rattle.core_model.specs.declared.zones.Zone.{Zone}
use Rattle.core_model.specs.declared.zones.ZoneData.{ZoneData}
use Rattle.core_model.specs.declared.zones.ZoneData.TheVariants as at
use Rattle.core_model.specs.Facts.{DataOk}
use Rattle.core_model.specs.Legal.{Legal}
use Rattle.core_model.specs.DeskLimits.{HasRoomToBegin, IsDeskWithin}
use Rattle.core_model.specs.Limits.{IsDataWithin}
use Rattle.core_model.specs.SessionLimits.{IsLimited, IsShort}
use Rattle.core_model.specs.Sessions.{IsSession, Session}
use Rattle.core_model.specs.Steps.{Core, MayBegin}
use Rattle.core_model.specs.Trace.{Trace, lines}
use Rattle.core_model.specs.Views.{behind, core_of, with_batches}
use Rattle.data_vio.specs.Vios.{Post}
use Rattle.data_vio.specs.Zones.{zone_number}
use Rattle.core_laws.proofs.kept.Rules.{has_lanes, has_rule}
use Rattle.core_laws.proofs.kept.Views.{batches_of, view_get}
use Rattle.core_laws.proofs.trace.DeskOfTrace.{desk_log_right}
use Rattle.core_limits.proofs.DeskLimits.{answers_few, log_before, under_way_few}
use Rattle.core_limits.proofs.WholeZones.{zone_within}
use Rattle.desk_zone.specs.Begins.{CanBegin}
use Rattle.vdo_core.specs.Conditions.{CanBeginAt, CanStep, HasLane}

-- a list is its first item and the others
first_and_others : (items : List Item) → items ≡ take 1 items ++ drop 1 items
first_and_others [] = refl
first_and_others (it ∷ rest) = refl

none_behind : (items : List Item) → take 1 items ≡ [] → drop 1 items ≡ []
none_behind [] none = refl
none_behind (it ∷ rest) none = absurd cc

have_lanes : (sizes : Sizes) (z : Zone) (posts : List Post) → AllByRecursion (λ (post : Post). zone_number sizes post.0 < length z.ports.outboxes) posts → AllByRecursion (HasLane sizes z) posts
have_lanes sizes z [] all = tt
have_lanes sizes z (post ∷ posts) all = (inr all.0, have_lanes sizes z posts all.1)

-- at each moment of a desk log
begun_first : (depth : ℕ) (script : Script) (log : List DeskLine) → IsDeskLog depth script log → AreBegunFirst log
begun_first depth script [] right = tt
begun_first depth script (line ∷ older) right = (answers_few depth script (line ∷ older) right, begun_first depth script older right.1)

-- where a stream may begin its next request, there is room for it
module _ (s : Session) (t : Trace) (n : ℕ) (desk : Desk) (session : IsSession s) (own : DataOk s t n (at.Desk desk)) (right : IsDeskLog s.sizes.depth s.script (lines t)) where
  has_room : MayBegin s.sizes (at.Desk desk) → HasRoomToBegin desk
  has_room (w, next) =
      let same = own.sound.requests in
      let log : IsDeskLog s.sizes.depth desk.requests desk.log = rw (same, own.lists.log_is) right in
      record {
        lines = log_before s.sizes.depth desk.requests desk.log w log next;
        answered = begun_first s.sizes.depth desk.requests desk.log log;
        fewer = under_way_few s.sizes.depth desk.requests desk.log w session.limits.depth log next;
      }

  can_begin : IsDeskWithin desk → CanBegin s.sizes desk
  can_begin within = record {
    zones = omega (arith, session.zones.0);
    limited = subst (λ (script : Script). IsLimited s.sizes script) (sym own.sound.requests) session.limits;
    served = subst (λ (script : Script). AllByRecursion (AllByRecursion IsServed) script) (sym own.sound.requests) session.served;
    within = within;
    room = has_room;
  }

can_begin_at : (s : Session) (t : Trace) (n : ℕ) (d : ZoneData) (steps : ℕ) → IsSession s → DataOk s t n d → IsDeskLog s.sizes.depth s.script (lines t) → IsDataWithin steps d → CanBeginAt s.sizes d
can_begin_at s t n (at.Desk desk) steps session own right within = can_begin s t n desk session own right within
can_begin_at s t n other steps session own right within = tt

-- a zone of a legal core can step
pub can_step : (s : Session) (core : Core) (n : ℕ) (z : Zone) → IsSession s → Legal s core → slice_get core.zones n ≡ Some z → CanStep s.sizes z
can_step s core n z session legal had =
    let within = zone_within s core session legal n z had in
    record {
      some = session.zones.0;
      few = record { logical = session.limits.zones; physical = session.limits.physical };
      physical = record { geometry = session.sizes; some = session.zones.1 };
      begins = can_begin_at s core.trace n z.keeps z.steps session (legal.each n z had).own (desk_log_right s core.trace legal.right) within.own;
      within = within;
      rule = has_rule s session core legal n z had;
      lanes = λ new made posts act. have_lanes s.sizes z posts
          (has_lanes s session core legal n z had (take 1 z.ports.inbox) (drop 1 z.ports.inbox) new made posts (first_and_others z.ports.inbox) (none_behind z.ports.inbox) act);
    }

-- the lanes of a view are no longer than with what lies behind them, and as many
short_behind : (batches lanes : List (List Item)) → AllByRecursion (λ lane. IsShort lane) (behind batches lanes) → AllByRecursion (λ lane. IsShort lane) lanes
short_behind [] lanes all = all
short_behind (b ∷ bs) [] all = tt
short_behind (b ∷ bs) (lane ∷ lanes) all = let here = all.0 in (omega (arith, here, length-append b lane), short_behind bs lanes all.1)

count_behind : (batches lanes : List (List Item)) → length (behind batches lanes) ≡ length lanes
count_behind [] lanes = refl
count_behind (b ∷ bs) [] = refl
count_behind (b ∷ bs) (lane ∷ lanes) = let rest = count_behind bs lanes in omega (arith, rest)

own_lane : (sizes : Sizes) (batches : List (List Item)) (z : Zone) (p : Post) → HasLane sizes (with_batches batches z) p → HasLane sizes z p
own_lane sizes batches z p (inl same) = inl same
own_lane sizes batches z p (inr below) = let count = count_behind batches z.ports.outboxes in inr (omega (arith, below, count))

own_lanes : (sizes : Sizes) (batches : List (List Item)) (z : Zone) (posts : List Post) → AllByRecursion (HasLane sizes (with_batches batches z)) posts → AllByRecursion (HasLane sizes z) posts
own_lanes sizes batches z [] all = tt
own_lanes sizes batches z (p ∷ posts) all = (own_lane sizes batches z p all.0, own_lanes sizes batches z posts all.1)

alone : (sizes : Sizes) (batches : List (List Item)) (z : Zone) → CanStep sizes (with_batches batches z) → CanStep sizes z
alone sizes batches z can = record {
  some = can.some;
  few = can.few;
  physical = can.physical;
  begins = can.begins;
  within = record { inbox = can.within.inbox; outboxes = short_behind batches z.ports.outboxes can.within.outboxes; own = can.within.own };
  rule = can.rule;
  lanes = λ new made posts act. own_lanes sizes batches z posts (can.lanes new made posts act);
}

pub view_can_step : (s : Session) (views : List Zone) (lanes : List (List (List Item))) (t : Trace) (n : ℕ) (z : Zone) → IsSession s → Legal s (core_of views lanes t)
    → slice_get views n ≡ Some z → CanStep s.sizes z
view_can_step s views lanes t n z session legal had =
    let batches = batches_of n lanes in
    alone s.sizes batches z (can_step s (core_of views lanes t) n (with_batches batches z) session legal (view_get views lanes n z had))
