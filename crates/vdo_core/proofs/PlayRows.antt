-- The events of a core of one desk, which begins two flushes of one stream: for each clause a list that it accepts with what
-- happens by it, and another trace that it refuses.
use Rattle.std.proofs.Common.{ℕ, ◌≡◌, ◌<◌, ◌+◌, ◌*◌, Bool, Some, List, [], ◌∷◌, ◌++◌, length, refl, sym, ◌∙◌, ap, subst, inl, inr, arith}
use Rattle.std.proofs.lemmas.Option.{same_Some}
use Rattle.blk_base.specs.Sectors.{zero_block}
use Rattle.blk_base.specs.declared.place.ZoneId.TheVariants as id
use Rattle.blk_base.specs.declared.request.Request.TheVariants as request
use Rattle.blk_base.specs.Forms.{writer}
use Rattle.disk_model.specs.Seen.{Seen}
use Rattle.disk_model.specs.Trust.{Trust}
use Rattle.vdo_model.specs.DeskLog.{IsNextLine}
use Rattle.vdo_model.specs.Scripts.{Script, request_at}
use Rattle.vdo_model.specs.declared.report.DeskLine.{DeskLine}
use Rattle.vdo_model.specs.declared.report.DeskLine.TheVariants.{Begin}
use Rattle.core_model.specs.DeskData.{Desk}
use Rattle.core_model.specs.DeskRules.{DeskBegins}
use Rattle.data_vio.specs.declared.items.Asks.TheVariants as asks
use Rattle.data_vio.specs.declared.items.Item.{Item}
use Rattle.data_vio.specs.declared.items.Item.TheVariants.{Request}
use Rattle.data_vio.specs.declared.items.Phase.TheVariants as phase
use Rattle.data_vio.specs.declared.items.Vio.{Vio}
use Rattle.core_model.specs.declared.zones.Zone.{Zone}
use Rattle.core_model.specs.declared.zones.ZoneData.{ZoneData}
use Rattle.core_model.specs.declared.zones.ZoneData.TheVariants as at
use Rattle.core_model.specs.SessionLimits.{requests_in}
use Rattle.core_model.specs.Steps.{Act, ZoneStep, begins, step_limit}
use Rattle.core_model.specs.Trace.{Says, Seals, Trace}
use Rattle.data_vio.specs.Vios.{Post, begun_vio, turned}
use Rattle.core_model.proofs.WorkedTraces.{sizes}
use Rattle.step_parts.specs.DeviceLog.{HasCalled}
use Rattle.step_parts.proofs.SilentLaws.{none_called}
use Rattle.vdo_core.specs.Done.{IsDone}
use Rattle.vdo_core.specs.Plays.{ComesTo, HasNoWork, Plays, PlaysOne, StepsAt, Vdo, vdo}
use Rattle.vdo_core.specs.declared.stepped.Stepped.TheVariants.{Did, Idle}
use Rattle.vdo_core.specs.declared.events.Event.{Event}
use Rattle.vdo_core.specs.declared.events.Event.TheVariants as event

-- the desk with this log, after so many steps
abbrev pub flushes : Script
flushes = (request.Flush ∷ request.Flush ∷ []) ∷ []

abbrev pub desk_with : List DeskLine → Desk
desk_with log = record { requests = flushes; log = log; marks = []; receipts = []; notices = 0; parked = [] }

abbrev pub desk : ℕ → List DeskLine → Zone
desk steps log = record { number = 0; steps = steps; keeps = at.Desk (desk_with log); ports = record { inbox = []; outboxes = [] } }

-- its two requests as they are under way, and their lines
abbrev flush_of : ℕ → Vio
flush_of n = turned phase.Flush (begun_vio sizes (writer 0 n) asks.Flush (record { 0 = 0 }) zero_block)

abbrev pub line_of : ℕ → DeskLine
line_of n = Begin (writer 0 n)

-- the core before, between and behind its two steps
abbrev pub core_0 : List Zone
core_0 = desk 0 [] ∷ []

abbrev pub core_1 : List Zone
core_1 = desk 1 (line_of 0 ∷ []) ∷ []

abbrev pub core_2 : List Zone
core_2 = desk 2 (line_of 1 ∷ line_of 0 ∷ []) ∷ []

-- a step of the desk, which calls no device
desk_zone : (n steps : ℕ) (log : List DeskLine) → steps < step_limit → IsNextLine 2 flushes (line_of n) log → request_at flushes (writer 0 n) ≡ Some request.Flush
    → ZoneStep sizes (desk steps log) (desk (steps + 1) (line_of n ∷ log)) (Says (line_of n) ∷ [])
desk_zone n steps log counts next asked = record {
  front = [];
  rest = [];
  posts = (id.Device, Request (flush_of n)) ∷ [];
  counts = counts;
  taken = refl;
  in_turn = λ none. refl;
  act = begins (DeskBegins.sends (writer 0 n) request.Flush (flush_of n) (record { may = next; lowest = λ other may. omega arith }) asked refl refl refl refl refl);
  lanes = refl;
}

says_alone : (trust : Trust) (seen : Seen) (line : DeskLine) → HasCalled trust seen seen (Says line ∷ [])
says_alone trust seen line = none_called (Says line ∷ []) refl refl refl trust seen

module _ (trust : Trust) (seen : Seen) where
  -- StepsAt: the desk steps, and its line is what happens
  pub first_step : StepsAt trust sizes 0 (vdo core_0 seen) (vdo core_1 seen) (Says (line_of 0) ∷ [])
  first_step = record {
    zone = desk 0 [];
    zone' = desk 1 (line_of 0 ∷ []);
    had = refl;
    step = desk_zone 0 0 [] (omega arith) (refl, refl, omega arith) refl;
    called = says_alone trust seen (line_of 0);
    has = refl;
  }

  pub second_step : StepsAt trust sizes 0 (vdo core_1 seen) (vdo core_2 seen) (Says (line_of 1) ∷ [])
  second_step = record {
    zone = desk 1 (line_of 0 ∷ []);
    zone' = desk 2 (line_of 1 ∷ line_of 0 ∷ []);
    had = refl;
    step = desk_zone 1 1 (line_of 0 ∷ []) (omega arith) (refl, refl, omega arith) refl;
    called = says_alone trust seen (line_of 1);
    has = refl;
  }

-- it is not done with fewer than four lines
pub undone : (steps : ℕ) (log : List DeskLine) → length log < 4 → IsDone (desk steps log ∷ []) → ⊥
undone steps log few done =
    let zone : desk steps log ≡ done.zone = same_Some _ _ done.had in
    let kept : at.Desk (desk_with log) ≡ at.Desk done.desk = ap (λ (z : Zone). z.keeps) zone ∙ done.keeps in
    let own : desk_with log ≡ done.desk = cc in
    let full = done.full in
    absurd (omega (arith, few, full, ap (λ (d : Desk). length d.log) own, ap (λ (d : Desk). 2 * requests_in d.requests) own))

-- the number of the request that the oldest line of a trace begins, or else this one
abbrev pub oldest : ℕ → Trace → ℕ
oldest n [] = n
oldest n (Says (Begin w) ∷ t) = oldest w.number t
oldest n (other ∷ t) = oldest n t

pub oldest_on : (n : ℕ) (later first : Trace) → oldest n (later ++ first) ≡ oldest (oldest n later) first
oldest_on n [] first = refl
oldest_on n (Says (Begin w) ∷ t) first = oldest_on w.number t first
oldest_on n (other ∷ t) first = oldest_on n t first

-- the first step begins the first request, whatever else happens by it
no_front : (front rest : List Item) → [] ≡ front ++ rest → front ≡ []
no_front [] rest is = refl
no_front (item ∷ front) rest is = absurd cc

begins_first : (n : ℕ) (keeps : ZoneData) (made : Trace) (posts : List Post) → Act sizes (at.Desk (desk_with [])) [] keeps made posts → oldest n made ≡ 0
begins_first n keeps made posts (begins (DeskBegins.answers w r v a next asked vio once is made_is posts_is)) = ap (oldest n) made_is ∙ next.may.0
begins_first n keeps made posts (begins (DeskBegins.sends w r v next asked vio once is made_is posts_is)) = ap (oldest n) made_is ∙ next.may.0

pub stepped_first : (trust : Trust) (n : ℕ) (before : Seen) (new : Vdo) (made : Trace)
    → StepsAt trust sizes 0 (vdo core_0 before) new made → oldest n made ≡ 0
stepped_first trust n before new made is =
    let zone : desk 0 [] ≡ is.zone = same_Some _ _ is.had in
    let step = subst (λ (z : Zone). ZoneStep sizes z is.zone' made) (sym zone) is.step in
    let act = subst (λ (front : List Item). Act sizes (at.Desk (desk_with [])) front is.zone'.keeps made step.posts) (no_front step.front step.rest step.taken) step.act in
    begins_first n is.zone'.keeps made step.posts act

-- there is work for it
pub has_work : HasNoWork sizes core_0 (event.Step 0) → ⊥
has_work none = elim (none (desk 0 []) refl) [
  | inl nothing ↦ nothing.none_begins (writer 0 0, (refl, refl, omega arith))
  | inr many ↦ absurd (omega (arith, many))
]

pub has_work_still : HasNoWork sizes core_1 (event.Step 0) → ⊥
has_work_still none = elim (none (desk 1 (line_of 0 ∷ [])) refl) [
  | inl nothing ↦ nothing.none_begins (writer 0 1, (refl, refl, omega arith))
  | inr many ↦ absurd (omega (arith, many))
]

pub played_first : (trust : Trust) (n : ℕ) (before : Seen) (new : Vdo) (made : Trace)
    → PlaysOne trust sizes (event.Step 0) (vdo core_0 before) new made → oldest n made ≡ 0
played_first trust n before new made (inl is) = stepped_first trust n before new made is
played_first trust n before new made (inr (none, same, nothing)) = absurd (has_work none)

module _ (trust : Trust) (seen : Seen) where
  first_step-not_silent : StepsAt trust sizes 0 (vdo core_0 seen) (vdo core_1 seen) [] → ⊥
  first_step-not_silent is = let number = stepped_first trust 1 seen (vdo core_1 seen) [] is in absurd (omega (arith, number))

  -- PlaysOne: by a step its line happens,
  plays_step : PlaysOne trust sizes (event.Step 0) (vdo core_0 seen) (vdo core_1 seen) (Says (line_of 0) ∷ [])
  plays_step = inl (first_step trust seen)

  plays_step-not_silent : PlaysOne trust sizes (event.Step 0) (vdo core_0 seen) (vdo core_1 seen) [] → ⊥
  plays_step-not_silent is = let number = played_first trust 1 seen (vdo core_1 seen) [] is in absurd (omega (arith, number))

  -- and nothing where there is no work
  plays_nothing : PlaysOne trust sizes (event.Step 1) (vdo core_0 seen) (vdo core_0 seen) []
  plays_nothing = inr ((λ zone had. absurd cc), refl, refl)

  plays_nothing-no_more : PlaysOne trust sizes (event.Step 1) (vdo core_0 seen) (vdo core_0 seen) (Seals ∷ []) → ⊥
  plays_nothing-no_more (inl is) = let had = is.had in absurd cc
  plays_nothing-no_more (inr (none, same, nothing)) = absurd cc

  moves_nothing : PlaysOne trust sizes (event.Move 0 0) (vdo core_0 seen) (vdo core_0 seen) []
  moves_nothing = inr ((λ source target apart had_source had_target. absurd (apart refl)), refl, refl)

  moves_nothing-no_more : PlaysOne trust sizes (event.Move 0 0) (vdo core_0 seen) (vdo core_0 seen) (Seals ∷ []) → ⊥
  moves_nothing-no_more (inl (all, silent, nothing)) = absurd cc
  moves_nothing-no_more (inr (none, same, nothing)) = absurd cc

  -- Plays: of no event nothing,
  no_event : Plays trust sizes [] (vdo core_0 seen) (vdo core_0 seen) []
  no_event = (refl, refl)

  no_event-no_more : Plays trust sizes [] (vdo core_0 seen) (vdo core_0 seen) (Seals ∷ []) → ⊥
  no_event-no_more (same, nothing) = absurd cc

  -- of two that of the later one in front
  abbrev steps : List Event
  steps = event.Step 0 ∷ event.Step 0 ∷ []

  two_events : Plays trust sizes steps (vdo core_0 seen) (vdo core_2 seen) (Says (line_of 1) ∷ Says (line_of 0) ∷ [])
  two_events = (
    vdo core_1 seen,
    Says (line_of 0) ∷ [],
    Says (line_of 1) ∷ [],
    inl (first_step trust seen),
    (vdo core_2 seen, Says (line_of 1) ∷ [], [], inl (second_step trust seen), (refl, refl), refl),
    refl,
  )

  two_events-in_no_other_order : Plays trust sizes steps (vdo core_0 seen) (vdo core_2 seen) (Says (line_of 0) ∷ Says (line_of 1) ∷ []) → ⊥
  two_events-in_no_other_order (between, first, later, one, rest, is) =
      let number = played_first trust (oldest 0 later) seen between first one in
      let said : 1 ≡ oldest 0 (later ++ first) = ap (oldest 0) is in
      absurd (omega (arith, number, said, oldest_on 0 later first))

  two_events-none_left_out : Plays trust sizes steps (vdo core_0 seen) (vdo core_2 seen) (Says (line_of 1) ∷ []) → ⊥
  two_events-none_left_out (between, first, later, one, rest, is) =
      let number = played_first trust (oldest 0 later) seen between first one in
      let said : 1 ≡ oldest 0 (later ++ first) = ap (oldest 0) is in
      absurd (omega (arith, number, said, oldest_on 0 later first))

-- What a step comes to: it was done, for which there was work; or it is idle, there was none, and nothing changed. Each part
-- is refused by itself.
pub comes_done : ComesTo (Unit {0}) ⊥ ⊥ Did
comes_done = (tt, λ none. none)

pub comes_idle : ComesTo ⊥ (Unit {0}) (Unit {0}) Idle
comes_idle = (tt, tt)

pub done_without_a_step : ComesTo ⊥ ⊥ (Unit {0}) Did → ⊥
done_without_a_step comes = comes.0

pub done_without_work : ComesTo (Unit {0}) (Unit {0}) (Unit {0}) Did → ⊥
done_without_work comes = comes.1 tt

pub idle_with_work : ComesTo (Unit {0}) ⊥ (Unit {0}) Idle → ⊥
idle_with_work comes = comes.0

pub idle_with_a_change : ComesTo (Unit {0}) (Unit {0}) ⊥ Idle → ⊥
idle_with_a_change comes = comes.1
